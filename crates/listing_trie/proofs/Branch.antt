-- list_branch and list_below: a line, or the listing of the trie below.
use Prim.Native.Nat.{ℕ, ◌*◌, ◌<◌, ◌≤◌}
use mathlib.Core.Path.{◌≡◌, refl, sym, ap, ◌∙◌}
use mathlib.Core.Bool.{Bool, true, false, true≢false}
use mathlib.Core.List.{List, ◌∷◌}
use mathlib.Core.Option.{Option}
use native.Mathlib.Omega.{arith}
use lib.IntN.{ℤ}
use lib.ListN.{length}
use Rattle.source.specs.Text.{Str}
use Rattle.source.specs.Types.{Level, Value, bind, ns}
use Rattle.source.specs.Trees.{PathElem}
use Rattle.source.specs.Terms.{depth}
use Rattle.memory.specs.Layout.{record_at, trie_link, Which, Item, tree, trieˢ, kind, what}
use Rattle.memory.specs.Sound.{LinkOk, At}
use Rattle.memory.proofs.RecordOk.{record_as}
use Rattle.memory.proofs.Seen.{link_ok}
use Rattle.find_tree.specs.Tree.{held}
use Rattle.find_tree.specs.Links.{row_at}
use Rattle.find_list.specs.Entries.{shown, outer}
use Rattle.listing_ask.specs.Ask.{asked}
use Rattle.listing_output.specs.Path.{BranchAt}
use Rattle.listing_output.specs.declared.run.Path.{Path}
use Rattle.listing_line.specs.OnPath.{LabelAt}
use Rattle.listing_output.specs.declared.run.Tally.{Tally}
use Rattle.listing_output.specs.declared.run.Limits.{Limits}
use Rattle.listing_output.specs.declared.run.Run.{Run}
use Rattle.listing_output.specs.declared.Want.{Want}
use Rattle.listing_line.specs.SameRun.{SamePath}
use Rattle.listing_line.specs.Lines.{CanList, Listed}
use Rattle.listing_ask.specs.declared.Ask.{Ask}
use Rattle.listing_annotation.specs.declared.Labelled.{Labelled}
use Rattle.listing_step.specs.Steps.{PathDown, before_of, left}
use Rattle.listing_step.specs.declared.Before.{Before}
use Rattle.listing_trie.specs.Runs.{level_of, BranchReady, BranchRuns, TrieReady, TrieRuns, BranchAsked, BranchListed, TrieAsked, TrieListed}
use Rattle.listing_step.proofs.PathDown.{path_branch_fits, path_down, on_path_down}
use Rattle.memory.proofs.At.{at_of}

-- The trie that a branch of namespaces holds.
module _ {ws txt : List ℕ} {w : Which} {branch : ℕ} (b : BranchAt ws txt w ns branch) where
  child_link : LinkOk ws branch (trie_link (record_at ws branch)) (kind w trieˢ)
  child_link = (record_as (link_ok b.at.sound b.at.link b.some) w (tree ns) (b.at.link.of_kind (λ z. omega (arith, b.some)))).2

  pub child_earlier : trie_link (record_at ws branch) < branch
  child_earlier = child_link.earlier

  pub child_trie : At ws txt w trieˢ (trie_link (record_at ws branch))
  child_trie = at_of b.at trieˢ (omega arith) child_link

  pub child_reads : held w ws txt ns branch ≡ what w ws txt (trie_link (record_at ws branch)) trieˢ
  unfolding held
  child_reads = refl

-- What an element has that an entry shows.
module _ (ws txt : List ℕ) (w : Which) (ℓ : Level) (o : Option Str) (branch label : ℕ) (x : PathElem × Value (Item w) ℓ)
    (e : outer x ≡ shown w ws txt ℓ o (record { branch = branch; label = label })) where
  pub shown_value : x.1 ≡ held w ws txt ℓ branch
  unfolding outer shown row_at
  shown_value = ap (λ y. y.1.1) e

  pub shown_prefix : x.0.segment.prefix ≡ o
  unfolding outer shown row_at
  shown_prefix = ap (λ y. y.1.0.prefix) e

-- The line of a branch of bindings.
pub leaf_runs : {ws txt : List ℕ} {rest : Str} {want : Want} {leaf : Bool} {f : Labelled}
    {run run' : Run} {flat flat' out out' : List ℕ} → leaf ≡ true
    → Listed ws txt want f run run' flat flat' out out'
    → BranchListed ws txt rest want leaf run run' flat flat' out out' f run'.tally.entered
leaf_runs {ws} {txt} {rest} {want} {leaf} {f} {run} {run'} {flat} {flat'} {out} {out'} e l = record { count = refl; same = l.same; runs = go leaf e }
  where
    go : (z : Bool) → z ≡ true
        → BranchRuns ws txt want.ask rest run.path run.limits want.matched run.tally
        run'.tally flat flat' out out' z f.link f.label
    go false e = absurd (true≢false (sym e))
    go true e = record {
      goes = λ path x o n on st sh dp.
          l.goes path x o on sh (st x.0 (shown_prefix ws txt (asked want.ask) bind o f.link f.label x sh)).length_is;
    }

module _ {ws txt : List ℕ} {ask : Ask} {rest : Str} {p : Path} {lim : Limits} where
  module _ {leaf : Bool} {branch label : ℕ} (r : BranchReady ws txt ask rest p lim leaf branch label) where
    pub leaf_at : leaf ≡ true → BranchAt ws txt (asked ask) bind branch × LabelAt ws txt (asked ask) bind label
    leaf_at e = go leaf e r.branch_at r.label_at
      where
        go : (z : Bool) → z ≡ true → BranchAt ws txt (asked ask) (level_of z) branch
            → LabelAt ws txt (asked ask) (level_of z) label
            → BranchAt ws txt (asked ask) bind branch × LabelAt ws txt (asked ask) bind label
        go true e b l = (b, l)
        go false e b l = absurd (true≢false (sym e))

    pub branch_named : (0 < branch) × (branch * 12 ≤ length ws)
    branch_named = path_branch_fits r.branch_at

    module _ (e : leaf ≡ false) where
      pub space_at : BranchAt ws txt (asked ask) ns branch × LabelAt ws txt (asked ask) ns label
      space_at = go leaf e r.branch_at r.label_at
        where
          go : (z : Bool) → z ≡ false → BranchAt ws txt (asked ask) (level_of z) branch
              → LabelAt ws txt (asked ask) (level_of z) label
              → BranchAt ws txt (asked ask) ns branch × LabelAt ws txt (asked ask) ns label
          go false e b l = (b, l)
          go true e b l = absurd (true≢false e)

      pub below_ready : (p.n < 16) × (p.len ≤ 544)
      below_ready = let ok = r.ready.path_ok in (omega (arith, r.room e), omega (arith, ok.short, ok.few))

      module _ {longer : Path} {child : ℕ} (d : PathDown ws p branch label longer)
          (c : child ≡ trie_link (record_at ws branch)) where
        pub child_ready : TrieReady ws txt ask rest longer lim child
        child_ready = record {
          ready = record {
            path_ok = path_down r.ready.path_ok below_ready.0 space_at.0 d space_at.1;
            ends = r.ready.ends;
            short = r.ready.short;
            small = r.ready.small;
          };
          trie_at = rw c (child_trie space_at.0);
          room = rw c (omega (arith, r.room e, d.count, ap depth (child_reads space_at.0)));
        }

        pub space_runs : {matched : ℤ} {a τ : Tally} {flat flat' out out' : List ℕ}
            → TrieRuns ws txt ask rest longer lim matched a τ flat flat' out out' child
            → BranchRuns ws txt ask rest p lim matched a τ flat flat' out out' leaf branch label
        space_runs {matched} {a} {τ} {flat} {flat'} {out} {out'} runs = go leaf e
          where
            go : (z : Bool) → z ≡ false
                → BranchRuns ws txt ask rest p lim matched a τ flat flat' out out' z branch label
            go true e = absurd (true≢false e)
            go false e = record {
              goes = λ path x o n on st sh dp.
                  let v : x.1 ≡ what (asked ask) ws txt child trieˢ =
                  shown_value ws txt (asked ask) ns o branch label x sh ∙ child_reads space_at.0 ∙ rw (← c) in
                  rw v (runs.goes (x.0 ∷ path) n (on_path_down r.ready.path_ok below_ready.0 space_at.0 d path x o on sh)
                  (st x.0 (shown_prefix ws txt (asked ask) ns o branch label x sh)) (rw v at (dp refl)));
            }

-- A line can be listed.
pub line_ready : {ws txt : List ℕ} {rest : Str} {want : Want} {leaf : Bool} {f : Labelled} {run : Run}
    → BranchAsked ws txt rest want leaf run f
    → leaf ≡ true → CanList ws txt want f run
line_ready r e = record {
  path_ok = r.can.ready.path_ok;
  branch_at = (leaf_at r.can e).0;
  label_at = (leaf_at r.can e).1;
  small = r.can.ready.small;
  told = r.told;
}

-- A namespace is entered, listed and left.
module _ {ws txt : List ℕ} {rest : Str} {want : Want} {f : Labelled} {run : Run} {p : Path} {child : ℕ}
    (r : BranchAsked ws txt rest want false run f) (d : PathDown ws run.path f.link f.label p)
    (c : child ≡ trie_link (record_at ws f.link)) where
  -- The run along another path.
  abbrev pub along : Run → Path → Run
  along run p = record { path = p; tally = run.tally; limits = run.limits }

  pub namespace_ready : TrieAsked ws txt rest want (along run p) child
  namespace_ready = record { can = child_ready r.can refl d c; told = r.told }

  module _ {run₂ : Run} {flat flat' out out' : List ℕ} {e : ℕ}
      (t : TrieListed ws txt rest want (along run p) run₂ flat flat' out out' child e) where
    path_back : SamePath run (along run₂ (left run₂.path (before_of run.path)))
    path_back = record {
      links = λ j h. t.same.links j (omega (arith, d.count)) ∙ d.before j h;
      count = refl;
      len_is = refl;
      label_is = refl;
      limits_same = t.same.limits_same;
    }

    pub namespace_runs : {b : Before} {p' : Path} → b ≡ before_of run.path → p' ≡ left run₂.path b
        → BranchListed ws txt rest want false run (along run₂ p') flat flat' out out' f e
    namespace_runs h k = rw (k, h) (record { count = t.count; same = path_back; runs = space_runs r.can refl d c t.runs })
