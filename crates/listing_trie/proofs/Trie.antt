-- list_trie: the trie is entered, then its bindings are listed, then its namespaces.
use Prim.Native.Nat.{ℕ, zero, suc, ◌+◌, ◌*◌, ◌<◌, ◌≤◌}
use mathlib.Core.Path.{◌≡◌, refl, ap, ◌∙◌}
use mathlib.Core.Bool.{Bool, true, false, true≢false}
use mathlib.Core.List.{List, []}
use mathlib.Core.Logic.{◌⊎◌, inl, inr}
use native.Mathlib.Omega.{arith}
use lib.Dec.{ltb}
use lib.IntN.{ℤ}
use borrow.Author.Tests.{ltb-true, ltb-false}
use lib.ListN.{length, length-drop}
use Rattle.source.specs.Text.{Str, segments, ends_in_dot}
use Rattle.source.specs.Types.{Level, Value, NameList, trie, ns, namespaces}
use Rattle.source.specs.Terms.{depth, depth_names}
use Rattle.source.specs.Listing.{PathOf, NSTNone, matching_values, names_find_rev_first}
use Rattle.source.specs.Calls.{output_text}
use Rattle.source.specs.Forward.{entered}
use Rattle.source.specs.Lists.{nonempty, merge_nonempty, merge_increasing_lists_rev}
use Rattle.source.specs.Forward.{found}
use Rattle.memory.specs.Layout.{Which, Item, list, trieˢ, what}
use Rattle.memory.specs.Read.{ReadTrie}
use Rattle.memory.specs.declared.Trie.{Trie}
use Rattle.memory.proofs.Tries.{lists_seen, bindings_at, namespaces_at, bindings_read, namespaces_read}
use Rattle.listing_ask.specs.Ask.{asked}
use Rattle.listing_output.specs.declared.run.Path.{Path}
use Rattle.listing_line.specs.OnPath.{OnPath}
use Rattle.listing_output.specs.declared.run.Tally.{Tally}
use Rattle.listing_output.specs.declared.run.Limits.{Limits}
use Rattle.listing_output.specs.declared.run.Run.{Run}
use Rattle.listing_output.specs.declared.Want.{Want}
use Rattle.listing_line.specs.Goes.{Result, Past, Shows, Goes}
use Rattle.listing_line.specs.SameRun.{SamePath}
use Rattle.listing_ask.specs.declared.Ask.{Ask}
use Rattle.listing_line.proofs.Run.{path_then, same_tally, counting}
use Rattle.listing_output.proofs.Written.{written_none}
use Rattle.listing_line.proofs.Goes.{goes_none, goes_then, goes_past}
use Rattle.listing_step.specs.Steps.{Matching, Cuts, begun}
use Rattle.listing_trie.specs.Runs.{trie_gives, elements_give, RunReady, ListReady, ListRuns, TrieReady, TrieRuns, ListAsked, ListListed}
use Rattle.listing_trie.specs.Runs.{TrieAsked, TrieListed}
use Rattle.listing_trie.specs.declared.Search.{Search}
use Rattle.listing_step.specs.declared.Cut.{Cut}
use Rattle.listing_trie.proofs.Runs.{list_ready_at, list_runs_at}
use Rattle.listing_trie.proofs.TrieGives.{once, bind_entered, trie_gives_is}
use Rattle.memory.proofs.At.{at_fits}

-- Bindings are not searched while more than one segment is left.
found_none : {A : Type 0} {ℓ : Level} (nl : NameList A ℓ) → found nl NSTNone ≡ []
unfolding found names_find_rev_first matching_values merge_increasing_lists_rev merge_nonempty nonempty
found_none nl = refl

module _ {w : Which} {ws txt : List ℕ} {lim : Limits} where
  -- A trie is entered within the budget.
  goes_once : (a : Tally) (flat out : List ℕ) → a.entered < lim.budget
      → Goes w ws txt lim a (begun a) flat flat out out once
  unfolding output_text
  goes_once a flat out h = record {
    flat_size = refl;
    out_size = refl;
    shows = λ e n b s.
        let el : n + 0 ≡ n = omega arith in
        let eb : b + 0 ≡ b = omega arith in
        rw (el, eb) (record {
          spent = λ k. absurd (within e s (omega arith));
          entered_is = λ k. omega (arith, s.entered_is (omega arith));
          counted = λ k. s.counted (omega arith);
        });
    writes = λ e n b s f. written_none flat out n b (omega (arith, f.lines_fit, f.flat_lent)) (omega (arith, f.bytes_fit, f.out_lent));
  }
    where
      within : (e : ℕ) {n b : ℕ} → Shows lim e n b a → lim.budget ≤ e → ⊥
      within e s k = go (ltb lim.budget e) refl
        where
          go : (z : Bool) → ltb lim.budget e ≡ z → ⊥
          go true q = omega (arith, s.spent (ltb-true lim.budget e q))
          go false q = let i = ltb-false lim.budget e q in omega (arith, s.entered_is i)

  -- A trie is entered past the budget.
  goes_over : (a : Tally) (flat out : List ℕ) (r : Result (Item w)) → lim.budget ≤ a.entered → 1 ≤ r.entered
      → Goes w ws txt lim a (record { entered = lim.budget + 1; lines = a.lines; bytes = a.bytes }) flat flat out out r
  goes_over a flat out r h k = record {
    flat_size = refl;
    out_size = refl;
    shows = λ e l b s.
        let never : e + r.entered ≤ lim.budget → ⊥ = λ z. omega (arith, s.entered_is (omega arith)) in
        record {
          spent = λ z. omega arith;
          entered_is = λ z. absurd (never z);
          counted = λ z. absurd (never z);
        };
    writes = λ e l b s f. absurd (omega (arith, s.entered_is (omega (arith, f.entered_fit)), f.entered_fit));
  }

module _ {ws txt : List ℕ} {ask : Ask} {query : Str} {p : Path} {lim : Limits} {trie_link : ℕ}
    (r : TrieReady ws txt ask query p lim trie_link) where
  pub trie_over : {matched : ℤ} {a : Tally} {flat out : List ℕ} → lim.budget ≤ a.entered
      → TrieRuns ws txt ask query p lim matched a (record { entered = lim.budget + 1; lines = a.lines; bytes = a.bytes }) flat flat out out trie_link
  unfolding entered
  trie_over {matched} {a} {flat} {out} h = record { goes = λ path n on m d. goes_over a flat out _ h (some_entered n d) }
    where
      some_entered : (n : ℕ) → depth (what (asked ask) ws txt trie_link trieˢ) < n
          → 1 ≤ entered n (what (asked ask) ws txt trie_link trieˢ) (segments query)
      some_entered zero d = absurd (omega arith)
      some_entered (suc n) d = omega arith

  pub trie_named : trie_link * 12 ≤ length ws
  trie_named = at_fits r.trie_at

  pub cut_ready : (ends_in_dot query ≡ true) × (length query ≤ 544) × (p.len ≤ 544)
  cut_ready = (r.ready.ends, r.ready.short, omega (arith, r.ready.path_ok.short, r.ready.path_ok.few))

  module _ {tr₂ : Trie} (seen : ReadTrie ws trie_link tr₂) {matched : ℤ} {c : Cut}
      (cut : Cuts query p.len (record { ask = ask; matched = matched }) c) where
    pub bindings_earlier : tr₂.bindings ≤ trie_link
    bindings_earlier = omega (arith, (lists_seen r.trie_at seen).bindings.earlier)

    pub namespaces_earlier : tr₂.namespaces ≤ trie_link
    namespaces_earlier = omega (arith, (lists_seen r.trie_at seen).namespaces.earlier)

    rest_ready : RunReady ws txt ask c.rest.now p lim
    rest_ready =
        record {
          path_ok = r.ready.path_ok;
          ends = cut.ends;
          short = omega (arith, ap length cut.rest_part, length-drop cut.next query, r.ready.short);
          small = r.ready.small;
        }

    pub trie_bindings_ready : ListReady ws txt ask c.rest.now p lim true tr₂.bindings
    trie_bindings_ready = record { ready = rest_ready; list_at = bindings_at r.trie_at seen; room = λ z. absurd (true≢false z) }

    deep : depth (what (asked ask) ws txt trie_link trieˢ)
        ≡ depth_names (what (asked ask) ws txt tr₂.namespaces (list ns))
    unfolding depth namespaces
    deep = go (what (asked ask) ws txt trie_link trieˢ) (namespaces_read r.trie_at seen)
      where
        go : (tr : Value (Item (asked ask)) ns) → what (asked ask) ws txt tr₂.namespaces (list ns) ≡ namespaces tr
            → depth tr ≡ depth_names (what (asked ask) ws txt tr₂.namespaces (list ns))
        go (trie b n) e = rw e

    pub trie_namespaces_ready : ListReady ws txt ask c.rest.now p lim false tr₂.namespaces
    trie_namespaces_ready = record { ready = rest_ready; list_at = namespaces_at r.trie_at seen; room = λ z. omega (arith, r.room, deep) }

    -- Both lists, or where more segments are left only the namespaces.
    module _ {a : Tally} (h : a.entered < lim.budget) where
      pub trie_both : {m e : Tally} {flat flat₁ flat₂ out out₁ out₂ : List ℕ} → length c.rest.now ≡ 0
          → ListRuns ws txt ask c.rest.now p lim c.want.matched (begun a) m flat flat₁ out out₁ true
          tr₂.bindings c.prefix.now
          → ListRuns ws txt ask c.rest.now p lim c.want.matched m e flat₁ flat₂ out₁ out₂ false
          tr₂.namespaces c.prefix.now
          → TrieRuns ws txt ask query p lim matched a e flat flat₂ out out₂ trie_link
      trie_both {m} {e} {flat} {flat₁} {flat₂} {out} {out₁} {out₂} last b n = record { goes = λ path k on mt d. go path k on mt d }
        where
          go : (path : PathOf) (k : ℕ) → OnPath ws txt p path → Matching path (segments query) matched
              → depth (what (asked ask) ws txt trie_link trieˢ) < k
              → Goes (asked ask) ws txt lim a e flat flat₂ out out₂
              (trie_gives ask k (what (asked ask) ws txt trie_link trieˢ) path (segments query))
          go path zero on mt d = absurd (omega arith)
          go path (suc k) on mt d =
              let st = cut.steps path (r.ready.path_ok.len_is ∙ ap length on.text) mt in
              rw (
                trie_gives_is ask k (what (asked ask) ws txt trie_link trieˢ) path (segments query),
                ← bindings_read r.trie_at seen,
                ← namespaces_read r.trie_at seen,
                ← cut.rest,
                cut.last_one last,
              )
              (goes_then (goes_once a flat out h)
              (goes_then
              (b.goes path _ cut.prefix_is k on (rw cut.rest st) cut.asks (λ z. absurd (true≢false z)))
              (n.goes path _ cut.prefix_is k on (rw cut.rest st) cut.asks (λ z. omega (arith, deep)))))

      pub trie_spaces : {e : Tally} {flat flat₂ out out₂ : List ℕ} → 0 < length c.rest.now
          → ListRuns ws txt ask c.rest.now p lim c.want.matched (begun a) e flat flat₂ out out₂ false
          tr₂.namespaces c.prefix.now
          → TrieRuns ws txt ask query p lim matched a e flat flat₂ out out₂ trie_link
      unfolding elements_give
      trie_spaces {e} {flat} {flat₂} {out} {out₂} more n = record { goes = λ path k on mt d. go path k on mt d }
        where
          go : (path : PathOf) (k : ℕ) → OnPath ws txt p path → Matching path (segments query) matched
              → depth (what (asked ask) ws txt trie_link trieˢ) < k
              → Goes (asked ask) ws txt lim a e flat flat₂ out out₂
              (trie_gives ask k (what (asked ask) ws txt trie_link trieˢ) path (segments query))
          go path zero on mt d = absurd (omega arith)
          go path (suc k) on mt d =
              let st = cut.steps path (r.ready.path_ok.len_is ∙ ap length on.text) mt in
              rw (
                trie_gives_is ask k (what (asked ask) ws txt trie_link trieˢ) path (segments query),
                ← bindings_read r.trie_at seen,
                ← namespaces_read r.trie_at seen,
                ← cut.rest,
                cut.more more,
                found_none,
              )
              (goes_then (goes_once a flat out h)
              (goes_then (goes_none (begun a) flat out)
              (n.goes path _ cut.prefix_is k on (rw cut.rest st) cut.asks (λ z. omega (arith, deep)))))

      -- Where lines or bytes are past the limits the bindings need no counting.
      pub trie_past : {e : Tally} {flat flat₂ out out₂ : List ℕ} → Past lim a.lines a.bytes
          → ListRuns ws txt ask c.rest.now p lim c.want.matched (begun a) e flat flat₂ out out₂ false
          tr₂.namespaces c.prefix.now
          → TrieRuns ws txt ask query p lim matched a e flat flat₂ out out₂ trie_link
      trie_past {e} {flat} {flat₂} {out} {out₂} past n = record { goes = λ path k on mt d. go path k on mt d }
        where
          go : (path : PathOf) (k : ℕ) → OnPath ws txt p path → Matching path (segments query) matched
              → depth (what (asked ask) ws txt trie_link trieˢ) < k
              → Goes (asked ask) ws txt lim a e flat flat₂ out out₂
              (trie_gives ask k (what (asked ask) ws txt trie_link trieˢ) path (segments query))
          go path zero on mt d = absurd (omega arith)
          go path (suc k) on mt d =
              let st = cut.steps path (r.ready.path_ok.len_is ∙ ap length on.text) mt in
              rw (
                trie_gives_is ask k (what (asked ask) ws txt trie_link trieˢ) path (segments query),
                ← bindings_read r.trie_at seen,
                ← namespaces_read r.trie_at seen,
                ← cut.rest,
              )
              (goes_then (goes_once a flat out h)
              (goes_then (goes_past flat out _ (bind_entered ask k path _ _) past)
              (n.goes path _ cut.prefix_is k on (rw cut.rest st) cut.asks (λ z. omega (arith, deep)))))

-- ---- The lent run

module _ {ws txt : List ℕ} {query : Str} {want : Want} {run : Run} {x : ℕ}
    (r : TrieAsked ws txt query want run x) where
  pub trie_spent : {flat out : List ℕ} → run.limits.budget ≤ run.tally.entered
      → TrieListed ws txt query want run (counting run (record { entered = run.limits.budget + 1; lines = run.tally.lines; bytes = run.tally.bytes }))
      flat flat out out x (run.limits.budget + 1)
  trie_spent h = record {
    count = refl;
    same = same_tally run _;
    runs = trie_over r.can h;
  }

  module _ {tr : Trie} (seen : ReadTrie ws x tr) {c : Cut} (cut : Cuts query run.path.len want c)
      (h : run.tally.entered < run.limits.budget) where
    abbrev pub down : Bool → Search
    down leaf = record { cut = c; leaf = leaf }

    abbrev pub run₁ : Run
    run₁ = counting run (begun run.tally)

    same₁ : SamePath run run₁
    same₁ = same_tally run _

    pub bindings_asked : ListAsked ws txt (down true) run₁ tr.bindings
    bindings_asked = record { told = cut.told r.told; can = list_ready_at same₁ (rw cut.ask_same (trie_bindings_ready r.can seen cut)) }

    pub namespaces_asked : {run₂ : Run} → SamePath run₁ run₂
        → ListAsked ws txt (down false) run₂ tr.namespaces
    namespaces_asked s = record {
      told = cut.told r.told;
      can = list_ready_at (path_then same₁ s) (rw cut.ask_same (trie_namespaces_ready r.can seen cut));
    }

    module _ {run₂ : Run} {flat flat₁ out out₁ : List ℕ} where
      pub trie_few : (0 < length c.rest.now) ⊎ Past run.limits run.tally.lines run.tally.bytes
          → ListListed ws txt (down false) run₁ run₂ flat flat₁ out out₁ tr.namespaces
          → TrieListed ws txt query want run run₂ flat flat₁ out out₁ x run₂.tally.entered
      trie_few skip n =
          record {
            count = refl;
            same = path_then same₁ n.same;
            runs = go skip (rw cut.ask_same at (list_runs_at same₁ n.runs));
          }
        where
          go : (0 < length c.rest.now) ⊎ Past run.limits run.tally.lines run.tally.bytes
              → ListRuns ws txt want.ask c.rest.now run.path run.limits c.want.matched
              (begun run.tally) run₂.tally flat flat₁ out out₁ false tr.namespaces c.prefix.now
              → TrieRuns ws txt want.ask query run.path run.limits want.matched run.tally
              run₂.tally flat flat₁ out out₁ x
          go (inl more) m = trie_spaces r.can seen cut h more m
          go (inr past) m = trie_past r.can seen cut h past m

      pub trie_all : {run₃ : Run} {flat₂ out₂ : List ℕ} → length c.rest.now ≡ 0
          → ListListed ws txt (down true) run₁ run₂ flat flat₁ out out₁ tr.bindings
          → ListListed ws txt (down false) run₂ run₃ flat₁ flat₂ out₁ out₂ tr.namespaces
          → TrieListed ws txt query want run run₃ flat flat₂ out out₂ x run₃.tally.entered
      trie_all last b n = record {
        count = refl;
        same = path_then same₁ (path_then b.same n.same);
        runs = trie_both r.can seen cut h last (rw cut.ask_same at (list_runs_at same₁ b.runs))
            (rw cut.ask_same at (list_runs_at (path_then same₁ b.same) n.runs));
      }
