-- The loops over a tree's branches and over a merge, and which of them serves a list.
use Prim.Native.Nat.{ℕ, ◌+◌, ◌<◌, ◌≤◌}
use mathlib.Core.Path.{◌≡◌, refl, sym, ap, ◌∙◌, subst}
use mathlib.Core.Bool.{Bool, true, false, true≢false}
use mathlib.Core.List.{List, [], ◌∷◌, map, nil≢cons}
use mathlib.Core.Option.{Option, some}
use Rattle.std.specs.Prelude as Prelude
use Rattle.std.specs.Prelude.{Some, None, slice_get}
use Rattle.std.proofs.lemmas.Option.{none-some, same_Some}
use native.Mathlib.Omega.{arith}
use lib.IntN.{ℤ}
use lib.ListN.{length}
use Rattle.source.specs.Text.{Str, starts_with}
use Rattle.source.specs.Types.{Level, Value, NameList, ns, []ᴺ}
use Rattle.source.specs.Trees.{PathElem}
use Rattle.source.specs.Terms.{depth, depth_names}
use Rattle.source.specs.Listing.{SearchTerm, NSTAll, NSTNone, NSTPrefix, revmap_onto, names_revmap, matching_values, names_find_rev_first}
use Rattle.source.specs.Lists.{nonempty, merge_nonempty, merge_increasing_lists_rev}
use Rattle.source.specs.Shared.{Allˡ}
use Rattle.source.proofs.Lookup.{Allˡ-map}
use Rattle.source.proofs.Rows.{names_find_first_depth}
use Rattle.source.proofs.Lookup.{Allˡ-reverse}
use Rattle.source.specs.Forward.{found}
use Rattle.memory.specs.Layout.{Which, Item, tree, list, what, key_at}
use Rattle.memory.specs.Sound.{Used, At}
use Rattle.find_tree.specs.Tree.{held, AnyTree}
use Rattle.find_tree.specs.Links.{matches, row_at}
use Rattle.find_tree.proofs.Branches.{any_tree}
use Rattle.find_tree.proofs.After.{all_after, after_first, after_next}
use Rattle.find_tree.proofs.Matches.{MatchOf, matches_of, matches_increasing}
use Rattle.match_walk.specs.Matched.{Noted, Matched}
use Rattle.match_marks.specs.declared.Notes.{Notes}
use Rattle.find_list.specs.Names.{AnyList}
use Rattle.find_list.specs.Entries.{Entry, shown, outer, Asks, by_prefix}
use Rattle.find_list.specs.Entries.{LabelOk}
use Rattle.merge.specs.Stream as M
use Rattle.merge.specs.Stream.{State, later, left_in, AnyRest, Starts, Gives, OneTree}
use Rattle.merge.specs.declared.Given.{Given}
use Rattle.merge.proofs.Rest.{rest_any, gives_end, gives_more}
use Rattle.listing_output.specs.declared.run.Tally.{Tally}
use Rattle.listing_output.specs.declared.run.Limits.{Limits}
use Rattle.listing_output.specs.declared.run.Run.{Run}
use Rattle.listing_ask.specs.Ask.{asked}
use Rattle.listing_output.specs.Path.{BranchAt}
use Rattle.listing_output.specs.declared.run.Path.{Path}
use Rattle.listing_line.specs.OnPath.{LabelAt}
use Rattle.listing_line.specs.SameRun.{SamePath}
use Rattle.listing_ask.specs.declared.Ask.{Ask}
use Rattle.listing_annotation.specs.declared.Labelled.{Labelled}
use Rattle.listing_line.proofs.Run.{same_run, path_then}
use Rattle.listing_trie.specs.Runs.{HasRoom, level_of, elements_give, tree_entries, BranchReady, BranchRuns, TreeReady, EntriesRun, ListReady, ListRuns}
use Rattle.listing_trie.specs.Runs.{BranchAsked, BranchListed, TreeAsked, TreeListed, ListAsked, ListListed}
use Rattle.listing_trie.specs.declared.Search.{Search}
use Rattle.listing_trie.proofs.Runs.{branch_ready_at, branch_runs_at}
use Rattle.listing_trie.proofs.EntriesRun.{Left, left_all, left_none, left_spent, left_next}
use Rattle.memory.proofs.At.{no_link, at_of, at_in}
use Rattle.memory.proofs.What.{what_none}
use Rattle.listing_line.proofs.Goes.{goes_none}

-- What is found in a list of namespaces is less deep than the list.
found_deep : {A : Type 0} {ℓ : Level} (nl : NameList A ℓ) (term : SearchTerm)
    → Allˡ (λ x. depth x.1 < depth_names nl) (found nl term)
unfolding found
found_deep nl term = Allˡ-reverse _ (names_find_rev_first nl term) [] (names_find_first_depth nl term) tt

-- No label.
pub no_label : {ws txt : List ℕ} {w : Which} {ℓ : Level} {n used : ℕ} → Used ws txt n used → LabelAt ws txt w ℓ 0
no_label {w = w} {ℓ} o = record { at = at_in o w (list ℓ) (no_link _ _); imports = λ h. absurd (omega arith) }

-- A label no later than a list.
label_here : {ws txt : List ℕ} {w : Which} {ℓ : Level} {x label : ℕ} → At ws txt w (list ℓ) x → LabelOk ws w ℓ x label
    → LabelAt ws txt w ℓ label
label_here {ℓ = ℓ} t o = record { at = at_of t (list ℓ) (omega arith) o.link; imports = o.imports }

-- ---- A tree's branches

-- The branch at hand and those after it.
abbrev pub onward : (ws txt : List ℕ) (prefix : Str) (root : ℕ) → Prelude.Option ℕ → List ℕ
onward ws txt prefix root None = []
onward ws txt prefix root (Some at) = at ∷ later ws txt prefix root at

abbrev labelled : ℕ → List ℕ → List Entry
labelled label xs = map (λ b. record { branch = b; label = label }) xs

module _ {ws txt : List ℕ} {w : Which} {ℓ : Level} {root : ℕ} (t : At ws txt w (tree ℓ) root) (prefix : Str) where
  -- The branch stands among the matches.
  pub record Standing (next : Prelude.Option ℕ) : Type 0 where
    pub matching : (at : ℕ) → next ≡ Some at → MatchOf ws txt w ℓ root prefix at

  -- The first of a list of matches, where each is followed by those after its key.
  onward_of : (xs : List ℕ) → Allˡ (MatchOf ws txt w ℓ root prefix) xs
      → ((y : ℕ) (ys : List ℕ) → xs ≡ y ∷ ys → ys ≡ later ws txt prefix root y) → {next : Prelude.Option ℕ}
      → next ≡ slice_get xs 0
      → (onward ws txt prefix root next ≡ xs) × Standing next
  onward_of [] a f e = rw e (refl, record { matching = λ at h. absurd (none-some at h) })
  onward_of (y ∷ ys) a f e = rw e (ap (◌∷◌ y) (sym (f y ys refl)), record { matching = λ at h. rw (← same_Some y at h) a.0 })

  first_onward : {next : Prelude.Option ℕ} → next ≡ slice_get (matches ws txt root prefix) 0
      → (onward ws txt prefix root next ≡ matches ws txt root prefix) × Standing next
  first_onward = onward_of (matches ws txt root prefix) (matches_of t prefix)
      (λ y ys q. rw q (sym (after_first (key_at ws txt) y ys (rw q at (matches_increasing t prefix)))))

  next_onward : (at : ℕ) {next : Prelude.Option ℕ} → next ≡ slice_get (later ws txt prefix root at) 0
      → (onward ws txt prefix root next ≡ later ws txt prefix root at) × Standing next
  next_onward at = onward_of (later ws txt prefix root at)
      (all_after (key_at ws txt) (MatchOf ws txt w ℓ root prefix) (key_at ws txt at) (matches ws txt root prefix) (matches_of t prefix))
      (λ y ys q. after_next (key_at ws txt) (key_at ws txt at) (matches ws txt root prefix) (matches_increasing t prefix) y ys q)

module _ (ws txt : List ℕ) (ask : Ask) (rest : Str) (p : Path) (lim : Limits) (matched : ℤ) (leaf : Bool)
    (root label : ℕ) (prefix : Str) where
  -- The run over a tree has come to the branch at hand.
  pub record Along (a τ : Tally) (flat flat' out out' : List ℕ) (next : Prelude.Option ℕ) : Type 0 where
    pub tree_at : At ws txt (asked ask) (tree (level_of leaf)) root
    pub left : Left ws txt ask rest p lim matched leaf a τ flat flat' out out' (tree_entries ws txt root label prefix)
        (labelled label (onward ws txt prefix root next))
    pub standing : Standing tree_at prefix next

module _ {ws txt : List ℕ} {ask : Ask} {rest : Str} {p : Path} {lim : Limits} {matched : ℤ} {leaf : Bool}
    {root label : ℕ} {prefix : Str} where
  pub along_first : {a : Tally} {flat out : List ℕ} {next : Prelude.Option ℕ}
      → TreeReady ws txt ask rest p lim leaf root label prefix
      → next ≡ slice_get (matches ws txt root prefix) 0
      → Along ws txt ask rest p lim matched leaf root label prefix a a flat flat out out next
  unfolding tree_entries
  along_first r e =
      let f = first_onward r.tree_at prefix e in
      record {
        tree_at = r.tree_at;
        left = rw f.0 (left_all ws txt ask rest p lim matched leaf r.room);
        standing = f.1;
      }

  pub along_done : {a τ : Tally} {flat flat' out out' : List ℕ}
      → Along ws txt ask rest p lim matched leaf root label prefix a τ flat flat' out out' None
      → EntriesRun ws txt ask rest p lim matched a τ flat flat' out out' leaf (tree_entries ws txt root label prefix)
  along_done g = left_none ws txt ask rest p lim matched leaf g.left

  module _ {a τ : Tally} {flat flat' out out' : List ℕ} {at : ℕ}
      (g : Along ws txt ask rest p lim matched leaf root label prefix a τ flat flat' out out' (Some at)) where
    here : MatchOf ws txt (asked ask) (level_of leaf) root prefix at
    here = g.standing.matching at refl

    pub along_earlier : at ≤ root
    along_earlier = omega (arith, here.branch.link.earlier)

    branch_here : BranchAt ws txt (asked ask) (level_of leaf) at
    branch_here = record { some = here.branch.some; at = at_of g.tree_at (tree (level_of leaf)) (omega arith) here.branch.link }

    pub along_branch : TreeReady ws txt ask rest p lim leaf root label prefix
        → BranchReady ws txt ask rest p lim leaf at label
    along_branch r = record { ready = r.ready; branch_at = branch_here; label_at = r.label_at; room = λ z. (g.left.room z).0 }

    pub along_tree : (0 < at) × AnyTree ws txt at
    along_tree = (here.branch.some, any_tree branch_here.at)

    pub along_begins : starts_with (key_at ws txt at) prefix ≡ true
    along_begins = here.begins

    module _ {τ' : Tally} {flat'' out'' : List ℕ}
        (b : BranchRuns ws txt ask rest p lim matched τ τ' flat' flat'' out' out'' leaf at label)
        (lf : length flat'' ≡ length flat') (lo : length out'' ≡ length out') where
      pub along_spent : lim.budget < τ'.entered
          → EntriesRun ws txt ask rest p lim matched a τ' flat flat'' out out'' leaf
          (tree_entries ws txt root label prefix)
      along_spent s = left_spent ws txt ask rest p lim matched leaf (left_next ws txt ask rest p lim matched leaf g.left b lf lo) s

      module _ {next : Prelude.Option ℕ} (e : next ≡ slice_get (later ws txt prefix root at) 0) where
        pub along_next : Along ws txt ask rest p lim matched leaf root label prefix a τ' flat flat'' out out'' next
        along_next =
            let f = next_onward g.tree_at prefix at e in
            record {
              tree_at = g.tree_at;
              left = rw f.0 (left_next ws txt ask rest p lim matched leaf g.left b lf lo);
              standing = f.1;
            }

        pub along_less : length (onward ws txt prefix root next) < length (onward ws txt prefix root (Some at))
        along_less = omega (arith, ap length (next_onward g.tree_at prefix at e).0)

-- The run, with notes of the branches after the one at hand.
module _ (ws txt : List ℕ) (place : Search) (f : Labelled) (run run' : Run) (flat flat' out out' : List ℕ)
    (notes : Notes) (next : Prelude.Option ℕ) where
  pub record Stepping : Type 0 where
    pub same : SamePath run run'
    pub along : Along ws txt place.cut.want.ask place.cut.rest.now run.path run.limits
        place.cut.want.matched
        place.leaf
        f.link f.label place.cut.prefix.now run.tally run'.tally flat flat' out out' next
    pub noted : (at : ℕ) → next ≡ Some at
        → Noted ws txt place.cut.prefix.now notes at (later ws txt place.cut.prefix.now f.link at)

noted_after : (ws txt : List ℕ) (prefix : Str) (root : ℕ) {notes : Notes} {xs : List ℕ} {next : Prelude.Option ℕ}
    → Matched ws txt prefix notes xs next → onward ws txt prefix root next ≡ xs → (at : ℕ) → next ≡ Some at
    → Noted ws txt prefix notes at (later ws txt prefix root at)
noted_after ws txt prefix root w e at h = w.noted at (later ws txt prefix root at) (sym e ∙ rw h refl)

module _ {ws txt : List ℕ} {place : Search} {f : Labelled} {run : Run} where
  pub stepping_first : {flat out : List ℕ} {notes : Notes} {next : Prelude.Option ℕ}
      → TreeAsked ws txt place run f
      → Matched ws txt place.cut.prefix.now notes (matches ws txt f.link place.cut.prefix.now) next
      → Stepping ws txt place f run run flat flat out out notes next
  stepping_first r w = record {
    same = same_run run;
    along = along_first r.can w.head;
    noted = noted_after ws txt place.cut.prefix.now f.link w (first_onward r.can.tree_at place.cut.prefix.now w.head).0;
  }

  pub stepping_done : {run' : Run} {flat flat' out out' : List ℕ} {notes : Notes}
      → Stepping ws txt place f run run' flat flat' out out' notes None
      → TreeListed ws txt place run run' flat flat' out out' f
  stepping_done g = record { same = g.same; runs = along_done g.along }

  module _ {run' : Run} {flat flat' out out' : List ℕ} {notes : Notes} {at : ℕ}
      (g : Stepping ws txt place f run run' flat flat' out out' notes (Some at)) where
    abbrev pub at_hand : Labelled
    at_hand = record { link = at; label = f.label }

    pub stepping_branch : TreeAsked ws txt place run f
        → BranchAsked ws txt place.cut.rest.now place.cut.want place.leaf run' at_hand
    stepping_branch r = record { can = branch_ready_at g.same (along_branch g.along r.can); told = r.told }

    pub stepping_noted : Noted ws txt place.cut.prefix.now notes at
        (later ws txt place.cut.prefix.now f.link at)
    stepping_noted = g.noted at refl

    module _ {run'' : Run} {flat'' out'' : List ℕ} {e : ℕ}
        (b : BranchListed ws txt place.cut.rest.now place.cut.want
        place.leaf run' run'' flat' flat'' out' out'' at_hand e)
        (lf : length flat'' ≡ length flat') (lo : length out'' ≡ length out') where
      pub stepping_spent : run.limits.budget < e
          → TreeListed ws txt place run run'' flat flat'' out out'' f
      stepping_spent k = record {
        same = path_then g.same b.same;
        runs = along_spent g.along (branch_runs_at g.same b.runs) lf lo (omega (arith, b.count));
      }

      module _ {notes' : Notes} {next : Prelude.Option ℕ}
          (w : Matched ws txt place.cut.prefix.now notes'
          (later ws txt place.cut.prefix.now f.link at) next) where
        pub stepping_next : Stepping ws txt place f run run'' flat flat'' out out'' notes' next
        stepping_next = record {
          same = path_then g.same b.same;
          along = along_next g.along (branch_runs_at g.same b.runs) lf lo w.head;
          noted = noted_after ws txt place.cut.prefix.now f.link w (next_onward g.along.tree_at place.cut.prefix.now at w.head).0;
        }

        pub stepping_less : length (onward ws txt place.cut.prefix.now f.link next)
            < length (onward ws txt place.cut.prefix.now f.link (Some at))
        stepping_less = along_less g.along (branch_runs_at g.same b.runs) lf lo w.head

-- ---- A list

-- Entries that show what is found in a list leave room, where the list does.
all_shown : (ws txt : List ℕ) (w : Which) (ℓ : Level) (o : Option Str) (P : Value (Item w) ℓ → Type 0)
    (xs : List (PathElem × Value (Item w) ℓ)) (es : List Entry)
    → map outer xs ≡ map (shown w ws txt ℓ o) es → Allˡ (λ x. P x.1) xs
    → Allˡ (λ e. P (held w ws txt ℓ e.branch)) es
unfolding outer shown row_at
all_shown ws txt w ℓ o P [] [] q a = tt
all_shown ws txt w ℓ o P [] (e ∷ es) q a = absurd (nil≢cons q)
all_shown ws txt w ℓ o P (x ∷ xs) [] q a = absurd (nil≢cons (sym q))
all_shown ws txt w ℓ o P (x ∷ xs) (e ∷ es) q a =
    let h : outer x ≡ shown w ws txt ℓ o e = cc in
    let q' : map outer xs ≡ map (shown w ws txt ℓ o) es = cc in
    (subst P (ap (λ y. y.1.1) h) a.0, all_shown ws txt w ℓ o P xs es q' a.1)

module _ {ws txt : List ℕ} {ask : Ask} {rest : Str} {p : Path} {lim : Limits} {leaf : Bool} {x : ℕ}
    (r : ListReady ws txt ask rest p lim leaf x) where
  pub list_any : AnyList ws txt x
  list_any = record { which = asked ask; level = level_of leaf; list = r.list_at }

  pub list_room : (prefix : Str) (es : List Entry)
      → ((term : SearchTerm) (o : Option Str) → Asks term prefix o
      → map outer (found (what (asked ask) ws txt x (list (level_of leaf))) term)
      ≡ map (shown (asked ask) ws txt (level_of leaf) o) es)
      → leaf ≡ false → Allˡ (HasRoom ws txt ask p) es
  list_room prefix es says e = go leaf e (says (NSTPrefix prefix) (some prefix) by_prefix)
    where
      go : (z : Bool) → z ≡ false → map outer (found (what (asked ask) ws txt x (list (level_of z))) (NSTPrefix prefix))
          ≡ map (shown (asked ask) ws txt (level_of z) (some prefix)) es
          → Allˡ (HasRoom ws txt ask p) es
      go true z q = absurd (true≢false z)
      go false z q =
          let n : NameList (Item (asked ask)) ns = what (asked ask) ws txt x (list ns) in
          all_shown ws txt (asked ask) ns (some prefix) (λ v. p.n + depth v < 16) (found n (NSTPrefix prefix)) es q
          (Allˡ-map {P = λ y. depth y.1 < depth_names n} {Q = λ y. p.n + depth y.1 < 16} (found n (NSTPrefix prefix)) (λ y h. omega (arith, r.room e))
          (found_deep n (NSTPrefix prefix)))

-- What runs over entries that show what is found runs over the list.
pub entries_list : {ws txt : List ℕ} {ask : Ask} {rest : Str} {p : Path} {lim : Limits} {matched : ℤ} {leaf : Bool}
    {x : ℕ} {prefix : Str} {es : List Entry} {a τ : Tally} {flat flat' out out' : List ℕ}
    → ((term : SearchTerm) (o : Option Str) → Asks term prefix o
    → map outer (found (what (asked ask) ws txt x (list (level_of leaf))) term)
    ≡ map (shown (asked ask) ws txt (level_of leaf) o) es)
    → EntriesRun ws txt ask rest p lim matched a τ flat flat' out out' leaf es
    → ListRuns ws txt ask rest p lim matched a τ flat flat' out out' leaf x prefix
entries_list {ws} {txt} {ask} {leaf = leaf} {x} says runs = record {
  goes = λ path term o n on st asks dp.
      let l : NameList (Item (asked ask)) (level_of leaf) = what (asked ask) ws txt x (list (level_of leaf)) in
      runs.goes path (found l term) o n on st (says term o asks)
      (λ z. Allˡ-map {P = λ y. depth y.1 < depth_names l} {Q = λ y. depth y.1 < n} (found l term) (λ y h. omega (arith, dp z)) (found_deep l term));
}

-- ---- No list

found_empty : {A : Type 0} {ℓ : Level} (nl : NameList A ℓ) → nl ≡ []ᴺ → (term : SearchTerm) → found nl term ≡ []
unfolding found names_find_rev_first matching_values names_revmap revmap_onto merge_increasing_lists_rev merge_nonempty nonempty
found_empty nl e NSTAll = rw e
found_empty nl e NSTNone = refl
found_empty nl e (NSTPrefix []) = rw e
found_empty nl e (NSTPrefix (b ∷ id)) = rw e

pub none_runs : {ws txt : List ℕ} {place : Search} {run : Run} {flat out : List ℕ} {x : ℕ} → x ≡ 0
    → ListListed ws txt place run run flat flat out out x
unfolding elements_give
none_runs {ws} {txt} {place = place} {run = run} {flat} {out} {x} e = record {
  same = same_run run;
  runs = record {
    goes = λ path term o n on st asks dp. rw (found_empty (what (asked place.cut.want.ask) ws txt x (list (level_of place.leaf)))
        (rw (e, what_none (asked place.cut.want.ask) ws txt)) term) (goes_none run.tally flat out);
  };
}

-- ---- One tree

module _ {ws txt : List ℕ} {place : Search} {run : Run} {x root label : ℕ}
    (r : ListAsked ws txt place run x)
    (o : OneTree ws txt (asked place.cut.want.ask) (level_of place.leaf) x
    place.cut.prefix.now root label) where
  abbrev pub alone : Labelled
  alone = record { link = root; label = label }

  pub one_earlier : root ≤ x
  one_earlier = omega (arith, o.root_link.earlier)

  one_says : (term : SearchTerm) (q : Option Str) → Asks term place.cut.prefix.now q
      → map outer (found (what (asked place.cut.want.ask) ws txt x (list (level_of place.leaf))) term)
      ≡ map (shown (asked place.cut.want.ask) ws txt (level_of place.leaf) q)
      (tree_entries ws txt root label place.cut.prefix.now)
  unfolding tree_entries
  one_says term q asks = o.says term q asks

  pub one_ready : TreeAsked ws txt place run alone
  one_ready = record {
    told = r.told;
    can = record {
      ready = r.can.ready;
      tree_at = at_of r.can.list_at (tree _) (omega arith) o.root_link;
      label_at = label_here r.can.list_at o.label_ok;
      room = list_room r.can place.cut.prefix.now (tree_entries ws txt root label place.cut.prefix.now) one_says;
    };
  }

  pub one_runs : {run' : Run} {flat flat' out out' : List ℕ}
      → TreeListed ws txt place run run' flat flat' out out' alone
      → ListListed ws txt place run run' flat flat' out out' x
  one_runs t = record { same = t.same; runs = entries_list one_says t.runs }

-- ---- A merge

module _ (ws txt : List ℕ) (place : Search) (x : ℕ) (run run' : Run) (flat flat' out out' : List ℕ)
    (m : State) where
  -- The run over a list has come to what the state m gives.
  pub record Merging : Type 0 where
    pub same : SamePath run run'
    pub all : List Entry
    pub says : (term : SearchTerm) (o : Option Str) → Asks term place.cut.prefix.now o
        → map outer (found (what (asked place.cut.want.ask) ws txt x (list (level_of place.leaf))) term)
        ≡ map (shown (asked place.cut.want.ask) ws txt (level_of place.leaf) o) all
    pub entries : List Entry
    pub gives : M.Rest ws txt (asked place.cut.want.ask) (level_of place.leaf) x place.cut.prefix.now m entries
    pub left : Left ws txt place.cut.want.ask place.cut.rest.now run.path run.limits
        place.cut.want.matched
        place.leaf
        run.tally run'.tally flat flat' out out' all entries

module _ {ws txt : List ℕ} {place : Search} {x : ℕ} {run : Run} where
  pub merging_first : {flat out : List ℕ} {m : State} → ListAsked ws txt place run x
      → Starts ws txt x place.cut.prefix.now m → Merging ws txt place x run run flat flat out out m
  merging_first r s =
      let k = s (asked place.cut.want.ask) (level_of place.leaf) r.can.list_at in
      record {
        same = same_run run;
        all = k.entries;
        says = k.says;
        entries = k.entries;
        gives = k.rest;
        left = left_all ws txt place.cut.want.ask place.cut.rest.now run.path run.limits
            place.cut.want.matched
            place.leaf
            (list_room r.can place.cut.prefix.now k.entries k.says);
      }

  module _ {run' : Run} {flat flat' out out' : List ℕ} {m : State}
      (g : Merging ws txt place x run run' flat flat' out out' m) where
    pub merging_any : AnyRest ws txt place.cut.prefix.now m
    merging_any = rest_any g.gives

    pub merging_done : {m' : State} → Gives ws txt place.cut.prefix.now m None m'
        → ListListed ws txt place run run' flat flat' out out' x
    merging_done f = record { same = g.same; runs = entries_list g.says (left_none ws txt _ _ _ _ _ _ (rw (gives_end g.gives f) at g.left)) }

    module _ {s : Given} {m' : State} (f : Gives ws txt place.cut.prefix.now m (Some s) m') where
      abbrev pub given : Labelled
      given = record { link = s.branch; label = s.label }

      pub merging_earlier : s.branch ≤ x
      merging_earlier = omega (arith, (gives_more g.gives f).given.branch.link.earlier)

      pub merging_less : left_in ws txt place.cut.prefix.now m' < left_in ws txt place.cut.prefix.now m
      merging_less = (gives_more g.gives f).given.fewer

      pub merging_branch : ListAsked ws txt place run x
          → BranchAsked ws txt place.cut.rest.now place.cut.want place.leaf run' given
      merging_branch r =
          let k = gives_more g.gives f in
          let t = r.can.list_at in
          record {
            told = r.told;
            can = branch_ready_at g.same (record {
              ready = r.can.ready;
              branch_at = record {
                some = k.given.branch.some;
                at = at_of t (tree _) (omega arith) k.given.branch.link;
              };
              label_at = record {
                at = at_of t (list _) (omega arith) k.given.label_ok.link;
                imports = k.given.label_ok.imports;
              };
              room = λ z. (rw k.is at (g.left.room z)).0;
            });
          }

      module _ {run'' : Run} {flat'' out'' : List ℕ} {e : ℕ}
          (b : BranchListed ws txt place.cut.rest.now place.cut.want
          place.leaf run' run'' flat' flat'' out' out'' given e)
          (lf : length flat'' ≡ length flat') (lo : length out'' ≡ length out') where
        pub merging_next : Merging ws txt place x run run'' flat flat'' out out'' m'
        merging_next =
            let k = gives_more g.gives f in
            record {
              same = path_then g.same b.same;
              all = g.all;
              says = g.says;
              entries = k.after;
              gives = k.given.rest;
              left = left_next ws txt _ _ _ _ _ _ (rw k.is at g.left)
                  (branch_runs_at g.same b.runs) lf lo;
            }

        pub merging_spent : run.limits.budget < e
            → ListListed ws txt place run run'' flat flat'' out out'' x
        merging_spent z =
            record {
              same = merging_next.same;
              runs = entries_list merging_next.says
                  (left_spent ws txt _ _ _ _ _ _ merging_next.left (omega (arith, b.count)));
            }
