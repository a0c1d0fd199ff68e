-- What the parts of a listing give, and what each function of the run requires and leaves.
use Rattle.std.specs.Prelude.{ℕ, ◌+◌, ◌<◌, ◌≤◌, ◌≡◌, Bool, true, false, List, [], ◌∷◌, map, ℤ, length}
use Rattle.std.proofs.Math.Option.{Option}
use Rattle.source.specs.Limits.{longest_query, deepest_trie}
use Rattle.source.specs.Text.{Str, Query, segments, ends_in_dot}
use Rattle.source.specs.Types.{Level, Value, Trie, bind, ns}
use Rattle.source.specs.Trees.{PathElem}
use Rattle.source.specs.Terms.{depth, depth_names}
use Rattle.source.specs.Listing.{PathOf, SearchTerm}
use Rattle.source.specs.Forward.{entered}
use Rattle.source.specs.Shared.{Allˡ}
use Rattle.source.specs.Forward.{found}
use Rattle.source.specs.Forward.{line, made}
use Rattle.memory.specs.Layout.{pick, Item, tree, list, trieˢ, what}
use Rattle.find_tree.specs.Tree.{held}
use Rattle.find_tree.specs.Links.{matches}
use Rattle.find_list.specs.Entries.{Entry, shown, outer, Asks}
use Rattle.listing_ask.specs.Ask.{asked, line_for}
use Rattle.listing_output.specs.Path.{BranchAt}
use Rattle.listing_output.specs.declared.run.Path.{Path}
use Rattle.listing_line.specs.OnPath.{LabelAt, PathOk, OnPath}
use Rattle.listing_line.specs.Goes.{Result, ◌⊕◌, Goes}
use Rattle.listing_output.specs.Run.{Small, Told}
use Rattle.listing_output.specs.declared.run.Tally.{Tally}
use Rattle.listing_output.specs.declared.run.Limits.{Limits}
use Rattle.listing_output.specs.declared.run.Run.{Run}
use Rattle.listing_output.specs.declared.Want.{Want}
use Rattle.listing_line.specs.Lines.{only}
use Rattle.listing_line.specs.SameRun.{SamePath}
use Rattle.listing_ask.specs.declared.Ask.{Ask}
use Rattle.listing_annotation.specs.declared.Labelled.{Labelled}
use Rattle.listing_step.specs.Steps.{Matching, MatchingOn}
use Rattle.listing_trie.specs.declared.Search.{Search}
use Rattle.memory.specs.Sound.{At}

-- ---- What is listed

module _ (a : Ask) where
  -- The listing of a trie below a path, with fuel n.
  abbrev pub trie_gives : ℕ → Trie (Item (asked a)) → PathOf → Query → Result (Item (asked a))
  trie_gives n tr path q = record { lines = made (line_for a) n tr path q; entered = entered n tr q }

  -- What an element found in a list gives: its line, or the listing of its trie.
  abbrev pub element_gives : (ℓ : Level) → ℕ → PathOf → Query → PathElem × Value (Item (asked a)) ℓ
      → Result (Item (asked a))
  element_gives bind n path q x = only (line_for a (line path x))
  element_gives ns n path q x = trie_gives n x.1 (x.0 ∷ path) q

  -- One after another.
  unfoldable pub elements_give : (ℓ : Level) → ℕ → PathOf → Query → List (PathElem × Value (Item (asked a)) ℓ)
      → Result (Item (asked a))
  elements_give ℓ n path q [] = only []
  elements_give ℓ n path q (x ∷ xs) = element_gives ℓ n path q x ⊕ elements_give ℓ n path q xs

-- ---- What the functions require and leave

-- The level that a flag says: bindings or namespaces.
abbrev pub level_of : Bool → Level
level_of leaf = pick leaf bind ns

-- An entry's branch of namespaces leaves room in the path.
abbrev pub HasRoom : (ws txt : List ℕ) (ask : Ask) (p : Path) → Entry → Type 0
HasRoom ws txt ask p e = p.n + depth (held (asked ask) ws txt ns e.branch) < deepest_trie

-- The matches of a tree, each with the tree's label.
unfoldable pub tree_entries : (ws txt : List ℕ) (root label : ℕ) (prefix : Str) → List Entry
tree_entries ws txt root label prefix = map (λ b. record { branch = b; label = label }) (matches ws txt root prefix)

module _ (ws txt : List ℕ) (ask : Ask) (rest : Str) (p : Path) (lim : Limits) where
  -- What each function requires of the rest of the query, the path and the limits.
  pub record RunReady : Type 0 where
    pub path_ok : PathOk ws txt (asked ask) p
    pub ends : ends_in_dot rest ≡ true
    pub short : length rest ≤ longest_query
    pub small : Small lim

  pub record BranchReady (leaf : Bool) (branch label : ℕ) : Type 0 where
    pub ready : RunReady
    pub branch_at : BranchAt ws txt (asked ask) (level_of leaf) branch
    pub label_at : LabelAt ws txt (asked ask) (level_of leaf) label
    pub room : leaf ≡ false → HasRoom ws txt ask p (record { branch = branch; label = label })

  pub record TreeReady (leaf : Bool) (root label : ℕ) (prefix : Str) : Type 0 where
    pub ready : RunReady
    pub tree_at : At ws txt (asked ask) (tree (level_of leaf)) root
    pub label_at : LabelAt ws txt (asked ask) (level_of leaf) label
    pub room : leaf ≡ false → Allˡ (HasRoom ws txt ask p) (tree_entries ws txt root label prefix)

  pub record ListReady (leaf : Bool) (x : ℕ) : Type 0 where
    pub ready : RunReady
    pub list_at : At ws txt (asked ask) (list (level_of leaf)) x
    pub room : leaf ≡ false → p.n + depth_names (what (asked ask) ws txt x (list ns)) ≤ deepest_trie

  pub record TrieReady (trie : ℕ) : Type 0 where
    pub ready : RunReady
    pub trie_at : At ws txt (asked ask) trieˢ trie
    pub room : p.n + depth (what (asked ask) ws txt trie trieˢ) ≤ deepest_trie

  -- The run went on by what is listed, wherever in the source's listing it stands.
  module _ (matched : ℤ) (τ τ' : Tally) (flat flat' out out' : List ℕ) where
    abbrev Went : Result (Item (asked ask)) → Type 0
    Went r = Goes (asked ask) ws txt lim τ τ' flat flat' out out' r

    -- By an element that the branch and the label show.
    pub record BranchRuns (leaf : Bool) (branch label : ℕ) : Type 0 where
      pub goes : (path : PathOf) (x : PathElem × Value (Item (asked ask)) (level_of leaf)) (o : Option Str) (n : ℕ)
          → OnPath ws txt p path → MatchingOn path o (segments rest) matched
          → outer x ≡ shown (asked ask) ws txt (level_of leaf) o (record { branch = branch; label = label })
          → (leaf ≡ false → depth x.1 < n)
          → Went (element_gives ask (level_of leaf) n path (segments rest) x)

    -- By the elements that entries show.
    pub record EntriesRun (leaf : Bool) (es : List Entry) : Type 0 where
      pub goes : (path : PathOf) (xs : List (PathElem × Value (Item (asked ask)) (level_of leaf))) (o : Option Str)
          (n : ℕ)
          → OnPath ws txt p path → MatchingOn path o (segments rest) matched
          → map outer xs ≡ map (shown (asked ask) ws txt (level_of leaf) o) es
          → (leaf ≡ false → Allˡ (λ x. depth x.1 < n) xs)
          → Went (elements_give ask (level_of leaf) n path (segments rest) xs)

    -- By what is found in a list.
    pub record ListRuns (leaf : Bool) (x : ℕ) (prefix : Str) : Type 0 where
      pub goes : (path : PathOf) (term : SearchTerm) (o : Option Str) (n : ℕ)
          → OnPath ws txt p path → MatchingOn path o (segments rest) matched → Asks term prefix o
          → (leaf ≡ false → depth_names (what (asked ask) ws txt x (list (level_of leaf))) ≤ n)
          → Went (elements_give ask (level_of leaf) n path (segments rest)
          (found (what (asked ask) ws txt x (list (level_of leaf))) term))

    -- By the listing of a trie.
    pub record TrieRuns (trie : ℕ) : Type 0 where
      pub goes : (path : PathOf) (n : ℕ)
          → OnPath ws txt p path → Matching path (segments rest) matched
          → depth (what (asked ask) ws txt trie trieˢ) < n
          → Went (trie_gives ask n (what (asked ask) ws txt trie trieˢ) path (segments rest))

-- ---- The contracts: of a query that is cut, and the lent run; e is what is returned, the tries entered so far

module _ (ws txt : List ℕ) (rest : Str) (want : Want) (leaf : Bool) (run : Run) where
  pub record BranchAsked (f : Labelled) : Type 0 where
    pub can : BranchReady ws txt want.ask rest run.path run.limits leaf f.link f.label
    pub told : Told want.matched

  pub record BranchListed (run' : Run) (flat flat' out out' : List ℕ) (f : Labelled) (e : ℕ) : Type 0 where
    pub count : e ≡ run'.tally.entered
    pub same : SamePath run run'
    pub runs : BranchRuns ws txt want.ask rest run.path run.limits want.matched
        run.tally run'.tally flat flat' out out' leaf f.link f.label

module _ (ws txt : List ℕ) (place : Search) (run : Run) where
  pub record TreeAsked (f : Labelled) : Type 0 where
    pub told : Told place.cut.want.matched
    pub can : TreeReady ws txt place.cut.want.ask place.cut.rest.now run.path run.limits place.leaf
        f.link f.label place.cut.prefix.now

  pub record ListAsked (x : ℕ) : Type 0 where
    pub told : Told place.cut.want.matched
    pub can : ListReady ws txt place.cut.want.ask place.cut.rest.now run.path run.limits
        place.leaf x

  module _ (run' : Run) (flat flat' out out' : List ℕ) where
    pub record TreeListed (f : Labelled) : Type 0 where
      pub same : SamePath run run'
      pub runs : EntriesRun ws txt place.cut.want.ask place.cut.rest.now run.path run.limits
          place.cut.want.matched
          run.tally run'.tally flat flat' out out' place.leaf
          (tree_entries ws txt f.link f.label place.cut.prefix.now)

    pub record ListListed (x : ℕ) : Type 0 where
      pub same : SamePath run run'
      pub runs : ListRuns ws txt place.cut.want.ask place.cut.rest.now run.path run.limits
          place.cut.want.matched
          run.tally run'.tally flat flat' out out' place.leaf x place.cut.prefix.now

module _ (ws txt : List ℕ) (query : Str) (want : Want) (run : Run) where
  pub record TrieAsked (x : ℕ) : Type 0 where
    pub can : TrieReady ws txt want.ask query run.path run.limits x
    pub told : Told want.matched

  pub record TrieListed (run' : Run) (flat flat' out out' : List ℕ) (x e : ℕ) : Type 0 where
    pub count : e ≡ run'.tally.entered
    pub same : SamePath run run'
    pub runs : TrieRuns ws txt want.ask query run.path run.limits want.matched run.tally
        run'.tally flat flat' out out' x
