-- A trie of the record memory by its link, and what look-ups answer.
use Rattle.std.specs.Prelude.{ℕ, ◌+◌, ◌≡◌, Bool, List, eqb}
use Rattle.std.proofs.Math.Option.{none, some}
use Rattle.source.specs.Text.{Str, Query}
use Rattle.source.specs.Types.{bind, ns}
use Rattle.source.specs.Tries.{trie_find_exact, scope_of, included}
use Rattle.source.specs.Table.{ns_inserts, loaded_module}
use Rattle.memory.specs.Layout.{pick, Which, modules, tree, list, trieˢ, kind, what}
use Rattle.memory.specs.Sound.{LinkOk, At, Reads}
use Rattle.find_tree.specs.Tree.{held}

-- The same, of some table.
pub record AnyTrie (ws txt : List ℕ) (x : ℕ) : Type 0 where
  pub which : Which
  pub trie : At ws txt which trieˢ x

-- The trie that namespaces_mutate goes on with.
abbrev pub Scope : (ws txt : List ℕ) (x : ℕ) (s : Str) (r : ℕ) → Type 0
Scope ws txt x s r = (w : Which) → At ws txt w (list ns) x → Reads ws txt w x r (scope_of (what w ws txt x (list ns)) s)

-- The included trie of a query.
abbrev pub Included : (ws txt : List ℕ) (root : ℕ) (q : Query) (r : ℕ) → Type 0
Included ws txt root q r = (w : Which) → At ws txt w trieˢ root
    → Reads ws txt w root r (included (what w ws txt root trieˢ) q)

-- The link r is that of the branch that trie_find_exact ends at, 0 for none.
pub record FindsExactIn (ws txt : List ℕ) (w : Which) (root : ℕ) (q : Query) (r : ℕ) : Type 0 where
  pub link : LinkOk ws (root + 1) r (kind w (tree bind))
  pub says : trie_find_exact (what w ws txt root trieˢ) q ≡ pick (eqb r 0) none (some (held w ws txt bind r))

-- trie_find_exact, for any table that the trie is of.
abbrev pub FindsExact : (ws txt : List ℕ) (root : ℕ) (q : Query) (r : ℕ) → Type 0
FindsExact ws txt root q r = (w : Which) → At ws txt w trieˢ root → FindsExactIn ws txt w root q r

-- Whether ins_ns inserts, where holder is the branch that has the name, 0 for none.
pub record NsInserts (ws : List ℕ) (holder : ℕ) (loaded r : Bool) : Type 0 where
  pub says : (txt : List ℕ) → r ≡ ns_inserts (pick (eqb holder 0) none (some (held modules ws txt bind holder))) loaded

-- Whether holder, 0 for none, is the branch of a loaded Module.
pub record LoadedModule (ws : List ℕ) (holder : ℕ) (r : Bool) : Type 0 where
  pub says : (txt : List ℕ) → r ≡ loaded_module (pick (eqb holder 0) none (some (held modules ws txt bind holder)))
