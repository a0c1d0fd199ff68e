-- The words of new records.
use Rattle.std.specs.Prelude.{ℕ, ◌+◌, cond, List, [], ◌∷◌, set}
use Rattle.source.specs.Items.{kind_number}
use Rattle.source.specs.declared.LidSymbol.{LidSymbol}
use Rattle.memory.specs.declared.Span.{Span}
use Rattle.memory.specs.declared.ModSymbol.{ModSymbol}
use Rattle.memory.specs.declared.ModSymbol.TheVariants.{Module, Namespace}
use Rattle.memory.specs.declared.Collection.{Collection}
use Rattle.memory.specs.declared.Trie.{Trie}

-- A branch of names.
abbrev pub binding_row : Span → LidSymbol → List ℕ
binding_row key c = 1 ∷ key.start ∷ key.len ∷ 0 ∷ 0 ∷ c.number ∷ kind_number c.kind ∷ 0 ∷ 0 ∷ 0 ∷ 0 ∷ 0 ∷ []

-- A branch of modules.
abbrev pub symbol_row : Span → ModSymbol → List ℕ
symbol_row key (Module name path loaded) =
    6 ∷ key.start ∷ key.len ∷ 0 ∷ 0 ∷ 0 ∷ name.start ∷ name.len ∷ path.start ∷ path.len ∷ cond loaded 1 0 ∷ 0 ∷ []
symbol_row key (Namespace name loaded) =
    6 ∷ key.start ∷ key.len ∷ 0 ∷ 0 ∷ 1 ∷ name.start ∷ name.len ∷ 0 ∷ 0 ∷ cond loaded 1 0 ∷ 0 ∷ []

-- A branch of namespaces.
abbrev pub namespace_row : ℕ → Span → ℕ → List ℕ
namespace_row of key trie = (of + 2) ∷ key.start ∷ key.len ∷ 0 ∷ 0 ∷ trie ∷ 0 ∷ 0 ∷ 0 ∷ 0 ∷ 0 ∷ 0 ∷ []

-- A branch with another key.
abbrev pub keyed_row : List ℕ → (start len : ℕ) → List ℕ
keyed_row r start len = set (set r 1 start) 2 len

-- A branch with other sides and another depth.
abbrev pub sided_row : List ℕ → (left right depth : ℕ) → List ℕ
sided_row r left right depth = set (set (set r 3 left) 4 right) 11 depth

-- A collection.
abbrev pub collection_row : ℕ → Collection → ℕ → List ℕ
collection_row kind c depth =
    kind ∷ c.label.start ∷ c.label.len ∷ c.own ∷ c.rest ∷ cond c.imported 1 0 ∷ 0 ∷ 0 ∷ 0 ∷ 0 ∷ c.weight
    ∷ depth ∷ []

-- A trie.
abbrev pub trie_row : ℕ → Trie → List ℕ
trie_row kind tr = kind ∷ 0 ∷ 0 ∷ tr.bindings ∷ tr.namespaces ∷ 0 ∷ 0 ∷ 0 ∷ 0 ∷ 0 ∷ 0 ∷ tr.depth ∷ []
