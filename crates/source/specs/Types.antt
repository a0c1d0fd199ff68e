-- btree, name_collection, names and trie, stated once for bindings and namespaces and for any item type.
use Rattle.source.specs.Text.{Str}

-- What the branches of a tree hold: items (bindings) or tries (namespaces).
pub data Level : Type 0 where
  bind ns : Level

mutual
  -- What a key stands for. Value A ns is the source's trie, Value A bind an item.
  pub data Value (A : Type 0) : Level → Type 0 where
    item : A → Value A bind
    trie : (bindings : NameList A bind) (namespaces : NameList A ns) → Value A ns

  -- btree: a branch has its key, value, left and right.
  pub data Tree (A : Type 0) : Level → Type 0 where
    StrEmpty : {ℓ : Level} → Tree A ℓ
    StrBranch : {ℓ : Level} → Str → Value A ℓ → Tree A ℓ → Tree A ℓ → Tree A ℓ

  -- names, a list of collections: [], Names bt :: tl and ImportedNames (label, names) :: tl.
  pub data NameList (A : Type 0) : Level → Type 0 where
    []ᴺ : {ℓ : Level} → NameList A ℓ
    Names : {ℓ : Level} → Tree A ℓ → NameList A ℓ → NameList A ℓ
    ImportedNames : {ℓ : Level} → Str → NameList A ℓ → NameList A ℓ → NameList A ℓ

abbrev pub Trie : Type 0 → Type 0
Trie A = Value A ns

module _ {A : Type 0} where
  unfoldable pub the_item : Value A bind → A
  the_item (item a) = a

  unfoldable pub bindings : Trie A → NameList A bind
  bindings (trie b n) = b

  unfoldable pub namespaces : Trie A → NameList A ns
  namespaces (trie b n) = n

  unfoldable pub trie_empty : Trie A
  trie_empty = trie []ᴺ []ᴺ
