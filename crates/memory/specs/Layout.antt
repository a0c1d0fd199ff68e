-- How the lent words and text read. Link 0 is none; link l names record number l - 1, the twelve words from (l - 1) * 12 on.
--
--   word   bindings branch              namespaces branch   collection                      trie
--   0      kind 1, of modules 6         kind 2, 7           kind 3, 8 (bindings), 4, 9      kind 5, 10
--   1, 2   key: start, length           key                 label, of an imported list
--   3, 4   left, right                  left, right         tree or imported list, rest     bindings, namespaces
--   5      number; of modules 0 for a   trie                0 for a tree, 1 for an
--          Module, 1 for a Namespace                        imported list
--   6      kind of the item: 1 to 3
--   6, 7   of modules: full name
--   8, 9   of modules: a Module's path
--   10     of modules: 1 if loaded                          weight
--   11                                  depth               depth, of namespaces            depth
use Rattle.std.specs.Prelude.{ℕ, zero, suc, ◌+◌, ◌-◌, ◌*◌, Bool, true, false, List, get_or, take, drop, eqb}
use Rattle.source.specs.Limits.{record_words}
use Rattle.source.specs.Text.{Str}
use Rattle.source.specs.Types.{Level, Value, Tree, NameList, bind, ns, item, trie, StrEmpty, StrBranch, []ᴺ, Names, ImportedNames}
use Rattle.source.specs.Table.{ModSymbol, Module, Namespace}
use Rattle.source.specs.Items.{read_kind}
use Rattle.source.specs.declared.LidSymbol.{LidSymbol}

-- The twelve words of the record that link l names.
unfoldable pub record_at : List ℕ → ℕ → List ℕ
record_at ws l = take record_words (drop ((l - 1) * record_words) ws)

-- Word k of a record.
abbrev pub word : List ℕ → ℕ → ℕ
word r k = get_or r k 0

-- ---- The words of a record by name

-- The kind; the key of a branch, or the label of a collection, as a span.
abbrev pub kind_word : List ℕ → ℕ
kind_word r = word r 0

abbrev pub text_start : List ℕ → ℕ
text_start r = word r 1

abbrev pub text_len : List ℕ → ℕ
text_len r = word r 2

-- Of a branch: its sides; its trie, of namespaces; the number and the kind of its item, of names.
abbrev pub left_link : List ℕ → ℕ
left_link r = word r 3

abbrev pub right_link : List ℕ → ℕ
right_link r = word r 4

abbrev pub trie_link : List ℕ → ℕ
trie_link r = word r 5

abbrev pub number_word : List ℕ → ℕ
number_word r = word r 5

abbrev pub item_kind_word : List ℕ → ℕ
item_kind_word r = word r 6

-- Of a bindings branch of modules: 0 for a Module, 1 for a Namespace; full name; path; 1 if loaded.
abbrev pub symbol_word : List ℕ → ℕ
symbol_word r = word r 5

abbrev pub name_start : List ℕ → ℕ
name_start r = word r 6

abbrev pub name_len : List ℕ → ℕ
name_len r = word r 7

abbrev pub path_start : List ℕ → ℕ
path_start r = word r 8

abbrev pub path_len : List ℕ → ℕ
path_len r = word r 9

abbrev pub loaded_word : List ℕ → ℕ
loaded_word r = word r 10

-- Of a collection: its tree or imported list; the rest of the list; 0 for a tree, 1 for an imported list; the weight of the list.
abbrev pub own_link : List ℕ → ℕ
own_link r = word r 3

abbrev pub rest_link : List ℕ → ℕ
rest_link r = word r 4

abbrev pub sort_word : List ℕ → ℕ
sort_word r = word r 5

abbrev pub weight_word : List ℕ → ℕ
weight_word r = word r 10

-- Of a trie: its two lists.
abbrev pub bindings_link : List ℕ → ℕ
bindings_link r = word r 3

abbrev pub namespaces_link : List ℕ → ℕ
namespaces_link r = word r 4

-- The depth of a branch or a list of namespaces, or of a trie.
abbrev pub depth_word : List ℕ → ℕ
depth_word r = word r 11

-- Of a free record as a note: a link, and a side.
abbrev pub note_link : List ℕ → ℕ
note_link r = word r 0

abbrev pub note_side : List ℕ → ℕ
note_side r = word r 1

-- ---- Texts

-- The text of a span.
unfoldable pub span : List ℕ → ℕ → ℕ → Str
span txt start len = take len (drop start txt)

-- The first, or the second.
abbrev pub pick {ℓ} : {A : Type ℓ} → Bool → A → A → A
pick true a b = a
pick false a b = b

-- Which of the two tables.
pub data Which : Type 0 where
  names modules : Which

-- The items of each table.
abbrev pub Item : Which → Type 0
Item names = LidSymbol
Item modules = ModSymbol

-- The item of a name, by the words of its branch.
abbrev pub lid_in : List ℕ → LidSymbol
lid_in r = record { kind = read_kind (item_kind_word r); number = number_word r }

-- The item of a bindings branch.
abbrev pub item_of : (w : Which) → List ℕ → List ℕ → Item w
item_of names txt r = lid_in r
item_of modules txt r =
    pick (eqb (word r 5) 0)
    (Module (span txt (word r 6) (word r 7)) (span txt (word r 8) (word r 9)) (eqb (word r 10) 1))
    (Namespace (span txt (word r 6) (word r 7)) (eqb (word r 10) 1))

-- What a link names: a tree, a list of collections, a trie.
pub data Sort : Type 0 where
  tree list : Level → Sort
  trieˢ : Sort

-- The source's type of each.
abbrev pub Of : Type 0 → Sort → Type 0
Of A (tree ℓ) = Tree A ℓ
Of A (list ℓ) = NameList A ℓ
Of A trieˢ = Value A ns

-- The kind of the records of each, in the names table.
abbrev pub kind_in : Sort → ℕ
kind_in (tree bind) = 1
kind_in (tree ns) = 2
kind_in (list bind) = 3
kind_in (list ns) = 4
kind_in trieˢ = 5

-- The kind of the records of each, in either table.
abbrev pub kind : Which → Sort → ℕ
kind names so = kind_in so
kind modules so = kind_in so + 5

-- What a link reads as, for each sort.
abbrev pub Reading : Which → Type 0
Reading w = (so : Sort) → Of (Item w) so

-- What link 0 reads as.
abbrev pub nothing : (w : Which) → Reading w
nothing w (tree ℓ) = StrEmpty
nothing w (list ℓ) = []ᴺ
nothing w trieˢ = trie []ᴺ []ᴺ

-- The key of a branch.
abbrev pub key_of : List ℕ → List ℕ → Str
key_of txt r = span txt (word r 1) (word r 2)

-- The key of the branch that link l names.
unfoldable pub key_at : List ℕ → List ℕ → ℕ → Str
key_at ws txt l = key_of txt (record_at ws l)

-- What a branch's key stands for.
abbrev pub value : (w : Which) → List ℕ → List ℕ → (ℕ → Reading w) → (ℓ : Level) → Value (Item w) ℓ
value w txt r f bind = item (item_of w txt r)
value w txt r f ns = f (word r 5) trieˢ

-- What a record reads as, where f reads its links.
abbrev pub row : (w : Which) → List ℕ → List ℕ → (ℕ → Reading w) → Reading w
row w txt r f (tree ℓ) = StrBranch (key_of txt r) (value w txt r f ℓ) (f (word r 3) (tree ℓ)) (f (word r 4) (tree ℓ))
row w txt r f (list ℓ) =
    pick (eqb (word r 5) 0)
    (Names (f (word r 3) (tree ℓ)) (f (word r 4) (list ℓ)))
    (ImportedNames (span txt (word r 1) (word r 2)) (f (word r 3) (list ℓ)) (f (word r 4) (list ℓ)))
row w txt r f trieˢ = trie (f (word r 3) (list bind)) (f (word r 4) (list ns))

-- What link l reads as among the first n records: link 0 and a link past n read as nothing.
unfoldable pub among : (w : Which) → List ℕ → List ℕ → ℕ → ℕ → Reading w
among w ws txt zero l = nothing w
among w ws txt (suc n) l =
    pick (eqb l (suc n)) (row w txt (record_at ws (suc n)) (among w ws txt n)) (among w ws txt n l)

-- What link l reads as. Its record's links are read among the records before it.
unfoldable pub what : (w : Which) → List ℕ → List ℕ → ℕ → Reading w
what w ws txt l = among w ws txt l l
