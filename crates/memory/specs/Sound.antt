-- What Sound, as the requirements have it, asks of the used records and their texts, and nothing else. Crate memory_table has the roots.
use Rattle.std.specs.Prelude.{ℕ, ◌+◌, ◌*◌, ◌≤◌, ◌<◌, ◌≡◌, Bool, true, false, List, length}
use Rattle.source.specs.Text.{Str}
use Rattle.source.specs.Types.{Level, Trie, NameList, bind, ns}
use Rattle.source.specs.Terms.{weight, depth, depth_tree, depth_names}
use Rattle.source.specs.Limits.{heaviest_list, deepest_trie, most_used, record_words}
use Rattle.source.specs.Items.{is_kind}
use Rattle.source.specs.Rules.{IsKey, IsLabel, IsFullName, IsPath, Ordered}
use Rattle.memory.specs.Layout.{record_at, word, span, Which, names, modules, Item, Sort, tree, list, trieˢ, Of, kind, what}

-- What a test's answer says of a statement.
abbrev pub Says : Bool → Type 0 → Type 0
Says true P = P
Says false P = P → ⊥

-- A link x in the record of link l: none, or an earlier record of the kind that the place wants.
pub record LinkOk (ws : List ℕ) (l x k : ℕ) : Type 0 where
  pub earlier : x < l
  pub of_kind : (x ≡ 0 → ⊥) → word (record_at ws x) 0 ≡ k

-- A text in the used part that keeps its rule.
pub record TextOk (Rule : Str → Type 0) (txt : List ℕ) (used start len : ℕ) : Type 0 where
  pub inside : start + len ≤ used
  pub keeps : Rule (span txt start len)

-- The links and texts of the record r of link l.
module _ (ws txt : List ℕ) (used l : ℕ) (w : Which) (r : List ℕ) where
  -- A branch of either level.
  pub record BranchOk (ℓ : Level) : Type 0 where
    pub key : TextOk IsKey txt used (word r 1) (word r 2)
    pub left : LinkOk ws l (word r 3) (kind w (tree ℓ))
    pub right : LinkOk ws l (word r 4) (kind w (tree ℓ))

  -- A collection, which holds a tree or an imported list.
  pub record CollectionOk (ℓ : Level) : Type 0 where
    pub sort : word r 5 ≤ 1
    pub own : word r 5 ≡ 0 → LinkOk ws l (word r 3) (kind w (tree ℓ))
    pub imported : word r 5 ≡ 1 → LinkOk ws l (word r 3) (kind w (list ℓ))
    pub label : word r 5 ≡ 1 → TextOk IsLabel txt used (word r 1) (word r 2)
    pub rest : LinkOk ws l (word r 4) (kind w (list ℓ))

  -- A trie.
  pub record TrieOk : Type 0 where
    pub bindings : LinkOk ws l (word r 3) (kind w (list bind))
    pub namespaces : LinkOk ws l (word r 4) (kind w (list ns))

-- The item of a bindings branch of the module table.
pub record SymbolOk (txt : List ℕ) (used : ℕ) (r : List ℕ) : Type 0 where
  pub sort : word r 5 ≤ 1
  pub name : TextOk IsFullName txt used (word r 6) (word r 7)
  pub path : word r 5 ≡ 0 → TextOk IsPath txt used (word r 8) (word r 9)
  pub loaded : word r 10 ≤ 1

-- The item of a bindings branch: of names, one of the three kinds and any number.
abbrev pub ItemOk : List ℕ → ℕ → Which → List ℕ → Type 0
ItemOk txt used names r = is_kind (word r 6) ≡ true
ItemOk txt used modules r = SymbolOk txt used r

-- The weight of a list: as stored, and no more than a list may weigh.
pub record WeightOk {A : Type 0} {ℓ : Level} (r : List ℕ) (nl : NameList A ℓ) : Type 0 where
  pub weighs : word r 10 ≡ weight nl
  pub light : weight nl ≤ heaviest_list

-- The record r of link l, which reads as t: links and texts; keys ascend strictly; weights and depths.
abbrev pub RecordAs : (ws txt : List ℕ) (used l : ℕ) (w : Which) (so : Sort) (r : List ℕ) (v : Of (Item w) so) → Type 0
RecordAs ws txt used l w (tree bind) r v = BranchOk ws txt used l w r bind × Ordered v × ItemOk txt used w r
RecordAs ws txt used l w (tree ns) r v =
    BranchOk ws txt used l w r ns × Ordered v × LinkOk ws l (word r 5) (kind w trieˢ) × (word r 11 ≡ depth_tree v)
RecordAs ws txt used l w (list bind) r v = CollectionOk ws txt used l w r bind × WeightOk r v
RecordAs ws txt used l w (list ns) r v = CollectionOk ws txt used l w r ns × WeightOk r v × (word r 11 ≡ depth_names v)
RecordAs ws txt used l w trieˢ r v = TrieOk ws txt used l w r × (word r 11 ≡ depth v) × (depth v ≤ deepest_trie)

-- The record of link l has a known kind, and is right as what that kind says.
pub record RecordOk (ws txt : List ℕ) (used l : ℕ) : Type 0 where
  pub which : Which
  pub sort : Sort
  pub known : word (record_at ws l) 0 ≡ kind which sort
  pub right : RecordAs ws txt used l which sort (record_at ws l) (what which ws txt l sort)

-- The records in use, and the text in use: they fit, and each record is right.
pub record Used (ws txt : List ℕ) (records used : ℕ) : Type 0 where
  pub few : records ≤ most_used
  pub short : used ≤ most_used
  pub records_fit : records * record_words ≤ length ws
  pub text_fits : used ≤ length txt
  pub rows : (l : ℕ) → 0 < l → l ≤ records → RecordOk ws txt used l

-- Link x names a tree, a list or a trie of the table w, or none, in a memory whose used records are right.
pub record At (ws txt : List ℕ) (w : Which) (so : Sort) (x : ℕ) : Type 0 where
  pub records : ℕ
  pub used : ℕ
  pub sound : Used ws txt records used
  pub link : LinkOk ws (records + 1) x (kind w so)

-- The link r, no later than x, reads as the trie tr.
pub record Reads (ws txt : List ℕ) (w : Which) (x r : ℕ) (tr : Trie (Item w)) : Type 0 where
  pub link : LinkOk ws (x + 1) r (kind w trieˢ)
  pub says : what w ws txt r trieˢ ≡ tr
