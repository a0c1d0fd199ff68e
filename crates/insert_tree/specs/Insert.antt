-- Insertion into a tree: what it asks, the notes of the way down, and what it leaves.
use Prim.Native.Nat.{Ordering}
use Rattle.std.specs.Prelude.{ℕ, zero, suc, ◌+◌, ◌-◌, ◌*◌, ◌≤◌, ◌<◌, ◌≡◌, List, length, drop}
use Rattle.source.specs.Limits.{most_used, record_words}
use Rattle.source.specs.Text.{Str, string_compare}
use Rattle.source.specs.Types.{Level, bind, ns}
use Rattle.source.specs.Trees.{btree_insert_replace}
use Rattle.source.specs.Rules.{IsKey}
use Rattle.memory.specs.Layout.{record_at, kind_word, text_start, text_len, left_link, right_link, trie_link, span, Which, tree, trieˢ, kind, value, what}
use Rattle.memory.specs.Layout.{key_at}
use Rattle.memory.specs.Sound.{LinkOk, TextOk, ItemOk, Used}
use Rattle.memory.specs.Grown.{Stays}
use Rattle.find_tree.specs.Tree.{Builds}
use Rattle.insert_copy.specs.Copies.{noted_link, noted_side}

-- ---- What an insertion asks

-- The value of a branch r of link l.
abbrev pub HeldOk : (ws txt : List ℕ) (used l : ℕ) (w : Which) (r : List ℕ) (ℓ : Level) → Type 0
HeldOk ws txt used l w r bind = ItemOk txt used w r
HeldOk ws txt used l w r ns = LinkOk ws l (trie_link r) (kind w trieˢ)

-- The words r of a new branch of link l: its sides and its depth are left to the insertion.
pub record NewBranch (ws txt : List ℕ) (used l : ℕ) (w : Which) (r : List ℕ) (ℓ : Level) : Type 0 where
  pub known : kind_word r ≡ kind w (tree ℓ)
  pub key : TextOk IsKey txt used (text_start r) (text_len r)
  pub holds : HeldOk ws txt used l w r ℓ

-- The new branch r goes into the tree of root, which takes count of the records after the used ones.
pub record Insertion (ws txt : List ℕ) (w : Which) (ℓ : Level) (records used root count : ℕ) (r : List ℕ) : Type 0 where
  pub sound : Used ws txt records used
  pub link : LinkOk ws (records + 1) root (kind w (tree ℓ))
  pub new : NewBranch ws txt used (records + 1) w r ℓ
  pub counted : Builds ws txt root (span txt (text_start r) (text_len r)) count
  pub room : (records + count) * record_words ≤ length ws
  pub few : records + count ≤ most_used

-- The same, of some table and level and some text used.
pub record AnyInsertion (ws txt : List ℕ) (records root count : ℕ) (r : List ℕ) : Type 0 where
  pub which : Which
  pub level : Level
  pub used : ℕ
  pub insertion : Insertion ws txt which level records used root count r

-- ---- The way down

-- The branch l leads to link on the side that the key takes: left where side is 0.
pub record SideTaken (ws txt : List ℕ) (key : Str) (root l side link : ℕ) : Type 0 where
  pub some : 0 < l
  pub within : l ≤ root
  pub left : side ≡ 0 → (Ordering.lt ≡ string_compare key (key_at ws txt l)) × (link ≡ left_link (record_at ws l))
  pub right : (side ≡ 0 → ⊥)
      → (Ordering.gt ≡ string_compare key (key_at ws txt l)) × (link ≡ right_link (record_at ws l))

-- The records from number n on note the d branches on the way from link up to root, each with its side.
pub data Trail (ws txt : List ℕ) (key : Str) (root : ℕ) : (d n link : ℕ) → Type 0 where
  top : {n : ℕ} → Trail ws txt key root zero n root
  turn : {d n link : ℕ} → SideTaken ws txt key root (noted_link ws n) (noted_side ws n) link
      → Trail ws txt key root d (n + 1) (noted_link ws n) → Trail ws txt key root (suc d) n link

-- Only record number n changes.
pub record Changed (ws ws' : List ℕ) (n : ℕ) : Type 0 where
  pub stays : Stays n ws ws'
  pub rest : drop (n * record_words + record_words) ws' ≡ drop (n * record_words + record_words) ws

-- Record number n becomes a note.
pub record NotePut (ws ws' : List ℕ) (n link side : ℕ) : Type 0 where
  pub changed : Changed ws ws' n
  pub of_link : noted_link ws' n ≡ link
  pub of_side : noted_side ws' n ≡ side

-- The way down to the key's branch, or to where it is missing, is noted in the count records after the used ones.
pub record Marked (ws ws' txt : List ℕ) (key : Str) (records root count : ℕ) : Type 0 where
  pub stays : Stays records ws ws'
  pub rest : drop ((records + count) * record_words) ws' ≡ drop ((records + count) * record_words) ws
  pub some : 0 < count
  pub trail : Trail ws' txt key root (count - 1) (records + 1) (noted_link ws' records)
  pub here : 0 < noted_link ws' records → Ordering.eq ≡ string_compare key (key_at ws' txt (noted_link ws' records))

-- ---- What an insertion leaves

-- The link root′ of the last new record names the tree with the new branch r; the used records and those after the new ones stay.
pub record Inserted (ws ws' txt : List ℕ) (w : Which) (ℓ : Level) (records used root count : ℕ) (r : List ℕ)
    (root' : ℕ) : Type 0 where
  pub last : root' ≡ records + count
  pub sound : Used ws' txt (records + count) used
  pub stays : Stays records ws ws'
  pub rest : drop ((records + count) * record_words) ws' ≡ drop ((records + count) * record_words) ws
  pub link : LinkOk ws' (records + count + 1) root' (kind w (tree ℓ))
  pub reads : what w ws' txt root' (tree ℓ)
      ≡ btree_insert_replace (what w ws txt root (tree ℓ)) (span txt (text_start r) (text_len r))
      (value w txt r (what w ws txt) ℓ)

-- The same, for any table, level and text used that the insertion is of.
abbrev pub Inserts : (ws ws' txt : List ℕ) (records root count : ℕ) (r : List ℕ) (root' : ℕ) → Type 0
Inserts ws ws' txt records root count r root' =
    (w : Which) (ℓ : Level) (used : ℕ) → Insertion ws txt w ℓ records used root count r
    → Inserted ws ws' txt w ℓ records used root count r root'
