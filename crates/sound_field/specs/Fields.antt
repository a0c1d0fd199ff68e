-- What the tests of fields are given, and what they find.
use Rattle.std.specs.Prelude.{ℕ, ◌+◌, ◌*◌, ◌≤◌, ◌<◌, ◌≡◌, Bool, List, length, get_or}
use Rattle.source.specs.Limits.{record_words}
use Rattle.source.specs.Text.{Str}
use Rattle.source.specs.Types.{Level}
use Rattle.source.specs.Rules.{◌<ˢ◌, AllKeys}
use Rattle.memory.specs.Layout.{record_at, word, span, Which, tree, kind, what}
use Rattle.memory.specs.Sound.{Says, LinkOk, RecordOk}
use Rattle.sound_field.specs.declared.Side.{Side}
use Rattle.sound_field.specs.declared.Side.TheVariants.{Left, Right}
use Rattle.sound_field.specs.declared.Ends.{Ends}

-- The record of link l and the used text are lent, and the records before l are right.
pub record Before (ws txt : List ℕ) (used l : ℕ) : Type 0 where
  pub some : 0 < l
  pub fits : l * record_words ≤ length ws
  pub text : used ≤ length txt
  pub rows : (j : ℕ) → 0 < j → j < l → RecordOk ws txt used j

-- k is the kind of the branches of a tree.
pub record TreeKind (k : ℕ) : Type 0 where
  pub which : Which
  pub level : Level
  pub is : k ≡ kind which (tree level)

-- A tree of the kind k that the record of link l names by top, and a key in the used text.
pub record Subtree (ws txt : List ℕ) (used l k top start len : ℕ) : Type 0 where
  pub before : Before ws txt used l
  pub branches : TreeKind k
  pub link : LinkOk ws l top k
  pub inside : start + len ≤ used

-- The way from x by the links in word k ends at r.
pub data Far (ws : List ℕ) (k : ℕ) : ℕ → ℕ → Type 0 where
  here : {x : ℕ} → word (record_at ws x) k ≡ 0 → Far ws k x x
  on : {x r : ℕ} → 0 < word (record_at ws x) k → Far ws k (word (record_at ws x) k) r → Far ws k x r

-- The word of the links on a side, and the end of the way by them, as it is noted.
abbrev pub link_word : Side → ℕ
link_word Left = 3
link_word Right = 4

abbrev pub other : Side → Side
other Left = Right
other Right = Left

abbrev pub end_on : Side → Ends → ℕ
end_on Left e = e.least
end_on Right e = e.greatest

-- The notes of the records before link l, as far as they reach: where their ways by the links on that side end.
pub record NotedOn (ws : List ℕ) (side : Side) (l : ℕ) (notes : List Ends) : Type 0 where
  pub far : (j : ℕ) → 0 < j → j < l → j < length notes
      → Far ws (link_word side) j (end_on side (get_or notes j (record { least = 0; greatest = 0 })))

-- The same of the links on either side.
pub record Noted (ws : List ℕ) (l : ℕ) (notes : List Ends) : Type 0 where
  pub far : (side : Side) (j : ℕ) → 0 < j → j < l → j < length notes
      → Far ws (link_word side) j (end_on side (get_or notes j (record { least = 0; greatest = 0 })))

-- The record of link l can be noted next, on that side.
pub record CanNoteOn (ws : List ℕ) (side : Side) (l : ℕ) (notes : List Ends) : Type 0 where
  pub some : 0 < l
  pub fits : l * record_words ≤ length ws
  pub earlier : word (record_at ws l) (link_word side) < l
  pub noted : NotedOn ws side l notes

-- The same of either side.
pub record CanNote (ws : List ℕ) (l : ℕ) (notes : List Ends) : Type 0 where
  pub some : 0 < l
  pub fits : l * record_words ≤ length ws
  pub earlier : (side : Side) → word (record_at ws l) (link_word side) < l
  pub noted : Noted ws l notes

-- The end of the way from a record can be found.
pub record Ending (ws : List ℕ) (side : Side) (from : ℕ) (notes : List Ends) : Type 0 where
  pub some : 0 < from
  pub fits : from * record_words ≤ length ws
  pub falls : (j : ℕ) → 0 < j → j ≤ from → word (record_at ws j) (link_word side) < j
  pub noted : NotedOn ws side (from + 1) notes

-- x is on the side of y.
abbrev pub On : Side → Str → Str → Type 0
On Left x y = x <ˢ y
On Right x y = y <ˢ x

-- What the answer b says, of each table and level that the kinds are of: all keys of the tree top are on that side of the key.
abbrev pub SaysSide : (ws txt : List ℕ) (side : Side) (k top start len : ℕ) → Bool → Type 0
SaysSide ws txt side k top start len b = (w : Which) (ℓ : Level) → k ≡ kind w (tree ℓ)
    → Says b (AllKeys (λ x. On side x (span txt start len)) (what w ws txt top (tree ℓ)))
