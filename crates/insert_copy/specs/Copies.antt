-- The branches that an insertion makes, by the notes of the way down: copies with another side, and the lowest, which is new.
use Rattle.std.specs.Prelude.{ℕ, suc, ◌+◌, ◌*◌, ◌≤◌, ◌<◌, max, ◌≡◌, Bool, true, cond, ◌||◌, List, eqb, length}
use Rattle.source.specs.Limits.{deepest_trie, most_used, record_words}
use Rattle.memory.specs.Layout.{record_at, kind_word, text_start, text_len, left_link, right_link, trie_link, note_link, note_side}
use Rattle.memory.specs.Stored.{depth_in, left_in, right_in}
use Rattle.memory.specs.Made.{sided_row, keyed_row}

-- The link and the side that record number n notes.
abbrev pub noted_link : List ℕ → ℕ → ℕ
noted_link ws n = note_link (record_at ws (n + 1))

abbrev pub noted_side : List ℕ → ℕ → ℕ
noted_side ws n = note_side (record_at ws (n + 1))

-- Whether a kind is that of branches of namespaces.
abbrev pub of_namespaces : ℕ → Bool
of_namespaces k = eqb k 2 || eqb k 7

-- The depth of a branch of namespaces by what its links store; 0 of a branch of bindings.
unfoldable pub branch_depth : List ℕ → (kind held left right : ℕ) → ℕ
branch_depth ws k x a b = cond (of_namespaces k) (max (suc (depth_in ws x)) (max (depth_in ws a) (depth_in ws b))) 0

-- These links can be read, and what a branch of namespaces holds is not too deep.
pub record DepthOk (ws : List ℕ) (kind held left right : ℕ) : Type 0 where
  pub left_fits : left * record_words ≤ length ws
  pub right_fits : right * record_words ≤ length ws
  pub held_fits : of_namespaces kind ≡ true → held * record_words ≤ length ws
  pub shallow : of_namespaces kind ≡ true → depth_in ws held ≤ deepest_trie

-- The words of a branch with the sides a and b.
unfoldable pub with_sides : List ℕ → List ℕ → (left right : ℕ) → List ℕ
with_sides ws r a b = sided_row r a b (branch_depth ws (kind_word r) (trie_link r) a b)

-- The copy of the branch that record number n notes: on the side taken it has the link n.
unfoldable pub raised_row : List ℕ → ℕ → List ℕ
raised_row ws n =
    let r = record_at ws (noted_link ws n) in
    cond (eqb (noted_side ws n) 0) (with_sides ws r n (right_link r)) (with_sides ws r (left_link r) n)

-- What that copy asks.
pub record RaiseOk (ws : List ℕ) (n : ℕ) : Type 0 where
  pub few : n < most_used
  pub room : n * record_words + record_words ≤ length ws
  pub some : 0 < noted_link ws n
  pub fits : noted_link ws n * record_words ≤ length ws
  pub left : DepthOk ws (kind_word (record_at ws (noted_link ws n))) (trie_link (record_at ws (noted_link ws n))) n
      (right_link (record_at ws (noted_link ws n)))
  pub right : DepthOk ws (kind_word (record_at ws (noted_link ws n))) (trie_link (record_at ws (noted_link ws n)))
      (left_link (record_at ws (noted_link ws n))) n

-- The words of a branch with the key of the branch that link x names.
unfoldable pub with_key : List ℕ → List ℕ → ℕ → List ℕ
with_key ws r x = keyed_row r (text_start (record_at ws x)) (text_len (record_at ws x))

-- The new branch r with the key and the sides of the branch that record number n notes; as it is, without sides, where none is noted.
unfoldable pub lowest_row : List ℕ → ℕ → List ℕ → List ℕ
lowest_row ws n r =
    let x = noted_link ws n in
    cond (eqb x 0) (with_sides ws r 0 0)
    (with_sides ws (with_key ws r x) (left_link (record_at ws x)) (right_link (record_at ws x)))

-- What it asks.
pub record LowestOk (ws : List ℕ) (n : ℕ) (r : List ℕ) : Type 0 where
  pub few : n < most_used
  pub room : n * record_words + record_words ≤ length ws
  pub fits : noted_link ws n * record_words ≤ length ws
  pub sides : DepthOk ws (kind_word r) (trie_link r) (left_in ws (noted_link ws n)) (right_in ws (noted_link ws n))
