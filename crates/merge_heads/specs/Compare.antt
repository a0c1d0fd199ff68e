-- How two cells compare: by the keys of their heads, then by their priorities.
use Prim.Native.Nat.{ℕ, zero, suc, ◌≤◌, ◌<◌, compare, Ordering}
use Rattle.std.specs.Prelude.{◌≡◌, List, ℤ, pos, negsuc, map, get_or, set}
use Rattle.source.specs.Limits.{heaviest_list}
use Rattle.source.specs.Text.{Str, then, string_compare}
use Rattle.source.specs.Lists.{Run, first, priority}
use Rattle.text.specs.Text.{beginning}
use Rattle.memory.specs.Read.{TextIn}
use Rattle.memory.specs.Layout.{key_at}
use Rattle.merge_heads.specs.declared.Cell.{Cell}

-- What the cells have, one list for each: the trees, their labels, the heads and the beginnings of the heads' keys.
abbrev pub roots : List Cell → List ℕ
roots cells = map (λ c. c.root) cells

abbrev pub labels : List Cell → List ℕ
labels cells = map (λ c. c.label) cells

abbrev pub heads : List Cell → List ℕ
heads cells = map (λ c. c.head) cells

abbrev pub beginnings : List Cell → List ℕ
beginnings cells = map (λ c. c.beginning) cells

-- The beginning kept for the cell j is that of its head's key.
abbrev pub Begun : (ws txt heads beginnings : List ℕ) (j : ℕ) → Type 0
Begun ws txt heads beginnings j = get_or beginnings j 0 ≡ beginning (key_at ws txt (get_or heads j 0))

-- The beginnings, once the cell c has the branch x.
abbrev pub with_beginning : (ws txt beginnings : List ℕ) (c x : ℕ) → List ℕ
with_beginning ws txt beginnings c x = set beginnings c (beginning (key_at ws txt x))

-- The cell c is given the branch x, and nothing else is changed.
pub record HeadSet (ws txt : List ℕ) (cells cells' : List Cell) (c x : ℕ) : Type 0 where
  pub roots_are : roots cells' ≡ roots cells
  pub labels_are : labels cells' ≡ labels cells
  pub heads_are : heads cells' ≡ set (heads cells) c x
  pub beginnings_are : beginnings cells' ≡ with_beginning ws txt (beginnings cells) c x

-- One of 96 cells. Its head is a link of a record with its key in the text, whose beginning stands beside.
pub record Head (ws txt heads beginnings : List ℕ) (j : ℕ) : Type 0 where
  pub small : j < heaviest_list
  pub text_in : TextIn ws txt (get_or heads j 0)
  pub begun : Begun ws txt heads beginnings j

-- The cells below n, at most 96, have a head each.
pub record Heads (ws txt heads beginnings : List ℕ) (n : ℕ) : Type 0 where
  pub few : n ≤ heaviest_list
  pub each : (j : ℕ) → j < n → Head ws txt heads beginnings j

-- The source's run-cmp on cells: a cell's place is its priority.
unfoldable pub cell_cmp : List ℕ → List ℕ → List ℕ → ℕ → ℕ → Ordering
cell_cmp ws txt heads a b =
    then (string_compare (key_at ws txt (get_or heads a 0)) (key_at ws txt (get_or heads b 0))) (compare a b)

-- The answer that a number gives by its sign.
abbrev pub sign : ℤ → Ordering
sign (negsuc k) = Ordering.lt
sign (pos zero) = Ordering.eq
sign (pos (suc k)) = Ordering.gt

-- The cell j stands for the list r.
pub record Stands {A : Type 0} (key : A → Str) (ws txt heads : List ℕ) (j : ℕ) (r : Run A) : Type 0 where
  pub key_is : key (first r) ≡ key_at ws txt (get_or heads j 0)
  pub priority_is : priority r ≡ j
