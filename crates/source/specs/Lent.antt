-- What is lent, as an ensures clause sees it, and what of it stays.
use Rattle.std.specs.Prelude.{ℕ, ◌≡◌, List, length, take, drop}
use denote.Triple.Both.{Both}
use Rattle.std.specs.Borrow.{Bor}

-- What it was at entry.
abbrev pub old : {X : Type 0} → Both (Bor X) (Bor X) → X
old x = x.entry.now

-- What it is at exit.
abbrev pub new : {X : Type 0} → Both (Bor X) (Bor X) → X
new x = x.exit.now

-- A list is as it was, except from a place up to another.
pub record Outside (from to : ℕ) (xs xs' : List ℕ) : Type 0 where
  pub before : take from xs' ≡ take from xs
  pub after : drop to xs' ≡ drop to xs
  pub size : length xs' ≡ length xs
