-- Notes of where the ways by links end, and a way that goes on until it is noted.
use Prim.Native.Nat.{ℕ, ◌+◌, ◌<◌, ◌≤◌}
use mathlib.Core.Path.{◌≡◌}
use mathlib.Core.List.{List}
use native.Mathlib.Omega.{arith}
use lib.ListN.{length, get_or}
use Rattle.memory.specs.Layout.{record_at, word}
use Rattle.sound_field.specs.Fields.{link_word, end_on, Far, here, on, NotedOn, Noted, CanNoteOn, CanNote, Ending}
use Rattle.sound_field.specs.declared.Side.{Side}
use Rattle.sound_field.specs.declared.Ends.{Ends}

-- What stands past the notes.
abbrev none_noted : Ends
none_noted = record { least = 0; greatest = 0 }

-- Of either side, so of one.
pub noted_on : {ws : List ℕ} {notes : List Ends} {side : Side} {l : ℕ} → Noted ws l notes → NotedOn ws side l notes
noted_on {side = side} n = record { far = n.far side }

pub can_note_on : {ws : List ℕ} {notes : List Ends} {side : Side} {l : ℕ} → CanNote ws l notes
    → CanNoteOn ws side l notes
can_note_on {side = side} n = record { some = n.some; fits = n.fits; earlier = n.earlier side; noted = noted_on n.noted }

module _ {ws : List ℕ} {notes : List Ends} {side : Side} {l next : ℕ} (n : CanNoteOn ws side l notes)
    (e : next ≡ word (record_at ws l) (link_word side)) where
  pub far_on : (next ≡ 0 → ⊥) → l < length notes
      → Far ws (link_word side) l (end_on side (get_or notes next none_noted))
  far_on p h =
      let q : 0 < word (record_at ws l) (link_word side) = omega (arith, e) in
      rw e (on q (n.noted.far (word (record_at ws l) (link_word side)) q n.earlier (omega (arith, n.earlier))))

  pub far_here : next ≡ 0 → Far ws (link_word side) l l
  far_here p = let z : word (record_at ws l) (link_word side) ≡ 0 = omega (arith, e) in here {x = l} z

-- On the way from a record: the end of what is left is the end of the whole.
pub record Going (ws : List ℕ) (k from x : ℕ) : Type 0 where
  pub some : 0 < x
  pub within : x ≤ from
  pub back : (r : ℕ) → Far ws k x r → Far ws k from r

module _ {ws : List ℕ} {notes : List Ends} {side : Side} {from : ℕ} (n : Ending ws side from notes) where
  pub going_start : Going ws (link_word side) from from
  going_start = record { some = n.some; within = omega arith; back = λ r f. f }

  module _ {x next : ℕ} (g : Going ws (link_word side) from x) (e : next ≡ word (record_at ws x) (link_word side)) where
    pub going_less : next < x
    going_less = omega (arith, e, n.falls x g.some g.within)

    pub going_on : (next ≡ 0 → ⊥) → Going ws (link_word side) from next
    going_on q =
        let p : 0 < word (record_at ws x) (link_word side) = omega (arith, e, q) in
        record {
          some = omega (arith, e, p);
          within = omega (arith, going_less, g.within);
          back = λ r f. g.back r (on p (rw e at f));
        }

    pub going_end : next ≡ 0 → Far ws (link_word side) from x
    going_end z = let h : word (record_at ws x) (link_word side) ≡ 0 = omega (arith, e) in g.back x (here {x = x} h)

  pub going_noted : {x : ℕ} → Going ws (link_word side) from x → x < length notes
      → Far ws (link_word side) from (end_on side (get_or notes x none_noted))
  going_noted {x} g h = g.back _ (n.noted.far x g.some (omega (arith, g.within)) h)

-- The notes of earlier records, as far as a link.
pub noted_upto : {ws : List ℕ} {notes : List Ends} {side : Side} {l x : ℕ} → NotedOn ws side l notes → x < l
    → NotedOn ws side (x + 1) notes
noted_upto n h = record { far = λ j p q b. n.far j p (omega arith) b }
