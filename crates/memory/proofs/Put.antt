-- A right record put after the used ones: the memory stays sound, and the new link reads as the record says.
use Prim.Native.Nat.{ℕ, ◌+◌, ◌-◌, ◌*◌, ◌≤◌, ◌<◌}
use mathlib.Core.Path.{◌≡◌, ◌∙◌}
use mathlib.Core.List.{List}
use native.Mathlib.Omega.{arith}
use lib.ListN.{length}
use lib.Seq.{length-paste, take_all}
use Rattle.source.specs.Types.{bind, ns}
use Rattle.memory.specs.Layout.{record_at, word, Which, Sort, tree, list, trieˢ, kind, Reading, row, what}
use Rattle.memory.specs.Sound.{LinkOk, RecordAs, RecordOk, Used}
use Rattle.memory.specs.Grown.{Stays, put}
use Rattle.memory.proofs.Pasted.{paste_front, paste_part}
use Rattle.memory.proofs.What.{Earlier, what_row}
use Rattle.memory.proofs.RecordOk.{as_earlier, as_map}
use Rattle.memory.proofs.Stays.{what_stays, link_stays, used_more}

module _ (ws r : List ℕ) (n : ℕ) (room : n * 12 + 12 ≤ length ws) (twelve : length r ≡ 12) where
  pub put_stays : Stays n ws (put ws n r)
  unfolding put
  put_stays = record { same = paste_front ws (n * 12) r 12 room (omega arith); size = length-paste ws (n * 12) r 12 room (omega arith) }

  pub put_record : record_at (put ws n r) (n + 1) ≡ r
  unfolding put record_at
  put_record =
      let e : (n + 1 - 1) * 12 ≡ n * 12 = omega arith in
      rw e (paste_part ws (n * 12) r 12 room (omega arith) ∙ take_all 12 r (omega arith))

-- Readings that agree on earlier links.
row_agrees : (w : Which) (txt r : List ℕ) (l : ℕ) (f g : ℕ → Reading w) → ((x : ℕ) → x < l → f x ≡ g x) → (so : Sort)
    → Earlier so r l → row w txt r f so ≡ row w txt r g so
row_agrees w txt r l f g h (tree bind) e = rw (h (word r 3) e.first, h (word r 4) e.second)
row_agrees w txt r l f g h (tree ns) e = rw (h (word r 3) e.first, h (word r 4) e.second, h (word r 5) e.held)
row_agrees w txt r l f g h (list ℓ) e = rw (h (word r 3) e.first, h (word r 4) e.second)
row_agrees w txt r l f g h trieˢ e = rw (h (word r 3) e.first, h (word r 4) e.second)

-- The record r, right as so of the table w, is put as record number n.
module _ {ws txt : List ℕ} {n used : ℕ} (o : Used ws txt n used) (few : n < 65536) (room : n * 12 + 12 ≤ length ws)
    (r : List ℕ) (twelve : length r ≡ 12) (w : Which) (so : Sort) (known : word r 0 ≡ kind w so)
    (right : RecordAs ws txt used (n + 1) w so r (row w txt r (what w ws txt) so)) where
  abbrev after : List ℕ
  after = put ws n r

  stays : Stays n ws after
  stays = put_stays ws r n room twelve

  new : record_at after (n + 1) ≡ r
  new = put_record ws r n room twelve

  earlier : Earlier so r (n + 1)
  earlier = as_earlier ws txt used (n + 1) w so r _ right

  -- The new link reads as the record says, where its links read as before.
  pub put_what : what w after txt (n + 1) so ≡ row w txt r (what w ws txt) so
  put_what =
      what_row w after txt so (n + 1) (omega arith) (rw new earlier)
      ∙ rw new (row_agrees w txt r (n + 1) (what w after txt) (what w ws txt) (λ x h. what_stays stays w txt x (omega arith)) so earlier)

  put_ok : RecordOk after txt used (n + 1)
  put_ok = record {
    which = w;
    sort = so;
    known = rw new known;
    right = rw (new, put_what)
        (as_map {ws = ws} {ws' = after} {txt = txt} {txt' = txt} {used = used} {used' = used} {l = n + 1} {l' = n + 1}
        (λ x k i. link_stays stays (omega arith) (omega arith) i) (λ Rule x k i. i) w so r _ right);
  }

  pub put_used : Used after txt (n + 1) used
  put_used = used_more o stays few room put_ok

  -- The new link is one of the kind.
  pub put_link : LinkOk after (n + 1 + 1) (n + 1) (kind w so)
  put_link = record { earlier = omega arith; of_kind = λ z. rw new known }
