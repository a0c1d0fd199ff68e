-- The texts of a registration stand where they were put, and the other bytes stay.
use Prim.Native.Nat.{ℕ, ◌+◌, ◌≤◌}
use mathlib.Core.Path.{◌≡◌, sym, ap, ◌∙◌}
use mathlib.Core.List.{List, ◌++◌, append_assoc}
use native.Mathlib.Omega.{arith}
use lib.ListN.{length, drop}
use lib.Seq.{take-add, drop-drop, drop-paste}
use Rattle.source.specs.Text.{Str}
use Rattle.memory.specs.Layout.{span}
use Rattle.memory.specs.Grown.{put_text}
use Rattle.memory.proofs.Keeps.{put_text_keeps, put_text_span, span_keeps}
use Rattle.memory.proofs.Keeps.{keeps_then}
use Rattle.register.specs.Writes.{Stand, TextsLaid}

put_text_beyond : (t : List ℕ) (at : ℕ) (s : Str) (m : ℕ) → at + length s ≤ length t
    → drop (at + length s + m) (put_text t at s) ≡ drop (at + length s + m) t
unfolding put_text
put_text_beyond t at s m h =
    sym (drop-drop m (at + length s) _) ∙ ap (λ (xs : List ℕ). drop m xs) (drop-paste t at s (length s) (omega arith) (omega arith))
    ∙ drop-drop m (at + length s) t

module _ (txt : List ℕ) (at : ℕ) (host other key : Str)
    (room : at + length host + length other + length key ≤ length txt) where
  laid_put : TextsLaid txt (put_text (put_text (put_text txt at host) (at + length host) other)
      (at + length host + length other) key) at host other key
  laid_put =
      let one = put_text txt at host in
      let two = put_text one (at + length host) other in
      let h = put_text_keeps txt at host (omega arith) in
      let i = put_text_keeps one (at + length host) other (omega (arith, h.size)) in
      let j = put_text_keeps two (at + length host + length other) key (omega (arith, h.size, i.size)) in
      let z : at + length host + length other + length key + 0 ≡ at + length host + length other + length key = omega arith in
      let y : at + length host + (length other + length key) ≡ at + length host + length other + length key = omega arith in
      record {
        keeps = keeps_then (omega arith) h (keeps_then (omega arith) i j);
        beyond =
            rw z at (put_text_beyond two (at + length host + length other) key 0 (omega (arith, h.size, i.size)))
            ∙ put_text_beyond one (at + length host) other (length key) (omega (arith, h.size))
            ∙ rw y at (put_text_beyond txt at host (length other + length key) (omega arith));
        stand = record {
          host_at = span_keeps (keeps_then (omega arith) i j) at (length host) (omega arith)
              ∙ put_text_span txt at host (omega arith);
          other_at = span_keeps j (at + length host) (length other) (omega arith)
              ∙ put_text_span one (at + length host) other (omega (arith, h.size));
          key_at = put_text_span two (at + length host + length other) key (omega (arith, h.size, i.size));
        };
      }

  pub texts_laid : {a b c : List ℕ} → a ≡ put_text txt at host → b ≡ put_text a (at + length host) other
      → c ≡ put_text b (at + length host + length other) key → TextsLaid txt c at host other key
  texts_laid e f g = rw (g, f, e) laid_put

-- Together they are the text from there on.
pub stand_all : {txt : List ℕ} {at : ℕ} {host other key : Str} → Stand txt at host other key
    → span txt at (length host + length other + length key) ≡ host ++ (other ++ key)
unfolding span
stand_all {txt} {at} {host} {other} {key} s =
    let e : at + (length host + length other) ≡ at + length host + length other = omega arith in
    take-add (length host + length other) (length key) (drop at txt)
    ∙ rw (take-add (length host) (length other) (drop at txt), append_assoc, drop-drop, drop-drop, e, s.host_at, s.other_at, s.key_at)
