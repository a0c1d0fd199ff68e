-- What stands in the part that was lent to the read is what it took.
use Rattle.std.proofs.Common.{ℕ, ◌+◌, ◌-◌, ◌≤◌, ◌<◌, ◌≡◌, List, ◌++◌, length, take, drop, slice_range, sym, ap, ◌∙◌, subst, arith, drop_at, length-take-le}
use Rattle.std.specs.Io.KnownBytes.{Consumes}
use borrow.Rule.Slice.PartMut.{put_mid, post_of}
use lib.Seq.{take-append-le}
use lib.ListN.{length-append, length-drop}
use Rattle.console_streams.proofs.fill.Goals as goal

put_mid_range : (a k n : ℕ) (xs ys : List ℕ) → a ≤ length xs → n ≤ length ys
    → slice_range (put_mid a k xs ys) a (a + n) ≡ take n ys
put_mid_range a k n xs ys within fits =
    let same : (a + n) - a ≡ n = omega arith in
    let after = post_of a k xs in
    ap (take ((a + n) - a)) (drop_at (take a xs) (ys ++ after) a (length-take-le a xs within)) ∙ ap (λ m. take m (ys ++ after)) same
    ∙ take-append-le n ys after fits

put_mid_room : (a : ℕ) (xs ys : List ℕ) → a ≤ length xs → a < length (put_mid a (length xs - a) xs ys) → 0 < length ys
put_mid_room a xs ys within room =
    let total = length-append (take a xs) (ys ++ post_of a (length xs - a) xs) in
    let behind = length-append ys (post_of a (length xs - a) xs) in
    let after = length-drop (length xs - a) (drop a xs) in
    omega (arith, room, total, behind, after, length-drop a xs, length-take-le a xs within)

pub returns-clause-taken : goal.returns-clause-taken
returns-clause-taken g c =
    let ys = c.read.new.buf in
    let k = length c.args.input.now - c.args.have in
    let part = put_mid_range c.args.have k c.in_ok-got.got c.args.input.now ys c.requires c.in_ok-got.ensures.bound.0 in (
      subst (Consumes _ _) (sym part) c.in_ok-got.ensures.bytes.0,
      λ none room. c.in_ok-got.ensures.bytes.1 (omega (arith, none)) (put_mid_room _ _ _ c.requires room),
    )
