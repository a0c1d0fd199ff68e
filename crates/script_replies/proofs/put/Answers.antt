-- `put`: the part of the text's length from `at` on is the text.
use Rattle.std.proofs.Common.{◌≡◌, ℕ, ◌+◌, ◌-◌, ◌≤◌, List, ◌++◌, length, take, drop, refl, ap, ap₂, ◌∙◌, arith}
use lib.Seq.{drop-drop}
use borrow.Rule.Slice.PartMut.{put_mid}
use Rattle.text.specs.Laid.{Laid}
use Rattle.script_replies.proofs.put.Goals as goal

laid_part : (d part s : List ℕ) (at : ℕ) → part ≡ s → at + length s ≤ length d
    → Laid d (put_mid at (at + length s - at) d part) at (at + length s) s
laid_part d part s at e h =
    let n : at + length s - at ≡ length s = omega arith in
    record {
      end = refl;
      fits = h;
      is = ap₂ (λ (t : List ℕ) (k : ℕ). take at d ++ (t ++ drop k (drop at d))) e n
          ∙ ap (λ (t : List ℕ). take at d ++ (s ++ t)) (drop-drop (length s) at d);
    }

pub returns : goal.returns
returns c =
    laid_part c.args.out.now c.copy_from_slice.new.self c.args.text.now c.args.at c.copy_from_slice.ensures.after c.requires
