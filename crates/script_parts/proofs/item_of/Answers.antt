-- `item_of` answers by its definition.
use Rattle.std.proofs.Common.{◌≡◌, arith}
use Rattle.script_decimal.specs.Items.{written_kind, written_digits}
use Rattle.source.specs.Items.{kind_letter}
use Rattle.source.specs.declared.ItemKind.TheVariants.{Timer, Port, Register}
use Rattle.script_parts.proofs.Items.{letter_inside, item_says, letter_written, bare_written}
use Rattle.script_parts.proofs.item_of.Goals as goal
use Rattle.script_parts.proofs.item_of.Goals.{in_default-via-then-text-lt1, in_default-via-else-text-lt1+in_default-1}

pub returns-in-116 : goal.returns-in-116
unfolding kind_letter
returns-in-116 c =
    let w = letter_written c.args.text.now Timer (omega arith) in
    item_says c.args.text.now Timer _ w.0 w.1 c.numbered.result c.numbered.ensures

pub returns-in-112 : goal.returns-in-112
unfolding kind_letter
returns-in-112 c =
    let w = letter_written c.args.text.now Port (omega arith) in
    item_says c.args.text.now Port _ w.0 w.1 c.numbered-in-112.result c.numbered-in-112.ensures

pub returns-in-114 : goal.returns-in-114
unfolding kind_letter
returns-in-114 c =
    let w = letter_written c.args.text.now Register (omega arith) in
    item_says c.args.text.now Register _ w.0 w.1 c.numbered-in-114.result c.numbered-in-114.ensures

pub returns-in_default : goal.returns-in_default
unfolding kind_letter
returns-in_default c =
    let s = c.args.text.now in
    let w : (written_kind s ≡ Register) × (written_digits s ≡ s) = elim c.in_default.branch [
      | in_default-via-then-text-lt1 w ↦ bare_written s (λ e. grind (arith, letter_inside)) (λ e. grind (arith, letter_inside))
          (λ e. grind (arith, letter_inside))
      | in_default-via-else-text-lt1+in_default-1 w ↦ bare_written s (λ e. omega arith) (λ e. omega arith) (λ e. omega arith)
    ] in
    item_says s Register _ w.0 w.1 c.numbered-in_default.result c.numbered-in_default.ensures
