-- What is written of an item is read as it.
use Prim.Native.Nat.{ℕ, ◌≤◌}
use mathlib.Core.Path.{refl}
use Rattle.source.specs.Items.{kind_letter}
use Rattle.source.specs.declared.ItemKind.{ItemKind}
use Rattle.source.specs.declared.ItemKind.TheVariants.{Timer, Port, Register}
use Rattle.source.specs.declared.LidSymbol.{LidSymbol}
use Rattle.script_decimal.specs.Items.{written_kind, written_digits, ItemText, name_text}
use Rattle.script_decimal.proofs.Decimal.{decimal_reads}

reads : (k : ItemKind) (n : ℕ) → n ≤ 4294967295
    → ItemText (name_text (record { kind = k; number = n })) (record { kind = k; number = n })
unfolding name_text written_kind written_digits kind_letter
reads Timer n h = record { kind_is = refl; number_is = decimal_reads n h }
reads Port n h = record { kind_is = refl; number_is = decimal_reads n h }
reads Register n h = record { kind_is = refl; number_is = decimal_reads n h }

pub item_reads : (c : LidSymbol) → c.number ≤ 4294967295 → ItemText (name_text c) c
item_reads c h = reads c.kind c.number h
