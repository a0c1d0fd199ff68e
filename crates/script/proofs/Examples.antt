-- Lines as they are spelled: the session of the requirements and a few more.
use mathlib.Core.Path.{refl}
use mathlib.Core.Bool.{true}
use native.Mathlib.Omega.{arith}
use Rattle.source.specs.Items.{kind_letter}
use Rattle.source.specs.declared.ItemKind.TheVariants.{Timer, Register}
use Rattle.script_decimal.specs.declared.Sort.TheVariants.{Query, Word}
use Rattle.script_decimal.specs.Bytes.{bytes, byte_ok}
use Rattle.script_decimal.specs.Numerals.{value_from}
use Rattle.script_decimal.specs.Items.{written_kind, written_digits}
use Rattle.script_parts.proofs.Runs.{run_all}
use Rattle.script.specs.declared.Import.TheVariants.{Include}
use Rattle.script.specs.declared.Question.TheVariants.{Complete}
use Rattle.script.specs.Script.{key, name, import, module_path, ask, Reads}

-- A number alone is a Register's.
name_line : Reads (bytes "[name [Live.] offset 3]")
    (name (bytes "Live.") (bytes "offset") (record { kind = Register; number = 3 }))
unfolding bytes byte_ok value_from key written_kind written_digits kind_letter
name_line = record {
  short = omega arith;
  spelled = record {
    host_ok = run_all Query (bytes "Live.");
    id_ok = run_all Word (bytes "offset");
    id_some = omega arith;
    word = bytes "3";
    item = record { kind_is = refl; number_is = record { digits = (refl, tt); some = omega arith; lead = λ _. refl; value = refl; fits = omega arith } };
    spelled = refl;
  };
}

timer_line : Reads (bytes "[name [] tick t5]") (name (bytes "") (bytes "tick") (record { kind = Timer; number = 5 }))
unfolding bytes byte_ok value_from key written_kind written_digits kind_letter
timer_line = record {
  short = omega arith;
  spelled = record {
    host_ok = tt;
    id_ok = run_all Word (bytes "tick");
    id_some = omega arith;
    word = bytes "t5";
    item = record { kind_is = refl; number_is = record { digits = (refl, tt); some = omega arith; lead = λ _. refl; value = refl; fits = omega arith } };
    spelled = refl;
  };
}

include_line : Reads (bytes "[include [Live.] [Saved.]]") (import Include (bytes "Live.") (bytes "Saved."))
unfolding bytes byte_ok key
include_line = record {
  short = omega arith;
  spelled = record { host_ok = run_all Query (bytes "Live."); query_ok = run_all Query (bytes "Saved."); spelled = refl };
}

-- A path may hold brackets and spaces, and begin with a space.
module_line : Reads (bytes "[module l [A.]  x] [y]") (module_path true (bytes "A.") (bytes " x] [y"))
unfolding bytes byte_ok key
module_line = record { short = omega arith; spelled = record { query_ok = run_all Query (bytes "A."); spelled = refl } }

complete_line : Reads (bytes "[complete []]") (ask Complete (bytes ""))
unfolding bytes key
complete_line = record { short = omega arith; spelled = record { query_ok = tt; spelled = refl } }
