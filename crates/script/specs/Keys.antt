-- The only form that a line can be, by its first bytes.
use Rattle.std.specs.Prelude.{◌≡◌, Bool, true, false, ℕ, ◌≤◌, eqb, length, get_or}
use Rattle.script_decimal.specs.Bytes.{Str}
use Rattle.script.specs.declared.Import.TheVariants.{Include, OpenModule, OpenNamespace}
use Rattle.script.specs.declared.Question.TheVariants.{Find, Complete, Modules}
use Rattle.script.specs.declared.Key.{Key}
use Rattle.script.specs.declared.Key.TheVariants.{Name, Alias, Import, Module, Ask}

-- The first where the test holds, else the second.
abbrev pub pick : Bool → Key → Key → Key
pick true a b = a
pick false a b = b

-- The only form that a line can be, by its second byte b and one more, c or d.
abbrev pub key_by : ℕ → ℕ → ℕ → Key
key_by b c d =
    pick (eqb b 110) Name (pick (eqb b 97) Alias (pick (eqb b 105) (Import Include)
    (pick (eqb b 111) (pick (eqb c 109) (Import OpenModule) (Import OpenNamespace))
    (pick (eqb b 102) (Ask Find) (pick (eqb b 99) (Ask Complete)
    (pick (eqb d 108) (Module true) (pick (eqb d 117) (Module false) (Ask Modules))))))))

-- The only form that a line can be.
unfoldable pub key_of : Str → Key
key_of line = key_by (get_or line 1 0) (get_or line 6 0) (get_or line 8 0)

-- A line of a length that is read, and that can only be of this form.
pub record Only (line : Str) (k : Key) : Type 0 where
  pub short : length line ≤ 2048
  pub only : key_of line ≡ k
