-- The argument that asks for help.
use Rattle.std.specs.Prelude.{Bool, ◌||◌}
use Rattle.source.specs.Text.{Str}
use Rattle.source.specs.Shared.{same}
use Rattle.script_decimal.specs.Bytes.{bytes}

-- It is one of these two texts.
abbrev pub is_help : Str → Bool
is_help arg = same arg (bytes "-h") || same arg (bytes "--help")
