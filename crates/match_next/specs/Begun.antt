-- A link taken or left by the prefix of its key.
use Rattle.std.specs.Prelude.{ℕ, Option, Some, None}
use Rattle.std.specs.Bool.{then_some}
use Rattle.source.specs.Text.{Str, starts_with}

-- The link where its key begins with p, None where it does not.
unfoldable pub begun : (ℕ → Str) → Str → Option ℕ → Option ℕ
begun key p None = None
begun key p (Some x) = then_some (starts_with (key x) p) x
