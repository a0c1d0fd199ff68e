-- What is known of a text that was written.
use Rattle.std.specs.Prelude.{◌≡◌, length, Result, IsOk}
use Rattle.source.specs.Text.{Str}

-- What the system takes no contract says; where there is nothing to write, all is written.
pub record Put {T E : Type 0} (text : Str) (r : Result T E) : Type 0 where
  pub none : length text ≡ 0 → IsOk r
