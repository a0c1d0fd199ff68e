-- What the calls for an open of a module and for an include promise.
use Prim.Native.Nat.{ℕ}
use mathlib.Core.Logic.{◌↔◌}
use mathlib.Core.Path.{◌≡◌, refl}
use mathlib.Core.Bool.{Bool, true}
use mathlib.Core.List.{List}
use mathlib.Core.Option.{some}
use Rattle.source.specs.Text.{Str}
use Rattle.source.specs.Calls as C
use Rattle.source.specs.Calls.{Call, include, opens, register}
use Rattle.register_kind.proofs.Shapes.{open_module_is_include}
use Rattle.register.specs.Writes.{laid_texts, untouched}
use Rattle.table.specs.Header.{state, lent}
use Rattle.table.proofs.Answers.{accepts_like}
use Rattle.screen_memory.specs.Memory.{words_in}
use Rattle.screen_calls.specs.Memory.{table_at}
use Rattle.screen_calls.specs.Replies.{RepliesAs, Replies}

-- Calls with the same texts and the same other root are answered alike.
module _ (st bs txt st' bs' txt' : List ℕ) (r : ℕ) (c d : Call) (e : laid_texts c ≡ laid_texts d)
    (f : untouched c ≡ untouched d) where
  replies_like : (v : C.Registered) → RepliesAs v st bs txt st' bs' txt' (some c) r
      → RepliesAs v st bs txt st' bs' txt' (some d) r
  replies_like (C.accepted s) (n, a) = (n, record { size = a.size; table = accepts_like e f a.table; bytes = a.bytes })
  replies_like (C.refused n) a = a

-- name_console_open_module promises what name_console_include does.
pub open_module_replies : {st bs txt st' bs' txt' : List ℕ} {host query : Str} {r : ℕ}
    → Replies st bs txt st' bs' txt' (some (opens true host query)) r ↔ Replies st bs txt st' bs' txt'
    (some (include host query)) r
open_module_replies {st} {bs} {txt} {st'} {bs'} {txt'} {host} {query} {r} =
    let o = opens true host query in
    let i = include host query in
    let v : Bool → Call → C.Registered = λ b. register b (lent (words_in bs) txt) (state (words_in bs) txt (table_at st)) in (
      λ a. record {
        says = λ b h. rw (← open_module_is_include) (replies_like st bs txt st' bs' txt' r o i refl refl (v b o) (a.says b h));
      },
      λ a. record { says = λ b h. rw open_module_is_include (replies_like st bs txt st' bs' txt' r i o refl refl (v b i) (a.says b h)) },
    )
