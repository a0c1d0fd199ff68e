-- Replies as numbers, by what crate table hands back.
use Rattle.std.specs.Prelude.{ℕ, Bool, true, false, Err, None, Ok, Option, Result, Some}
use Rattle.source.specs.Items.{kind_number}
use Rattle.source.specs.Calls as C
use Rattle.source.specs.declared.LidSymbol.{LidSymbol}
use Rattle.refusals.specs.Refusals.{number}
use Rattle.memory.specs.declared.ModSymbol.{ModSymbol}
use Rattle.memory.specs.declared.ModSymbol.TheVariants.{Module, Namespace}
use Rattle.screen_replies.specs.declared.NameReply.{NameReply}
use Rattle.screen_replies.specs.declared.ModuleReply.{ModuleReply}
use Rattle.screen_replies.specs.declared.CompleteReply.{CompleteReply}
use Rattle.screen_replies.specs.declared.SharedReply.{SharedReply}
use Rattle.listing.specs.declared.Listed.{Listed}
use Rattle.refusals.specs.declared.Refusal.{Refusal}

-- ---- Look-ups

-- The answer of a look-up that finds nothing: no refusal has this number.
abbrev pub no_answer : ℕ
no_answer = 4294967295

-- The reply to a look-up of a name: 0 with the kind and number of the item, no-answer, else the number of the refusal.
abbrev pub name_reply : C.Found LidSymbol → NameReply
name_reply (C.found c) = record { answer = 0; kind = kind_number c.kind; number = c.number }
name_reply C.not_found = record { answer = no_answer; kind = 0; number = 0 }
name_reply (C.refused n) = record { answer = n; kind = 0; number = 0 }

-- A yes or no as a number.
abbrev pub flag : Bool → ℕ
flag true = 1
flag false = 0

-- The reply of a number alone.
abbrev pub no_module : ℕ → ModuleReply
no_module n =
    record { answer = n; sort = 0; name_start = 0; name_len = 0; path_start = 0; path_len = 0; loaded = 0 }

-- The reply of a module or namespace, by the spans of its texts. A namespace has no path.
abbrev pub symbol_reply : ModSymbol → ModuleReply
symbol_reply (Module name path loaded) =
    record {
      answer = 0;
      sort = 0;
      name_start = name.start;
      name_len = name.len;
      path_start = path.start;
      path_len = path.len;
      loaded = flag loaded;
    }
symbol_reply (Namespace name loaded) =
    record {
      answer = 0;
      sort = 1;
      name_start = name.start;
      name_len = name.len;
      path_start = 0;
      path_len = 0;
      loaded = flag loaded;
    }

-- The reply to a look-up of a module or namespace: 0 with its symbol, no-answer, else the number of the refusal.
abbrev pub module_reply : Result (Option ModSymbol) Refusal → ModuleReply
module_reply (Ok (Some symbol)) = symbol_reply symbol
module_reply (Ok None) = no_module no_answer
module_reply (Err x) = no_module (number x)

-- ---- Completions

-- The reply of a number alone.
abbrev pub no_lines : ℕ → CompleteReply
no_lines n = record { answer = n; lines = 0; entered = 0 }

-- The reply of crate table's answer.
abbrev pub lines_reply : Result Listed Refusal → CompleteReply
lines_reply (Ok listed) = record { answer = 0; lines = listed.lines; entered = listed.entered }
lines_reply (Err x) = no_lines (number x)

-- The reply to a completion, and a length besides.
abbrev pub shared_reply : CompleteReply → ℕ → SharedReply
shared_reply r n = record { answer = r.answer; lines = r.lines; entered = r.entered; shared = n }

-- What of it is the completion's.
abbrev pub lines_part : SharedReply → CompleteReply
lines_part r = record { answer = r.answer; lines = r.lines; entered = r.entered }
