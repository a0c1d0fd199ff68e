-- What a look-up and a completion reply, from the source's functions and the requirements' replies.
use Rattle.std.specs.Prelude.{ℕ, true, List, [], ◌∷◌, length}
use Rattle.source.specs.Table as S
use Rattle.source.specs.Table.{Line}
use Rattle.source.specs.Calls as C
use Rattle.source.specs.Calls.{Output, look_up, complete, complete_modules}
use Rattle.source.specs.declared.LidSymbol.{LidSymbol}
use Rattle.source.specs.declared.KindFilter.TheVariants.{Every}
use Rattle.memory.specs.Layout.{Which, names, modules, Item}
use Rattle.script_decimal.specs.Bytes.{Str, ◌·◌}
use Rattle.script.specs.declared.Question.{Question}
use Rattle.script.specs.declared.Question.TheVariants.{Find, Complete, Modules}
use Rattle.script_replies.specs.declared.ItemReply.{ItemReply}
use Rattle.script_replies.specs.declared.ItemReply.TheVariants.{Name, Module, Namespace}
use Rattle.script_replies.specs.Replies.{found_reply, none_reply, refused_reply, line_reply, end_reply}

-- The requirements' budget of a completion.
abbrev pub budget : ℕ
budget = 4096

abbrev pub found_text : C.Found LidSymbol → Str
found_text (C.found n) = found_reply n
found_text C.not_found = none_reply
found_text (C.refused n) = refused_reply n

-- The item of a line: its kind and number in `complete`, m or n in `modules`.
abbrev pub item_reply : (w : Which) → Item w → ItemReply
item_reply names c = Name c
item_reply modules (S.Module full path loaded) = Module
item_reply modules (S.Namespace full loaded) = Namespace

-- One `[line ..]`.
unfoldable pub line_text : (w : Which) → Line (Item w) → Str
line_text w ln = line_reply ln.match_length (item_reply w ln.item_of) ln.annotation ln.candidate

-- One after another.
unfoldable pub lines_text : (w : Which) → List (Line (Item w)) → Str
lines_text w [] = []
lines_text w (ln ∷ ls) = line_text w ln · lines_text w ls

-- The lines, then `[end lines entered]`.
abbrev pub completed_text : (w : Which) → C.Completed (Item w) → Str
completed_text w (C.listed lines entered) = lines_text w lines · end_reply (length lines) entered
completed_text w (C.refused n) = refused_reply n

abbrev pub asked_text : Output → S.Table → Question → Str → Str
asked_text out tbl Find q = found_text (look_up true tbl.tbl_lids q)
asked_text out tbl Complete q = completed_text names (complete true tbl Every budget out q)
asked_text out tbl Modules q = completed_text modules (complete_modules true tbl C.All budget out q)
