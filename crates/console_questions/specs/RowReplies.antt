-- The replies of rows that stand in the lent output (crate listing_row), and room for them.
use Rattle.std.specs.Prelude.{ℕ, ◌+◌, ◌*◌, ◌/◌, ◌≤◌, List, [], ◌∷◌, length, Err, Ok, Result}
use Rattle.source.specs.Calls.{signed_word}
use Rattle.source.specs.Shared.{Allˡ}
use Rattle.memory.specs.Layout.{Which}
use Rattle.memory.specs.Read.{text_of}
use Rattle.memory.specs.declared.ModSymbol.TheVariants as M
use Rattle.script_decimal.specs.Bytes.{Str, ◌·◌}
use Rattle.script_replies.specs.declared.ItemReply.{ItemReply}
use Rattle.script_replies.specs.declared.ItemReply.TheVariants as reply
use Rattle.script_replies.specs.Replies.{refused_reply, line_reply, end_reply, reply_room}
use Rattle.listing_output.specs.Output.{line_bytes}
use Rattle.listing_row.specs.Rows.{words_from, row_in, TextsIn}
use Rattle.listing_row.specs.declared.RowItem.{RowItem}
use Rattle.listing_row.specs.declared.RowItem.TheVariants.{Name, Symbol}
use Rattle.listing_row.specs.declared.Row.{Row}
use Rattle.refusals.specs.Refusals.{number}
use Rattle.listing.specs.declared.Listed.{Listed}
use Rattle.refusals.specs.declared.Refusal.{Refusal}

-- ---- One row

abbrev pub item_shown : RowItem → ItemReply
item_shown (Name c) = reply.Name c
item_shown (Symbol (M.Module name path loaded)) = reply.Module
item_shown (Symbol (M.Namespace name loaded)) = reply.Namespace

-- Its reply, its texts in the pane.
unfoldable pub row_text : List ℕ → Row → Str
row_text pane r = line_reply (signed_word r.matched) (item_shown r.item) (text_of pane r.annotation)
    (text_of pane r.candidate)

-- Room for it.
abbrev pub row_room : Row → ℕ
row_room r = reply_room + r.annotation.len + r.candidate.len

-- ---- Rows, by their words

unfoldable pub rows_text : Which → List ℕ → List (List ℕ) → Str
rows_text w pane [] = []
rows_text w pane (r ∷ rs) = row_text pane (row_in w r) · rows_text w pane rs

unfoldable pub rows_room : Which → List (List ℕ) → ℕ
rows_room w [] = 0
rows_room w (r ∷ rs) = row_room (row_in w r) + rows_room w rs

-- n whole rows are lent, and their texts lie in the pane.
pub record RowsIn (w : Which) (flat pane : List ℕ) (n : ℕ) : Type 0 where
  pub whole : n * line_bytes ≤ length flat
  pub texts : Allˡ (λ r. TextsIn pane (row_in w r)) (words_from flat 0 n)

-- ---- A completion

-- Room for the reply to any line, where so many lines and bytes of output are lent.
abbrev pub room : (flat pane : List ℕ) → ℕ
room flat pane = length flat / line_bytes * reply_room + length pane + reply_room

-- The lines of a completion stand in flat and pane.
abbrev pub RowsShown : (w : Which) (flat pane : List ℕ) → Result Listed Refusal → Type 0
RowsShown w flat pane (Ok listed) =
    RowsIn w flat pane listed.lines × (rows_room w (words_from flat 0 listed.lines) + reply_room ≤ room flat pane)
RowsShown w flat pane (Err x) = Unit {0}

abbrev pub shown_text : (w : Which) (flat pane : List ℕ) → Result Listed Refusal → Str
shown_text w flat pane (Ok listed) =
    rows_text w pane (words_from flat 0 listed.lines) · end_reply listed.lines listed.entered
shown_text w flat pane (Err x) = refused_reply (number x)
