-- Demand 3 of the exported calls: what a caller reads of the lines in the lent bytes shows what look-up replied.
use Rattle.std.specs.Prelude.{ℕ, ◌≡◌, List}
use Rattle.std.proofs.Math.Option.{Option}
use Rattle.source.specs.Text.{Str}
use Rattle.source.specs.Table.{ModSymbol, Line}
use Rattle.source.specs.Calls.{Found}
use Rattle.promises.specs.Agreement.{Agree, EachFound}
use Rattle.source.specs.declared.LidSymbol.{LidSymbol}
use Rattle.memory.specs.Layout.{Which, names, modules, Item}
use Rattle.listing_ask.specs.declared.Ask.{Ask}
use Rattle.listing_row.specs.Rows.{lines_seen}
use Rattle.screen_replies.specs.Filters.{names_for, modules_for}
use Rattle.screen_replies.specs.Replies.{name_reply}
use Rattle.screen_replies.specs.declared.NameReply.{NameReply}
use Rattle.screen_replies.specs.declared.ModuleReply.{ModuleReply}
use Rattle.screen_replies.specs.declared.CompleteReply.{CompleteReply}
use Rattle.screen_memory.specs.Memory.{header_in}
use Rattle.screen_calls.specs.Replies.{RepliesName, SaysModule, RepliesModule}
use Rattle.screen_calls.specs.Completions.{RepliesLines}

-- What a caller holds of a look-up of a name whose reply says a.
pub record HoldsName (st bs txt : List ℕ) (name : Str) (a : Found LidSymbol) : Type 0 where
  pub reply : NameReply
  pub replies : RepliesName st bs txt name reply
  pub is : reply ≡ name_reply a

-- The same of a module or namespace.
pub record HoldsModule (st bs txt : List ℕ) (name : Str) (a : Found ModSymbol) : Type 0 where
  pub reply : ModuleReply
  pub replies : RepliesModule st bs txt name reply
  pub is : SaysModule txt (header_in st) a reply

-- What a caller holds of a completion that is not refused, and the lines that it reads in the lent bytes.
pub record HoldsLines (st bs txt : List ℕ) (w : Which) (ask : Option Ask) (query : Str)
    (lines : List (Line (Item w))) : Type 0 where
  pub budget : ℕ
  pub flat : List ℕ
  pub flat' : List ℕ
  pub out : List ℕ
  pub out' : List ℕ
  pub reply : CompleteReply
  pub replies : RepliesLines st bs txt ask query budget flat flat' out out' reply
  pub listed : reply.answer ≡ 0
  pub read : lines_seen w txt flat' out' reply.lines ≡ lines

-- Whatever bytes are lent, on either root: the lines of a completion of all kinds, or unfiltered, show look-up's reply.
pub record BytesAgree : Type 0 where
  pub names : (st bs txt : List ℕ) → Agree (HoldsName st bs txt) (HoldsLines st bs txt names (names_for 0))
  pub modules : (st bs txt : List ℕ) → Agree (HoldsModule st bs txt) (HoldsLines st bs txt modules (modules_for 0))

-- The other way round, by every number of a filter: each line of a completion is what look-up replies.
pub record BytesFound : Type 0 where
  pub names : (st bs txt : List ℕ) (k : ℕ) → EachFound (HoldsName st bs txt) (HoldsLines st bs txt names (names_for k))
  pub modules : (st bs txt : List ℕ) (k : ℕ)
      → EachFound (HoldsModule st bs txt) (HoldsLines st bs txt modules (modules_for k))
