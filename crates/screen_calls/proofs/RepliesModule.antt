-- What a look-up replies, by what crate table answers.
use Prim.Native.Nat.{ℕ}
use mathlib.Core.Path.{◌≡◌, refl}
use mathlib.Core.Bool.{false}
use mathlib.Core.List.{List}
use Rattle.source.specs.Text.{Str}
use Rattle.source.specs.Types.{Trie}
use Rattle.source.specs.Calls as C
use Rattle.source.specs.Calls.{first_row, argument_rows, look_up}
use Rattle.table_roots.specs.Answers.{name_found}
use Rattle.table.specs.Answers.{Finds, FindsModule}
use Rattle.table.specs.declared.Table.{Table}
use Rattle.refusals.specs.declared.Refusal.TheVariants.{Unsound}
use Rattle.screen_replies.specs.Replies.{name_reply, no_module, module_reply}
use Rattle.screen_replies.specs.declared.NameReply.{NameReply}
use Rattle.screen_replies.specs.declared.ModuleReply.{ModuleReply}
use Rattle.screen_calls.specs.Memory.{SoundBytes}
use Rattle.screen_calls.specs.Replies.{RepliesName, RepliesModule}
use Rattle.screen_calls.proofs.Held.{Held, says_memory, says_unsound}
use Rattle.memory.specs.declared.ModSymbol.{ModSymbol}
use Rattle.source.specs.declared.LidSymbol.{LidSymbol}
use Rattle.table.specs.declared.Answer.{Answer}
use Rattle.std.specs.Prelude.{Err, Option}

look_up_unsound : {A : Type 0} (root : Trie A) (q : Str) → look_up false root q ≡ C.refused 1
unfolding look_up first_row argument_rows
look_up_unsound root q = refl

module _ {st bs txt : List ℕ} {q : Str} (e : SoundBytes st bs txt → ⊥) where
  pub name_unsound : {r : NameReply} → r ≡ name_reply (C.refused 1) → RepliesName st bs txt q r
  name_unsound p = record { says = λ b h. rw (says_unsound b e h, look_up_unsound) p }

  pub module_unsound : {r : ModuleReply} → r ≡ no_module 1 → RepliesModule st bs txt q r
  module_unsound p = record { says = λ b h. record { found = Err Unsound; reply = p; says = rw (says_unsound b e h, look_up_unsound); inside = tt } }

-- A look-up by crate table.
module _ {st bs txt m : List ℕ} {tab : Table} {q : Str} (h : Held st bs m tab) where
  pub name_looked : {f : Answer (Option LidSymbol)} {r : NameReply} → Finds m txt tab q f
      → r ≡ name_reply (name_found f.answer)
      → RepliesName st bs txt q r
  name_looked g p = record { says = λ b i. rw (← h.lent, h.spelt.header, ← g.says b (says_memory txt h b i)) p }

  pub module_looked : {f : Answer (Option ModSymbol)} {r : ModuleReply} → FindsModule m txt tab q f
      → r ≡ module_reply f.answer
      → RepliesModule st bs txt q r
  module_looked {f} g p = record {
    says = λ b i. record {
      found = f.answer;
      reply = p;
      says = rw (← h.lent, h.spelt.header) (g.says b (says_memory txt h b i));
      inside = rw h.spelt.header g.inside;
    };
  }
