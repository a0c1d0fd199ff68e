-- What a registration writes: its texts, the change of its trie, and the new header.
use Rattle.std.specs.Prelude.{ℕ, ◌+◌, ◌-◌, ◌*◌, ◌≡◌, List, ◌++◌, length, drop}
use Rattle.source.specs.Limits.{record_words}
use Rattle.source.specs.Text.{Str}
use Rattle.source.specs.Calls.{State, Call, name, include, opens, alias, module_path}
use Rattle.memory.specs.Layout.{span, Which, names, modules}
use Rattle.memory_table.specs.Table.{state_of, Sound, root_at}
use Rattle.memory.specs.Grown.{Keeps}
use Rattle.source.specs.Lent.{Outside}
use Rattle.memory_table.specs.declared.Header.{Header}

-- Three texts stand one after another from a place on.
pub record Stand (txt : List ℕ) (at : ℕ) (host other key : Str) : Type 0 where
  pub host_at : span txt at (length host) ≡ host
  pub other_at : span txt (at + length host) (length other) ≡ other
  pub key_at : span txt (at + length host + length other) (length key) ≡ key

-- They have been put there, and no other byte has changed.
pub record TextsLaid (txt txt' : List ℕ) (at : ℕ) (host other key : Str) : Type 0 where
  pub keeps : Keeps at txt txt'
  pub beyond : drop (at + length host + length other + length key) txt'
      ≡ drop (at + length host + length other + length key) txt
  pub stand : Stand txt' at host other key

-- The header with so much text used.
abbrev pub with_text : Header → ℕ → Header
with_text h used = record { names = h.names; modules = h.modules; records = h.records; text = used }

-- The header with another root and other numbers.
abbrev pub with_root : Which → Header → (link records text : ℕ) → Header
with_root names h link records text = record { names = link; modules = h.modules; records = records; text = text }
with_root modules h link records text = record { names = h.names; modules = link; records = records; text = text }

-- The texts of a call as they are laid: host or module query; id, included query or path; an alias's key.
abbrev pub laid_texts : Call → Str
laid_texts (name host id c) = host ++ id
laid_texts (include host included) = host ++ included
laid_texts (opens is_module host included) = host ++ included
laid_texts (alias key host included) = host ++ (included ++ key)
laid_texts (module_path loaded query path) = query ++ path

-- The table whose root a call leaves.
abbrev pub untouched : Call → Which
untouched (name host id c) = modules
untouched (include host included) = modules
untouched (opens is_module host included) = modules
untouched (alias key host included) = modules
untouched (module_path loaded query path) = names

-- By the call c the header h has become h′, which reads as the state σ and has the other root as it was. Only the free part that
-- was taken has changed, and of the text it is the call's texts.
pub record Accepts (ws txt ws' txt' : List ℕ) (h h' : Header) (c : Call) (σ : State) : Type 0 where
  pub reads : state_of ws' txt' h' ≡ σ
  pub sound : Sound ws' txt' h'
  pub other_root : root_at (untouched c) h' ≡ root_at (untouched c) h
  pub words : Outside (h.records * record_words) (h'.records * record_words) ws ws'
  pub text : Outside h.text h'.text txt txt'
  pub laid : span txt' h.text (h'.text - h.text) ≡ laid_texts c
