-- What the readers give of the words of a record.
use Rattle.std.specs.Prelude.{ℕ, ◌+◌, ◌*◌, ◌<◌, ◌≤◌, ◌≡◌, List, eqb, length}
use Rattle.source.specs.Limits.{record_words}
use Rattle.source.specs.Text.{Str}
use Rattle.source.specs.Table as S
use Rattle.memory.specs.Layout.{record_at, word, text_start, text_len, span, pick}
use Rattle.memory.specs.Stored.{stored}
use Rattle.memory.specs.declared.Span.{Span}
use Rattle.memory.specs.declared.ModSymbol.{ModSymbol}
use Rattle.memory.specs.declared.ModSymbol.TheVariants.{Module, Namespace}
use Rattle.memory.specs.declared.Branch.{Branch}
use Rattle.memory.specs.declared.Collection.{Collection}
use Rattle.memory.specs.declared.Trie.{Trie}

-- The text of a span.
abbrev pub text_of : List ℕ → Span → Str
text_of txt sp = span txt sp.start sp.len

-- Link x names a record whose key or label lies in the text.
pub record TextIn (ws txt : List ℕ) (x : ℕ) : Type 0 where
  pub some : 0 < x
  pub within : x * record_words ≤ length ws
  pub inside : text_start (record_at ws x) + text_len (record_at ws x) ≤ length txt

-- The mod symbol that the words of a bindings branch of the module table hold.
abbrev pub symbol_in : List ℕ → ModSymbol
symbol_in r =
    pick (eqb (word r 5) 0)
    (Module (record { start = word r 6; len = word r 7 }) (record { start = word r 8; len = word r 9 })
    (eqb (word r 10) 1))
    (Namespace (record { start = word r 6; len = word r 7 }) (eqb (word r 10) 1))

-- The source's mod_symbol, with its texts.
abbrev pub symbol_of : List ℕ → ModSymbol → S.ModSymbol
symbol_of txt (Module name path loaded) = S.Module (text_of txt name) (text_of txt path) loaded
symbol_of txt (Namespace name loaded) = S.Namespace (text_of txt name) loaded

-- The words of a branch.
pub record ReadBranch (r : List ℕ) (b : Branch) : Type 0 where
  pub key_start : b.key.start ≡ word r 1
  pub key_len : b.key.len ≡ word r 2
  pub left : b.left ≡ word r 3
  pub right : b.right ≡ word r 4
  pub value : b.value ≡ word r 5
  pub symbol : b.symbol ≡ symbol_in r

-- The words of a collection.
pub record ReadCollection (r : List ℕ) (c : Collection) : Type 0 where
  pub imported : c.imported ≡ eqb (word r 5) 1
  pub label_start : c.label.start ≡ word r 1
  pub label_len : c.label.len ≡ word r 2
  pub own : c.own ≡ word r 3
  pub rest : c.rest ≡ word r 4
  pub weighs : c.weight ≡ word r 10

-- The words of the trie that link x names, 0 where it names none.
pub record ReadTrie (ws : List ℕ) (x : ℕ) (tr : Trie) : Type 0 where
  pub bindings : tr.bindings ≡ stored ws x 3
  pub namespaces : tr.namespaces ≡ stored ws x 4
  pub deep : tr.depth ≡ stored ws x 11
