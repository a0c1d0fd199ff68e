-- Laws of the forms: a line can be of one form only, and its form's tail decides.
use mathlib.Core.Path.{◌≡◌, refl, sym, ap, ◌∙◌, subst}
use mathlib.Core.Bool.{Bool, true, false}
use mathlib.Core.List.{[], ◌∷◌}
use native.Mathlib.Omega.{arith}
use lib.ListN.{length, drop}
use lib.Seq.{drop_at}
use Rattle.source.specs.declared.LidSymbol.{LidSymbol}
use Rattle.script_decimal.specs.declared.Sort.TheVariants.{Query, Word}
use Rattle.script.specs.declared.Import.{Import}
use Rattle.script.specs.declared.Import.TheVariants.{Include, OpenModule, OpenNamespace}
use Rattle.script.specs.declared.Question.{Question}
use Rattle.script.specs.declared.Question.TheVariants.{Find, Complete, Modules}
use Rattle.script.specs.declared.Key.{Key}
use Rattle.script.specs.declared.Key.TheVariants.{Name as NameKey, Alias as AliasKey, Import as ImportKey, Module as ModuleKey, Ask as AskKey}
use Rattle.register_kind.specs.declared.CallKind.TheVariants as kind
use Rattle.register_kind.specs.Shapes.{used_key}
use Rattle.script_decimal.specs.Bytes.{Str, ◌·◌, bytes}
use Rattle.script.specs.Script.{key, Command, name, import, alias, module_path, ask, NameLine, ImportLine, AliasLine, ModuleLine, AskLine, Spelled, Reads}
use Rattle.script.specs.Script.{import_kind, RegistrationLine}
use Rattle.script_parts.specs.Parts.{Piece, IdEnd, PairEnd, QueryEnd}
use Rattle.script_parts.proofs.Runs.{piece_once}
use Rattle.script.specs.Keys.{key_of, Only}
use Rattle.script_parts.proofs.Parts.{stops_query, stops_word}

-- The command's form.
abbrev command_key : Command → Key
command_key (name host id n) = NameKey
command_key (import how host q) = ImportKey how
command_key (alias word host q) = AliasKey
command_key (module_path loaded q path) = ModuleKey loaded
command_key (ask what q) = AskKey what

-- The command is of this form, and the line is spelled so.
abbrev pub Keyed : Str → Command → Key → Type 0
Keyed line c NameKey = (host : Str) × (id : Str) × (item : LidSymbol) × (c ≡ name host id item) × NameLine line host id item
Keyed line c (ImportKey how) = (host : Str) × (q : Str) × (c ≡ import how host q) × ImportLine how line host q
Keyed line c AliasKey = (word : Str) × (host : Str) × (q : Str) × (c ≡ alias word host q) × AliasLine line word host q
Keyed line c (ModuleKey loaded) = (q : Str) × (path : Str) × (c ≡ module_path loaded q path) × ModuleLine loaded line q path
Keyed line c (AskKey what) = (q : Str) × (c ≡ ask what q) × AskLine what line q

spelled_keyed : (line : Str) (c : Command) → Spelled line c → Keyed line c (command_key c)
spelled_keyed line (name host id n) r = (host, id, n, refl, r)
spelled_keyed line (import how host q) r = (host, q, refl, r)
spelled_keyed line (alias word host q) r = (word, host, q, refl, r)
spelled_keyed line (module_path loaded q path) r = (q, path, refl, r)
spelled_keyed line (ask what q) r = (q, refl, r)

key_right : (line : Str) (c : Command) → Spelled line c → key_of line ≡ command_key c
unfolding key_of key bytes
key_right line (name host id n) r = ap key_of r.spelled
key_right line (import Include host q) r = ap key_of r.spelled
key_right line (import OpenModule host q) r = ap key_of r.spelled
key_right line (import OpenNamespace host q) r = ap key_of r.spelled
key_right line (alias word host q) r = ap key_of r.spelled
key_right line (module_path true q path) r = ap key_of r.spelled
key_right line (module_path false q path) r = ap key_of r.spelled
key_right line (ask Find q) r = ap key_of r.spelled
key_right line (ask Complete q) r = ap key_of r.spelled
key_right line (ask Modules q) r = ap key_of r.spelled

-- A command that the line spells is of the one form that the line can be.
pub reads_keyed : (line : Str) (c : Command) → Reads line c → Keyed line c (key_of line)
reads_keyed line c r = subst (Keyed line c) (sym (key_right line c r.spelled)) (spelled_keyed line c r.spelled)

-- No command is spelled where none of that form is.
pub reads_refused : {line : Str} {k : Key} → Only line k → ((c : Command) → Keyed line c k → ⊥) → (c : Command)
    → Reads line c → ⊥
reads_refused {line} o f c r = f c (subst (Keyed line c) o.only (reads_keyed line c r))

-- What follows one word in one line.
pub after : {line : Str} (word : Str) {s t : Str} → line ≡ word · s → line ≡ word · t → s ≡ t
after word {s} {t} a b = sym (drop_at word s (length word) refl) ∙ ap (drop (length word)) (sym a ∙ b) ∙ drop_at word t (length word) refl

-- A line that does not begin with its form's first word is no command.
pub word_none : {line : Str} {k : Key} → Only line k → ((rest : Str) → line ≡ key k · rest → ⊥) → (c : Command)
    → Reads line c → ⊥
word_none {line} {k} o n = reads_refused o (λ c r. begun k c n r)
  where
    begun : (k : Key) (c : Command) → ((rest : Str) → line ≡ key k · rest → ⊥) → Keyed line c k → ⊥
    begun NameKey c n r = n _ r.4.spelled
    begun (ImportKey how) c n r = n _ r.3.spelled
    begun AliasKey c n r = n _ r.4.spelled
    begun (ModuleKey loaded) c n r = n _ r.3.spelled
    begun (AskKey what) c n r = n _ r.2.spelled

-- ---- The form's parts, after its first word

pub name_piece : {line host id s : Str} {c : LidSymbol} → (r : NameLine line host id c)
    → s ≡ host · bytes "] " · id · bytes " " · r.word · bytes "]"
    → Piece Query (93 ∷ 32 ∷ []) s host (id · bytes " " · r.word · bytes "]")
unfolding bytes
name_piece r e = record { ok = r.host_ok; spelled = e }

pub name_id : {line host id s : Str} {c : LidSymbol} → (r : NameLine line host id c)
    → s ≡ id · bytes " " · r.word · bytes "]" → IdEnd s id c
name_id r e = record { id_ok = r.id_ok; id_some = r.id_some; word = r.word; item = r.item; spelled = e }

pub import_pair : {how : Import} {line host q s : Str} → ImportLine how line host q
    → s ≡ host · bytes "] [" · q · bytes "]]" → PairEnd s host q
import_pair r e = record { host_ok = r.host_ok; query_ok = r.query_ok; spelled = e }

pub alias_piece : {line word host q s : Str} → AliasLine line word host q
    → s ≡ word · bytes " [" · host · bytes "] [" · q · bytes "]]"
    → Piece Word (32 ∷ 91 ∷ []) s word (host · bytes "] [" · q · bytes "]]")
unfolding bytes
alias_piece r e = record { ok = r.word_ok; spelled = e }

pub alias_pair : {line word host q s : Str} → AliasLine line word host q → s ≡ host · bytes "] [" · q · bytes "]]"
    → PairEnd s host q
alias_pair r e = record { host_ok = r.host_ok; query_ok = r.query_ok; spelled = e }

pub module_piece : {loaded : Bool} {line q path s : Str} → ModuleLine loaded line q path
    → s ≡ q · bytes "] " · path · bytes "]" → Piece Query (93 ∷ 32 ∷ []) s q (path · bytes "]")
unfolding bytes
module_piece r e = record { ok = r.query_ok; spelled = e }

pub ask_query : {what : Question} {line q s : Str} → AskLine what line q → s ≡ q · bytes "]]" → QueryEnd s q
ask_query r e = record { query_ok = r.query_ok; spelled = e }

-- ---- Each form, found or reads-refused

module _ {line begun : Str} (o : Only line NameKey) (w : line ≡ key NameKey · begun) where
  pub name_none : ((part rest : Str) → Piece Query (93 ∷ 32 ∷ []) begun part rest → ⊥) → (c : Command) → Reads line c
      → ⊥
  name_none n = reads_refused o (λ c k. n _ _ (name_piece k.4 (after (key NameKey) w k.4.spelled)))

  module _ {host rest : Str} (p : Piece Query (93 ∷ 32 ∷ []) begun host rest) where
    pub name_no : ((id : Str) (c : LidSymbol) → IdEnd rest id c → ⊥) → (c : Command) → Reads line c → ⊥
    name_no n = reads_refused o (λ c k. n k.1 k.2
        (name_id k.4 (piece_once Query stops_query p (name_piece k.4 (after (key NameKey) w k.4.spelled))).1))

    pub name_yes : {id : Str} {c : LidSymbol} → IdEnd rest id c
        → RegistrationLine line (kind.Name c.kind c.number) host id []
    unfolding bytes
    name_yes {id} {c = c} r = record {
      command = name host id c;
      reads = record {
        short = o.short;
        spelled = record {
          host_ok = p.ok;
          id_ok = r.id_ok;
          id_some = r.id_some;
          word = r.word;
          item = r.item;
          spelled = w ∙ ap (λ (t : Str). key NameKey · t) (p.spelled ∙ ap (λ (t : Str). host · 93 ∷ 32 ∷ t) r.spelled);
        };
      };
      of_kind = (refl, refl, refl);
      key_used = refl;
    }

-- An import has no key.
import_used : (how : Import) → used_key (import_kind how) [] ≡ []
import_used Include = refl
import_used OpenModule = refl
import_used OpenNamespace = refl

module _ {how : Import} {line begun : Str} (o : Only line (ImportKey how))
    (w : line ≡ key (ImportKey how) · begun) where
  pub import_no : ((host q : Str) → PairEnd begun host q → ⊥) → (c : Command) → Reads line c → ⊥
  import_no n = reads_refused o (λ c k. n k.0 k.1 (import_pair k.3 (after (key (ImportKey how)) w k.3.spelled)))

  pub import_yes : {host q : Str} → PairEnd begun host q → RegistrationLine line (import_kind how) host q []
  import_yes {host} {q} r = record {
    command = import how host q;
    reads = record {
      short = o.short;
      spelled = record {
        host_ok = r.host_ok;
        query_ok = r.query_ok;
        spelled = w ∙ ap (λ (t : Str). key (ImportKey how) · t) r.spelled;
      };
    };
    of_kind = (refl, refl, refl);
    key_used = import_used how;
  }

module _ {line begun : Str} (o : Only line AliasKey) (w : line ≡ key AliasKey · begun) where
  pub alias_none : ((part rest : Str) → Piece Word (32 ∷ 91 ∷ []) begun part rest → ⊥) → (c : Command) → Reads line c
      → ⊥
  alias_none n = reads_refused o (λ c k. n _ _ (alias_piece k.4 (after (key AliasKey) w k.4.spelled)))

  module _ {part rest : Str} (p : Piece Word (32 ∷ 91 ∷ []) begun part rest) where
    pub alias_empty : length part ≡ 0 → (c : Command) → Reads line c → ⊥
    alias_empty h = reads_refused o (λ c k. omega (
      arith,
      k.4.word_some,
      ap length (piece_once Word stops_word p (alias_piece k.4 (after (key AliasKey) w k.4.spelled))).0,
    ))

    pub alias_no : ((host q : Str) → PairEnd rest host q → ⊥) → (c : Command) → Reads line c → ⊥
    alias_no n = reads_refused o (λ c k. n k.1 k.2
        (alias_pair k.4 (piece_once Word stops_word p (alias_piece k.4 (after (key AliasKey) w k.4.spelled))).1))

    pub alias_yes : {host q : Str} → (length part ≡ 0 → ⊥) → PairEnd rest host q
        → RegistrationLine line kind.Alias host q part
    unfolding bytes
    alias_yes {host} {q} some r = record {
      command = alias part host q;
      reads = record {
        short = o.short;
        spelled = record {
          word_ok = p.ok;
          word_some = omega arith;
          host_ok = r.host_ok;
          query_ok = r.query_ok;
          spelled = w ∙ ap (λ (t : Str). key AliasKey · t) (p.spelled ∙ ap (λ (t : Str). part · 32 ∷ 91 ∷ t) r.spelled);
        };
      };
      of_kind = (refl, refl, refl, refl);
      key_used = refl;
    }

module _ {loaded : Bool} {line begun : Str} (o : Only line (ModuleKey loaded))
    (w : line ≡ key (ModuleKey loaded) · begun) where
  pub module_none : ((part rest : Str) → Piece Query (93 ∷ 32 ∷ []) begun part rest → ⊥) → (c : Command) → Reads line c
      → ⊥
  module_none n = reads_refused o (λ c k. n _ _ (module_piece k.3 (after (key (ModuleKey loaded)) w k.3.spelled)))

  module _ {q rest : Str} (p : Piece Query (93 ∷ 32 ∷ []) begun q rest) where
    pub module_no : ((path : Str) → rest ≡ path · bytes "]" → ⊥) → (c : Command) → Reads line c → ⊥
    module_no n = reads_refused o
        (λ c k. n k.1
        (piece_once Query stops_query p (module_piece k.3 (after (key (ModuleKey loaded)) w k.3.spelled))).1)

    pub module_yes : {path : Str} → rest ≡ path · bytes "]" → RegistrationLine line (kind.Module loaded) q path []
    unfolding bytes
    module_yes {path} l = record {
      command = module_path loaded q path;
      reads = record {
        short = o.short;
        spelled = record {
          query_ok = p.ok;
          spelled = w ∙ ap (λ (t : Str). key (ModuleKey loaded) · t) (p.spelled ∙ ap (λ (t : Str). q · 93 ∷ 32 ∷ t) l);
        };
      };
      of_kind = (refl, refl, refl);
      key_used = refl;
    }

module _ {what : Question} {line begun : Str} (o : Only line (AskKey what)) (w : line ≡ key (AskKey what) · begun) where
  pub ask_no : ((q : Str) → QueryEnd begun q → ⊥) → (c : Command) → Reads line c → ⊥
  ask_no n = reads_refused o (λ c k. n k.0 (ask_query k.2 (after (key (AskKey what)) w k.2.spelled)))

  pub ask_yes : {q : Str} → QueryEnd begun q → Reads line (ask what q)
  ask_yes q = record {
    short = o.short;
    spelled = record {
      query_ok = q.query_ok;
      spelled = w ∙ ap (λ (t : Str). key (AskKey what) · t) q.spelled;
    };
  }
