-- The script's lines as the requirements spell them, and what `parse` answers.
use Rattle.std.specs.Prelude.{◌≡◌, Bool, true, false, Option, Some, None, ◌<◌, ◌≤◌, length}
use Rattle.source.specs.declared.LidSymbol.{LidSymbol}
use Rattle.script_decimal.specs.declared.Sort.TheVariants.{Query, Word}
use Rattle.script_decimal.specs.Bytes.{Str, bytes, ◌·◌, All}
use Rattle.script_decimal.specs.Items.{ItemText}
use Rattle.register_kind.specs.declared.CallKind.{CallKind}
use Rattle.register_kind.specs.declared.CallKind.TheVariants as kind
use Rattle.register_kind.specs.Shapes.{used_key}
use Rattle.script.specs.declared.Import.{Import}
use Rattle.script.specs.declared.Import.TheVariants.{Include, OpenModule, OpenNamespace}
use Rattle.script.specs.declared.Question.{Question}
use Rattle.script.specs.declared.Question.TheVariants.{Find, Complete, Modules}
use Rattle.script.specs.declared.Key.{Key}
use Rattle.script.specs.declared.Key.TheVariants.{Name as NameKey, Alias as AliasKey, Import as ImportKey, Module as ModuleKey, Ask as AskKey}
use Rattle.script.specs.declared.LineForm.{LineForm}
use Rattle.script.specs.declared.LineForm.TheVariants.{Register, Ask as AskForm}

-- ---- The forms

-- What a line of each form begins with.
unfoldable pub key : Key → Str
key NameKey = bytes "[name ["
key AliasKey = bytes "[alias "
key (ImportKey Include) = bytes "[include ["
key (ImportKey OpenModule) = bytes "[open m ["
key (ImportKey OpenNamespace) = bytes "[open n ["
key (ModuleKey true) = bytes "[module l ["
key (ModuleKey false) = bytes "[module u ["
key (AskKey Find) = bytes "[find ["
key (AskKey Complete) = bytes "[complete ["
key (AskKey Modules) = bytes "[modules ["

-- What a line says: its form and the form's parts.
pub data Command : Type 0 where
  name : (host id : Str) (c : LidSymbol) → Command
  import : (how : Import) (host q : Str) → Command
  alias : (word host q : Str) → Command
  module_path : (loaded : Bool) (q path : Str) → Command
  ask : (what : Question) (q : Str) → Command

-- `[name [host] id N]`, N an item: t5, p5, r5, or 5, which is r5.
pub record NameLine (line host id : Str) (c : LidSymbol) : Type 0 where
  pub host_ok : All Query host
  pub id_ok : All Word id
  pub id_some : 0 < length id
  pub word : Str
  pub item : ItemText word c
  pub spelled : line ≡ key NameKey · host · bytes "] " · id · bytes " " · word · bytes "]"

-- `[include [host] [q]]`, `[open m [host] [q]]`, `[open n [host] [q]]`
pub record ImportLine (how : Import) (line host q : Str) : Type 0 where
  pub host_ok : All Query host
  pub query_ok : All Query q
  pub spelled : line ≡ key (ImportKey how) · host · bytes "] [" · q · bytes "]]"

-- `[alias key [host] [q]]`
pub record AliasLine (line word host q : Str) : Type 0 where
  pub word_ok : All Word word
  pub word_some : 0 < length word
  pub host_ok : All Query host
  pub query_ok : All Query q
  pub spelled : line ≡ key AliasKey · word · bytes " [" · host · bytes "] [" · q · bytes "]]"

-- `[module l [q] path]`, `[module u [q] path]`
pub record ModuleLine (loaded : Bool) (line q path : Str) : Type 0 where
  pub query_ok : All Query q
  pub spelled : line ≡ key (ModuleKey loaded) · q · bytes "] " · path · bytes "]"

-- `[find [q]]`, `[complete [q]]`, `[modules [q]]`
pub record AskLine (what : Question) (line q : Str) : Type 0 where
  pub query_ok : All Query q
  pub spelled : line ≡ key (AskKey what) · q · bytes "]]"

-- The line is spelled so.
abbrev pub Spelled : Str → Command → Type 0
Spelled line (name host id c) = NameLine line host id c
Spelled line (import how host q) = ImportLine how line host q
Spelled line (alias word host q) = AliasLine line word host q
Spelled line (module_path loaded q path) = ModuleLine loaded line q path
Spelled line (ask what q) = AskLine what line q

-- A line of at most 2,048 bytes that is spelled so.
pub record Reads (line : Str) (command : Command) : Type 0 where
  pub short : length line ≤ 2048
  pub spelled : Spelled line command

-- ---- What is answered

-- The kind of an import: an open of a module is an include.
abbrev pub import_kind : Import → CallKind
import_kind Include = kind.Include
import_kind OpenModule = kind.Include
import_kind OpenNamespace = kind.Open

-- The command is a registration of this kind, of these texts, as `call_of` of crate register_kind orders them.
abbrev pub OfKind : Command → CallKind → (host other key : Str) → Type 0
OfKind (name host id c) k h o y = (k ≡ kind.Name c.kind c.number) × (h ≡ host) × (o ≡ id)
OfKind (import how host q) k h o y = (k ≡ import_kind how) × (h ≡ host) × (o ≡ q)
OfKind (alias word host q) k h o y = (k ≡ kind.Alias) × (h ≡ host) × (o ≡ q) × (y ≡ word)
OfKind (module_path loaded q path) k h o y = (k ≡ kind.Module loaded) × (h ≡ q) × (o ≡ path)
OfKind (ask what q) k h o y = ⊥

-- The line says a registration of this kind, of these texts. The key is empty where the kind has none.
pub record RegistrationLine (line : Str) (k : CallKind) (host other key : Str) : Type 0 where
  pub command : Command
  pub reads : Reads line command
  pub of_kind : OfKind command k host other key
  pub key_used : used_key k key ≡ key

-- The form that the line is, and its texts; or `None`, and the line is no form.
abbrev pub Parsed : Str → Option LineForm → Type 0
Parsed line (Some (Register k host other key)) = RegistrationLine line k host.now other.now key.now
Parsed line (Some (AskForm what q)) = Reads line (ask what q.now)
Parsed line None = (command : Command) → Reads line command → ⊥
