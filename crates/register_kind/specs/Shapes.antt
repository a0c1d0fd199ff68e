-- The kinds of registration: what each is made of, and its call.
use Rattle.std.specs.Prelude.{ℕ, true, false, cond, List, [], ◌∷◌}
use Rattle.source.specs.Text.{Str}
use Rattle.source.specs.Calls.{Argument, a_query, a_name, a_path, Call, name, include, opens, alias, module_path}
use Rattle.register_kind.specs.declared.CallKind.{CallKind}
use Rattle.register_kind.specs.declared.CallKind.TheVariants.{Name, Include, Open, Alias, Module}
use Rattle.register_kind.specs.declared.Form.{Form}
use Rattle.register_kind.specs.declared.Form.TheVariants as form
use Rattle.register_kind.specs.declared.Shape.{Shape}

-- What a kind is made of.
abbrev pub shape_of : CallKind → Shape
shape_of (Name k n) = record { form = form.Name; keyed = false }
shape_of Include = record { form = form.Import; keyed = false }
shape_of Open = record { form = form.Import; keyed = false }
shape_of Alias = record { form = form.Import; keyed = true }
shape_of (Module loaded) = record { form = form.Module loaded; keyed = false }

-- The key that counts: a key that the kind does not use is ignored.
abbrev pub used_key : CallKind → Str → Str
used_key k key = cond (shape_of k).keyed key []

abbrev pub key_size : CallKind → ℕ → ℕ
key_size k n = cond (shape_of k).keyed n 0

-- The call of a kind with the texts that it uses.
abbrev pub call_with : CallKind → (host other key : Str) → Call
call_with (Name k n) host other key = name host other (record { kind = k; number = n })
call_with Include host other key = include host other
call_with Open host other key = opens false host other
call_with Alias host other key = alias key host other
call_with (Module loaded) host other key = module_path loaded host other

-- The call of a kind with its texts: the host or module query; the id, included query or file path; the key.
abbrev pub call_of : CallKind → (host other key : Str) → Call
call_of k host other key = call_with k host other (used_key k key)

-- The second text as an argument.
abbrev pub argument_as : Form → Str → Argument
argument_as form.Name s = a_name s
argument_as form.Import s = a_query s
argument_as (form.Module loaded) s = a_path s

abbrev pub other_argument : CallKind → Str → Argument
other_argument k s = argument_as (shape_of k).form s

-- The key as an argument.
abbrev pub key_argument : CallKind → Str → List Argument
key_argument k s = cond (shape_of k).keyed (a_name s ∷ []) []
