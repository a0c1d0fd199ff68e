-- The symbol of a branch by the one that was read, and the annotation of a found branch.
use Prim.Native.Nat.{ℕ, ◌<◌, ◌≤◌}
use mathlib.Core.Path.{◌≡◌, refl, sym, ap, ◌∙◌}
use mathlib.Core.Bool.{Bool, true, false}
use mathlib.Core.List.{List, []}
use native.Mathlib.Omega.{arith}
use lib.ListN.{length}
use Rattle.source.specs.Text.{Str}
use Rattle.source.specs.Table.{ModSymbol, Module, Namespace, mod_annotation}
use Rattle.memory.specs.Layout.{record_at}
use Rattle.memory.specs.Read.{text_of, symbol_in, symbol_of}
use Rattle.memory.specs.declared.Span.{Span}
use Rattle.memory.specs.declared.ModSymbol.{ModSymbol as Read}
use Rattle.memory.specs.declared.ModSymbol.TheVariants.{Module as ReadModule, Namespace as ReadNamespace}
use Rattle.memory.proofs.Seen.{symbol_item}
use Rattle.listing_ask.specs.declared.Ask.{Ask}
use Rattle.listing_ask.specs.declared.Ask.TheVariants.{Names, Modules}
use Rattle.listing_output.specs.Parts.{TextAt}
use Rattle.listing_annotation.specs.Annotations.{symbol_at, by_symbol, annotation}
use Rattle.listing_annotation.specs.declared.Labelled.{Labelled}
use Rattle.listing_annotation.proofs.NoteAt.{note_short}

pub module_at : (ws txt : List ℕ) (branch : ℕ) {x : Read} {name path : Span} {loaded : Bool}
    → x ≡ symbol_in (record_at ws branch) → x ≡ ReadModule name path loaded
    → symbol_at ws txt branch ≡ Module (text_of txt name) (text_of txt path) loaded
module_at ws txt branch e f = sym (symbol_item txt (record_at ws branch)) ∙ ap (symbol_of txt) (sym e ∙ f)

pub namespace_at : (ws txt : List ℕ) (branch : ℕ) {x : Read} {name : Span} {loaded : Bool}
    → x ≡ symbol_in (record_at ws branch) → x ≡ ReadNamespace name loaded
    → symbol_at ws txt branch ≡ Namespace (text_of txt name) loaded
namespace_at ws txt branch e f = sym (symbol_item txt (record_at ws branch)) ∙ ap (symbol_of txt) (sym e ∙ f)

-- With the source's four annotations of symbols.
abbrev with_four : {A : Type 0} → (Str → Str → Str → Str → A) → A
with_four f =
    f (mod_annotation (Module [] [] true)) (mod_annotation (Module [] [] false)) (mod_annotation (Namespace [] true)) (mod_annotation (Namespace [] false))

abbrev pub noted : Ask → (ws txt : List ℕ) → Labelled → Str
noted ask ws txt f = with_four (annotation ask ws txt f)

pub noted_symbol : (m : ModSymbol) → with_four (by_symbol m) ≡ mod_annotation m
unfolding mod_annotation
noted_symbol (Module name path true) = refl
noted_symbol (Module name path false) = refl
noted_symbol (Namespace name true) = refl
noted_symbol (Namespace name false) = refl

symbol_short : (m : ModSymbol) → length (mod_annotation m) ≤ 543
unfolding mod_annotation
symbol_short (Module name path true) = omega arith
symbol_short (Module name path false) = omega arith
symbol_short (Namespace name true) = omega arith
symbol_short (Namespace name false) = omega arith

-- It is short.
pub noted_short : (ask : Ask) (ws txt : List ℕ) (f : Labelled) → (0 < f.label → TextAt ws txt f.label)
    → length (noted ask ws txt f) ≤ 543
noted_short (Names g) ws txt f t = note_short ws txt f.label t
noted_short (Modules g) ws txt f t = let m = symbol_at ws txt f.link in rw (noted_symbol m) (symbol_short m)
