-- A look-up's reply that is no refusal says one answer.
use Prim.Native.Nat.{ℕ, ◌<◌, ◌≤◌}
use mathlib.Core.Path.{◌≡◌, refl, sym, ap, ap₂, ◌∙◌}
use mathlib.Core.Bool.{Bool, true, false}
use mathlib.Core.List.{List}
use native.Mathlib.Omega.{arith}
use Rattle.source.specs.Items.{kind_number, read_kind}
use Rattle.source.specs.Table as S
use Rattle.source.specs.Calls as C
use Rattle.source.specs.declared.ItemKind.{ItemKind}
use Rattle.source.specs.declared.ItemKind.TheVariants.{Timer, Port, Register}
use Rattle.source.specs.declared.LidSymbol.{LidSymbol}
use Rattle.source.proofs.Items.{number_in}
use Rattle.promises.specs.Agreement.{NotRefused}
use Rattle.refusals.specs.Refusals.{number}
use Rattle.refusals.specs.declared.Refusal.{Refusal}
use Rattle.refusals.specs.declared.Refusal.TheVariants.{Unsound, Malformed, Empty, TooLong, Crowded, Deep, Full, TextFull, Spent, Lines}
use Rattle.memory.specs.Read.{symbol_of}
use Rattle.memory.specs.declared.Span.{Span}
use Rattle.memory.specs.declared.ModSymbol.{ModSymbol}
use Rattle.memory.specs.declared.ModSymbol.TheVariants.{Module, Namespace}
use Rattle.table_roots.specs.Answers.{module_found}
use Rattle.screen_replies.specs.Replies.{name_reply, flag, symbol_reply, module_reply}
use Rattle.screen_replies.specs.declared.NameReply.{NameReply}
use Rattle.screen_replies.specs.declared.ModuleReply.{ModuleReply}
use Rattle.std.specs.Prelude.{Err, None, Ok, Option, Result, Some}

-- ---- Names
kind_number_is : (x y : ItemKind) → kind_number x ≡ kind_number y → x ≡ y
kind_number_is x y e = sym (number_in x) ∙ ap read_kind e ∙ number_in y

pub name_reply_is : (a o : C.Found LidSymbol) → name_reply a ≡ name_reply o → NotRefused a
    → ((n : ℕ) → o ≡ C.refused n → (0 < n) × (n ≤ 10)) → a ≡ o
name_reply_is (C.found x) (C.found y) e ok k =
    ap C.found (ap₂ (λ i n. record { kind = i; number = n }) (kind_number_is x.kind y.kind (ap (λ (r : NameReply). r.kind) e))
    (ap (λ (r : NameReply). r.number) e))
name_reply_is (C.found x) C.not_found e ok k = absurd (omega (arith, ap (λ (r : NameReply). r.answer) e))
name_reply_is (C.found x) (C.refused n) e ok k = absurd (omega (arith, ap (λ (r : NameReply). r.answer) e, (k n refl).0))
name_reply_is C.not_found (C.found y) e ok k = absurd (omega (arith, ap (λ (r : NameReply). r.answer) e))
name_reply_is C.not_found C.not_found e ok k = refl
name_reply_is C.not_found (C.refused n) e ok k = absurd (omega (arith, ap (λ (r : NameReply). r.answer) e, (k n refl).1))
name_reply_is (C.refused m) o e ok k = absurd ok

-- A kind has a number.
kind_some : (k : ItemKind) → ◌≡◌ {A = ℕ} 0 (kind_number k) → ⊥
unfolding kind_number
kind_some Timer e = omega (arith, e)
kind_some Port e = omega (arith, e)
kind_some Register e = omega (arith, e)

-- A reply that says an item says no refusal.
pub name_reply_found : (a : C.Found LidSymbol) (x : LidSymbol) → name_reply a ≡ name_reply (C.found x) → NotRefused a
name_reply_found (C.found y) x e = tt
name_reply_found C.not_found x e = tt
name_reply_found (C.refused n) x e = absurd (kind_some x.kind (ap (λ (r : NameReply). r.kind) e))

-- ---- Modules and namespaces
flag_is : (x y : Bool) → flag x ≡ flag y → x ≡ y
flag_is true true e = refl
flag_is false false e = refl
flag_is true false e = absurd (omega (arith, e))
flag_is false true e = absurd (omega (arith, e))

span_is : (x y : Span) → x.start ≡ y.start → x.len ≡ y.len → x ≡ y
span_is x y e f = ap₂ (λ s n. record { start = s; len = n }) e f

symbol_reply_is : (x y : ModSymbol) → symbol_reply x ≡ symbol_reply y → x ≡ y
symbol_reply_is (Module n p l) (Module n' p' l') e =
    let i = span_is n n' (ap (λ (r : ModuleReply). r.name_start) e) (ap (λ (r : ModuleReply). r.name_len) e) in
    let j = span_is p p' (ap (λ (r : ModuleReply). r.path_start) e) (ap (λ (r : ModuleReply). r.path_len) e) in
    rw (i, j, flag_is l l' (ap (λ (r : ModuleReply). r.loaded) e))
symbol_reply_is (Namespace n l) (Namespace n' l') e =
    let i = span_is n n' (ap (λ (r : ModuleReply). r.name_start) e) (ap (λ (r : ModuleReply). r.name_len) e) in
    rw (i, flag_is l l' (ap (λ (r : ModuleReply). r.loaded) e))
symbol_reply_is (Module n p l) (Namespace n' l') e = absurd (omega (arith, ap (λ (r : ModuleReply). r.sort) e))
symbol_reply_is (Namespace n l) (Module n' p' l') e = absurd (omega (arith, ap (λ (r : ModuleReply). r.sort) e))

-- A module or namespace is answered with 0.
symbol_answer : (symbol : ModSymbol) → (symbol_reply symbol).answer ≡ 0
symbol_answer (Module n p l) = refl
symbol_answer (Namespace n l) = refl

pub module_reply_is : (txt : List ℕ) (g h : Result (Option ModSymbol) Refusal) → module_reply g ≡ module_reply h
    → NotRefused (module_found txt g)
    → ((n : ℕ) → module_found txt h ≡ C.refused n → (0 < n) × (n ≤ 10)) → module_found txt g ≡ module_found txt h
module_reply_is txt (Ok (Some x)) (Ok (Some y)) e ok k = ap (λ s. C.found (symbol_of txt s)) (symbol_reply_is x y e)
module_reply_is txt (Ok (Some x)) (Ok None) e ok k = absurd (omega (arith, symbol_answer x, ap (λ (r : ModuleReply). r.answer) e))
module_reply_is txt (Ok (Some x)) (Err n) e ok k =
    absurd (omega (arith, symbol_answer x, ap (λ (r : ModuleReply). r.answer) e, (k (number n) refl).0))
module_reply_is txt (Ok None) (Ok (Some y)) e ok k = absurd (omega (arith, symbol_answer y, ap (λ (r : ModuleReply). r.answer) e))
module_reply_is txt (Ok None) (Ok None) e ok k = refl
module_reply_is txt (Ok None) (Err n) e ok k = absurd (omega (arith, ap (λ (r : ModuleReply). r.answer) e, (k (number n) refl).1))
module_reply_is txt (Err m) h e ok k = absurd ok

-- A refusal has a number.
number_some : (x : Refusal) → number x ≡ 0 → ⊥
number_some Unsound e = omega (arith, e)
number_some Malformed e = omega (arith, e)
number_some Empty e = omega (arith, e)
number_some TooLong e = omega (arith, e)
number_some Crowded e = omega (arith, e)
number_some Deep e = omega (arith, e)
number_some Full e = omega (arith, e)
number_some TextFull e = omega (arith, e)
number_some Spent e = omega (arith, e)
number_some Lines e = omega (arith, e)

-- A reply that says a module or namespace says no refusal.
pub module_reply_found : (txt : List ℕ) (g h : Result (Option ModSymbol) Refusal) {y : S.ModSymbol}
    → module_reply g ≡ module_reply h
    → module_found txt h ≡ C.found y → NotRefused (module_found txt g)
module_reply_found txt (Ok (Some x)) h e f = tt
module_reply_found txt (Ok None) h e f = tt
module_reply_found txt (Err m) (Ok (Some s)) e f =
    absurd (number_some m (ap (λ (r : ModuleReply). r.answer) e ∙ symbol_answer s))
module_reply_found txt (Err m) (Ok None) e f = let z : ◌≡◌ {A = ℕ} 0 1 = cc in absurd (omega arith)
module_reply_found txt (Err m) (Err n) e f = let z : ◌≡◌ {A = ℕ} 0 1 = cc in absurd (omega arith)
