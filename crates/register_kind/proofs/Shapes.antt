-- The arguments of a kind's call, the text that it takes, and the key that counts.
use Prim.Native.Nat.{ℕ, ◌+◌}
use mathlib.Core.Path.{◌≡◌, refl}
use mathlib.Core.Bool.{Bool, true, false, cond}
use mathlib.Core.List.{[], ◌∷◌, ◌++◌}
use native.Mathlib.Omega.{arith}
use lib.ListN.{length, take}
use lib.Seq.{take-length}
use Rattle.source.specs.Text.{Str}
use Rattle.source.specs.Table.{register_open}
use Rattle.source.specs.Counted.{register_openᶜ}
use Rattle.source.specs.Calls.{Lent, State, a_query, a_name, arguments, text_of, text_taken, registered, records, registration_rows, after, register, include}
use Rattle.source.specs.Calls.{opens}
use Rattle.register_kind.specs.Shapes.{shape_of, used_key, key_size, call_of, argument_as, other_argument, key_argument}
use Rattle.register_kind.specs.declared.CallKind.{CallKind}
use Rattle.register_kind.specs.declared.CallKind.TheVariants.{Name, Include, Open, Alias, Module}
use Rattle.register_kind.specs.declared.Form.{Form}
use Rattle.register_kind.specs.declared.Form.TheVariants as form

pub arguments_of : (k : CallKind) (host other key : Str)
    → arguments (call_of k host other key) ≡ key_argument k key ++ (a_query host ∷ other_argument k other ∷ [])
unfolding arguments
arguments_of (Name k n) host other key = refl
arguments_of Include host other key = refl
arguments_of Open host other key = refl
arguments_of Alias host other key = refl
arguments_of (Module loaded) host other key = refl

-- The text that a call takes.
pub taken_is : (k : CallKind) (host other key : Str)
    → text_taken (arguments (call_of k host other key)) ≡ length host + length other + length (used_key k key)
unfolding text_taken text_of
taken_is k host other key = rw arguments_of (by (shape_of k).form (shape_of k).keyed)
  where
    by : (f : Form) (b : Bool) → text_taken (cond b (a_name key ∷ []) [] ++ (a_query host ∷ argument_as f other ∷ []))
        ≡ length host + length other + length (cond b key [])
    by form.Name true = omega arith
    by form.Name false = omega arith
    by form.Import true = omega arith
    by form.Import false = omega arith
    by (form.Module loaded) true = omega arith
    by (form.Module loaded) false = omega arith

-- ---- The key that counts
pub used_twice : (k : CallKind) (key : Str) → used_key k (used_key k key) ≡ used_key k key
used_twice k key = go (shape_of k).keyed
  where
    go : (b : Bool) → cond b (cond b key []) [] ≡ cond b key []
    go true = refl
    go false = refl

pub used_taken : (k : CallKind) (key : Str) → take (key_size k (length key)) key ≡ used_key k key
used_taken k key = go (shape_of k).keyed
  where
    go : (b : Bool) → take (cond b (length key) 0) key ≡ cond b key []
    go true = take-length key
    go false = refl

-- The key cut to what counts.
module _ (k : CallKind) (key : Str) {n : ℕ} (e : n ≡ key_size k (length key)) where
  pub cut_used : used_key k (take n key) ≡ take n key
  cut_used = rw (e, used_taken, used_twice)

  pub cut_call : (host other : Str) → call_of k host other (take n key) ≡ call_of k host other key
  cut_call host other = rw (e, used_taken, used_twice)

-- An open of a module is an include: the same answer and the same state after it, whatever is lent.
pub open_module_is_include : (sound : Bool) (lent : Lent) (σ : State) (host query : Str)
    → register sound lent σ (opens true host query) ≡ register sound lent σ (include host query)
unfolding register registration_rows after arguments registered register_open records register_openᶜ
open_module_is_include sound lent σ host query = refl
