-- What an accepted registration leaves as it was: the look-ups and the lines of all names that it does not touch.
-- So an include copies: what is registered in the included module later does not come along.
use Prim.Native.Nat.{ℕ}
use mathlib.Core.Path.{◌≡◌, refl, sym, ap, ◌∙◌}
use mathlib.Core.Bool.{Bool, true, false}
use mathlib.Core.List.{List, [], ◌∷◌, ◌++◌, nil≢cons, tail-eq_of_cons-eq}
use mathlib.Core.Option.{none, some}
use Rattle.source.specs.Text.{Str, Query, query_to_string, segments}
use Rattle.source.specs.Types.{Trie, item, trie, []ᴺ, ImportedNames, bindings, namespaces}
use Rattle.source.specs.Tries.{names_insert, trie_find_exact, trie_insert, included, trie_import, trie_include, trie_open_namespace, trie_add_alias}
use Rattle.source.specs.Table.{Table, Line, insert, register_alias, register_include, register_open, register_module_stays_loaded}
use Rattle.source.specs.Rules.{SoundTable}
use Rattle.source.specs.Calls.{State, Lent, Call, name, include, opens, alias, module_path, accepted, register, registered, after, look_up, first_row}
use Rattle.source.specs.Calls.{argument_rows, a_look_up, Found, found_of, refused, Output, listed, complete}
use Rattle.promises.specs.Agreement.{Covers, without_last, NotRefused, lines_of_text, Shows}
use Rattle.source.specs.Plans.{host_of}
use Rattle.source.specs.declared.LidSymbol.{LidSymbol}
use Rattle.source.specs.declared.KindFilter.TheVariants.{Every}
use Rattle.source.proofs.Elsewhere.{names_find_other}
use Rattle.promises.proofs.Elsewhere.{leaf_elsewhere}
use Rattle.source.proofs.Refusals.{accepted_is}
use Rattle.promises.proofs.Keeps.{accepted_sound}
use Rattle.promises.proofs.Agreement.{agreement}

-- The full names whose look-up or line a call may change: its own name; the names right at the host; those below a namespace of the host; those below the key.
abbrev pub Touches : Call → Query → Type 0
Touches (name host id number) full = full ≡ segments host ++ (id ∷ [])
Touches (include host q) full = (x : Str) × (full ≡ segments host ++ (x ∷ []))
Touches (opens true host q) full = (x : Str) × (full ≡ segments host ++ (x ∷ []))
Touches (opens false host q) full = (x : Str) × (y : Str) × (r : Query) × (full ≡ segments host ++ (x ∷ (y ∷ r)))
Touches (alias key host q) full = (y : Str) × (r : Query) × (full ≡ segments host ++ (key ∷ (y ∷ r)))
Touches (module_path loaded query path) full = ⊥

module _ {A : Type 0} where
  pub name_walk : (tr : Trie A) (host : Query) (id : Str) (v : A) (full : Query) → (full ≡ host ++ (id ∷ []) → ⊥)
      → trie_find_exact (trie_insert tr host id v) full ≡ trie_find_exact tr full
  unfolding trie_insert trie_find_exact bindings namespaces
  name_walk tr host id v full d = leaf_elsewhere _ tr host full (λ rest e. go (host_of tr host) rest (λ f. d (e ∙ ap (λ r. host ++ r) f)))
    where
      go : (at : Trie A) (rest : Query) → (rest ≡ id ∷ [] → ⊥)
          → trie_find_exact (trie (names_insert (bindings at) id (item v)) (namespaces at)) rest
          ≡ trie_find_exact at rest
      go at [] d = refl
      go at (x ∷ []) d = names_find_other (bindings at) id x (item v) (λ e. d (cc))
      go at (x ∷ (y ∷ r)) d = refl

  include_walk : (tr : Trie A) (host q full : Query) → ((x : Str) → full ≡ host ++ (x ∷ []) → ⊥)
      → trie_find_exact (trie_include tr host q) full ≡ trie_find_exact tr full
  unfolding trie_include trie_import trie_find_exact bindings namespaces
  include_walk tr host q full d = leaf_elsewhere _ tr host full (λ rest e. go (host_of tr host) rest (λ x f. d x (e ∙ ap (λ r. host ++ r) f)))
    where
      go : (at : Trie A) (rest : Query) → ((x : Str) → rest ≡ x ∷ [] → ⊥)
          → trie_find_exact (trie (ImportedNames (query_to_string q) (bindings (included tr q)) (bindings at))
          (namespaces at)) rest ≡ trie_find_exact at rest
      go at [] d = refl
      go at (x ∷ []) d = absurd (d x refl)
      go at (x ∷ (y ∷ r)) d = refl

  open_walk : (tr : Trie A) (host q full : Query) → ((x y : Str) (r : Query) → full ≡ host ++ (x ∷ (y ∷ r)) → ⊥)
      → trie_find_exact (trie_open_namespace tr host q) full ≡ trie_find_exact tr full
  unfolding trie_open_namespace trie_import trie_find_exact bindings namespaces
  open_walk tr host q full d = leaf_elsewhere _ tr host full (λ rest e. go (host_of tr host) rest (λ x y r f. d x y r (e ∙ ap (λ r. host ++ r) f)))
    where
      go : (at : Trie A) (rest : Query) → ((x y : Str) (r : Query) → rest ≡ x ∷ (y ∷ r) → ⊥)
          → trie_find_exact (trie (bindings at)
          (ImportedNames (query_to_string q) (namespaces (included tr q)) (namespaces at))) rest
          ≡ trie_find_exact at rest
      go at [] d = refl
      go at (x ∷ []) d = refl
      go at (x ∷ (y ∷ r)) d = absurd (d x y r refl)

  alias_walk : (tr : Trie A) (key : Str) (host q full : Query)
      → ((y : Str) (r : Query) → full ≡ host ++ (key ∷ (y ∷ r)) → ⊥)
      → trie_find_exact (trie_add_alias tr key host q) full ≡ trie_find_exact tr full
  unfolding trie_add_alias trie_import trie_find_exact
  alias_walk tr key host q full d =
      leaf_elsewhere _ tr host full (λ rest e. leaf_elsewhere (λ _. put) (host_of tr host) (key ∷ []) rest (λ r f. go rest r e f))
    where
      put : Trie A
      put = trie (ImportedNames (query_to_string q) (bindings (included tr q)) []ᴺ) []ᴺ

      go : (rest r : Query) → full ≡ host ++ rest → rest ≡ (key ∷ []) ++ r
          → trie_find_exact put r ≡ trie_find_exact (host_of (host_of tr host) (key ∷ [])) r
      go rest [] e f = refl
      go rest (y ∷ r) e f = absurd (d y r (e ∙ ap (λ r. host ++ r) f))

-- Look-up of a name that the call does not touch.
pub find_unchanged : (tbl : Table) (c : Call) (full : Query) → (Touches c full → ⊥)
    → trie_find_exact (registered tbl c).tbl_lids full ≡ trie_find_exact tbl.tbl_lids full
unfolding registered insert register_include register_open register_alias register_module_stays_loaded
find_unchanged tbl (name host id number) full d = name_walk tbl.tbl_lids (segments host) id number full d
find_unchanged tbl (include host q) full d = include_walk tbl.tbl_lids (segments host) (segments q) full (λ x e. d (x, e))
find_unchanged tbl (opens true host q) full d = include_walk tbl.tbl_lids (segments host) (segments q) full (λ x e. d (x, e))
find_unchanged tbl (opens false host q) full d = open_walk tbl.tbl_lids (segments host) (segments q) full (λ x y r e. d (x, y, r, e))
find_unchanged tbl (alias key host q) full d = alias_walk tbl.tbl_lids key (segments host) (segments q) full (λ y r e. d (y, r, e))
find_unchanged tbl (module_path loaded query path) full d = refl

-- ---- the calls
module _ (sound : Bool) (lent : Lent) (σ σ' : State) (c : Call) (e : register sound lent σ c ≡ accepted σ')
    (query : Str) (d : Touches c (segments query) → ⊥) where
  -- An accepted registration changes no look-up on the names root but of the names that it touches.
  pub look_up_unchanged : look_up true σ'.table.tbl_lids query ≡ look_up true σ.table.tbl_lids query
  unfolding look_up after
  look_up_unchanged =
      ap (λ t. look_up true t.table.tbl_lids query) (accepted_is sound lent σ σ' c e)
      ∙ ap (λ o. elim (first_row (argument_rows true (a_look_up query ∷ []))) as (λ _. Found LidSymbol) [ none ↦ found_of o | some n ↦ refused n ])
      (find_unchanged σ.table c (segments query) d)

  -- Nor does it change the lines of other names: completions before and after, of one query that covers the name, both show what look-up finds.
  pub lines_unchanged : SoundTable σ.table → NotRefused (look_up true σ.table.tbl_lids query)
      → (typed : Str) → Covers (segments typed) (segments query)
      → (budget budget' : ℕ) (out out' : Output) (lines lines' : List (Line LidSymbol)) (entered entered' : ℕ)
      → complete true σ.table Every budget out typed ≡ listed lines entered
      → complete true σ'.table Every budget' out' typed ≡ listed lines' entered'
      → Shows (lines_of_text (without_last query) lines) (look_up true σ.table.tbl_lids query)
      × Shows (lines_of_text (without_last query) lines') (look_up true σ.table.tbl_lids query)
  lines_unchanged t asked typed covers budget budget' out out' lines lines' entered entered' f f' = (
    (agreement.names σ.table t).shows query typed _ lines refl asked (budget, out, entered, f) covers,
    (agreement.names σ'.table (accepted_sound sound lent σ σ' c t e)).shows query typed _ lines' look_up_unchanged asked
        (budget', out', entered', f') covers,
  )

-- An accepted name changes no look-up on the names root but that of its own full name.
pub name_unchanged : (sound : Bool) (lent : Lent) (σ σ' : State) (host id : Str) (x : LidSymbol) (query : Str)
    → register sound lent σ (name host id x) ≡ accepted σ' → (segments query ≡ segments host ++ (id ∷ []) → ⊥)
    → look_up true σ'.table.tbl_lids query ≡ look_up true σ.table.tbl_lids query
name_unchanged sound lent σ σ' host id x query e d = look_up_unchanged sound lent σ σ' (name host id x) e query d

-- ---- an include copies

-- A call that leaves the names right at a host alone: its own host is another.
-- An open of a namespace must not stand above the host, and an alias must not put its key on the host's path: those change what the path leads to.
abbrev pub Apart : Query → Call → Type 0
Apart host (name at id number) = host ≡ segments at → ⊥
Apart host (include at q) = host ≡ segments at → ⊥
Apart host (opens true at q) = host ≡ segments at → ⊥
Apart host (opens false at q) = (x : Str) (r : Query) → host ≡ segments at ++ (x ∷ r) → ⊥
Apart host (alias key at q) = (r : Query) → host ≡ segments at ++ (key ∷ r) → ⊥
Apart host (module_path loaded query path) = Unit {0}

not_empty : (q : Query) (x : Str) (r : Query) → [] ≡ q ++ (x ∷ r) → ⊥
not_empty [] x r e = nil≢cons e
not_empty (y ∷ q) x r e = nil≢cons e

same_host : (p q : Query) (x y : Str) → p ++ (x ∷ []) ≡ q ++ (y ∷ []) → p ≡ q
same_host [] [] x y e = refl
same_host [] (k ∷ q) x y e = absurd (not_empty q y [] (tail-eq_of_cons-eq e))
same_host (h ∷ p) [] x y e = absurd (not_empty p x [] (sym (tail-eq_of_cons-eq e)))
same_host (h ∷ p) (k ∷ q) x y e = let f : p ≡ q = same_host p q x y (tail-eq_of_cons-eq e) in cc

beginning : (p q : Query) (x y z : Str) (r : Query) → p ++ (x ∷ []) ≡ q ++ (y ∷ (z ∷ r))
    → (q' : Query) × (p ≡ q ++ (y ∷ q'))
beginning [] [] x y z r e = absurd (nil≢cons (tail-eq_of_cons-eq e))
beginning [] (k ∷ q) x y z r e = absurd (not_empty q y (z ∷ r) (tail-eq_of_cons-eq e))
beginning (h ∷ p) [] x y z r e = (p, cc)
beginning (h ∷ p) (k ∷ q) x y z r e = let f = beginning p q x y z r (tail-eq_of_cons-eq e) in (f.0, let g : p ≡ q ++ (y ∷ f.0) = f.1 in cc)

apart_untouched : (host : Query) (x : Str) (c : Call) → Apart host c → Touches c (host ++ (x ∷ [])) → ⊥
apart_untouched host x (name at id number) a t = a (same_host host (segments at) x id t)
apart_untouched host x (include at q) a t = a (same_host host (segments at) x t.0 t.1)
apart_untouched host x (opens true at q) a t = a (same_host host (segments at) x t.0 t.1)
apart_untouched host x (opens false at q) a t = let f = beginning host (segments at) x t.0 t.1 t.2 t.3 in a t.0 f.0 f.1
apart_untouched host x (alias key at q) a t = let f = beginning host (segments at) x key t.0 t.1 t.2 in a f.0 f.1
apart_untouched host x (module_path loaded query path) a t = t

-- What look-up finds of a name, and what completions show of it, before and after.
pub record Copied (σ σ' : State) (query : Str) : Type 0 where
  pub found : look_up true σ'.table.tbl_lids query ≡ look_up true σ.table.tbl_lids query
  pub shown : SoundTable σ.table → NotRefused (look_up true σ.table.tbl_lids query)
      → (typed : Str) → Covers (segments typed) (segments query)
      → (budget budget' : ℕ) (out out' : Output) (lines lines' : List (Line LidSymbol)) (entered entered' : ℕ)
      → complete true σ.table Every budget out typed ≡ listed lines entered
      → complete true σ'.table Every budget' out' typed ≡ listed lines' entered'
      → Shows (lines_of_text (without_last query) lines) (look_up true σ.table.tbl_lids query)
      × Shows (lines_of_text (without_last query) lines') (look_up true σ.table.tbl_lids query)

-- An include copies the names as they are at that moment: no later registration apart from the including host, in the included module or elsewhere,
-- changes a name right there.
-- For every registration at another host it would be false: after `include [Live.] [Saved.]`, `open n [] [Lib.]` makes `Live.` lead to `Lib.Live.` (`shadowed`
-- in Cases).
pub include_copies : (sound : Bool) (lent : Lent) (σ σ' : State) (c : Call) (host : Query) (x : Str) (query : Str)
    → register sound lent σ c ≡ accepted σ' → Apart host c → segments query ≡ host ++ (x ∷ []) → Copied σ σ' query
include_copies sound lent σ σ' c host x query e a i =
    let d : Touches c (segments query) → ⊥ = rw i (apart_untouched host x c a) in
    record {
      found = look_up_unchanged sound lent σ σ' c e query d;
      shown = lines_unchanged sound lent σ σ' c e query d;
    }

-- ---- all below a host

-- Neither is a beginning of the other.
abbrev pub Diverge : Query → Query → Type 0
Diverge p q = ((r : Query) → p ≡ q ++ r → ⊥) × ((r : Query) → q ≡ p ++ r → ⊥)

-- The call's host diverges from the given one.
abbrev pub Beside : Query → Call → Type 0
Beside host (name at id number) = Diverge host (segments at)
Beside host (include at q) = Diverge host (segments at)
Beside host (opens is_module at q) = Diverge host (segments at)
Beside host (alias key at q) = Diverge host (segments at)
Beside host (module_path loaded query path) = Unit {0}

diverging : (p q r q' : Query) → Diverge p q → p ++ r ≡ q ++ q' → ⊥
diverging [] q r q' d e = d.1 q refl
diverging (h ∷ p) [] r q' d e = d.0 (h ∷ p) refl
diverging (h ∷ p) (k ∷ q) r q' d e = diverging p q r q' (λ x f. d.0 x (cc), λ x f. d.1 x (cc)) (tail-eq_of_cons-eq e)

beside_untouched : (host r : Query) (c : Call) → Beside host c → Touches c (host ++ r) → ⊥
beside_untouched host r (name at id number) b t = diverging host (segments at) r _ b t
beside_untouched host r (include at q) b t = diverging host (segments at) r _ b t.1
beside_untouched host r (opens true at q) b t = diverging host (segments at) r _ b t.1
beside_untouched host r (opens false at q) b t = diverging host (segments at) r _ b t.3
beside_untouched host r (alias key at q) b t = diverging host (segments at) r _ b t.2
beside_untouched host r (module_path loaded query path) b t = t

-- A registration beside a host changes no look-up and no line of any name below that host.
pub beside_copies : (sound : Bool) (lent : Lent) (σ σ' : State) (c : Call) (host r : Query) (query : Str)
    → register sound lent σ c ≡ accepted σ' → Beside host c → segments query ≡ host ++ r → Copied σ σ' query
beside_copies sound lent σ σ' c host r query e b i =
    let d : Touches c (segments query) → ⊥ = rw i (beside_untouched host r c b) in
    record {
      found = look_up_unchanged sound lent σ σ' c e query d;
      shown = lines_unchanged sound lent σ σ' c e query d;
    }
