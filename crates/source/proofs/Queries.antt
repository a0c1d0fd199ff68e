-- Texts that pass rows 2 to 4: their segments are keys, and their labels and full names keep the rules.
use Prim.Native.Nat.{ℕ, ◌-◌, ◌*◌, ◌≤◌, ◌<◌}
use mathlib.Core.Path.{◌≡◌, refl, sym, ap, ◌∙◌}
use mathlib.Core.Bool.{Bool, true, false, not, ◌&&◌, ◌||◌, true≢false, false≢true, or-false}
use mathlib.Core.List.{List, [], ◌∷◌, ◌++◌, reverse, reverse_aux, reverse_aux-eq}
use native.Mathlib.Omega.{arith}
use lib.Dec.{ltb, eqb}
use lib.ListN.{length, take, length-append, length-reverse, length-take}
use native.Mathlib.Numerals.{sub-one}
use borrow.Author.Tests.{eqb-true, ltb-false, not-false}
use Rattle.source.specs.Text.{Str, Query, dot, query_to_string, onto_first, segments, ends_in_dot, name_byte, query_byte, path_byte}
use Rattle.source.specs.Rules.{all, IsKey, IsLabel, IsFullName, IsPath}
use Rattle.source.specs.Table.{name_of_revq}
use Rattle.source.specs.Calls.{is_empty, any, bad_query, long_query}
use Rattle.source.specs.Shared.{Allˡ}
use Rattle.source.proofs.Lookup.{Allˡ-zip}
use Rattle.source.specs.Queries.{IsQuery, IsCompletion}

-- ---- tests
pub and_parts : (a b : Bool) → a && b ≡ true → (a ≡ true) × (b ≡ true)
and_parts true b e = (refl, e)
and_parts false b e = absurd (false≢true e)

pub or_parts : (a b : Bool) → a || b ≡ false → (a ≡ false) × (b ≡ false)
or_parts true b e = absurd (true≢false e)
or_parts false b e = (refl, e)

pub any_false : {A : Type 0} (p : A → Bool) (xs : List A) → any p xs ≡ false → Allˡ (λ a. p a ≡ false) xs
unfolding any
any_false p [] e = tt
any_false p (a ∷ xs) e = let h = or_parts (p a) (any p xs) e in (h.0, any_false p xs h.1)

pub all_map : (p r : ℕ → Bool) → ((b : ℕ) → p b ≡ true → r b ≡ true) → (s : Str) → all p s ≡ true → all r s ≡ true
unfolding all
all_map p r f [] e = refl
all_map p r f (b ∷ s) e = let h = and_parts (p b) (all p s) e in rw (f b h.0) (all_map p r f s h.1)

pub all_append : (p : ℕ → Bool) (s t : Str) → all p s ≡ true → all p t ≡ true → all p (s ++ t) ≡ true
unfolding all
all_append p [] t e f = f
all_append p (b ∷ s) t e f = let h = and_parts (p b) (all p s) e in rw h.0 (all_append p s t h.1 f)

-- ---- lists
Allˡ-beginning : {A : Type 0} (P : A → Type 0) (xs m : List A) → Allˡ P (xs ++ m) → Allˡ P xs
Allˡ-beginning P [] m p = tt
Allˡ-beginning P (a ∷ xs) m p = (p.0, Allˡ-beginning P xs m p.1)

pub nonempty_length : {A : Type 0} (xs : List A) → is_empty xs ≡ false → 1 ≤ length xs
unfolding is_empty
nonempty_length [] e = absurd (true≢false e)
nonempty_length (a ∷ xs) e = omega arith

-- ---- segments

-- A dot ends a segment and is no part of it.
pub segments_name_bytes : (s : Str) → all query_byte s ≡ true → Allˡ (λ g. all name_byte g ≡ true) (segments s)
unfolding segments onto_first all query_byte
segments_name_bytes [] e = tt
segments_name_bytes (b ∷ s) e = let h = and_parts (query_byte b) (all query_byte s) e in go (eqb b dot) h.0 (segments_name_bytes s h.1)
  where
    onto : name_byte b ≡ true → (q : Query) → Allˡ (λ g. all name_byte g ≡ true) q
        → Allˡ (λ g. all name_byte g ≡ true) (onto_first b q)
    onto h [] a = (rw h, tt)
    onto h (g ∷ q) a = (rw h a.0, a.1)

    go : (d : Bool) → name_byte b || d ≡ true → Allˡ (λ g. all name_byte g ≡ true) (segments s)
        → Allˡ (λ g. all name_byte g ≡ true) (elim d [ true ↦ [] ∷ segments s | false ↦ onto_first b (segments s) ])
    go true h a = (refl, a)
    go false h a = onto (sym (or-false (name_byte b)) ∙ h) (segments s) a

-- ---- texts that pass rows 2 to 4

pub name_key : (s : Str) → all name_byte s ≡ true → is_empty s ≡ false → ltb 31 (length s) ≡ false → IsKey s
name_key s b e l = record { bytes = b; long = nonempty_length s e; short = ltb-false 31 (length s) l }

pub path_fits : (s : Str) → all path_byte s ≡ true → ltb 120 (length s) ≡ false → IsPath s
path_fits s b l = record { bytes = b; long = omega arith; short = ltb-false 120 (length s) l }

pub query_name_bytes : (s : Str) → bad_query s ≡ false → Allˡ (λ g. all name_byte g ≡ true) (segments s)
unfolding bad_query
query_name_bytes s e = segments_name_bytes s (not-false (all query_byte s) (or_parts (not (ends_in_dot s)) (not (all query_byte s)) e).1)

pub segments_completion : (s : Str) → bad_query s ≡ false → long_query s ≡ false → IsCompletion (segments s)
unfolding long_query
segments_completion s b l =
    let h = or_parts (any (λ g. ltb 31 (length g)) (segments s)) (ltb 17 (length (segments s))) l in
    record {
      prefixes =
          Allˡ-zip (segments s) (λ g n p. record { bytes = n; long = omega arith; short = ltb-false 31 (length g) p })
          (query_name_bytes s b) (any_false _ (segments s) h.0);
      few = ltb-false 17 (length (segments s)) h.1;
    }

pub segments_query : (s : Str) → bad_query s ≡ false → any is_empty (segments s) ≡ false → long_query s ≡ false
    → IsQuery (segments s)
segments_query s b e l =
    let c = segments_completion s b l in
    record {
      keys = Allˡ-zip (segments s) (λ g f n. record { bytes = f.bytes; long = nonempty_length g n; short = f.short })
          c.prefixes (any_false is_empty (segments s) e);
      few = c.few;
    }

-- ---- labels and full names
name_byte_query_byte : (b : ℕ) → name_byte b ≡ true → query_byte b ≡ true
unfolding query_byte
name_byte_query_byte b e = rw e

key_query_bytes : (s : Str) → IsKey s → all query_byte s ≡ true
key_query_bytes s k = all_map name_byte query_byte name_byte_query_byte s k.bytes

query_to_string_bytes : (q : Query) → Allˡ IsKey q → all query_byte (query_to_string q) ≡ true
unfolding query_to_string all query_byte name_byte
query_to_string_bytes [] a = refl
query_to_string_bytes (s ∷ []) a = key_query_bytes s a.0
query_to_string_bytes (s ∷ (t ∷ q)) a = all_append query_byte s _ (key_query_bytes s a.0) (query_to_string_bytes (t ∷ q) a.1)

-- 31 bytes a segment, and a dot between two.
query_to_string_short : (q : Query) → Allˡ IsKey q → length (query_to_string q) ≤ 32 * length q - 1
unfolding query_to_string
query_to_string_short [] a = omega arith
query_to_string_short (s ∷ []) a = omega arith
query_to_string_short (s ∷ (t ∷ q)) a = rw length-append (omega (arith, query_to_string_short (t ∷ q) a.1))

query_to_string_long : (q : Query) → Allˡ IsKey q → 1 ≤ length q → 1 ≤ length (query_to_string q)
unfolding query_to_string
query_to_string_long [] a h = h
query_to_string_long (s ∷ []) a h = a.0.long
query_to_string_long (s ∷ (t ∷ q)) a h = rw length-append (omega arith)

pub query_to_string_label : (q : Query) → IsQuery q → IsLabel (query_to_string q)
query_to_string_label q i = record {
  bytes = query_to_string_bytes q i.keys;
  long = omega arith;
  short = omega (arith, query_to_string_short q i.keys);
}

pub query_to_string_full_name : (q : Query) → IsQuery q → 1 ≤ length q → IsFullName (query_to_string q)
query_to_string_full_name q i h = let l = query_to_string_label q i in
    record { bytes = l.bytes; long = query_to_string_long q i.keys h; short = l.short }

-- The full name of a beginning of a query, as trie_mutate hands it over: the whole query is reverse_aux revq (id ∷ q).
pub name_of_revq_full_name : (id : Str) (revq q : Query) → IsQuery (reverse_aux revq (id ∷ q))
    → IsFullName (name_of_revq (id ∷ revq))
unfolding name_of_revq
name_of_revq_full_name id revq q i =
    let e : reverse_aux revq (id ∷ q) ≡ reverse (id ∷ revq) ++ q = reverse_aux-eq (id ∷ revq) q in
    query_to_string_full_name (reverse (id ∷ revq))
    (record {
      keys = Allˡ-beginning IsKey (reverse (id ∷ revq)) q (rw e at i).keys;
      few = omega (arith, i.few, ap length e, length-append (reverse (id ∷ revq)) q);
    })
    (omega (arith, length-reverse (id ∷ revq)))

-- ---- the segments byte by byte

pub segments_dot : (b : ℕ) (s : Str) → eqb b dot ≡ true → segments (b ∷ s) ≡ [] ∷ segments s
unfolding segments
segments_dot b s e = rw (e, segments)

pub segments_other : (b : ℕ) (s : Str) → eqb b dot ≡ false → segments (b ∷ s) ≡ onto_first b (segments s)
unfolding segments
segments_other b s e = rw (e, segments)

segments_some : (b : ℕ) (s : Str) → 0 < length (segments (b ∷ s))
unfolding onto_first
segments_some b s = go (eqb b dot) refl
  where
    onto : (q : Query) → 0 < length (onto_first b q)
    onto [] = omega arith
    onto (g ∷ q) = omega arith

    go : (test : Bool) → eqb b dot ≡ test → 0 < length (segments (b ∷ s))
    go true e = rw (segments_dot b s e) (omega arith)
    go false e = rw (segments_other b s e) (onto (segments s))

-- ---- the segments of two texts, the first of which ends in a dot

onto_append : (b : ℕ) (q r : Query) → 0 < length q → onto_first b (q ++ r) ≡ onto_first b q ++ r
unfolding onto_first
onto_append b [] r h = absurd (omega arith)
onto_append b (g ∷ q) r h = refl

pub segments_append : (s t : Str) → ends_in_dot s ≡ true → segments (s ++ t) ≡ segments s ++ segments t
unfolding segments ends_in_dot
segments_append [] t e = refl
segments_append (b ∷ []) t e = rw (segments_dot b t e, segments_dot b [] e)
segments_append (b ∷ (c ∷ s)) t e = go (eqb b dot) refl (segments_append (c ∷ s) t e)
  where
    go : (d : Bool) → eqb b dot ≡ d → segments (c ∷ (s ++ t)) ≡ segments (c ∷ s) ++ segments t
        → segments (b ∷ (c ∷ (s ++ t))) ≡ segments (b ∷ (c ∷ s)) ++ segments t
    go true d i = rw (segments_dot b (c ∷ (s ++ t)) d, segments_dot b (c ∷ s) d, i)
    go false d i = rw (segments_other b (c ∷ (s ++ t)) d, segments_other b (c ∷ s) d, i) (onto_append b (segments (c ∷ s)) (segments t) (segments_some c s))

-- ---- a query as one text: without the last dot

string_onto : (b : ℕ) (q : Query) → query_to_string (onto_first b q) ≡ b ∷ query_to_string q
unfolding onto_first query_to_string
string_onto b [] = refl
string_onto b (g ∷ []) = refl
string_onto b (g ∷ (h ∷ q)) = refl

string_empty : (q : Query) → 0 < length q → query_to_string ([] ∷ q) ≡ dot ∷ query_to_string q
unfolding query_to_string
string_empty [] h = absurd (omega arith)
string_empty (g ∷ q) h = refl

string_cons : (b : ℕ) (s : Str) → ends_in_dot (b ∷ s) ≡ true
    → query_to_string (segments (b ∷ s)) ≡ take (length s) (b ∷ s)
unfolding ends_in_dot segments query_to_string
string_cons b [] e = rw (segments_dot b [] e)
string_cons b (c ∷ s) e = go (eqb b dot) refl (string_cons c s e)
  where
    go : (test : Bool) → eqb b dot ≡ test → query_to_string (segments (c ∷ s)) ≡ take (length s) (c ∷ s)
        → query_to_string (segments (b ∷ (c ∷ s))) ≡ b ∷ take (length s) (c ∷ s)
    go true d ih = rw (segments_dot b (c ∷ s) d) (string_empty (segments (c ∷ s)) (segments_some c s) ∙ cc (eqb-true b dot d))
    go false d ih = rw (segments_other b (c ∷ s) d) (string_onto b (segments (c ∷ s)) ∙ ap (λ (t : Str). b ∷ t) ih)

pub string_is : (s : Str) → ends_in_dot s ≡ true → query_to_string (segments s) ≡ take (length s - 1) s
unfolding segments query_to_string
string_is [] e = refl
string_is (b ∷ s) e = rw sub-one (string_cons b s e)

-- 17 segments, each with a dot.
pub query_bound : (s : Str) → ends_in_dot s ≡ true → IsQuery (segments s) → length s ≤ 544
query_bound s e q = omega (arith, (query_to_string_label (segments s) q).short, ap length (string_is s e), length-take (length s - 1) s)
