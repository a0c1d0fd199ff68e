-- The shared beginning of texts is a beginning of each, and none longer is: shared-beginning.
use Prim.Native.Nat.{◌≤◌}
use mathlib.Core.Path.{refl, sym, ◌∙◌}
use mathlib.Core.Bool.{true≢false}
use mathlib.Core.List.{List, [], ◌∷◌}
use lib.ListN.{length}
use Rattle.source.specs.Text.{Str, starts_with, common_prefix}
use Rattle.source.specs.Listing.{fold_left}
use Rattle.source.specs.Calls.{shared_beginning}
use Rattle.source.specs.Shared.{Allˡ}
use Rattle.source.proofs.SharedBeginning.{Begins, begins_next, begins_parts, begins_length, common_same, common_begins}

-- ---- Beginnings

begins_itself : (s : Str) → Begins s s
unfolding starts_with
begins_itself [] = refl
begins_itself (a ∷ s) = begins_next a a s s refl (begins_itself s)

begins_whole : (p q s : Str) → Begins p q → Begins q s → Begins p s
unfolding starts_with
begins_whole [] q s h k = refl
begins_whole (a ∷ p) [] s h k = absurd (true≢false (sym h))
begins_whole (a ∷ p) (b ∷ q) [] h k = absurd (true≢false (sym k))
begins_whole (a ∷ p) (b ∷ q) (c ∷ s) h k =
    let u = begins_parts b a p q h in
    let v = begins_parts c b q s k in
    begins_next c a p s (v.0 ∙ u.0) (begins_whole p q s u.1 v.1)

-- ---- Of two texts

common_longest : (p s t : Str) → Begins p s → Begins p t → Begins p (common_prefix s t)
unfolding starts_with
common_longest [] s t h k = refl
common_longest (c ∷ p) [] t h k = absurd (true≢false (sym h))
common_longest (c ∷ p) (a ∷ s) [] h k = absurd (true≢false (sym k))
common_longest (c ∷ p) (a ∷ s) (b ∷ t) h k =
    let u = begins_parts a c p s h in
    let v = begins_parts b c p t k in
    rw (common_same a b s t (u.0 ∙ sym v.0)) (begins_next a c p (common_prefix s t) u.0 (common_longest p s t u.1 v.1))

-- ---- Of all

narrowed_begins : (s : Str) (ss : List Str) → Allˡ (Begins (fold_left common_prefix s ss)) (s ∷ ss)
unfolding fold_left
narrowed_begins s [] = (begins_itself s, tt)
narrowed_begins s (t ∷ ss) =
    let r = narrowed_begins (common_prefix s t) ss in
    let p : Str = fold_left common_prefix (common_prefix s t) ss in
    (begins_whole p (common_prefix s t) s r.0 (common_begins s t).0, (begins_whole p (common_prefix s t) t r.0 (common_begins s t).1, r.1))

narrowed_longest : (p s : Str) (ss : List Str) → Begins p s → Allˡ (Begins p) ss
    → Begins p (fold_left common_prefix s ss)
unfolding fold_left
narrowed_longest p s [] h a = h
narrowed_longest p s (t ∷ ss) h a = narrowed_longest p (common_prefix s t) ss (common_longest p s t h a.0) a.1

-- It is a beginning of each text.
pub shared_begins : (xs : List Str) → Allˡ (Begins (shared_beginning xs)) xs
unfolding shared_beginning
shared_begins [] = tt
shared_begins (s ∷ ss) = narrowed_begins s ss

-- What is a beginning of each text is one of it.
pub shared_longest : (p s : Str) (ss : List Str) → Allˡ (Begins p) (s ∷ ss) → Begins p (shared_beginning (s ∷ ss))
unfolding shared_beginning
shared_longest p s ss a = narrowed_longest p s ss a.0 a.1

-- So none longer is.
pub none_longer : (p s : Str) (ss : List Str) → Allˡ (Begins p) (s ∷ ss) → length p ≤ length (shared_beginning (s ∷ ss))
none_longer p s ss a = begins_length p (shared_beginning (s ∷ ss)) (shared_longest p s ss a)
