-- Laws of the parts of a line: what each function finds, and why it refuses.
use mathlib.Core.Path.{◌≡◌, refl, sym, ap, ap₂, ◌∙◌, subst}
use mathlib.Core.Bool.{false}
use mathlib.Core.List.{[], ◌∷◌}
use Prim.Native.Nat.{ℕ, ◌<◌}
use native.Mathlib.Omega.{arith}
use lib.ListN.{length, get_or, take, drop, length-append, take-append-drop}
use lib.Seq.{take_at}
use borrow.Author.Tests.{eqb-true, not-false}
use Rattle.script_decimal.specs.declared.Sort.{Sort}
use Rattle.script_decimal.specs.declared.Sort.TheVariants.{Query, Word, Line}
use Rattle.script_decimal.specs.Bytes.{Str, ◌·◌, bytes, byte_ok, LineEnd}
use Rattle.source.specs.declared.LidSymbol.{LidSymbol}
use Rattle.script_decimal.specs.Items.{ItemText}
use Rattle.script_parts.specs.Parts.{run_length, Stops, Piece, QueryEnd, PairEnd, IdEnd}
use Rattle.script_parts.proofs.Runs.{run_all, run_le, run_after, piece_cut, piece_once}

-- ---- `piece`

module _ {sort : Sort} {close s : Str} where
  pub piece_yes : {part closed rest : Str} → part ≡ take (run_length sort s) s → closed ≡ drop (run_length sort s) s
      → closed ≡ close · rest → Piece sort close s part rest
  piece_yes {rest = rest} p c r = record {
    ok = rw p (run_all sort s);
    spelled = sym (take-append-drop (run_length sort s) s) ∙ ap₂ (λ (t u : Str). t · u) (sym p) (sym c ∙ r);
  }

  pub piece_no : {closed : Str} → Stops sort close → closed ≡ drop (run_length sort s) s
      → ((rest : Str) → closed ≡ close · rest → ⊥) → (part rest : Str) → Piece sort close s part rest → ⊥
  piece_no stops c n part rest p = n rest (c ∙ (piece_cut sort stops p).1)

pub stops_query : byte_ok Query 93 ≡ false
unfolding byte_ok
stops_query = refl

pub stops_word : byte_ok Word 32 ≡ false
unfolding byte_ok
stops_word = refl

-- ---- `query_end`

pub query_piece : {s q : Str} → QueryEnd s q → Piece Query (93 ∷ 93 ∷ []) s q []
unfolding bytes
query_piece r = record { ok = r.query_ok; spelled = r.spelled }

none_left : (s : Str) → length s ≡ 0 → s ≡ []
none_left [] e = refl
none_left (b ∷ s) e = absurd (omega arith)

module _ {s q rest : Str} (p : Piece Query (93 ∷ 93 ∷ []) s q rest) where
  pub query_yes : length rest ≡ 0 → QueryEnd s q
  unfolding bytes
  query_yes e = record { query_ok = p.ok; spelled = p.spelled ∙ ap (λ (t : Str). q · 93 ∷ 93 ∷ t) (none_left rest e) }

  pub query_no : (length rest ≡ 0 → ⊥) → (q' : Str) → QueryEnd s q' → ⊥
  query_no h q' r = h (ap length (piece_once Query stops_query p (query_piece r)).1)

-- ---- `pair_end`

pub pair_piece : {s host q : Str} → PairEnd s host q → Piece Query (93 ∷ 32 ∷ 91 ∷ []) s host (q · bytes "]]")
unfolding bytes
pair_piece r = record { ok = r.host_ok; spelled = r.spelled }

module _ {s host rest : Str} (p : Piece Query (93 ∷ 32 ∷ 91 ∷ []) s host rest) where
  pub pair_yes : {q : Str} → QueryEnd rest q → PairEnd s host q
  unfolding bytes
  pair_yes q = record {
    host_ok = p.ok;
    query_ok = q.query_ok;
    spelled = p.spelled ∙ ap (λ (t : Str). host · 93 ∷ 32 ∷ 91 ∷ t) q.spelled;
  }

  pub pair_no : ((q : Str) → QueryEnd rest q → ⊥) → (host' q : Str) → PairEnd s host' q → ⊥
  pair_no n host' q r =
      n q (record { query_ok = r.query_ok; spelled = (piece_once Query stops_query p (pair_piece r)).1 })

-- ---- `id_end`

pub last_once : (p q : Str) → p · bytes "]" ≡ q · bytes "]" → p ≡ q
unfolding bytes
last_once p q e =
    let l : length p ≡ length q = omega (arith, simp length-append at (ap length e)) in
    sym (take_at p (93 ∷ []) (length p) refl) ∙ ap (take (length p)) e ∙ take_at q (93 ∷ []) (length p) (sym l)

pub id_piece : {s id : Str} {c : LidSymbol} → (r : IdEnd s id c) → Piece Word (32 ∷ []) s id (r.word · bytes "]")
unfolding bytes
id_piece r = record { ok = r.id_ok; spelled = r.spelled }

module _ {s id rest : Str} (p : Piece Word (32 ∷ []) s id rest) where
  pub id_yes : {word : Str} {c : LidSymbol} → 0 < length id → rest ≡ word · bytes "]" → ItemText word c → IdEnd s id c
  unfolding bytes
  id_yes {word} some l m = record {
    id_ok = p.ok;
    id_some = some;
    word = word;
    item = m;
    spelled = p.spelled ∙ ap (λ (t : Str). id · 32 ∷ t) l;
  }

  pub id_empty : length id ≡ 0 → (id' : Str) (c : LidSymbol) → IdEnd s id' c → ⊥
  id_empty h id' c r = omega (arith, r.id_some, ap length (piece_once Word stops_word p (id_piece r)).0)

  pub id_open : ((word : Str) → rest ≡ word · bytes "]" → ⊥) → (id' : Str) (c : LidSymbol) → IdEnd s id' c → ⊥
  id_open f id' c r = f r.word (piece_once Word stops_word p (id_piece r)).1

  pub id_item : {word : Str} → rest ≡ word · bytes "]" → ((c : LidSymbol) → ItemText word c → ⊥) → (id' : Str)
      (c : LidSymbol) → IdEnd s id' c → ⊥
  id_item {word} l none id' c r =
      none c (subst (λ (t : Str). ItemText t c)
      (last_once r.word word (sym (piece_once Word stops_word p (id_piece r)).1 ∙ l)) r.item)

-- ---- `line_end`

pub line_ends : (input : Str) (r : ℕ) → r ≡ run_length Line input → LineEnd input r
unfolding byte_ok
line_ends input r e = record {
  within = omega (arith, run_le Line input);
  line = rw q (run_all Line input);
  feed = rw q (λ h. feeds (get_or input (run_length Line input) 0) (run_after Line input h));
}
  where
    q : r ≡ run_length Line input
    q = omega arith

    feeds : (b : ℕ) → byte_ok Line b ≡ false → b ≡ 10
    feeds b h = eqb-true b 10 (not-false _ h)
