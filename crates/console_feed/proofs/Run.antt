-- The whole input: for every division of it into reads, what is handed to the writes, put together, is the session of its lines.
use Prim.Native.Nat.{ℕ, ◌<◌}
use native.Mathlib.Omega.{arith}
use mathlib.Core.Path.{◌≡◌, refl, sym, ap, ◌∙◌, subst}
use mathlib.Core.Bool.{Bool, true, false, not, true≢false}
use mathlib.Core.List.{List, [], ◌∷◌, ◌++◌, append_assoc, append-nil}
use lib.Dec.{eqb, ltb}
use lib.ListN.{length, take, drop, length-append}
use lib.Seq.{take_all, take_at, take-add, length-take-le, drop-append-le}
use borrow.Author.Tests.{ltb-true, ltb-false}
use Rattle.source.specs.Calls.{State, Lent, Output, fresh}
use Rattle.source.specs.Shared.{Allˡ}
use Rattle.text.specs.Laid.{Laid}
use Rattle.script_decimal.specs.Bytes.{Str, ◌·◌, byte_ok, All}
use Rattle.script_decimal.specs.declared.Sort.TheVariants.{Line}
use Rattle.table.specs.Header.{state, lent, Fresh}
use Rattle.table.specs.declared.Table.{Table}
use Rattle.console_registrations.specs.Registers.{Outcome}
use Rattle.console_answers.specs.Outcomes.{Replied, Session, none, then, unlines}
use Rattle.console_backlog.specs.Moves.{bytes_kept}
use Rattle.console_backlog.specs.LastLine.{last_line}
use Rattle.console_backlog.proofs.LastLine.{last_some}
use Rattle.console_feed.specs.Feed.{pending, Inside, Kept, whole, start}
use Rattle.console_feed.specs.Run.{lines_after, lines_of, Program, fed, Run, read, step, end, joined}
use Rattle.console_feed.proofs.Steps.{all_take}

-- ---- The lines of an input

-- Bytes that are no line feed go on with a line.
on_line : (x line s : Str) → All Line x → lines_after line (x · s) ≡ lines_after (line · x) s
unfolding lines_after byte_ok
on_line [] line s a = rw append-nil refl
on_line (b ∷ x) line s a = go (on_line x (line ++ (b ∷ [])) s a.1) (eqb b 10) refl
  where
    go : lines_after (line ++ (b ∷ [])) (x · s) ≡ lines_after ((line ++ (b ∷ [])) · x) s → (z : Bool) → eqb b 10 ≡ z
        → lines_after line ((b ∷ x) · s) ≡ lines_after (line · (b ∷ x)) s
    go h true e = absurd (true≢false (sym a.0 ∙ ap not e))
    go h false e = rw (e, lines_after) (h ∙ ap (λ (t : Str). lines_after t s) (append_assoc line (b ∷ []) x))

-- A line that has no line feed.
lines_line : (x : Str) → All Line x → lines_of x ≡ last_line x
unfolding lines_after
lines_line x a = ap (lines_after []) (sym (append-nil x)) ∙ on_line x [] [] a

-- Whole lines, and what follows.
lines_then : (ls : List Str) (s : Str) → Allˡ (All Line) ls → lines_of (unlines ls · s) ≡ ls ++ lines_of s
unfolding unlines lines_after
lines_then [] s a = refl
lines_then (l ∷ ls) s a =
    ap (lines_after []) (append_assoc l (10 ∷ unlines ls) s) ∙ on_line l [] (10 ∷ (unlines ls · s)) a.0 ∙ ap (◌∷◌ l) (lines_then ls s a.1)

-- ---- A line that is too long, whatever follows

long_replied : {k : Lent} {out : Output} {σ : State} {o : Outcome} (p q : Str) → 2048 < length p → 2048 < length q
    → Replied k out σ p o → Replied k out σ q o
long_replied p q hp hq r = record {
  says = λ c x. absurd (omega (arith, x.short));
  bad = λ _. r.bad (λ c x. omega (arith, x.short));
}

module _ {k : Lent} {out : Output} where
  session_line : {σ σ' : State} {w : Str} (p q : Str) (ls : List Str) → 2048 < length p → 2048 < length q
      → Session k out σ (p ∷ ls) w σ' → Session k out σ (q ∷ ls) w σ'
  session_line p q ls hp hq (then o r rest) = then o (long_replied p q hp hq r) rest

  session_long : {σ σ' : State} {w : Str} (c p q : Str) → 2048 < length p → 2048 < length q
      → Session k out σ (lines_after p c) w σ' → Session k out σ (lines_after q c) w σ'
  unfolding lines_after
  session_long {σ} {σ'} {w} [] p q hp hq x =
      subst (λ (ls : List Str). Session k out σ ls w σ') (sym (last_some q (omega arith)))
      (session_line p q [] hp hq (subst (λ (ls : List Str). Session k out σ ls w σ') (last_some p (omega arith)) x))
  session_long {σ} {σ'} {w} (b ∷ c) p q hp hq x =
      go (session_long c (p ++ (b ∷ [])) (q ++ (b ∷ [])) (omega (arith, length-append p (b ∷ []))) (omega (arith, length-append q (b ∷ [])))) (eqb b 10) refl
    where
      go : (Session k out σ (lines_after (p ++ (b ∷ [])) c) w σ' → Session k out σ (lines_after (q ++ (b ∷ [])) c) w σ')
          → (z : Bool) → eqb b 10 ≡ z → Session k out σ (lines_after q (b ∷ c)) w σ'
      go h true e = rw (e, lines_after) (session_line p q (lines_after [] c) hp hq (rw (e, lines_after) at x))
      go h false e = rw (e, lines_after) (h (rw (e, lines_after) at x))

  -- What is kept serves as what it was kept of.
  session_kept : {σ σ' : State} {w rest kept : Str} (c : Str) → Kept rest kept
      → Session k out σ (lines_of (kept · c)) w σ' → Session k out σ (lines_of (rest · c)) w σ'
  session_kept c whole x = x
  session_kept {σ} {σ'} {w} {rest} c (start a) x = rw (on_line rest [] c a) (go (ltb bytes_kept (length rest)) refl)
    where
      y : Session k out σ (lines_after (take bytes_kept rest) c) w σ'
      y = rw (on_line (take bytes_kept rest) [] c (all_take bytes_kept rest a)) at x

      go : (z : Bool) → ltb bytes_kept (length rest) ≡ z → Session k out σ (lines_after rest c) w σ'
      go true e = session_long c (take bytes_kept rest) rest
          (omega (arith, ltb-true bytes_kept (length rest) e, length-take-le bytes_kept rest (omega (arith, ltb-true bytes_kept (length rest) e))))
          (omega (arith, ltb-true bytes_kept (length rest) e)) y
      go false e = rw (take_all bytes_kept rest (omega (arith, ltb-false bytes_kept (length rest) e))) at y

  session_join : {σ m σ' : State} {ls ms : List Str} {t w : Str} → Session k out σ ls t m → Session k out m ms w σ'
      → Session k out σ (ls ++ ms) (t · w) σ'
  session_join none y = y
  session_join {σ} {m} {σ'} {ms = ms} {w = w} (then {line = l} {lines = ls} {text = t} o r x) y =
      subst (λ (u : Str). Session k out σ (l ∷ (ls ++ ms)) u σ') (sym (append_assoc o.text t w)) (then o r (session_join x y))

-- ---- A run

-- What stands from the start up to the end is what was laid there.
laid_text : {d d' s : List ℕ} {r : ℕ} → Laid d d' 0 r s → take r d' ≡ s
laid_text {d} {d'} {s} {r} x = ap (take r) x.is ∙ take_at s (drop r d) r (omega (arith, x.end))

-- A read puts its bytes after those that are not answered.
read_pending : (p : Program) (input : List ℕ) (n : ℕ) → Inside p.feed p.input
    → take p.feed.have input ≡ take p.feed.have p.input
    → pending (fed p input n).feed input ≡ pending p.feed p.input · take n (drop p.feed.have input)
read_pending p input n i e =
    ap (drop p.feed.from) (take-add p.feed.have n input ∙ ap (λ (s : Str). s · take n (drop p.feed.have input)) e)
    ∙ drop-append-le p.feed.from (take p.feed.have p.input) (take n (drop p.feed.have input))
    (omega (arith, i.started, length-take-le p.feed.have p.input i.ended))

-- From what the program holds on.
run_session : {out : Output} {p : Program} {reads : List Str} {written : Str} {σ : State} → Run out p reads written σ
    → Session (lent p.words p.text) out (state p.words p.text p.feed.table)
    (lines_of (pending p.feed p.input · joined reads)) written σ
unfolding joined lines_after
run_session {out} {p} {written = written} {σ} (read {reads = reads} input n i e h x) =
    subst (λ (t : Str). Session (lent p.words p.text) out (state p.words p.text p.feed.table) (lines_of t) written σ)
    (ap (λ (t : Str). t · joined reads) (read_pending p input n i e)
    ∙ append_assoc (pending p.feed p.input) (take n (drop p.feed.have input)) (joined reads))
    (run_session x)
run_session {out} {p} {σ = σ} (step {reads = reads} {written = w} {ws = ws} {txt = txt} {r = r} e x y) =
    let here : Session (lent p.words p.text) out (state p.words p.text p.feed.table) x.lines x.text (state ws txt r.feed.table) =
    rw e x.session in
    let rest : Session (lent p.words p.text) out (state ws txt r.feed.table) (lines_of (x.rest · joined reads)) w σ =
    session_kept (joined reads) x.kept (rw (x.words.size, x.texts.size) at (run_session y)) in
    rw (x.cut, append_assoc (unlines x.lines) x.rest (joined reads), lines_then x.lines (x.rest · joined reads) x.each, laid_text x.laid)
    (session_join here rest)
run_session {out} {p} (end a e x) =
    rw (e, append-nil (pending p.feed p.input), laid_text x.laid, lines_line (pending p.feed p.input) a) x.session

-- From a fresh table and no bytes: for every division of an input into reads, what is handed to the writes, put together, is the
-- session of the input's lines.
pub whole_input : {ws txt input : List ℕ} {out : Output} {tab : Table} {reads : List Str} {written : Str} {σ : State}
    → Fresh tab
    → Run out (record { words = ws; text = txt; input = input; feed = record { table = tab; from = 0; have = 0 } }) reads written σ
    → Session (lent ws txt) out fresh (lines_of (joined reads)) written σ
whole_input {ws} {txt} f x = rw (f.reads ws txt) at (run_session x)
