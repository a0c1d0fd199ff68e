-- Lines one after another (`Talked`): their session goes on by one.
use Prim.Native.Nat.{ℕ, suc, ◌+◌, ◌-◌, ◌*◌, ◌<◌, ◌≤◌}
use native.Mathlib.Omega.{arith}
use mathlib.Core.Path.{◌≡◌, refl, sym, ap, ap₂, ◌∙◌, subst}
use mathlib.Core.List.{List, [], ◌∷◌, ◌++◌, append_assoc, append-nil}
use lib.ListN.{length, get_or, take, drop, length-drop}
use lib.Seq.{take_all, take-add, take-suc, drop-drop}
use Rattle.source.specs.Calls.{State, Lent, Output}
use Rattle.source.specs.Shared.{Allˡ}
use Rattle.text.specs.Laid.{Laid}
use Rattle.text.proofs.Laid.{laid_none, laid_more, laid_length}
use Rattle.script_decimal.specs.Bytes.{Str, ◌·◌, All, LineEnd}
use Rattle.script_decimal.specs.declared.Sort.TheVariants.{Line}
use Rattle.listing.specs.Completes.{output}
use Rattle.table.specs.Header.{IsSound, state, lent}
use Rattle.source.specs.Lent.{Outside}
use Rattle.table.specs.Registrations.{Unchanged}
use Rattle.table.specs.declared.Table.{Table}
use Rattle.console_registrations.specs.Registers.{Outcome}
use Rattle.console_registrations.specs.declared.Done.{Done}
use Rattle.source.proofs.Outside.{outside_none, outside_next}
use Rattle.console_questions.specs.RowReplies.{room}
use Rattle.console_questions.specs.Left.{OutputKept}
use Rattle.console_answers.specs.Outcomes.{NoneAccepted, NoCompletion, Replied, Session, none, then, unlines}
use Rattle.console_answers.specs.Answers.{Answered, Talked}

session_on : {k : Lent} {out : Output} {σ m : State} {lines : List Str} {text : Str} {line : Str} (o : Outcome)
    → Session k out σ lines text m → Replied k out m line o
    → Session k out σ (lines ++ (line ∷ [])) (text · o.text) o.after
session_on {k} {out} {σ} {line = line} o none r =
    subst (λ (t : Str). Session k out σ (line ∷ []) t o.after) (append-nil o.text) (then o r none)
session_on {k} {out} {σ} {line = line} o (then {line = l} {lines = ls} {text = t} o' r' rest) r =
    subst (λ (u : Str). Session k out σ (l ∷ (ls ++ (line ∷ []))) u o.after) (sym (append_assoc o'.text t o.text)) (then o' r' (session_on o rest r))

each_on : (lines : List Str) (line : Str) → Allˡ (All Line) lines → All Line line
    → Allˡ (All Line) (lines ++ (line ∷ []))
each_on [] line a b = (b, tt)
each_on (l ∷ ls) line a b = (a.0, each_on ls line a.1 b)

each_off : (P : Str → Type 0) (lines : List Str) (line : Str) → Allˡ P (lines ++ (line ∷ [])) → Allˡ P lines × P line
each_off P [] line a = (tt, a.0)
each_off P (l ∷ ls) line a = ((a.0, (each_off P ls line a.1).0), (each_off P ls line a.1).1)

-- Nothing registered so far, and nothing by one line more.
still_on : {ws₀ txt₀ ws txt ws' txt' : List ℕ} {tab₀ tab tab' : Table} (line : Str) → Unchanged ws₀ txt₀ ws txt tab₀ tab
    → (NoneAccepted (lent ws txt) (state ws txt tab) line → Unchanged ws txt ws' txt' tab tab')
    → NoneAccepted (lent ws₀ txt₀) (state ws₀ txt₀ tab₀) line → Unchanged ws₀ txt₀ ws' txt' tab₀ tab'
still_on line u a n =
    let v = a (rw (u.table, u.words, u.text) n) in
    record { table = v.table ∙ u.table; words = v.words ∙ u.words; text = v.text ∙ u.text }

unlines_on : (lines : List Str) (line : Str) → unlines (lines ++ (line ∷ [])) ≡ unlines lines · (line · (10 ∷ []))
unfolding unlines
unlines_on [] line = refl
unlines_on (l ∷ ls) line = ap (λ (s : Str). l · (10 ∷ s)) (unlines_on ls line) ∙ sym (append_assoc l (10 ∷ unlines ls) (line · (10 ∷ [])))

-- The lines up to i are answered.
pub record Going (ws₀ txt₀ : List ℕ) (tab₀ : Table) (input : Str) (from : ℕ) (flat₀ pane₀ reply₀ : List ℕ)
    (ws txt flat pane reply : List ℕ) (tab : Table) (at i : ℕ) : Type 0 where
  pub lines : List Str
  pub each : Allˡ (All Line) lines
  pub cut : take (i - from) (drop from input) ≡ unlines lines
  pub text : Str
  pub laid : Laid reply₀ reply 0 at text
  pub session : Session (lent ws₀ txt₀) (output flat₀ pane₀) (state ws₀ txt₀ tab₀) lines text (state ws txt tab)
  pub sound : IsSound ws txt tab
  pub words : Outside (tab₀.header.records * 12) (tab.header.records * 12) ws₀ ws
  pub texts : Outside tab₀.header.text tab.header.text txt₀ txt
  pub grows : (tab₀.header.records ≤ tab.header.records) × (tab₀.header.text ≤ tab.header.text)
  pub flat_size : length flat ≡ length flat₀
  pub pane_size : length pane ≡ length pane₀
  pub reply_size : length reply ≡ length reply₀
  pub after : from ≤ i
  pub inside : i ≤ length input
  pub fits : at ≤ length reply₀
  pub still : Allˡ (NoneAccepted (lent ws₀ txt₀) (state ws₀ txt₀ tab₀)) lines → Unchanged ws₀ txt₀ ws txt tab₀ tab
  pub quiet : Allˡ NoCompletion lines → OutputKept flat₀ flat pane₀ pane
  pub started : i ≡ from → at ≡ 0

pub talk_going_start : {ws txt flat pane reply : List ℕ} {tab : Table} {input : Str} {from : ℕ} → IsSound ws txt tab
    → from ≤ length input
    → Going ws txt tab input from flat pane reply ws txt flat pane reply tab 0 from
unfolding unlines
talk_going_start {ws} {txt} {reply = reply} {tab} {from = from} s h =
    let z : from - from ≡ 0 = omega arith in
    record {
      lines = [];
      each = tt;
      cut = rw z refl;
      text = [];
      laid = laid_none reply 0 0 refl (omega arith);
      session = none;
      sound = s;
      words = outside_none ws;
      texts = outside_none txt;
      grows = (omega arith, omega arith);
      flat_size = refl;
      pane_size = refl;
      reply_size = refl;
      after = omega arith;
      inside = h;
      fits = omega arith;
      still = λ _. record { table = refl; words = refl; text = refl };
      quiet = λ _. record { flat_is = refl; pane_is = refl };
      started = λ _. refl;
    }

module _ {ws₀ txt₀ flat₀ pane₀ reply₀ ws txt flat pane reply : List ℕ} {tab₀ tab : Table} {input : Str} {from at i : ℕ}
    (g : Going ws₀ txt₀ tab₀ input from flat₀ pane₀ reply₀ ws txt flat pane reply tab at i) where
  -- The next line, with its line feed.
  module _ {r : ℕ} (x : LineEnd (take (length input - i) (drop i input)) r) (l : i + r < length input) where
    rest_is : take (length input - i) (drop i input) ≡ drop i input
    rest_is = take_all (length input - i) (drop i input) (omega (arith, length-drop i input))

    line_cut : take (suc r) (drop i input) ≡ take r (drop i input) · (10 ∷ [])
    line_cut =
        let h : r < length (drop i input) = omega (arith, length-drop i input) in
        take-suc (drop i input) r 0 h
        ∙ ap (λ (b : ℕ). take r (drop i input) · (b ∷ [])) (ap (λ (s : Str). get_or s r 0) (sym rest_is) ∙ x.feed (rw rest_is h))

    pub talk_going_on : {ws' txt' flat' pane' reply' : List ℕ} {d : Done} → length flat' ≡ length flat
        → length pane' ≡ length pane
        → Answered ws txt ws' txt' tab (take (i + r - i) (drop i input)) flat flat' pane pane' reply reply' at d
        → Going ws₀ txt₀ tab₀ input from flat₀ pane₀ reply₀ ws' txt' flat' pane' reply' d.table d.end (i + r + 1)
    talk_going_on f p a =
        let q : i + r - i ≡ r = omega arith in
        let n : i + r + 1 - from ≡ i - from + suc r = omega (arith, g.after) in
        let k : from + (i - from) ≡ i = omega (arith, g.after) in
        let line : Str = take r (drop i input) in
        record {
          lines = g.lines ++ (take r (drop i input) ∷ []);
          each = each_on g.lines (take r (drop i input)) g.each (rw rest_is at x.line);
          cut = rw n (take-add (i - from) (suc r) (drop from input)
              ∙ ap₂ (λ (u v : Str). u · take (suc r) v) g.cut
              (drop-drop (i - from) from input ∙ ap (λ (j : ℕ). drop j input) k)
              ∙ ap (λ (u : Str). unlines g.lines · u) line_cut
              ∙ sym (unlines_on g.lines (take r (drop i input))));
          text = g.text · a.text;
          laid = laid_more g.laid a.laid;
          session = session_on (record { text = a.text; after = _ }) g.session
              (rw (q, g.words.size, g.texts.size, g.flat_size, g.pane_size) at a.replied);
          sound = a.sound;
          words = outside_next (omega (arith, g.grows.0)) (omega (arith, a.grows.0)) g.words a.words;
          texts = outside_next g.grows.1 a.grows.1 g.texts a.texts;
          grows = (omega (arith, g.grows.0, a.grows.0), omega (arith, g.grows.1, a.grows.1));
          flat_size = f ∙ g.flat_size;
          pane_size = p ∙ g.pane_size;
          reply_size = laid_length a.laid ∙ g.reply_size;
          after = omega (arith, g.after);
          inside = omega arith;
          fits = omega (arith, a.laid.fits, g.reply_size);
          still = λ y. let z = each_off (NoneAccepted (lent ws₀ txt₀) (state ws₀ txt₀ tab₀)) g.lines line y in
              still_on line (g.still z.0) (rw q at a.still) z.1;
          quiet = λ y. let z = each_off NoCompletion g.lines line y in let u = g.quiet z.0 in
              let v = (rw q at a.quiet) z.1 in
              record { flat_is = v.flat_is ∙ u.flat_is; pane_is = v.pane_is ∙ u.pane_is };
          started = λ e. absurd (omega (arith, g.after));
        }

  abbrev Says : Type 0
  Says = Talked ws₀ txt₀ ws txt tab₀ input from flat₀ flat pane₀ pane reply₀ reply (record { table = tab; end = at; next = i })

  talked : (i ≡ from → All Line (drop from input)) → Says
  talked h = record {
    lines = g.lines;
    each = g.each;
    cut = g.cut;
    text = g.text;
    session = g.session;
    laid = g.laid;
    sound = g.sound;
    words = g.words;
    texts = g.texts;
    still = g.still;
    quiet = g.quiet;
    next_fits = (g.after, g.inside);
    goes_on = λ z. (g.started z, h z);
  }

  -- No line feed is left.
  pub talked_out : {r : ℕ} → LineEnd (take (length input - i) (drop i input)) r → i + r ≡ length input → Says
  talked_out {r} x e = talked (λ z. subst (λ (j : ℕ). All Line (drop j input)) z (subst (All Line) whole x.line))
    where
      whole : take r (take (length input - i) (drop i input)) ≡ drop i input
      whole =
          let h : length (drop i input) ≤ length input - i = omega (arith, length-drop i input) in
          ap (take r) (take_all (length input - i) (drop i input) h) ∙ take_all r (drop i input) (omega (arith, length-drop i input))

  -- The reply text is full.
  pub talked_full : room flat₀ pane₀ ≤ length reply₀ → length reply - at < room flat₀ pane₀ → Says
  talked_full h f = talked (λ z. absurd (omega (arith, g.started z, g.reply_size)))
