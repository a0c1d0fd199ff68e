-- A step is the session of the lines that were answered (`Feeds`), and the end that of what is left (`Ends`).
use Prim.Native.Nat.{ℕ, zero, suc, ◌+◌, ◌-◌, ◌<◌, ◌≤◌, min}
use native.Mathlib.Omega.{arith}
use mathlib.Core.Path.{◌≡◌, refl, sym, ap, ap₂, ◌∙◌, subst}
use mathlib.Core.Bool.{true, false, true≢false}
use mathlib.Core.List.{List, [], ◌∷◌, append-nil}
use lib.ListN.{length, take, drop, take-append-drop, length-drop}
use lib.Seq.{take-take, take-nil, take_at, drop_at, drop-drop, length-take-le}
use Rattle.text.proofs.Laid.{laid_none}
use Rattle.script_decimal.specs.Bytes.{Str, ◌·◌, All}
use Rattle.script_decimal.specs.declared.Sort.TheVariants.{Line}
use Rattle.listing.specs.Completes.{output}
use Rattle.table.specs.Header.{IsSound, state, lent}
use Rattle.console_registrations.specs.declared.Done.{Done}
use Rattle.source.proofs.Outside.{outside_none}
use Rattle.console_answers.specs.Outcomes.{Session, none, then, unlines}
use Rattle.console_answers.specs.Answers.{Answered, Talked}
use Rattle.console_answers.specs.declared.AfterLines.{AfterLines}
use Rattle.console_backlog.specs.Moves.{bytes_kept, Moves}
use Rattle.console_backlog.specs.LastLine.{LastLine}
use Rattle.console_feed.specs.Feed.{pending, Inside, Kept, whole, start, Feeds, Ends}
use Rattle.console_feed.specs.declared.Feed.{Feed}

-- ---- Parts of lists

drop_take : (n k : ℕ) (xs : List ℕ) → drop n (take k xs) ≡ take (k - n) (drop n xs)
drop_take zero k xs = let e : k - 0 ≡ k = omega arith in rw e refl
drop_take (suc n) zero xs = let e : 0 - suc n ≡ 0 = omega arith in rw e refl
drop_take (suc n) (suc k) [] = sym (take-nil (suc k - suc n))
drop_take (suc n) (suc k) (x ∷ xs) = let e : suc k - suc n ≡ k - n = omega arith in rw e (drop_take n k xs)

pub all_take : (n : ℕ) (s : Str) → All Line s → All Line (take n s)
all_take zero s a = tt
all_take (suc n) [] a = tt
all_take (suc n) (b ∷ s) a = (a.0, all_take n s a.1)

take_least : (n : ℕ) (xs : List ℕ) → take (min (length xs) n) xs ≡ take n xs
take_least zero xs = let e : min (length xs) 0 ≡ 0 = omega arith in rw e refl
take_least (suc n) [] = take-nil (min 0 (suc n))
take_least (suc n) (x ∷ xs) = let e : min (suc (length xs)) (suc n) ≡ suc (min (length xs) n) = omega arith in rw e (ap (◌∷◌ x) (take_least n xs))

part_length : (input : List ℕ) (from have : ℕ) → have ≤ length input
    → length (drop from (take have input)) ≡ have - from
part_length input from have h = omega (arith, length-drop from (take have input), length-take-le have input h)

-- What is moved is as long as it says, and nothing past it is moved.
moved_length : {input input' : List ℕ} {from have n : ℕ} → have ≤ length input → Moves input input' from have n
    → length (take n (drop from input)) ≡ n
moved_length {input} {from = from} {n = n} h m = length-take-le n (drop from input) (omega (arith, m.size, length-drop from input))

moved_past : {input input' : List ℕ} {from have n : ℕ} → have ≤ length input → Moves input input' from have n
    → drop n input' ≡ drop n input
moved_past {input} {from = from} {n = n} h m =
    ap (drop n) m.is ∙ drop_at (take n (drop from input)) (drop n input) n (moved_length h m)

-- What is moved is the start of what followed.
moved_is : {input input' : List ℕ} {from have n : ℕ} → have ≤ length input → Moves input input' from have n
    → take bytes_kept (drop from (take have input)) ≡ take n input'
moved_is {input} {input'} {from} {have} {n} h m =
    let e : min (length (drop from (take have input))) bytes_kept ≡ n = omega (arith, part_length input from have h, m.size) in
    sym (take_least bytes_kept (drop from (take have input)))
    ∙ ap (λ (k : ℕ). take k (drop from (take have input))) e
    ∙ ap (take n) (drop_take from have input)
    ∙ take-take n (have - from) (drop from input) (omega (arith, m.size))
    ∙ sym (take_at (take n (drop from input)) (drop n input) n (moved_length h m))
    ∙ ap (take n) (sym m.is)

-- ---- A step

module _ {ws txt ws' txt' input flat flat' pane pane' reply reply' : List ℕ} {f : Feed} {r : AfterLines}
    (i : Inside f input)
    (x : Talked ws txt ws' txt' f.table (take f.have input) f.from flat flat' pane pane' reply reply' r) where
  abbrev rest : Str
  rest = drop r.next (take f.have input)

  cut_is : pending f input ≡ unlines x.lines · rest
  cut_is =
      let e : f.from + (r.next - f.from) ≡ r.next = omega (arith, x.next_fits.0) in
      sym (take-append-drop (r.next - f.from) (drop f.from (take f.have input)))
      ∙ ap₂ (λ (s u : Str). s · u) x.cut (drop-drop (r.next - f.from) f.from (take f.have input) ∙ ap (λ (k : ℕ). drop k (take f.have input)) e)

  -- Whole lines may be left.
  pub steps_on : f.from < r.next
      → Feeds ws txt ws' txt' f input input flat flat' pane pane' reply reply'
      (record { feed = record { table = r.table; from = r.next; have = f.have }; end = r.end; more = true })
  steps_on l = record {
    lines = x.lines;
    each = x.each;
    rest = rest;
    cut = cut_is;
    text = x.text;
    session = x.session;
    laid = x.laid;
    kept = whole;
    sound = x.sound;
    words = x.words;
    texts = x.texts;
    still = x.still;
    quiet = x.quiet;
    inside = record { started = omega (arith, x.next_fits.1, length-take-le f.have input i.ended); ended = i.ended };
    past = refl;
    goes_on = λ _. (l, refl, refl);
    stops = λ e. absurd (true≢false e);
  }

  -- There is none left.
  pub steps_out : {input' : List ℕ} {n : ℕ} → r.next ≤ f.from → length input' ≡ length input
      → Moves input input' f.from f.have n
      → Feeds ws txt ws' txt' f input input' flat flat' pane pane' reply reply'
      (record { feed = record { table = r.table; from = 0; have = n }; end = r.end; more = false })
  steps_out {input'} {n} l size m =
      let e : r.next ≡ f.from = omega (arith, x.next_fits.0) in
      let a : All Line rest = rw e (x.goes_on e).1 in
      let k : take bytes_kept rest ≡ take n input' = rw e (moved_is i.ended m) in
      record {
        lines = x.lines;
        each = x.each;
        rest = rest;
        cut = cut_is;
        text = x.text;
        session = x.session;
        laid = x.laid;
        kept = subst (Kept rest) k (start a);
        sound = x.sound;
        words = x.words;
        texts = x.texts;
        still = x.still;
        quiet = x.quiet;
        inside = record { started = omega arith; ended = omega (arith, m.size, i.ended, size) };
        past = moved_past i.ended m;
        goes_on = λ z. absurd (true≢false (sym z));
        stops = λ _. (refl, omega (arith, m.size), subst (All Line) k (all_take bytes_kept rest a));
      }

-- ---- The end

module _ {ws txt ws' txt' input flat flat' pane pane' reply reply' : List ℕ} {f : Feed} where
  pub ends_some : {r : Done} → LastLine true (take (f.have - f.from) (drop f.from input))
      → Answered ws txt ws' txt' f.table
      (take (f.have - f.from) (drop f.from input)) flat flat' pane pane' reply reply' 0 r
      → Ends ws txt ws' txt' f input flat flat' pane pane' reply reply' r
  ends_some {r} e x =
      let p : pending f input ≡ take (f.have - f.from) (drop f.from input) = drop_take f.from f.have input in
      record {
        text = x.text;
        session = rw (
          p,
          e,
        ) (subst (λ (t : Str). Session (lent ws txt) (output flat pane) (state ws txt f.table) _ t
            (state ws' txt' r.table))
            (append-nil x.text) (then (record { text = x.text; after = _ }) x.replied none));
        laid = x.laid;
        sound = x.sound;
        words = x.words;
        texts = x.texts;
        still = rw (p, e) (λ n. x.still n.0);
        asks = rw (p, e) (x.asks, tt);
        quiet = rw (p, e) (λ n. x.quiet n.0);
      }

pub feed_ends_none : {ws txt input flat pane reply : List ℕ} {f : Feed}
    → LastLine false (take (f.have - f.from) (drop f.from input)) → IsSound ws txt f.table
    → Ends ws txt ws txt f input flat flat pane pane reply reply (record { table = f.table; end = 0 })
feed_ends_none {ws} {txt} {input} {reply = reply} {f} e sound =
    let p : pending f input ≡ take (f.have - f.from) (drop f.from input) = drop_take f.from f.have input in
    record {
      text = [];
      session = rw (p, e) none;
      laid = laid_none reply 0 0 refl (omega arith);
      sound = sound;
      words = outside_none ws;
      texts = outside_none txt;
      still = λ _. record { table = refl; words = refl; text = refl };
      asks = rw (p, e) tt;
      quiet = λ _. record { flat_is = refl; pane_is = refl };
    }
