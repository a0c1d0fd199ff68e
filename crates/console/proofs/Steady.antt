-- What holds before each step over what was read, and after it.
use Prim.Native.Nat.{ℕ, ◌≤◌}
use mathlib.Core.Path.{◌≡◌, refl, ◌∙◌}
use mathlib.Core.List.{List}
use lib.ListN.{length}
use Rattle.std.specs.Prelude.{OnOk}
use Rattle.text.proofs.Laid.{laid_length}
use Rattle.script_decimal.specs.Bytes.{All}
use Rattle.script_decimal.specs.declared.Sort.TheVariants.{Line}
use Rattle.listing.specs.Completes.{output}
use Rattle.table.specs.Header.{IsSound}
use Rattle.console_backlog.specs.Moves.{bytes_kept}
use Rattle.console_feed.specs.Feed.{pending, Inside, Feeds}
use Rattle.console_feed.specs.declared.Feed.{Feed}
use Rattle.console_feed.specs.declared.Progress.{Progress}
use Rattle.console.specs.declared.AfterRead.{AfterRead}
use Rattle.console.specs.Fed.{Steps, none, more, Rests}

pub record Steady (words₀ text₀ input₀ flat₀ pane₀ reply₀ : List ℕ) (g₀ : Feed)
    (words text input flat pane reply : List ℕ) (g : Feed) : Type 0 where
  pub steps : Steps (output flat₀ pane₀) (record { words = words₀; text = text₀; input = input₀; feed = g₀ })
      (record { words = words; text = text; input = input; feed = g })
  pub sound : IsSound words text g.table
  pub inside : Inside g input
  pub words_size : length words ≡ length words₀
  pub text_size : length text ≡ length text₀
  pub input_size : length input ≡ length input₀
  pub flat_size : length flat ≡ length flat₀
  pub pane_size : length pane ≡ length pane₀
  pub reply_size : length reply ≡ length reply₀

pub steady_start : {words text input : List ℕ} (flat pane reply : List ℕ) {g : Feed} → IsSound words text g.table
    → Inside g input
    → Steady words text input flat pane reply g words text input flat pane reply g
steady_start flat pane reply s i =
    record {
      steps = none;
      sound = s;
      inside = i;
      words_size = refl;
      text_size = refl;
      input_size = refl;
      flat_size = refl;
      pane_size = refl;
      reply_size = refl;
    }

pub steady_on : {words₀ text₀ input₀ flat₀ pane₀ reply₀ words text input flat pane reply
    words' text' input' flat' pane' reply' : List ℕ} {g₀ g : Feed} {r : Progress}
    → Steady words₀ text₀ input₀ flat₀ pane₀ reply₀ g₀ words text input flat pane reply g
    → Feeds words text words' text' g input input' flat flat' pane pane' reply reply' r
    → length input' ≡ length input → length flat' ≡ length flat → length pane' ≡ length pane
    → Steady words₀ text₀ input₀ flat₀ pane₀ reply₀ g₀ words' text' input' flat' pane' reply' r.feed
steady_on {flat₀ = flat₀} {pane₀} {flat = flat} {pane} s x i f p = let e : output flat₀ pane₀ ≡ output flat pane = rw (s.flat_size, s.pane_size) refl in
    record {
      steps = more {flat = flat} {pane = pane} s.steps e x;
      sound = x.sound;
      inside = x.inside;
      words_size = x.words.size ∙ s.words_size;
      text_size = x.texts.size ∙ s.text_size;
      input_size = i ∙ s.input_size;
      flat_size = f ∙ s.flat_size;
      pane_size = p ∙ s.pane_size;
      reply_size = laid_length x.laid ∙ s.reply_size;
    }

pub steady_rests : {words₀ text₀ input₀ flat₀ pane₀ reply₀ words text input flat pane reply : List ℕ} {g₀ : Feed}
    {r : AfterRead} → Steady words₀ text₀ input₀ flat₀ pane₀ reply₀ g₀ words text input flat pane reply r.feed
    → OnOk r.written ((r.feed.from ≡ 0) × (r.feed.have ≤ bytes_kept) × All Line (pending r.feed input))
    → Rests words₀ text₀ words text input₀ input (output flat₀ pane₀) g₀ r
steady_rests s h = record { steps = s.steps; sound = s.sound; inside = s.inside; short = h }
