-- What the typed completion says, from the flat one and from the lines that were stored.
use mathlib.Core.Path.{◌≡◌, refl, sym, ap, ap₂, ◌∙◌, subst}
use Prim.Native.Nat.{ℕ, ◌+◌, ◌*◌, ◌≤◌}
use mathlib.Core.Bool.{Bool, true, false, cond}
use mathlib.Core.List.{List, [], ◌∷◌, ◌++◌, map}
use mathlib.Core.Option.{Option, some}
use native.Mathlib.Omega.{arith}
use lib.Dec.{eqb}
use lib.IntN.{pos, negsuc}
use lib.ListN.{length, take, drop, length-map}
use lib.Seq.{take_at, drop_at}
use borrow.Author.Tests.{le-ltb}
use Rattle.source.specs.Text.{Str}
use Rattle.source.specs.Table as S
use Rattle.source.specs.Calls as C
use Rattle.source.specs.Calls.{LineRecord, Output, output_lines, complete, complete_modules, completed, completion_rows, first_row, argument_rows, signed_word}
use Rattle.source.specs.Shared.{Allˡ}
use Rattle.source.proofs.Lines.{output_lines_length}
use Rattle.memory.specs.Layout.{Which, Item, pick}
use Rattle.memory.specs.Sound.{Says}
use Rattle.memory_table.specs.Table.{used_words, used_text}
use Rattle.memory_table.proofs.Table.{sound_table}
use Rattle.listing_ask.specs.Ask.{asked}
use Rattle.listing_output.specs.Output.{line_bytes, line_of, Written, matched_word}
use Rattle.listing_ask.specs.declared.Ask.{Ask}
use Rattle.listing_ask.specs.declared.Ask.TheVariants.{Names, Modules}
use Rattle.table.specs.Header.{IsSound, table_in}
use Rattle.listing.specs.Completes.{CompletesAs}
use Rattle.table.specs.Completions.{completion}
use Rattle.table.specs.declared.Table.{Table}
use Rattle.listing_ask.specs.declared.Request.{Request}
use Rattle.listing_row.specs.Rows.{words_from, item_in, row_in, ItemInside}
use Rattle.listing_row.proofs.Rows.{item_seen_is}
use Rattle.listing_row.proofs.Written.{written_records, written_items}
use Rattle.table_count.specs.MatchLength.{held, held_length}
use Rattle.table_count.specs.LinesIn.{lines_in}
use Rattle.table_typed.specs.Lines.{line_of_row, line_at, stored_lines, record_seen}
use Rattle.table_typed.specs.Completions.{output, Shown, ShownAs, FlatCompletes, CompletesLines}
use Rattle.table_typed.specs.declared.Line.{Line}
use Rattle.table_typed.proofs.Lines.{stored_rows}
use Rattle.table_typed.proofs.FlatCompletes.{refused_none}
use Rattle.table_typed.proofs.MatchLength.{Held, AnswerHeld, answer_held}
use Rattle.listing.specs.declared.Listed.{Listed}
use Rattle.refusals.specs.declared.Refusal.{Refusal}
use Rattle.table.specs.declared.Answer.{Answer}
use Rattle.std.specs.Prelude.{Result}

-- ---- one line

length_seen : (m : ℕ) → Held (signed_word m) → held_length m ≡ signed_word m
unfolding signed_word
length_seen m h = go (eqb m 4294967295) h
  where
    go : (b : Bool) → Held (cond b (negsuc 0) (pos m)) → pick b (negsuc 0) (held m) ≡ cond b (negsuc 0) (pos m)
    go true h = refl
    go false h = rw (le-ltb 2147483647 m (omega (arith, h)))

record_seen_is : (w : Which) (txt r : List ℕ) → Held (signed_word (matched_word r))
    → record_seen w txt (line_of_row (row_in w r)) ≡ some (line_of w txt r)
unfolding line_of
record_seen_is w txt r h = rw (item_seen_is w txt r, length_seen (matched_word r) h)

-- ---- the lines

output_held : {A : Type 0} (at : ℕ) (lines : List (S.Line A)) → Allˡ (λ l. Held l.match_length) lines
    → Allˡ (λ s. Held s.match_length) (output_lines at lines)
unfolding output_lines
output_held at [] a = tt
output_held at (l ∷ lines) a = (a.0, output_held (at + length l.candidate + length l.annotation) lines a.1)

rows_seen : (w : Which) (txt : List ℕ) (rows : List (List ℕ))
    → Allˡ (λ s. Held s.match_length) (map (line_of w txt) rows)
    → map (record_seen w txt) (map (λ r. line_of_row (row_in w r)) rows) ≡ map some (map (line_of w txt) rows)
unfolding line_of
rows_seen w txt [] a = refl
rows_seen w txt (r ∷ rows) a =
    ap₂ (λ (x : Option (LineRecord (Item w))) (xs : List (Option (LineRecord (Item w)))). x ∷ xs) (record_seen_is w txt r a.0) (rows_seen w txt rows a.1)

rows_inside : (w : Which) (txt : List ℕ) (rows : List (List ℕ)) → Allˡ (λ r. ItemInside (length txt) (item_in w r)) rows
    → Allˡ (λ l. ItemInside (length txt) l.item) (map (λ r. line_of_row (row_in w r)) rows)
rows_inside w txt [] a = tt
rows_inside w txt (r ∷ rows) a = (a.0, rows_inside w txt rows a.1)

module _ (ask : Ask) (ws txt flat flat' out out' : List ℕ) (r : Result Listed Refusal) (ls ls' : List Line) where
  shown : (lines : List (S.Line (Item (asked ask)))) → Written (asked ask) ws txt flat flat' out out' 0 0 lines
      → Allˡ (λ l. Held l.match_length) lines
      → length lines ≤ length ls → ls' ≡ stored_lines (line_at ask flat') ls (length lines)
      → Shown (asked ask) txt ls ls' lines
  shown lines w a h e =
      let n : ℕ = length lines in
      let rows : List (List ℕ) = words_from flat' 0 n in
      let made : List Line = map (λ r. line_of_row (row_in (asked ask) r)) rows in
      let all : ls' ≡ made ++ drop n ls = e ∙ stored_rows ask flat' n ls h in
      let size : length made ≡ n =
      length-map rows _ ∙ sym (length-map rows (line_of (asked ask) txt)) ∙ ap length (written_records w) ∙ output_lines_length 0 lines in
      record {
        first = ap (λ l. map (record_seen (asked ask) txt) (take n l)) all
            ∙ ap (map (record_seen (asked ask) txt)) (take_at made (drop n ls) n size)
            ∙ rows_seen (asked ask) txt rows
            (subst (Allˡ (λ s. Held s.match_length)) (sym (written_records w)) (output_held 0 lines a))
            ∙ ap (map some) (written_records w);
        inside = subst (Allˡ (λ l. ItemInside (length txt) l.item))
            (sym (ap (take n) all ∙ take_at made (drop n ls) n size))
            (rows_inside (asked ask) txt rows (written_items w));
        after = ap (drop n) all ∙ drop_at made (drop n ls) n size;
      }

  shown_as : (x : C.Completed (Item (asked ask))) → CompletesAs ask ws txt flat flat' out out' r x → AnswerHeld x
      → lines_in r ≤ length ls → ls' ≡ stored_lines (line_at ask flat') ls (lines_in r) → ShownAs ask txt ls ls' x
  shown_as (C.listed lines entered) c a h e =
      shown lines c.1 a (omega (arith, h, ap lines_in c.0)) (e ∙ ap (stored_lines (line_at ask flat') ls) (ap lines_in c.0))
  shown_as (C.refused n) c a h e = e ∙ ap (stored_lines (line_at ask flat') ls) (refused_none r c.0)

all_held : (ws txt : List ℕ) (tab : Table) (ask : Ask) (query : Str) (budget : ℕ) (b : Bool)
    → Says b (IsSound ws txt tab)
    → (o : Output) → AnswerHeld (completion b (table_in ws txt tab) ask budget o query)
unfolding complete complete_modules completed completion_rows first_row argument_rows
all_held ws txt tab ask query budget true s o = answer_held true (table_in ws txt tab) ask budget o query (sound_table s)
all_held ws txt tab ask query budget false s o = go ask
  where
    go : (ask : Ask) → AnswerHeld (completion false (table_in ws txt tab) ask budget o query)
    go (Names f) = tt
    go (Modules f) = tt

module _ {ws txt : List ℕ} {tab : Table} {q : Request} {query : Str} {flat flat' out out' : List ℕ} {r : Answer Listed}
    {n : ℕ} where
  pub asked_at : {room : ℕ} → FlatCompletes ws txt tab q query room flat flat' out out' r → n ≡ lines_in r.answer
      → length flat' ≡ length flat → (n ≤ room) × (n * line_bytes ≤ length flat')
  asked_at c e l = (omega (arith, c.fit, e), omega (arith, c.lent, e, l))

  pub told_at : {ls ls' : List Line} → FlatCompletes ws txt tab q query (length ls) flat flat' out out' r
      → n ≡ lines_in r.answer → ls' ≡ stored_lines (line_at q.ask flat') ls n
      → CompletesLines ws txt tab q query ls ls' flat flat' out out' r
  told_at {ls} {ls'} c e s = record {
    table = c.table;
    says = c.says;
    shows = λ b h. shown_as q.ask (used_words ws tab.header) (used_text txt tab.header) flat flat' out out' r.answer ls ls'
        (completion b (table_in ws txt tab) q.ask q.budget (output (length ls) flat out) query) (c.says b h)
        (all_held ws txt tab q.ask query q.budget b h (output (length ls) flat out)) c.fit (s ∙ ap (stored_lines (line_at q.ask flat') ls) e);
  }
