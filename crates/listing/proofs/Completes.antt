-- Completion on a root: the run begins at the root with nothing counted, first over an empty output, then over the one lent.
use Prim.Native.Nat.{ℕ, suc, ◌+◌, ◌/◌, ◌<◌, ◌≤◌, min}
use mathlib.Core.Path.{◌≡◌, refl, ◌∙◌}
use mathlib.Core.Bool.{Bool, true, false, ◌||◌, or-true}
use mathlib.Core.List.{List, [], ◌∷◌}
use mathlib.Core.Option.{none, some}
use mathlib.Core.Logic.{inl, inr}
use native.Mathlib.Omega.{arith}
use lib.Dec.{ltb}
use lib.IntN.{negsuc}
use lib.ListN.{length}
use borrow.Author.Tests.{ltb-true, ltb-false, lt-ltb, le-ltb}
use borrow.Rule.Slice.PartMut.{put_mid}
use Rattle.source.specs.Text.{Str, segments, ends_in_dot}
use Rattle.source.specs.Types.{Trie, bind}
use Rattle.source.specs.Terms.{depth}
use Rattle.source.specs.Table.{Line, first_import_of_path}
use Rattle.source.specs.Calls as C
use Rattle.source.specs.Calls.{Row, ◌when◌, a_completion, first_row, argument_rows, Output, output_text, completion_rows, completed, tries_entered}
use Rattle.source.specs.Forward.{entered}
use Rattle.source.proofs.Counted.{tries_entered_count}
use Rattle.source.proofs.Refusals.{first_row_past}
use Rattle.source.specs.Forward.{base}
use Rattle.memory.specs.Layout.{Item, trieˢ, what}
use Rattle.memory.proofs.Tries.{trie_shallow}
use Rattle.listing_ask.specs.Ask.{asked}
use Rattle.listing_output.specs.Path.{joined}
use Rattle.listing_line.specs.OnPath.{PathOk, OnPath}
use Rattle.listing_output.specs.Output.{line_bytes, Written}
use Rattle.listing_output.specs.Run.{Small}
use Rattle.listing_output.specs.declared.run.Tally.{Tally}
use Rattle.listing_output.specs.declared.run.Limits.{Limits}
use Rattle.listing_output.specs.declared.run.Run.{Run}
use Rattle.listing_line.specs.Goes.{Shows, Past, Fit, Goes}
use Rattle.listing_ask.specs.declared.Ask.{Ask}
use Rattle.listing_ask.specs.declared.Request.{Request}
use Rattle.listing_line.proofs.Capped.{tally_is, tells_past}
use Rattle.listing_trie.specs.Runs.{trie_gives, TrieReady, TrieRuns, TrieListed}
use Rattle.listing_start.specs.Outset.{root_path, nothing_yet, start_run}
use Rattle.listing_start.proofs.Outset.{root_matching}
use Rattle.refusals.specs.declared.Refusal.TheVariants.{Spent, Lines}
use Rattle.listing.specs.Completes.{output, lines_of, CompletesAs, CompletesOn}
use Rattle.refusals.specs.declared.Refusal.{Refusal}
use Rattle.listing.specs.declared.Listed.{Listed}
use Rattle.std.specs.Prelude.{Result, Ok, Err}
use Rattle.listing_trie.proofs.Listed.{no_label}
use Rattle.memory.specs.Sound.{At}

-- A lent part of no element leaves all.
lent_nothing : (d part : List ℕ) → length part ≡ 0 → put_mid 0 0 d part ≡ d
lent_nothing d [] e = refl
lent_nothing d (x ∷ part) e = absurd (omega arith)

module _ (ws txt : List ℕ) (ask : Ask) (root : ℕ) (query : Str) where
  abbrev tr : Trie (Item (asked ask))
  tr = what (asked ask) ws txt root trieˢ

  abbrev listed : List (Line (Item (asked ask)))
  listed = lines_of ask tr (segments query)

  abbrev tries : ℕ
  tries = tries_entered tr (segments query)

  root_ok : At ws txt (asked ask) trieˢ root → PathOk ws txt (asked ask) root_path
  unfolding joined
  root_ok t = record {
    few = omega arith;
    each = λ j h. absurd (omega arith);
    len_is = refl;
    short = omega arith;
    label_level = bind;
    label_ok = no_label t.sound;
  }

  pub root_ready : {lim : Limits} → At ws txt (asked ask) trieˢ root → (ends_in_dot query ≡ true) × (length query ≤ 544)
      → Small lim
      → TrieReady ws txt ask query root_path lim root
  root_ready {lim} t q s = record {
    ready = record { path_ok = root_ok t; ends = q.0; short = q.1; small = s };
    trie_at = t;
    room = omega (arith, trie_shallow t);
  }

  -- What a run from the root gives.
  pub root_runs : {lim : Limits} {run run' : Run} {flat flat' out out' : List ℕ} {n : ℕ} → run ≡ start_run lim
      → TrieListed ws txt query (record { ask = ask; matched = negsuc 0 }) run run' flat flat' out out' root n
      → TrieRuns ws txt ask query root_path lim (negsuc 0) nothing_yet run'.tally flat flat' out out' root
  root_runs e t = (rw e at t).runs

  on_root : OnPath ws txt root_path []
  unfolding joined base first_import_of_path
  on_root = record { count = refl; text = refl; label_is = refl }

  module _ {lim : Limits} {a : Tally} {flat flat' out out' : List ℕ}
      (r : TrieRuns ws txt ask query root_path lim (negsuc 0) nothing_yet a flat flat' out out' root) where
    run_goes : Goes (asked ask) ws txt lim nothing_yet a flat flat' out out'
        (trie_gives ask (suc (depth tr)) tr [] (segments query))
    run_goes = r.goes [] (suc (depth tr)) on_root (root_matching (segments query)) (omega arith)

    none_shown : Shows lim 0 0 0 nothing_yet
    none_shown = record { spent = λ h. h; entered_is = λ h. refl; counted = λ h. inl (refl, refl) }

    -- What the run has counted.
    pub root_shows : Shows lim tries (length listed) (length (output_text listed)) a
    root_shows =
        let e : tries ≡ 0 + entered (suc (depth tr)) tr (segments query) = omega (arith, tries_entered_count tr (segments query)) in
        let l : 0 + length listed ≡ length listed = omega arith in
        let b : 0 + length (output_text listed) ≡ length (output_text listed) = omega arith in
        rw (e, ← l, ← b) (run_goes.shows 0 0 0 none_shown)

    -- Where nothing was lent nothing has changed.
    pub flat_kept : (d : List ℕ) → length flat ≡ 0 → put_mid 0 0 d flat' ≡ d
    flat_kept d e = lent_nothing d flat' (run_goes.flat_size ∙ e)

    pub out_kept : (d : List ℕ) → length out ≡ 0 → put_mid 0 0 d out' ≡ d
    out_kept d e = lent_nothing d out' (run_goes.out_size ∙ e)

    -- What it has written.
    root_writes : Fit lim flat out tries (length listed) (length (output_text listed))
        → Written (asked ask) ws txt flat flat' out out' 0 0 listed
    root_writes f = run_goes.writes 0 0 0 none_shown (record {
      entered_fit = omega (arith, f.entered_fit, tries_entered_count tr (segments query));
      lines_fit = omega (arith, f.lines_fit);
      bytes_fit = omega (arith, f.bytes_fit);
      flat_lent = f.flat_lent;
      out_lent = f.out_lent;
    })

-- What is written where the output is as it was.
pub writes_then : (ws txt : List ℕ) (ask : Ask) (root : ℕ) (query : Str) {lim : Limits} {a : Tally}
    {flat flat₁ flat' out out₁ out' : List ℕ} → flat₁ ≡ flat → out₁ ≡ out
    → TrieRuns ws txt ask query root_path lim (negsuc 0) nothing_yet a flat₁ flat' out₁ out' root
    → Fit lim flat out (tries ws txt ask root query) (length (listed ws txt ask root query))
    (length (output_text (listed ws txt ask root query)))
    → Written (asked ask) ws txt flat flat' out out' 0 0 (listed ws txt ask root query)
writes_then ws txt ask root query f o r = root_writes ws txt ask root query (rw (f, o) at r)

-- The limits that a budget and the lent output set.
pub record Set (lim : Limits) (budget : ℕ) (flat out : List ℕ) : Type 0 where
  pub budget_is : lim.budget ≡ budget
  pub budget_fits : budget ≤ 4294967295
  pub lines_are : lim.lines ≡ min (length flat / line_bytes) 4294967295
  pub bytes_are : lim.bytes ≡ min (length out) 4294967295

pub set_small : {lim : Limits} {budget : ℕ} {flat out : List ℕ} → Set lim budget flat out → Small lim
set_small s =
    record {
      budget_small = omega (arith, s.budget_is, s.budget_fits);
      lines_small = omega (arith, s.lines_are);
      bytes_small = omega (arith, s.bytes_are);
    }

-- What a tally says of the totals.
module _ {lim : Limits} {e n b : ℕ} {a : Tally} (s : Shows lim e n b a) where
  by_budget : {P : Type 0} → (lim.budget < e → P) → (e ≤ lim.budget → P) → P
  by_budget {P} f g = go (ltb lim.budget e) refl
    where
      go : (z : Bool) → ltb lim.budget e ≡ z → P
      go true q = f (ltb-true lim.budget e q)
      go false q = g (ltb-false lim.budget e q)

  within : a.entered ≤ lim.budget → e ≤ lim.budget
  within h = by_budget (λ p. absurd (omega (arith, s.spent p))) (λ i. i)

  passed : lim.budget < a.entered → lim.budget < e
  passed h = by_budget (λ p. p) (λ i. absurd (omega (arith, s.entered_is i)))

  module _ (h : a.entered ≤ lim.budget) (lines_fit : a.lines ≤ lim.lines) (bytes_fit : a.bytes ≤ lim.bytes) where
    exact : (a.entered ≡ e) × (a.lines ≡ n) × (a.bytes ≡ b)
    exact = let t = tally_is lim a lines_fit bytes_fit (s.counted (within h)) in (s.entered_is (within h), t.0, t.1)

    pub all_fit : {budget : ℕ} {flat out : List ℕ} → Set lim budget flat out → Fit lim flat out e n b
    all_fit set = record {
      entered_fit = within h;
      lines_fit = omega (arith, exact.1);
      bytes_fit = omega (arith, exact.2);
      flat_lent = omega (arith, set.lines_are);
      out_lent = omega (arith, set.bytes_are);
    }

affordable : {lim : Limits} {budget : ℕ} {flat out : List ℕ} {e n b : ℕ} {a : Tally} → Set lim budget flat out
    → Shows lim e n b a → a.entered ≤ lim.budget → ltb budget e ≡ false
affordable {budget = budget} {e = e} set s h = le-ltb budget e (omega (arith, within s h, set.budget_is))

-- Rows 9 and 10.
abbrev output_rows : {A : Type 0} → (budget : ℕ) → Output → List (Line A) → (entered : ℕ) → List Row
output_rows budget out lines entered =
    (9 when ltb budget entered) ∷ (10 when ltb out.lines (length lines) || ltb out.text (length (output_text lines))) ∷ []

module _ (ws txt : List ℕ) (request : Request) (root : ℕ) (query : Str) (flat flat' out out' : List ℕ)
    (r : Result Listed Refusal) where
  -- What rows 9 and 10 say.
  abbrev ByRows : Type 0
  ByRows = CompletesAs request.ask ws txt flat flat' out out' r
      (elim (first_row (output_rows request.budget (output flat out) (listed ws txt request.ask root query) (tries ws txt request.ask root query)))
      [ none ↦ C.listed (listed ws txt request.ask root query) (tries ws txt request.ask root query) | some n ↦ C.refused n ])

  by_rows : first_row (argument_rows true (a_completion query ∷ [])) ≡ none → ByRows
      → CompletesOn ws txt request root query flat flat' out out' r
  unfolding completed completion_rows
  by_rows e c = record { says = rw (completed, completion_rows, first_row_past (argument_rows true (a_completion query ∷ [])) _ e) c }

module _ {ws txt : List ℕ} {request : Request} {root : ℕ} {query : Str}
    (e : first_row (argument_rows true (a_completion query ∷ [])) ≡ none) {flat flat' out out' : List ℕ} {lim : Limits}
    {a : Tally}
    (set : Set lim request.budget flat out)
    (s : Shows lim (tries ws txt request.ask root query) (length (listed ws txt request.ask root query))
    (length (output_text (listed ws txt request.ask root query))) a) where
  pub completes_spent : lim.budget < a.entered → flat' ≡ flat → out' ≡ out
      → CompletesOn ws txt request root query flat flat' out out' (Err Spent)
  unfolding first_row
  completes_spent h f o = by_rows ws txt request root query flat flat' out out' _ e
      (rw (lt-ltb request.budget (tries ws txt request.ask root query) (omega (arith, passed s h, set.budget_is))) (refl, f, o))

  module _ (h : a.entered ≤ lim.budget) where
    -- Lines or bytes past what is lent.
    pub completes_past : Past lim a.lines a.bytes → flat' ≡ flat → out' ≡ out
        → CompletesOn ws txt request root query flat flat' out out' (Err Lines)
    unfolding first_row
    completes_past p f o = by_rows ws txt request root query flat flat' out out' _ e (go (tells_past lim a p (s.counted (within s h))))
      where
        go : Past lim (length (listed ws txt request.ask root query))
            (length (output_text (listed ws txt request.ask root query)))
            → ByRows ws txt request root query flat flat' out out' (Err Lines)
        go (inl k) = rw (
          affordable set s h,
          lt-ltb (min (length flat / line_bytes) 4294967295) (length (listed ws txt request.ask root query)) (omega (arith, set.lines_are)),
        ) (refl, f, o)
        go (inr k) =
            rw (
              affordable set s h,
              lt-ltb (min (length out) 4294967295) (length (output_text (listed ws txt request.ask root query))) (omega (arith, set.bytes_are)),
              or-true (ltb (output flat out).lines (length (listed ws txt request.ask root query))),
            )
            (refl, f, o)

    pub completes_listed : a.lines ≤ lim.lines → a.bytes ≤ lim.bytes
        → Written (asked request.ask) ws txt flat flat' out out' 0 0 (listed ws txt request.ask root query)
        → CompletesOn ws txt request root query flat flat' out out' (Ok (record { lines = a.lines; entered = a.entered }))
    unfolding first_row
    completes_listed l b w =
        let x = exact s h l b in
        by_rows ws txt request root query flat flat' out out' _ e
        (rw (
          affordable set s h,
          le-ltb (min (length flat / line_bytes) 4294967295) (length (listed ws txt request.ask root query)) (omega (arith, x.1, set.lines_are)),
          le-ltb (min (length out) 4294967295) (length (output_text (listed ws txt request.ask root query))) (omega (arith, x.2, set.bytes_are)),
        )
        (rw (x.0, x.1), w))
