-- A run over entries: what is left of them says the whole.
use Prim.Native.Nat.{ℕ, ◌<◌}
use mathlib.Core.Path.{◌≡◌, refl, sym, ◌∙◌}
use mathlib.Core.Bool.{Bool, false}
use mathlib.Core.List.{List, [], ◌∷◌, map, nil≢cons}
use mathlib.Core.Option.{Option}
use lib.IntN.{ℤ}
use lib.ListN.{length}
use Rattle.source.specs.Text.{Str, segments}
use Rattle.source.specs.Types.{Value}
use Rattle.source.specs.Trees.{PathElem}
use Rattle.source.specs.Terms.{depth}
use Rattle.source.specs.Listing.{PathOf}
use Rattle.source.specs.Shared.{Allˡ}
use Rattle.memory.specs.Layout.{Item}
use Rattle.find_list.specs.Entries.{Entry, shown, outer}
use Rattle.listing_ask.specs.Ask.{asked}
use Rattle.listing_output.specs.declared.run.Path.{Path}
use Rattle.listing_line.specs.OnPath.{OnPath}
use Rattle.listing_output.specs.declared.run.Tally.{Tally}
use Rattle.listing_output.specs.declared.run.Limits.{Limits}
use Rattle.listing_line.specs.Goes.{Goes}
use Rattle.listing_ask.specs.declared.Ask.{Ask}
use Rattle.listing_line.proofs.Goes.{goes_none, goes_then, goes_spent}
use Rattle.listing_step.specs.Steps.{MatchingOn}
use Rattle.listing_trie.specs.Runs.{HasRoom, level_of, elements_give, BranchRuns, EntriesRun}

module _ (ws txt : List ℕ) (ask : Ask) (rest : Str) (p : Path) (lim : Limits) (matched : ℤ) (leaf : Bool) where
  abbrev pub Element : Type 0
  Element = PathElem × Value (Item (asked ask)) (level_of leaf)

  -- Elements that entries show, of depth below n.
  pub record Shown (o : Option Str) (n : ℕ) (es : List Entry) (xs : List Element) : Type 0 where
    pub shows : map outer xs ≡ map (shown (asked ask) ws txt (level_of leaf) o) es
    pub deep : leaf ≡ false → Allˡ (λ x. depth x.1 < n) xs

  -- Of the elements xs the ys are left: who goes on by them has gone by all.
  pub record Rest (a τ : Tally) (flat flat' out out' : List ℕ) (es : List Entry) (path : PathOf) (o : Option Str)
      (n : ℕ) (xs : List Element) : Type 0 where
    pub ys : List Element
    pub left : Shown o n es ys
    pub on : (τ'' : Tally) (flat'' out'' : List ℕ)
        → Goes (asked ask) ws txt lim τ τ'' flat' flat'' out' out''
        (elements_give ask (level_of leaf) n path (segments rest) ys)
        → Goes (asked ask) ws txt lim a τ'' flat flat'' out out''
        (elements_give ask (level_of leaf) n path (segments rest) xs)

  -- Of the entries all the es are left.
  pub record Left (a τ : Tally) (flat flat' out out' : List ℕ) (all es : List Entry) : Type 0 where
    pub flat_size : length flat' ≡ length flat
    pub out_size : length out' ≡ length out
    pub room : leaf ≡ false → Allˡ (HasRoom ws txt ask p) es
    pub says : (path : PathOf) (o : Option Str) (n : ℕ) (xs : List Element) → OnPath ws txt p path
        → MatchingOn path o (segments rest) matched → Shown o n all xs
        → Rest a τ flat flat' out out' es path o n xs

  pub left_all : {a : Tally} {flat out : List ℕ} {all : List Entry} → (leaf ≡ false → Allˡ (HasRoom ws txt ask p) all)
      → Left a a flat flat out out all all
  left_all room =
      record {
        flat_size = refl;
        out_size = refl;
        room = room;
        says = λ path o n xs on st sh. record { ys = xs; left = sh; on = λ t flat out g. g };
      }

  module _ {a τ : Tally} {flat flat' out out' : List ℕ} {all : List Entry} where
    -- None is left.
    pub left_none : Left a τ flat flat' out out' all []
        → EntriesRun ws txt ask rest p lim matched a τ flat flat' out out' leaf all
    unfolding elements_give
    left_none l = record {
      goes = λ path xs o n on st sh dp. let r = l.says path o n xs on st (record { shows = sh; deep = dp }) in
          go path xs o n r.ys r.left.shows (r.on τ flat' out');
    }
      where
        go : (path : PathOf) (xs : List Element) (o : Option Str) (n : ℕ) (ys : List Element)
            → map outer ys ≡ map (shown (asked ask) ws txt (level_of leaf) o) []
            → (Goes (asked ask) ws txt lim τ τ flat' flat' out' out'
            (elements_give ask (level_of leaf) n path (segments rest) ys)
            → Goes (asked ask) ws txt lim a τ flat flat' out out'
            (elements_give ask (level_of leaf) n path (segments rest) xs))
            → Goes (asked ask) ws txt lim a τ flat flat' out out'
            (elements_give ask (level_of leaf) n path (segments rest) xs)
        go path xs o n [] e f = f (goes_none τ flat' out')
        go path xs o n (y ∷ ys) e f = absurd (nil≢cons (sym e))

    -- The budget is passed.
    pub left_spent : {es : List Entry} → Left a τ flat flat' out out' all es → lim.budget < τ.entered
        → EntriesRun ws txt ask rest p lim matched a τ flat flat' out out' leaf all
    left_spent l s = record {
      goes = λ path xs o n on st sh dp.
          let r = l.says path o n xs on st (record { shows = sh; deep = dp }) in
          r.on τ flat' out' (goes_spent flat' out' (elements_give ask (level_of leaf) n path (segments rest) r.ys) s);
    }

    -- The first of those left is gone by.
    pub left_next : {e : Entry} {es : List Entry} {τ' : Tally} {flat'' out'' : List ℕ}
        → Left a τ flat flat' out out' all (e ∷ es)
        → BranchRuns ws txt ask rest p lim matched τ τ' flat' flat'' out' out'' leaf e.branch e.label
        → length flat'' ≡ length flat' → length out'' ≡ length out'
        → Left a τ' flat flat'' out out'' all es
    unfolding elements_give
    left_next {e} {es} {τ'} {flat''} {out''} l b lf lo = record {
      flat_size = lf ∙ l.flat_size;
      out_size = lo ∙ l.out_size;
      room = λ z. (l.room z).1;
      says = λ path o n xs on st sh. let r = l.says path o n xs on st sh in go path o n xs on st r.ys r.left.shows r.left.deep r.on;
    }
      where
        go : (path : PathOf) (o : Option Str) (n : ℕ) (xs : List Element) → OnPath ws txt p path
            → MatchingOn path o (segments rest) matched
            → (ys : List Element) → map outer ys ≡ map (shown (asked ask) ws txt (level_of leaf) o) (e ∷ es)
            → (leaf ≡ false → Allˡ (λ x. depth x.1 < n) ys)
            → ((τ'' : Tally) (f o' : List ℕ) → Goes (asked ask) ws txt lim τ τ'' flat' f out' o'
            (elements_give ask (level_of leaf) n path (segments rest) ys)
            → Goes (asked ask) ws txt lim a τ'' flat f out o'
            (elements_give ask (level_of leaf) n path (segments rest) xs))
            → Rest a τ' flat flat'' out out'' es path o n xs
        go path o n xs on st [] q dp f = absurd (nil≢cons q)
        go path o n xs on st (y ∷ ys) q dp f = record {
          ys = ys;
          left = record { shows = let q' : map outer ys ≡ map (shown (asked ask) ws txt (level_of leaf) o) es = cc in q'; deep = λ z. (dp z).1 };
          on = λ τ'' flat''' out''' g. f τ'' flat''' out'''
              (goes_then (b.goes path y o n on st (let q' : outer y ≡ shown (asked ask) ws txt (level_of leaf) o e = cc in q') (λ z. (dp z).0)) g);
        }
