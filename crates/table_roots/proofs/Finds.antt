-- A look-up: the rows of its query, and the item at its end.
use Prim.Native.Nat.{ℕ, ◌+◌, ◌<◌}
use mathlib.Core.Path.{◌≡◌, refl}
use mathlib.Core.Bool.{true}
use mathlib.Core.List.{List, [], ◌∷◌}
use mathlib.Core.Option.{none, some}
use native.Mathlib.Omega.{arith}
use lib.ListN.{length, length-take}
use borrow.Author.Tests.{ne_eqb}
use Rattle.source.specs.Text.{Str, segments, ends_in_dot}
use Rattle.source.specs.Types.{Trie, bind, the_item}
use Rattle.source.specs.Tries.{trie_find_exact}
use Rattle.source.specs.Calls.{a_look_up, first_row, argument_rows, found, not_found, refused, found_of, look_up}
use Rattle.source.proofs.Refusals.{argument_rows_none, look_up_whole}
use Rattle.memory.specs.Layout.{record_at, Which, modules, item_of, tree, trieˢ, kind, what}
use Rattle.memory.specs.Sound.{LinkOk}
use Rattle.memory.specs.Read.{symbol_in}
use Rattle.memory.proofs.RecordOk.{record_as}
use Rattle.memory.proofs.Seen.{link_fits, link_later, link_ok}
use Rattle.memory_table.specs.Table.{Sound, used_text}
use Rattle.memory_table.specs.declared.Header.{Header}
use Rattle.find_tree.specs.Tree.{held}
use Rattle.find_trie.specs.Tries as T
use Rattle.find_trie.specs.Tries.{AnyTrie, FindsExactIn}
use Rattle.std.specs.Prelude.{Option, Some, None, Ok, IfSome}
use Rattle.std.specs.Option.{unwrap_or}
use Rattle.table_roots.specs.Answers.{LookedUp}
use Rattle.listing_row.specs.Rows.{SymbolInside}
use Rattle.listing_row.proofs.Inside.{symbol_in_inside}

module _ (query : Str) where
  pub look_up_query_whole : first_row (argument_rows true (a_look_up query ∷ [])) ≡ none → ends_in_dot query ≡ true
  look_up_query_whole e = look_up_whole true query (argument_rows_none true _ e)

  pub look_up_rows_refused : {A : Type 0} (root : Trie A) {n : ℕ}
      → first_row (argument_rows true (a_look_up query ∷ [])) ≡ some n → refused n ≡ look_up true root query
  unfolding look_up
  look_up_rows_refused root e = rw (look_up, e)

  look_up_passed : {A : Type 0} (root : Trie A) → first_row (argument_rows true (a_look_up query ∷ [])) ≡ none
      → look_up true root query ≡ found_of (trie_find_exact root (segments query))
  unfolding look_up
  look_up_passed root e = rw (look_up, e)

  module _ (e : first_row (argument_rows true (a_look_up query ∷ [])) ≡ none) {ws txt : List ℕ} {w : Which} {root r : ℕ}
      (h : FindsExactIn ws txt w root (segments query) r) where
    pub look_up_none : r ≡ 0 → not_found ≡ look_up true (what w ws txt root trieˢ) query
    unfolding found_of
    look_up_none z = rw (look_up_passed _ e, h.says, z)

    pub look_up_found : (r ≡ 0 → ⊥)
        → found (item_of w txt (record_at ws r)) ≡ look_up true (what w ws txt root trieˢ) query
    unfolding found_of held the_item
    look_up_found z = rw (look_up_passed _ e, h.says, ne_eqb r 0 z)

-- What a look-up finds that passes the rows: a branch that is found is a record.
pub looked_up : (query : Str) → first_row (argument_rows true (a_look_up query ∷ [])) ≡ none
    → {ws txt : List ℕ} {root : ℕ}
    → AnyTrie ws txt root → (r : Option ℕ) → IfSome r (λ branch. 0 < branch)
    → T.FindsExact ws txt root (segments query) (unwrap_or r 0) → LookedUp ws txt root query (Ok r)
looked_up query e a None n h = record { fits = tt; link = λ w t. tt; says = λ w t. look_up_none query e (h w t) refl }
looked_up query e a (Some branch) n h =
    record {
      fits = (n, link_fits a.trie.sound (link_later (omega (arith, a.trie.link.earlier)) (h a.which a.trie).link));
      link = λ w t. (h w t).link;
      says = λ w t. look_up_found query e (h w t) (λ z. omega (arith, n));
    }

-- The texts of a found symbol lie in the used text.
pub symbol_inside : {ws txt : List ℕ} {h : Header} {l : ℕ} → Sound ws txt h
    → LinkOk ws (h.modules + 1) l (kind modules (tree bind)) → 0 < l
    → SymbolInside (length (used_text txt h)) (symbol_in (record_at ws l))
symbol_inside {txt = txt} {h} o i p =
    symbol_in_inside (length (used_text txt h))
    (record_as (link_ok o.right (link_later (omega (arith, o.modules_link.earlier)) i) p) modules (tree bind) (i.of_kind (λ e. omega arith))).2
    (omega (arith, length-take h.text txt, o.right.text_fits))
