-- A find that goes along a list: what the list at hand says is what the whole says.
use Prim.Native.Nat.{ℕ, ◌+◌, ◌≤◌, ◌<◌}
use mathlib.Core.Path.{◌≡◌, ◌∙◌}
use mathlib.Core.List.{List}
use mathlib.Core.Option.{none, some}
use mathlib.Core.Bool.{true, false, true≢false, false≢true}
use Rattle.std.specs.Prelude.{Option, Some, None, IfSome, is_some}
use Rattle.std.specs.Option.{unwrap_or}
use native.Mathlib.Omega.{arith}
use lib.Dec.{eqb}
use borrow.Author.Tests.{ne_eqb}
use Rattle.source.specs.Text.{Str}
use Rattle.source.specs.Types.{Level}
use Rattle.source.specs.Tries.{or_else, names_find_exact}
use Rattle.memory.specs.Layout.{record_at, pick, Which, tree, list, kind, what, key_at, own_link, rest_link, sort_word}
use Rattle.memory.specs.Sound.{LinkOk, At}
use Rattle.memory.specs.Stored.{weight_in}
use Rattle.memory.proofs.What.{what_none}
use Rattle.memory.proofs.Seen.{link_later}
use Rattle.find_tree.specs.Tree.{held, FindsBranch}
use Rattle.find_list.specs.Names.{AnyList, Holder}
use Rattle.find_list.proofs.Collections.{any_list, collection_right, sort_tree, rest_list, own_tree, names_reads, imported_list, imported_reads}
use Rattle.find_list.proofs.Collections.{rest_lighter}
use Rattle.memory.proofs.At.{no_link}

pub record FindIn (ws txt : List ℕ) (w : Which) (ℓ : Level) (x : ℕ) (key : Str) (link : ℕ) : Type 0 where
  pub here : At ws txt w (list ℓ) link
  pub finds : names_find_exact (what w ws txt x (list ℓ)) key ≡ names_find_exact (what w ws txt link (list ℓ)) key

-- The find stands at link: no collection before it has the key.
pub record Find (ws txt : List ℕ) (x : ℕ) (key : Str) (link : ℕ) : Type 0 where
  pub earlier : link ≤ x
  pub lighter : weight_in ws link ≤ weight_in ws x
  pub any : AnyList ws txt link
  pub says : (w : Which) (ℓ : Level) → At ws txt w (list ℓ) x → FindIn ws txt w ℓ x key link

-- The branch r is what the first collection of a list has, 0 for none.
pub record FirstIn (ws txt : List ℕ) (w : Which) (ℓ : Level) (link : ℕ) (key : Str) (r : ℕ) : Type 0 where
  pub found : LinkOk ws (link + 1) r (kind w (tree ℓ))
  pub has_key : 0 < r → key_at ws txt r ≡ key
  pub says : names_find_exact (what w ws txt link (list ℓ)) key
      ≡ or_else (pick (eqb r 0) none (some (held w ws txt ℓ r)))
      (names_find_exact (what w ws txt (rest_link (record_at ws link)) (list ℓ)) key)

pub record First (ws txt : List ℕ) (link : ℕ) (key : Str) (r : Option ℕ) : Type 0 where
  pub nonzero : IfSome r (λ branch. 0 < branch)
  pub here : (w : Which) (ℓ : Level) → At ws txt w (list ℓ) link → FirstIn ws txt w ℓ link key (unwrap_or r 0)

module _ {ws txt : List ℕ} {key : Str} {link own : ℕ} {r : Option ℕ} (n : IfSome r (λ branch. 0 < branch))
    (p : 0 < link) (q : own ≡ own_link (record_at ws link)) where
  pub first_imported : sort_word (record_at ws link) ≡ 1 → Holder ws txt own key (unwrap_or r 0)
      → First ws txt link key r
  unfolding names_find_exact
  first_imported e h = record {
    nonzero = n;
    here = λ w v t.
        let g = h w v (rw q (imported_list t p e)) in
        record {
          found = link_later (omega (arith, q, ((collection_right t p).imported e).earlier)) g.link;
          has_key = g.has_key;
          says = rw (imported_reads t p e, ← q, g.says);
        };
  }

  pub first_names : (sort_word (record_at ws link) ≡ 1 → ⊥) → FindsBranch ws txt own key (unwrap_or r 0)
      → First ws txt link key r
  unfolding names_find_exact
  first_names m h = record {
    nonzero = n;
    here = λ w v t.
        let e = sort_tree t p m in
        let g = h w v (rw q (own_tree t p e)) in
        record {
          found = link_later (omega (arith, q, ((collection_right t p).own e).earlier)) g.link;
          has_key = g.has_key;
          says = rw (names_reads t p e, ← q, g.says);
        };
  }

module _ {ws txt : List ℕ} {x : ℕ} {key : Str} {link : ℕ} (g : Find ws txt x key link) where
  pub find_here : (r : Option ℕ) → First ws txt link key r → is_some r ≡ true → Holder ws txt x key (unwrap_or r 0)
  unfolding or_else
  find_here None f e w v t = absurd (false≢true e)
  find_here (Some r) f e w v t =
      let s = g.says w v t in
      let h = f.here w v s.here in
      let p : 0 < r = f.nonzero in
      record {
        link = link_later (omega (arith, g.earlier)) h.found;
        has_key = h.has_key;
        says = s.finds ∙ h.says ∙ rw (ne_eqb r 0 (λ z. omega arith));
      }

  pub find_on : (r : Option ℕ) {j : ℕ} → 0 < link → First ws txt link key r → is_some r ≡ false
      → j ≡ rest_link (record_at ws link) → Find ws txt x key j
  unfolding or_else
  find_on (Some r) {j} p f e q = absurd (true≢false e)
  find_on None {j} p f e q =
      let a = g.any in
      record {
        earlier = omega (arith, q, g.earlier, (collection_right a.list p).rest.earlier);
        lighter = rw q (omega (arith, g.lighter, rest_lighter a.list p));
        any = rw q (any_list (rest_list a.list p));
        says = λ w v t.
            let s = g.says w v t in
            record { here = rw q (rest_list s.here p); finds = s.finds ∙ (f.here w v s.here).says ∙ rw q };
      }

  pub find_none : link ≤ 0 → Holder ws txt x key 0
  unfolding names_find_exact
  find_none h w v t =
      let z : link ≡ 0 = omega arith in
      record {
        link = no_link x _;
        has_key = λ l. absurd (omega arith);
        says = (g.says w v t).finds ∙ rw (z, what_none w ws txt);
      }
