-- What the readers show of a link of a sound memory.
use Prim.Native.Nat.{ℕ, ◌+◌, ◌*◌, ◌≤◌, ◌<◌}
use mathlib.Core.Path.{◌≡◌, refl, ◌∙◌}
use mathlib.Core.List.{List}
use native.Mathlib.Omega.{arith}
use lib.ListN.{length}
use borrow.Author.Tests.{ne_eqb}
use Rattle.source.specs.Types.{bind, ns, trie}
use Rattle.source.specs.Terms.{depth}
use Rattle.memory.specs.Layout.{record_at, word, Which, modules, item_of, Sort, list, trieˢ, kind, row, what}
use Rattle.memory.specs.Stored.{stored}
use Rattle.memory.specs.Sound.{LinkOk, RecordOk, Used}
use Rattle.memory.specs.Read.{symbol_in, symbol_of, ReadTrie}
use Rattle.memory.specs.declared.Trie.{Trie}
use Rattle.memory.proofs.What.{what_none}
use Rattle.memory.proofs.RecordOk.{zero_some, record_as, record_what}
use Rattle.memory.proofs.StoredSizes.{stored_none, stored_some, stored_trie}

pub symbol_item : (txt r : List ℕ) → symbol_of txt (symbol_in r) ≡ item_of modules txt r
symbol_item txt r = zero_some (word r 5) (λ e. rw e) (λ p. rw (ne_eqb (word r 5) 0 (λ e. omega arith)))

-- A link of an earlier record is a link of a later one.
pub link_later : {ws : List ℕ} {l l' x k : ℕ} → l ≤ l' → LinkOk ws l x k → LinkOk ws l' x k
link_later h o = record { earlier = omega (arith, o.earlier); of_kind = o.of_kind }

pub record SeenTrie (ws txt : List ℕ) (n x : ℕ) (w : Which) (tr : Trie) : Type 0 where
  pub reads : what w ws txt x trieˢ
      ≡ trie (what w ws txt tr.bindings (list bind)) (what w ws txt tr.namespaces (list ns))
  pub bindings : LinkOk ws (n + 1) tr.bindings (kind w (list bind))
  pub namespaces : LinkOk ws (n + 1) tr.namespaces (kind w (list ns))
  pub deep : tr.depth ≡ depth (what w ws txt x trieˢ)

module _ {ws txt : List ℕ} {n used : ℕ} (o : Used ws txt n used) where
  pub link_fits : {x k : ℕ} → LinkOk ws (n + 1) x k → x * 12 ≤ length ws
  link_fits i = omega (arith, i.earlier, o.records_fit)

  pub link_ok : {x k : ℕ} → LinkOk ws (n + 1) x k → 0 < x → RecordOk ws txt used x
  link_ok i p = o.rows _ p (omega (arith, i.earlier))

  pub link_what : (w : Which) (so : Sort) {x : ℕ} → LinkOk ws (n + 1) x (kind w so) → 0 < x
      → what w ws txt x so ≡ row w txt (record_at ws x) (what w ws txt) so
  link_what w so i p = record_what (link_ok i p) w so (i.of_kind (λ e. omega arith)) p

  pub trie_seen : (w : Which) {x : ℕ} {tr : Trie} → LinkOk ws (n + 1) x (kind w trieˢ) → ReadTrie ws x tr
      → SeenTrie ws txt n x w tr
  trie_seen w {x} i q = record {
    reads = rw (q.bindings, q.namespaces) links.0;
    bindings = rw q.bindings links.1;
    namespaces = rw q.namespaces links.2;
    deep = q.deep ∙ stored_trie (λ j p h. o.rows j p (omega arith)) w x i;
  }
    where
      none : (k : ℕ) → LinkOk ws (n + 1) 0 k
      none k = record { earlier = omega arith; of_kind = λ z. absurd (z refl) }

      links : (what w ws txt x trieˢ
          ≡ trie (what w ws txt (stored ws x 3) (list bind)) (what w ws txt (stored ws x 4) (list ns)))
          × LinkOk ws (n + 1) (stored ws x 3) (kind w (list bind))
          × LinkOk ws (n + 1) (stored ws x 4) (kind w (list ns))
      links =
          zero_some x
          (λ e. rw (e, stored_none ws 3, stored_none ws 4, what_none w ws txt) (refl, none _, none _))
          (λ p.
          let y = (record_as (link_ok i p) w trieˢ (i.of_kind (λ e. omega arith))).0 in
          rw (stored_some ws x 3 p, stored_some ws x 4 p)
          (link_what w trieˢ i p, link_later (omega (arith, i.earlier)) y.bindings, link_later (omega (arith, i.earlier)) y.namespaces))
