-- The links of a trie: its two lists, and the trie that a list of namespaces holds at a name.
use Rattle.std.specs.Prelude.{Option, Some, None, IfSome}
use Rattle.std.specs.Option.{unwrap_or}
use Prim.Native.Nat.{ℕ, ◌+◌, ◌*◌, ◌≤◌, ◌<◌}
use mathlib.Core.Path.{◌≡◌, ◌∙◌}
use mathlib.Core.List.{List}
use native.Mathlib.Omega.{arith}
use lib.ListN.{length}
use borrow.Author.Tests.{ne_eqb}
use Rattle.source.specs.Text.{Str}
use Rattle.source.specs.Types.{bind, ns, namespaces, trie_empty}
use Rattle.source.specs.Tries.{dflt, scope_of}
use Rattle.memory.specs.Layout.{record_at, Which, tree, list, trieˢ, kind, what, trie_link}
use Rattle.memory.specs.Stored.{trie_in}
use Rattle.memory.specs.Sound.{LinkOk, At, Reads}
use Rattle.memory.specs.Read.{ReadTrie}
use Rattle.memory.specs.declared.Trie.{Trie}
use Rattle.memory.proofs.What.{what_none}
use Rattle.memory.proofs.RecordOk.{zero_some, record_as}
use Rattle.memory.proofs.StoredSizes.{stored_none, stored_some}
use Rattle.memory.proofs.Seen.{link_fits, link_ok, link_later}
use Rattle.find_tree.specs.Tree.{held}
use Rattle.find_list.specs.Names.{AnyList, HolderIn, Holder}
use Rattle.memory.proofs.At.{no_link}
use Rattle.memory.proofs.Tries.{lists_seen, bindings_at, namespaces_at, namespaces_read}

module _ {ws txt : List ℕ} {w : Which} {x : ℕ} (t : At ws txt w trieˢ x) {p : Trie} (q : ReadTrie ws x p) where
  -- What its namespaces hold, as the trie's own.
  pub scope_up : {y : ℕ} (s : Str)
      → Reads ws txt w p.namespaces y (scope_of (what w ws txt p.namespaces (list ns)) s)
      → Reads ws txt w x y (scope_of (namespaces (what w ws txt x trieˢ)) s)
  scope_up s r = record { link = link_later (omega (arith, (lists_seen t q).namespaces.earlier)) r.link; says = r.says ∙ rw (namespaces_read t q) }

pub any_bindings : {ws txt : List ℕ} {w : Which} {x : ℕ} {p : Trie} → At ws txt w trieˢ x → ReadTrie ws x p
    → AnyList ws txt p.bindings
any_bindings t q = record { which = _; level = bind; list = bindings_at t q }

pub any_namespaces : {ws txt : List ℕ} {w : Which} {x : ℕ} {p : Trie} → At ws txt w trieˢ x → ReadTrie ws x p
    → AnyList ws txt p.namespaces
any_namespaces t q = record { which = _; level = ns; list = namespaces_at t q }

-- A holder that there is has a record.
pub holder_some : {ws txt : List ℕ} {x : ℕ} {s : Str} → AnyList ws txt x → (h : Option ℕ)
    → IfSome h (λ branch. 0 < branch) → Holder ws txt x s (unwrap_or h 0)
    → IfSome h (λ branch. (0 < branch) × (branch * 12 ≤ length ws))
holder_some a None n f = tt
holder_some a (Some branch) n f = (n, link_fits a.list.sound (link_later (omega (arith, a.list.link.earlier)) (f a.which a.level a.list).link))

module _ {ws txt : List ℕ} {x : ℕ} {s : Str} {r : ℕ} where
  pub holder_fits : AnyList ws txt x → Holder ws txt x s r → r * 12 ≤ length ws
  holder_fits a h = link_fits a.list.sound (link_later (omega (arith, a.list.link.earlier)) (h a.which a.level a.list).link)

  -- The trie that a holder gives, none giving the empty one.
  pub holder_scope : {w : Which} {y : ℕ} → At ws txt w (list ns) x → HolderIn ws txt w ns x s r → y ≡ trie_in ws r
      → Reads ws txt w x y (scope_of (what w ws txt x (list ns)) s)
  unfolding scope_of dflt held trie_empty
  holder_scope {w} {y} a h e =
      zero_some r
      (λ z.
      let k : y ≡ 0 = rw (z, stored_none ws 5) at e in
      record { link = rw k (no_link x _); says = rw (k, what_none w ws txt, h.says, z) })
      (λ p.
      let k : y ≡ trie_link (record_at ws r) = e ∙ stored_some ws r 5 p in
      let i : LinkOk ws (a.records + 1) r (kind w (tree ns)) = link_later (omega (arith, a.link.earlier)) h.link in
      record {
        link = rw k (link_later (omega (arith, h.link.earlier)) (record_as (link_ok a.sound i p) w (tree ns) (i.of_kind (λ z. omega arith))).2);
        says = rw (k, h.says, ne_eqb r 0 (λ z. omega arith));
      })
