-- The two lists of a trie.
use Prim.Native.Nat.{ℕ, ◌+◌, ◌≤◌}
use mathlib.Core.Path.{◌≡◌}
use mathlib.Core.List.{List}
use native.Mathlib.Omega.{arith}
use Rattle.source.specs.Types.{bind, ns, bindings, namespaces}
use Rattle.source.specs.Terms.{depth}
use Rattle.memory.specs.Layout.{Which, list, trieˢ, kind, what}
use Rattle.memory.specs.Sound.{LinkOk, Used, At}
use Rattle.memory.specs.Read.{ReadTrie}
use Rattle.memory.specs.declared.Trie.{Trie}
use Rattle.memory.proofs.Stays.{used_first}
use Rattle.memory.proofs.Fine.{link_shallow}
use Rattle.memory.proofs.Seen.{SeenTrie, trie_seen}
use Rattle.memory.proofs.At.{at_of}

module _ {ws txt : List ℕ} {w : Which} {x : ℕ} (t : At ws txt w trieˢ x) where
  pub trie_shallow : depth (what w ws txt x trieˢ) ≤ 16
  trie_shallow = link_shallow t.sound w (omega arith) t.link

  pub lists_seen : {p : Trie} → ReadTrie ws x p → SeenTrie ws txt x x w p
  lists_seen q =
      trie_seen (used_first x t.sound (omega (arith, t.link.earlier))) w
      (record { earlier = omega arith; of_kind = t.link.of_kind }) q

  module _ {p : Trie} (q : ReadTrie ws x p) where
    pub bindings_at : At ws txt w (list bind) p.bindings
    bindings_at = at_of t (list bind) (omega arith) (lists_seen q).bindings

    pub namespaces_at : At ws txt w (list ns) p.namespaces
    namespaces_at = at_of t (list ns) (omega arith) (lists_seen q).namespaces

    pub bindings_read : what w ws txt p.bindings (list bind) ≡ bindings (what w ws txt x trieˢ)
    unfolding bindings
    bindings_read = rw (lists_seen q).reads

    pub namespaces_read : what w ws txt p.namespaces (list ns) ≡ namespaces (what w ws txt x trieˢ)
    unfolding namespaces
    namespaces_read = rw (lists_seen q).reads

-- The two lists of a trie among the first n records.
pub record Lists (ws txt : List ℕ) (n : ℕ) (w : Which) (x : ℕ) (p : Trie) : Type 0 where
  pub b_link : LinkOk ws (n + 1) p.bindings (kind w (list bind))
  pub n_link : LinkOk ws (n + 1) p.namespaces (kind w (list ns))
  pub b_reads : what w ws txt p.bindings (list bind) ≡ bindings (what w ws txt x trieˢ)
  pub n_reads : what w ws txt p.namespaces (list ns) ≡ namespaces (what w ws txt x trieˢ)

pub lists_in : {ws txt : List ℕ} {n used x : ℕ} {w : Which} {p : Trie} → Used ws txt n used
    → LinkOk ws (n + 1) x (kind w trieˢ) → ReadTrie ws x p → Lists ws txt n w x p
lists_in {ws} {txt} {n} {used} {x} {w} o i q =
    let t : At ws txt w trieˢ x = record { records = n; used = used; sound = o; link = i } in
    let s = trie_seen o w i q in
    record { b_link = s.bindings; n_link = s.namespaces; b_reads = bindings_read t q; n_reads = namespaces_read t q }
