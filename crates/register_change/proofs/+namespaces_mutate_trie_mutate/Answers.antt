-- namespaces_mutate and trie_mutate meet their contracts.
use Rattle.std.proofs.Common.{ap, length, arith}
use Rattle.std.proofs.lemmas.List.{take_rest}
use Rattle.register_change.proofs.Cycle.{spaces_mutation, spaces_any, spaces_built, leaf_mutation, leaf_way, leaf_mutated, segment_ready}
use Rattle.register_change.proofs.Cycle.{mutation_spaces, spaces_way, mutation_node, mutation_built}
use Rattle.register_change.proofs.+namespaces_mutate_trie_mutate.Goals as goal

-- ---- namespaces_mutate

pub namespaces_mutate-overflow_add-next : goal.namespaces_mutate-overflow_add-next
namespaces_mutate-overflow_add-next t c =
    let holds = c.requires.some.holds in omega (arith, holds.cut.inside, holds.place.within, holds.change.sound.short)

pub namespaces_mutate-overflow_add-next-2 : goal.namespaces_mutate-overflow_add-next-2
namespaces_mutate-overflow_add-next-2 t c =
    let holds = c.requires.some.holds in omega (arith, holds.cut.inside, holds.place.within, holds.change.sound.short)

pub namespaces_mutate-trie_mutate-m-requires : goal.namespaces_mutate-trie_mutate-m-requires
namespaces_mutate-trie_mutate-m-requires t c = (
  omega (arith, c.decreases),
  (
    record { used = c.requires.some.used; holds = spaces_mutation c.requires.some.holds c.requires.namespaces_way },
    c.requires.namespaces_way.rest,
  ),
)

pub namespaces_mutate-names_insert-requires :
    goal.namespaces_mutate-names_insert-requires
namespaces_mutate-names_insert-requires t c =
    rw c.namespace_row-row.ensures
    (spaces_any c.requires.some.holds c.requires.namespaces_way c.trie_mutate-m.ensures c.kinds_of-kinds.ensures)

pub namespaces_mutate-returns : goal.namespaces_mutate-returns
namespaces_mutate-returns t c used g =
    spaces_built g c.requires.namespaces_way c.trie_mutate-m.ensures c.kinds_of-kinds.ensures c.names_insert.ensures.value
    (rw c.namespace_row-row.ensures at c.names_insert.ensures.names_inserts)

-- ---- trie_mutate

pub trie_mutate-mut_leaf-requires-clause-some : goal.trie_mutate-mut_leaf-requires-clause-some
trie_mutate-mut_leaf-requires-clause-some t c =
    let pre = c.requires.some in record { used = pre.used; holds = leaf_mutation _ _ _ _ c.if-at-d.true pre.holds }

pub trie_mutate-mut_leaf-requires-clause-leaf_builds :
    goal.trie_mutate-mut_leaf-requires-clause-leaf_builds
trie_mutate-mut_leaf-requires-clause-leaf_builds t c = leaf_way _ _ _ _ c.if-at-d.true c.args.way.now c.requires.trie_way

pub trie_mutate-returns-then-at-d : goal.trie_mutate-returns-then-at-d
trie_mutate-returns-then-at-d t c = leaf_mutated _ _ _ _ c.if-at-d.true c.mut_leaf.ensures

pub trie_mutate-segment_in-requires : goal.trie_mutate-segment_in-requires
trie_mutate-segment_in-requires t c = segment_ready c.requires.some.holds c.if-at-d.false

pub trie_mutate-trie_of-t-requires : goal.trie_mutate-trie_of-t-requires
trie_mutate-trie_of-t-requires t c =
    let holds = c.requires.some.holds in omega (arith, holds.link.earlier, holds.change.sound.records_fit)

pub trie_mutate-namespaces_mutate-n-requires : goal.trie_mutate-namespaces_mutate-n-requires
trie_mutate-namespaces_mutate-n-requires t c =
    let cut = c.segment_in.ensures in
    let pre = c.requires in (
      omega (arith, c.decreases, ap length cut.splits),
      (
        record { used = pre.some.used; holds = mutation_spaces pre.some.holds cut c.trie_of-t.ensures },
        rw (take_rest c.args.way.now 1) (spaces_way pre.some.holds cut c.trie_of-t.ensures c.args.way.now pre.trie_way),
      ),
    )

pub trie_mutate-mut_node-requires : goal.trie_mutate-mut_node-requires
trie_mutate-mut_node-requires t c =
    let pre = c.requires.some in
    record {
      used = pre.used;
      holds = mutation_node pre.holds c.segment_in.ensures c.trie_of-t.ensures c.namespaces_mutate-n.ensures;
    }

pub trie_mutate-returns : goal.trie_mutate-returns
trie_mutate-returns t c used m =
    rw c.last.ensures (mutation_built m c.segment_in.ensures c.trie_of-t.ensures c.namespaces_mutate-n.ensures c.mut_node.ensures)
