-- `merge_heap::Heap::merge_pairs` meets its contract. The measures are the numbers of siblings that are left, of those to be paired and of those to be merged.
use mathlib.Core.Path.{refl, ◌∙◌}
use native.Mathlib.Omega.{arith}
use Rattle.merge_heap.proofs.CellCounts.{root_in}
use Rattle.merge_heap.proofs.HeapMergePairs.{some_siblings, held_small, held_inside, none_paired, all_paired, all_merged}
use Rattle.merge_heap.proofs.Turns.{second, odd, paired, onward}
use Rattle.merge_heap.proofs.Heap.merge_pairs.Goals as goal

pub loop-at-init : goal.loop-at-init
loop-at-init c =
    ((λ n f. none_paired), refl)

pub offset_bounds-self-at : goal.offset_bounds-self-at
offset_bounds-self-at c =
    let pre = c.requires in let f = pre.headed.few in let w = c.loop-at.invariant.0 _ f pre.forest pre.rep in
    omega (arith, held_inside f w.rest c.loop-at-test.true)

pub bounds-self-at : goal.bounds-self-at
bounds-self-at c =
    let pre = c.requires in let f = pre.headed.few in let w = c.loop-at.invariant.0 _ f pre.forest pre.rep in
    omega (arith, held_inside f w.rest c.loop-at-test.true)

pub overflow_cast-self : goal.overflow_cast-self
overflow_cast-self c =
    let pre = c.requires in let f = pre.headed.few in
    let w = c.loop-at.invariant.0 _ f pre.forest pre.rep in omega (arith, held_small f w.stage.done)

pub loop-at-smaller-then-k-eq-CELLS : goal.loop-at-smaller-then-k-eq-CELLS
loop-at-smaller-then-k-eq-CELLS c =
    some_siblings _ _ _ c.loop-at-test.true

pub loop-at-preserved-then-k-eq-CELLS : goal.loop-at-preserved-then-k-eq-CELLS
loop-at-preserved-then-k-eq-CELLS c = (
  (λ n f hh p. odd f c.loop-at.self.links (c.loop-at.invariant.0 n f hh p) c.loop-at-test.true c.from-k.ensures c.if-k-eq-CELLS.true),
  c.loop-at.invariant.1,
)

pub bounds-self-k : goal.bounds-self-k
bounds-self-k c =
    let pre = c.requires in let f = pre.headed.few in
    let w = c.loop-at.invariant.0 _ f pre.forest pre.rep in
    omega (arith, held_inside f (second f c.loop-at.self.links w c.loop-at-test.true c.from-k.ensures) c.if-k-eq-CELLS.false)

pub merge-m-requires-clause-root : goal.merge-m-requires-clause-root
merge-m-requires-clause-root c ne =
    let pre = c.requires in let f = pre.headed.few in
    let w = c.loop-at.invariant.0 _ f pre.forest pre.rep in
    pre.headed.each _ (held_inside f w.rest ne)

pub merge-m-requires-clause-root_2 : goal.merge-m-requires-clause-root_2
merge-m-requires-clause-root_2 c ne =
    let pre = c.requires in let f = pre.headed.few in
    let w = c.loop-at.invariant.0 _ f pre.forest pre.rep in
    pre.headed.each _ (held_inside f (second f c.loop-at.self.links w c.loop-at-test.true c.from-k.ensures) ne)

pub overflow_cast-self-else-k-eq-CELLS : goal.overflow_cast-self-else-k-eq-CELLS
overflow_cast-self-else-k-eq-CELLS c =
    let pre = c.requires in let f = pre.headed.few in
    let w = c.loop-at.invariant.0 _ f pre.forest pre.rep in omega (arith, held_small f w.stage.done)

pub offset_bounds-self-m : goal.offset_bounds-self-m
offset_bounds-self-m c =
    let pre = c.requires in
    let f = pre.headed.few in
    let w = c.loop-at.invariant.0 _ f pre.forest pre.rep in
    omega (
      arith,
      (paired f c.loop-at.self.links w c.loop-at-test.true c.from-k.ensures c.if-k-eq-CELLS.false c.merge-m.new.self.links
          (c.merge-m.ensures.merges _ f) c.from-rest.ensures).0,
    )

pub bounds-self-m : goal.bounds-self-m
bounds-self-m c =
    let pre = c.requires in
    let f = pre.headed.few in
    let w = c.loop-at.invariant.0 _ f pre.forest pre.rep in
    omega (
      arith,
      (paired f c.loop-at.self.links w c.loop-at-test.true c.from-k.ensures c.if-k-eq-CELLS.false c.merge-m.new.self.links
          (c.merge-m.ensures.merges _ f) c.from-rest.ensures).0,
    )

pub loop-at-smaller : goal.loop-at-smaller
loop-at-smaller c =
    let pre = c.requires in
    let f = pre.headed.few in
    let w = c.loop-at.invariant.0 _ f pre.forest pre.rep in
    (paired f c.loop-at.self.links w c.loop-at-test.true c.from-k.ensures c.if-k-eq-CELLS.false c.merge-m.new.self.links
    (c.merge-m.ensures.merges _ f) c.from-rest.ensures).2

pub loop-at-preserved : goal.loop-at-preserved
loop-at-preserved c = (
  (λ n f hh p.
      (paired f c.loop-at.self.links (c.loop-at.invariant.0 n f hh p) c.loop-at-test.true c.from-k.ensures c.if-k-eq-CELLS.false c.merge-m.new.self.links
      (c.merge-m.ensures.merges _ f) c.from-rest.ensures).1),
  c.merge-m.ensures.root_stays ∙ c.loop-at.invariant.1,
)

pub offset_bounds-self-stack : goal.offset_bounds-self-stack
offset_bounds-self-stack c =
    let pre = c.requires in let f = pre.headed.few in
    let v = c.loop-stack.invariant.0 _ f _ _ _ (all_paired f (c.loop-at.invariant.0 _ f pre.forest pre.rep) c.loop-at-test.false) in
    omega (arith, held_inside f v.stage.done c.loop-stack-test.true)

pub bounds-self-stack : goal.bounds-self-stack
bounds-self-stack c =
    let pre = c.requires in let f = pre.headed.few in
    let v = c.loop-stack.invariant.0 _ f _ _ _ (all_paired f (c.loop-at.invariant.0 _ f pre.forest pre.rep) c.loop-at-test.false) in
    omega (arith, held_inside f v.stage.done c.loop-stack-test.true)

pub merge-r-requires-clause-root : goal.merge-r-requires-clause-root
merge-r-requires-clause-root c ne =
    let pre = c.requires in let f = pre.headed.few in
    let v = c.loop-stack.invariant.0 _ f _ _ _ (all_paired f (c.loop-at.invariant.0 _ f pre.forest pre.rep) c.loop-at-test.false) in
    pre.headed.each _ (held_inside f v.stage.done ne)

pub merge-r-requires-clause-root_2 : goal.merge-r-requires-clause-root_2
merge-r-requires-clause-root_2 c ne =
    let pre = c.requires in let f = pre.headed.few in
    let v = c.loop-stack.invariant.0 _ f _ _ _ (all_paired f (c.loop-at.invariant.0 _ f pre.forest pre.rep) c.loop-at-test.false) in
    pre.headed.each _ (root_in _ _ _ f v.root ne)

pub loop-stack-smaller : goal.loop-stack-smaller
loop-stack-smaller c =
    let pre = c.requires in let f = pre.headed.few in
    let v = c.loop-stack.invariant.0 _ f _ _ _ (all_paired f (c.loop-at.invariant.0 _ f pre.forest pre.rep) c.loop-at-test.false) in
    (onward f c.loop-stack.self.links c.merge-r.new.self.links v c.loop-stack-test.true (c.merge-r.ensures.merges _ f) c.from-below.ensures).1

pub loop-stack-preserved : goal.loop-stack-preserved
loop-stack-preserved c = (
  (λ n f child₁ next₁ all w.
      (onward f c.loop-stack.self.links c.merge-r.new.self.links (c.loop-stack.invariant.0 n f child₁ next₁ all w) c.loop-stack-test.true
      (c.merge-r.ensures.merges _ f) c.from-below.ensures).0),
  c.merge-r.ensures.root_stays ∙ c.loop-stack.invariant.1,
)

pub returns-clause-pairs : goal.returns-clause-pairs
returns-clause-pairs c n f hh p =
    all_merged f (c.loop-stack.invariant.0 _ f _ _ _
    (all_paired f (c.loop-at.invariant.0 n f hh p) c.loop-at-test.false)) c.loop-stack-test.false
