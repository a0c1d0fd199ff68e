-- `merge_heap::Heap::fill` meets its contract. The heap has the cells passed.
use mathlib.Core.Path.{◌≡◌, ◌∙◌}
use lib.ListN.{length, length-map}
use borrow.Author.Rules.{rules}
use native.Mathlib.Omega.{arith}
use Rattle.merge_heap.proofs.CellCounts.{root_in}
use Rattle.merge_heap.proofs.HeapPop.{built_none, built_more}
use Rattle.merge_heap.proofs.Heap.fill.Goals as goal

pub loop-v-init : goal.loop-v-init
loop-v-init c =
    let all : length c.args.self.now.links ≡ 96 = search rules in
    built_none _ _ _ _
    (record { children = length-map c.args.self.now.links (λ l. l.child) ∙ all; siblings = length-map c.args.self.now.links (λ l. l.next) ∙ all })

pub insert-requires-clause-root : goal.insert-requires-clause-root
insert-requires-clause-root c ne =
    c.requires.each _ (root_in _ _ _ c.requires.few c.loop-v.invariant.rep ne)

pub loop-v-preserved : goal.loop-v-preserved
loop-v-preserved c =
    built_more _ _ _ _ _ _ c.loop-v.invariant (omega arith) _ _ _ (c.insert.ensures _ c.requires.few (omega arith))
