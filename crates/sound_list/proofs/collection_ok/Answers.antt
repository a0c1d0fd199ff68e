-- `sound_list::collection_ok` meets its contract.
use mathlib.Core.Path.{◌∙◌}
use native.Mathlib.Omega.{arith}
use Rattle.memory.proofs.Says.{says_holds}
use Rattle.sound_list.proofs.Lists.{weight_tree, weight_imported, says_collection}
use Rattle.sound_list.proofs.collection_ok.Goals as goal

pub returns-else-not-link_ok-2 : goal.returns-else-not-link_ok-2
returns-else-not-link_ok-2 c w v e f =
    let tree = c.in-0.is in says_collection c.weight_ok.result c.requires.before
    (record {
      sort = omega (arith, tree);
      own = λ z. rw f at (says_holds c.link_ok-in-0.result c.link_ok-in-0.ensures c.if-not-link_ok-2.false);
      imported = λ z. absurd (omega (arith, tree));
      label = λ z. absurd (omega (arith, tree));
      rest = rw e at (says_holds c.link_ok.result c.link_ok.ensures c.if-not-link_ok.false);
    })
    (weight_tree c.args.t.words.now c.args.t.row.now (c.from-after.ensures ∙ c.weight_of.ensures) tree) c.weight_ok.ensures

pub returns-else-not-text_ok : goal.returns-else-not-text_ok
returns-else-not-text_ok c w v e f =
    let imported = c.in-1.is in
    says_collection c.weight_ok-in-1.result c.requires.before
    (record {
      sort = omega (arith, imported);
      own = λ z. absurd (omega (arith, imported));
      imported = λ z. rw e at (says_holds c.link_ok-in-1.result c.link_ok-in-1.ensures c.if-not-link_ok-3.false);
      label = λ z. (says_holds c.text_ok.result c.text_ok.ensures c.if-not-text_ok.false);
      rest = rw e at (says_holds c.link_ok.result c.link_ok.ensures c.if-not-link_ok.false);
    })
    (weight_imported c.args.t.words.now c.args.t.row.now
    (c.from-after.ensures ∙ c.weight_of.ensures)
    (c.from-inner.ensures ∙ c.weight_of-in-1.ensures)
    imported)
    c.weight_ok-in-1.ensures
