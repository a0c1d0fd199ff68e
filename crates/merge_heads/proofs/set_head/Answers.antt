-- `merge_heads::set_head` meets its contract.
use mathlib.Core.Path.{refl, ap, ◌∙◌}
use lib.ListN.{set}
use lib.Seq.{map-set, map-set_same}
use Rattle.text.specs.Text.{beginning}
use Rattle.merge_heads.specs.Compare.{beginnings}
use Rattle.merge_heads.proofs.Heads.{empty}
use Rattle.merge_heads.proofs.set_head.Goals as goal

pub returns : goal.returns
returns c =
    record {
      roots_are = map-set_same (λ x. x.root) _ c.args.cell _ empty refl;
      labels_are = map-set_same (λ x. x.label) _ c.args.cell _ empty refl;
      heads_are = map-set (λ x. x.head) _ c.args.cell _;
      beginnings_are = map-set (λ x. x.beginning) _ c.args.cell _
          ∙ ap (set (beginnings c.args.cells.now) c.args.cell) (c.beginning.ensures ∙ ap beginning c.key_of.ensures);
    }
