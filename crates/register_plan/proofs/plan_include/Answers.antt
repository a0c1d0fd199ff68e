-- plan_include meets its contract.
use Rattle.memory.proofs.Tries.{bindings_at}
use Rattle.register_kind.specs.declared.CallKind.TheVariants.{Include}
use Rattle.register_way.proofs.Steps.{noted_path}
use Rattle.register_plan.proofs.Plans.{any_light, include_planned}
use Rattle.register_plan.proofs.plan_include.Goals as goal

pub import-requires : goal.import-requires
import-requires c =
    (any_light (bindings_at c.requires.at.1 c.trie_of-i.ensures), any_light (bindings_at c.plan_path-p.ensures.path.here c.trie_of-t.ensures))

pub returns : goal.returns
returns c =
    let p = c.plan_path-p.ensures in record {
      include_planned = λ tbl q e f. rw (c.and.ensures, c.import.ensures)
          (include_planned _ p.path c.trie_of-t.ensures tbl e c.requires.at.1 c.trie_of-i.ensures q f);
      path_noted = λ other key. noted_path p.leads p.path.few Include other key tt;
    }
