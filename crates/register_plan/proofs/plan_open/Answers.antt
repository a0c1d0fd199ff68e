-- plan_open meets its contract.
use Rattle.memory.proofs.Tries.{namespaces_at, lists_seen, trie_shallow}
use Rattle.register_kind.specs.declared.CallKind.TheVariants.{Open}
use Rattle.register_way.proofs.Steps.{noted_path}
use Rattle.register_plan.proofs.Plans.{any_light, open_planned}
use native.Mathlib.Omega.{arith}
use Rattle.register_plan.proofs.plan_open.Goals as goal

pub import-requires : goal.import-requires
import-requires c =
    (any_light (namespaces_at c.requires.at.1 c.trie_of-i.ensures), any_light (namespaces_at c.plan_path-p.ensures.path.here c.trie_of-t.ensures))

pub overflow_add-result : goal.overflow_add-result
overflow_add-result c =
    let inc = c.requires.at.1 in
    omega (arith, c.plan_path-p.ensures.path.few, (lists_seen inc c.trie_of-i.ensures).deep, trie_shallow inc)

pub returns : goal.returns
returns c =
    let p = c.plan_path-p.ensures in record {
      open_planned = λ tbl q e f. rw (c.and.ensures, c.import.ensures)
          (open_planned _ p.path c.trie_of-t.ensures tbl e c.requires.at.1 c.trie_of-i.ensures q f);
      path_noted = λ other key. noted_path p.leads p.path.few Open other key tt;
    }
