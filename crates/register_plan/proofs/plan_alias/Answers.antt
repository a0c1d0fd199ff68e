-- plan_alias meets its contract.
use Rattle.memory.proofs.Tries.{bindings_at}
use Rattle.find_trie.proofs.Links.{any_namespaces}
use Rattle.register_kind.specs.declared.CallKind.TheVariants.{Alias}
use Rattle.register_way.proofs.Steps.{noted_count}
use Rattle.register_plan.proofs.Plans.{same_records, placed_small, namespaces_builds, any_light, none_light, alias_planned}
use native.Mathlib.Omega.{arith}
use Rattle.register_plan.proofs.plan_alias.Goals as goal

pub names_place-a-requires : goal.names_place-a-requires
names_place-a-requires c = any_namespaces c.plan_path-p.ensures.path.here c.trie_of-t.ensures

pub insertion-requires : goal.insertion-requires
insertion-requires c =
    omega (arith, placed_small (any_namespaces c.plan_path-p.ensures.path.here c.trie_of-t.ensures) c.names_place-a.ensures)

pub import-requires : goal.import-requires
import-requires c = (any_light (bindings_at c.requires.at.1 c.trie_of-i.ensures), none_light c.args.words.now)

pub and-made-requires : goal.and-made-requires
and-made-requires c =
    omega (
      arith,
      placed_small (any_namespaces c.plan_path-p.ensures.path.here c.trie_of-t.ensures) c.names_place-a.ensures,
      same_records c.insertion.ensures,
      same_records c.import.ensures,
    )

pub and-requires : goal.and-requires
and-requires c =
    let path = c.plan_path-p.ensures.path in
    omega (
      arith,
      placed_small (any_namespaces path.here c.trie_of-t.ensures) c.names_place-a.ensures,
      path.few,
      path.gives.small,
      same_records c.and-made.ensures,
      same_records c.insertion.ensures,
      same_records c.import.ensures,
    )

pub returns : goal.returns
returns c =
    let p = c.plan_path-p.ensures in record {
      alias_planned = λ tbl q e f. rw (c.and.ensures, c.and-made.ensures, c.insertion.ensures, c.import.ensures)
          (alias_planned _ p.path c.trie_of-t.ensures tbl e c.requires.at.1 c.trie_of-i.ensures q f c.names_place-a.ensures);
      alias_noted = λ other. noted_count p.leads p.path.few Alias other c.args.key.now c.note_host.ensures
          (namespaces_builds p.path.here c.trie_of-t.ensures c.names_place-a.ensures);
    }
