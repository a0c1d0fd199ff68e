-- plan_name meets its contract.
use Rattle.find_trie.proofs.Links.{any_bindings}
use Rattle.register_plan.proofs.Plans.{same_records, placed_small, bindings_builds, name_planned}
use Rattle.register_way.proofs.Steps.{noted_count}
use Rattle.register_kind.specs.declared.CallKind.TheVariants.{Name}
use native.Mathlib.Omega.{arith}
use Rattle.register_plan.proofs.plan_name.Goals as goal

pub names_place-b-requires : goal.names_place-b-requires
names_place-b-requires c = any_bindings c.plan_path-p.ensures.path.here c.trie_of-t.ensures

pub insertion-requires : goal.insertion-requires
insertion-requires c =
    omega (arith, placed_small (any_bindings c.plan_path-p.ensures.path.here c.trie_of-t.ensures) c.names_place-b.ensures)

pub and-requires : goal.and-requires
and-requires c =
    let path = c.plan_path-p.ensures.path in
    omega
    (arith, placed_small (any_bindings path.here c.trie_of-t.ensures) c.names_place-b.ensures, path.few, path.gives.small, same_records c.insertion.ensures)

pub returns : goal.returns
returns c =
    let p = c.plan_path-p.ensures in record {
      name_planned = λ tbl number e. rw (c.and.ensures, c.insertion.ensures)
          (name_planned _ p.path c.trie_of-t.ensures tbl e number c.names_place-b.ensures);
      name_noted = λ number key. noted_count p.leads p.path.few (Name number.kind number.number) c.args.id.now key c.note_host.ensures
          (bindings_builds p.path.here c.trie_of-t.ensures c.names_place-b.ensures);
    }
