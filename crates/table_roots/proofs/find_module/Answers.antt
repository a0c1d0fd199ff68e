-- find_module meets its contract.
use mathlib.Core.Path.{ap, ◌∙◌}
use Rattle.source.specs.Calls.{found}
use Rattle.memory.specs.Layout.{record_at, modules}
use Rattle.memory.specs.Read.{symbol_of}
use Rattle.memory.proofs.Seen.{symbol_item}
use Rattle.memory_table.proofs.Table.{modules_trie}
use Rattle.table_roots.proofs.Finds.{symbol_inside}
use Rattle.table_roots.proofs.find_module.Goals as goal

pub returns-in-Some : goal.returns-in-Some
returns-in-Some c =
    let look_up = c.in_ok-found.ensures in
    let symbol = c.branch_of.ensures.symbol in record {
      says = ap found (ap (symbol_of _) symbol ∙ symbol_item c.args.text.now (record_at c.args.words.now c.in-Some.link))
          ∙ rw c.in-Some.is at (look_up.says modules (modules_trie c.requires));
      inside = let h = rw c.in-Some.is at look_up.fits in
          rw symbol (symbol_inside c.requires
          (rw c.in-Some.is at (look_up.link modules (modules_trie c.requires))) h.0);
    }
