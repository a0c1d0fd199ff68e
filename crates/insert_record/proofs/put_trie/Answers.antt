-- `insert_record::put_trie` meets its contract.
use mathlib.Core.Path.{refl}
use native.Mathlib.Omega.{arith}
use Rattle.insert_record.proofs.Made.{made_trie}
use Rattle.insert_record.proofs.put_trie.Goals as goal

pub put_row-requires : goal.put_row-requires
put_row-requires c =
    (omega arith, rw c.trie_row-row.ensures)

pub returns : goal.returns
returns c =
    record {
      value = refl;
      made_trie = rw (c.put_row.ensures, c.trie_row-row.ensures, c.depth_of.ensures)
          (made_trie c.requires.room _ _ _ c.requires.namespaces_le_records.1);
    }
