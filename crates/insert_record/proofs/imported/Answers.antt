-- `insert_record::imported` meets its contract.
use Rattle.insert_record.proofs.Made.{made_imported}
use Rattle.insert_record.proofs.imported.Goals as goal

pub returns : goal.returns
returns c =
    let put-collection = c.put_collection.ensures in record {
      value = put-collection.value;
      made_imported = rw (put-collection.words_value, put-collection.value, c.weight_of.ensures, c.weight_of-2.ensures)
          (made_imported c.requires.room _ _ _ _ c.requires.inner_le_records.2);
    }
