-- `insert_record::put_names` meets its contract.
use Rattle.insert_record.proofs.Made.{made_names}
use Rattle.insert_record.proofs.put_names.Goals as goal

pub returns : goal.returns
returns c =
    let put-collection = c.put_collection.ensures in
    record {
      value = put-collection.value;
      made_names = rw (put-collection.words_value, put-collection.value, c.weight_of-weight.ensures)
          (made_names c.requires.room _ _ _ c.requires.own_le_records.2);
    }
