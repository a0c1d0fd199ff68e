-- `insert_list::names_insert` meets its contract.
use mathlib.Core.Path.{refl}
use native.Mathlib.Omega.{arith}
use Rattle.insert_list.proofs.NamesInsertion.{kind_list, kind_small, first_insertion, rest_ready, names_inserted}
use Rattle.insert_list.proofs.names_insert.Goals as goal

pub btree_insert_replace-tree-requires : goal.btree_insert_replace-tree-requires
btree_insert_replace-tree-requires c =
    let a = c.requires in
    record {
      which = a.which;
      level = a.level;
      used = a.used;
      insertion = first_insertion a.insertion c.lead_of-lead.ensures;
    }

pub overflow_add-row : goal.overflow_add-row
overflow_add-row c =
    let a = c.requires in
    omega (arith, a.insertion.new.known, kind_list a.which a.level, kind_small a.which a.level)

pub put_names-requires : goal.put_names-requires
put_names-requires c =
    let p = let a = c.requires in
    let d = c.lead_of-lead.ensures in
    rest_ready a.insertion d (c.btree_insert_replace-tree.ensures _ _ _ (first_insertion a.insertion d)) in record { room = p.0; own_le_records = p.1 }

pub returns : goal.returns
returns c =
    let d = c.lead_of-lead.ensures in
    record {
      value = c.put_names.ensures.value;
      names_inserts = λ w v used i. names_inserted i d
          (c.btree_insert_replace-tree.ensures w v used (first_insertion i d)) refl c.put_names.ensures.made_names;
    }
