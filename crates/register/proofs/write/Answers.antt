-- write meets its contract.
use native.Mathlib.Omega.{arith}
use Rattle.register.proofs.Accepts.{text_room, write_mutation, write_way, write_accepts}
use Rattle.register.proofs.write.Goals as goal

pub overflow_cast-len : goal.overflow_cast-len
overflow_cast-len c = omega (arith, text_room c.requires)

pub overflow_cast-size : goal.overflow_cast-size
overflow_cast-size c = omega (arith, text_room c.requires)

pub overflow_cast-start : goal.overflow_cast-start
overflow_cast-start c = omega (arith, text_room c.requires)

pub overflow_add-start : goal.overflow_add-start
overflow_add-start c = omega (arith, text_room c.requires)

pub overflow_add-end : goal.overflow_add-end
overflow_add-end c = omega (arith, text_room c.requires)

pub put_texts-requires : goal.put_texts-requires
put_texts-requires c =
    let p = text_room c.requires in record { key_in_bounds = p.0; key_bound = p.1 }

pub trie_mutate-b-requires : goal.trie_mutate-b-requires
trie_mutate-b-requires c = record {
  some = rw (c.root_of-root.ensures, c.shape_of-form.ensures) (record { used = _; holds = write_mutation c.requires c.put_texts.ensures });
  trie_way = rw (c.root_of-root.ensures, c.shape_of-form.ensures) (write_way c.requires c.put_texts.ensures);
}

pub overflow_add-end-2 : goal.overflow_add-end-2
overflow_add-end-2 c = omega (arith, text_room c.requires)

pub returns : goal.returns
returns c =
    write_accepts c.requires c.put_texts.ensures
    (rw c.shape_of-form.ensures at c.root_of-root.ensures) c.trie_mutate-b.ensures
    (rw c.shape_of-form.ensures at c.changed.ensures)
