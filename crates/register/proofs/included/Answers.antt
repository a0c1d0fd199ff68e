-- included meets its contract.
use Rattle.refusals.proofs.Rows.{query_ends}
use Rattle.register.proofs.included.Goals as goal

pub trie_descend-requires-clause-query_value : goal.trie_descend-requires-clause-query_value
trie_descend-requires-clause-query_value c = query_ends _ (rw c.in-Import.is at c.requires.other_value)
