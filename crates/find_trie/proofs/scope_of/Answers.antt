-- scope_of meets its contract: a holder's trie, none giving the empty one.
use Rattle.source.specs.Types.{ns}
use Rattle.find_trie.proofs.Links.{holder_fits, holder_scope}
use native.Mathlib.Omega.{arith}
use Rattle.find_trie.proofs.scope_of.Goals as goal

pub trie_held-requires : goal.trie_held-requires
trie_held-requires c =
    omega (arith, c.unwrap_or.ensures, holder_fits c.requires c.names_find_exact-holder.ensures.found)

pub returns : goal.returns
returns c w a =
    holder_scope a (c.names_find_exact-holder.ensures.found w ns a) (rw c.unwrap_or.ensures at c.trie_held.ensures)
