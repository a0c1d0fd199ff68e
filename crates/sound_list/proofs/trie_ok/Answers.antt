-- `sound_list::trie_ok` meets its contract.
use Rattle.memory.proofs.Says.{says_holds}
use Rattle.sound_list.proofs.Lists.{says_trie}
use Rattle.sound_list.proofs.trie_ok.Goals as goal

pub returns : goal.returns
returns c w e f =
    says_trie c.requires.before w c.args.t.row.now
    (record {
      bindings = rw e at (says_holds c.link_ok.result c.link_ok.ensures c.if-not-link_ok.false);
      namespaces = rw f at (says_holds c.link_ok-2.result c.link_ok-2.ensures c.if-not-link_ok-2.false);
    })
    c.depth_of-depth.ensures
