-- `table_shared::complete_sound` meets its contract.
use Rattle.table_shared.proofs.CompletesShared.{completes_candidates, completes_shared}
use Rattle.table_shared.proofs.complete_sound.Goals as goal

pub sharing_of-requires : goal.sharing_of-requires
sharing_of-requires c =
    completes_candidates c.complete_sound-listing.ensures

pub returns : goal.returns
returns c =
    completes_shared c.complete_sound-listing.ensures c.sharing_of.ensures
