use Rattle.rk_laws.proofs.After.{cover_after_entry}
use Rattle.rk_laws.proofs.newer.cover_after_an_entry_is_that_of_the_cover_before.Goals as goal

pub returns : goal.returns
returns c = cover_after_entry
