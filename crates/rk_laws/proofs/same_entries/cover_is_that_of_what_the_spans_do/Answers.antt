use Rattle.rk_laws.proofs.Alike.{cover_of_effects}
use Rattle.rk_laws.proofs.same_entries.cover_is_that_of_what_the_spans_do.Goals as goal

pub returns : goal.returns
returns c = cover_of_effects
