use Rattle.rk_standing.proofs.Growing.{agrees_on}
use Rattle.rk_standing.proofs.laws.entries_stand_for_more.Goals as goal

pub returns : goal.returns
returns c = λ old new h more live agrees within permuted layered. agrees_on old new h more live agrees within permuted layered
