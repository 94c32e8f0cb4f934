use Rattle.rk_iter_laws.proofs.Showing.{opens_alike}
use Rattle.rk_iter_laws.proofs.laws.an_opened_iterator_is_in_its_place.Goals as goal

pub returns : goal.returns
returns c = opens_alike
