use Rattle.std.proofs.Common.{◌≡◌, rules}
use Rattle.rk_pointmerge.proofs.Arriving.{step_shows}
use Rattle.rk_pointmerge.proofs.moves.step_all.Goals as goal

pub go_on-requires-clause-shows : goal.go_on-requires-clause-shows
go_on-requires-clause-shows g c =
    let same : c.args.was ≡ c.args.forward = search rules in
    step_shows g.S.Sorted.listing g.S.Sorted.standing g.met.S.Source.ordered g.met.S.Source.told c.args.sources.now c.args.at c.args.forward (rw same at c.requires.stands) (rw same at c.requires.can)
