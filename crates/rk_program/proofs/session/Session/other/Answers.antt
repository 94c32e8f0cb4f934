use Rattle.std.proofs.Common.{refl, subst, sym}
use Rattle.rk_script.specs.Script.{is_accepted}
use Rattle.rk_program.specs.Standing.{Did, names_in}
use Rattle.rk_program.proofs.Accepted.{release_live, iter_live}
use Rattle.rk_program.proofs.session.Session.other.Goals as goal

pub release-requires : goal.release-requires
release-requires g c = record { live = release_live c.args.self.now c.in-Release.name (rw c.in-Release.is at c.requires.accepted) }

pub open-requires-clause-live : goal.open-requires-clause-live
open-requires-clause-live g c =
    iter_live c.args.self.now c.in-Iter.name c.in-Iter.at c.in-Iter.lower c.in-Iter.upper c.in-Iter.mask (rw c.in-Iter.is at c.requires.accepted)

pub returns-in_ok-options-in-Iter-clause-did : goal.returns-in_ok-options-in-Iter-clause-did
returns-in_ok-options-in-Iter-clause-did g c = rw c.in-Iter.is (rw c.in_ok-options-in-Iter.ensures at c.open.ensures.did)
