use Rattle.rk_batch.proofs.Uniqueness as uniqueness
use Rattle.rk_batch.proofs.laws.one_place.Goals as goal

pub returns-clause-no_batch : goal.returns-clause-no_batch
returns-clause-no_batch c = uniqueness.no_batch

pub returns-clause-one_place : goal.returns-clause-one_place
returns-clause-one_place c = uniqueness.one_place
