use Rattle.rk_model.proofs.plain.moves.sought_below.Goals as goal

pub returns : goal.returns
returns c = rw c.lowered.ensures at c.greatest_below.ensures
