use Rattle.rk_laws.proofs.Fronts.{part_of_end}
use Rattle.rk_laws.proofs.parts.each_end_of_a_commit_has_its_part.Goals as goal

pub returns : goal.returns
returns c = part_of_end
