use Rattle.rk_fragment.proofs.Sound.{sound}
use Rattle.rk_fragment.proofs.laws.fragments_are_spans.Goals as goal

pub returns : goal.returns
returns c = sound
