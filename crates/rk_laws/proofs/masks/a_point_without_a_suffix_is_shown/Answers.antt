use Rattle.rk_laws.proofs.Unmasked.{shown_without_suffix}
use Rattle.rk_laws.proofs.masks.a_point_without_a_suffix_is_shown.Goals as goal

pub returns : goal.returns
returns c = shown_without_suffix
