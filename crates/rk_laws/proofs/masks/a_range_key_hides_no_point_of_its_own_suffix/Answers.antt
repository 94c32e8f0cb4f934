use Rattle.rk_laws.proofs.Unmasked.{shown_at_own_suffix}
use Rattle.rk_laws.proofs.masks.a_range_key_hides_no_point_of_its_own_suffix.Goals as goal

pub returns : goal.returns
returns c = shown_at_own_suffix
