use Rattle.rk_laws.proofs.Unmasked.{shown_without_mask}
use Rattle.rk_laws.proofs.masks.without_a_mask_each_point_is_shown.Goals as goal

pub returns : goal.returns
returns c = shown_without_mask
