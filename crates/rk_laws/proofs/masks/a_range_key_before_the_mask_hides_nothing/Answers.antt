use Rattle.rk_laws.proofs.Unmasked.{shown_before_mask}
use Rattle.rk_laws.proofs.masks.a_range_key_before_the_mask_hides_nothing.Goals as goal

pub returns : goal.returns
returns c = shown_before_mask
