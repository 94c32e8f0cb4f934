use Rattle.rk_coalesce.proofs.EachKey.{kept_at_each_key}
use Rattle.rk_coalesce.proofs.laws.what_a_span_keeps_is_what_its_keys_keep.Goals as goal

pub returns : goal.returns
returns c = kept_at_each_key
