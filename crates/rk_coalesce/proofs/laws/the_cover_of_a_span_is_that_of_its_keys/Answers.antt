use Rattle.rk_coalesce.proofs.EachKey.{cover_at_each_key}
use Rattle.rk_coalesce.proofs.laws.the_cover_of_a_span_is_that_of_its_keys.Goals as goal

pub returns : goal.returns
returns c = cover_at_each_key
