use Rattle.std.proofs.Common.{◌∙◌, ap, filter, arith}
use Rattle.std.proofs.lemmas.List.{take_all}
use Rattle.rk_coalesce.specs.Places.{stays}
use Rattle.rk_coalesce.specs.Numbers.{newest_at}
use Rattle.rk_coalesce.proofs.Shadows.{kept_keys_is}
use Rattle.rk_coalesce.proofs.keep.coalesce_stripes.Goals as goal

pub returns : goal.returns
returns c =
    let newest = newest_at c.in_ok-newest.newest in
    c.loop-key.invariant
    ∙ ap (filter (stays newest c.args.stripes.now c.args.bottom)) (take_all c.loop-key.key-index c.as_slice-keys.result.now (omega arith) ∙ c.as_slice-keys.ensures)
    ∙ kept_keys_is c.args.span.now c.args.stripes.now c.args.bottom newest (rw c.as_slice-keys.ensures at c.in_ok-newest.ensures)
