use Rattle.std.proofs.Common.{◌++◌, take, drop, ap, ◌∙◌}
use Rattle.rk_memvault.proofs.Written.{rebuilt}
use Rattle.rk_memvault.proofs.trace.overwrite.Goals as goal

pub returns : goal.returns
returns c =
    let old = c.args.old.now in
    let bytes = c.args.bytes.now in
    let front = c.split_at.result.0.now in
    let rest = c.split_at.result.1.now in
    let back = c.split_at-2.result.1.now in
    c.in_ok-extend_from_slice-2.ensures.items
    ∙ ap (λ l. l ++ back) (c.in_ok-extend_from_slice.ensures.items ∙ ap (λ l. l ++ bytes) (c.in_ok-new.ensures.items_if_clones_equal (λ x y e. e)))
    ∙ rebuilt c.args.at old bytes front rest back (c.split_at.ensures.front ∙ ap (λ n. take n old) c.min.ensures) (c.split_at.ensures.back ∙ ap (λ n. drop n old) c.min.ensures)
    (c.split_at-2.ensures.back ∙ ap (λ n. drop n rest) c.min-2.ensures)
