use Rattle.std.proofs.Common.{◌∙◌, sym, ap, arith}
use Rattle.std.specs.Ordering.{is_lt}
use Rattle.std.specs.Option.{option_map_or}
use Rattle.rk_key.specs.Keys.{key_cmp}
use Rattle.rk_model.specs.declared.cursor.Cursor.TheVariants.{At, Start}
use Rattle.rk_model.proofs.Lasts.{last_passing}
use Rattle.rk_model.proofs.plain.moves.greatest_below.Goals as goal

pub returns-then-lt : goal.returns-then-lt
returns-then-lt c =
    let keys = c.args.keys.now in
    let x = c.args.x.now in
    let k = c.index-keys-i.result in
    let last = last_passing (λ p. is_lt (key_cmp p x)) keys c.loop-i.i k (omega arith) (omega arith) c.index-keys-i.is (sym c.lt.ensures ∙ c.if-lt.true) in
    ap At c.in_ok-copy_key.ensures.value ∙ sym (ap (λ o. option_map_or At o Start) (c.loop-i.invariant ∙ last))
