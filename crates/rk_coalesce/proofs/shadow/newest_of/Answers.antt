use Rattle.std.proofs.Common.{◌∙◌, sym, ap, nat_lt, arith}
use Rattle.rk_coalesce.specs.Numbers.{newest_at}
use Rattle.rk_coalesce.proofs.Shadows.{tells_noted, tells_above}
use Rattle.rk_coalesce.proofs.shadow.newest_of.Goals as goal
use Rattle.rk_coalesce.proofs.shadow.newest_of.Goals.{in-Some+in_ok-note, in_default}

pub loop-key-preserved : goal.loop-key-preserved
loop-key-preserved c =
    elim c.match-stripe_of.branch [
      | in-Some+in_ok-note w ↦
          tells_noted c.args.stripes.now c.args.keys.now c.loop-key.key-index c.key-item.result (newest_at c.loop-key.newest) (newest_at c.match-stripe_of.newest) w.in-Some.stripe (omega arith) c.key-item.is
          (sym c.stripe_of.ensures ∙ w.in-Some.is)
          (λ p. ap (λ m. newest_at m p) w.newest-is ∙ rw w.suffix_of.ensures at (w.in_ok-note.ensures p))
          c.loop-key.invariant
      | in_default w ↦
          λ p n.
          ap (λ m. nat_lt n (newest_at m p)) w.newest-is
          ∙ tells_above c.args.stripes.now c.args.keys.now c.loop-key.key-index c.key-item.result (newest_at c.loop-key.newest) (omega arith) c.key-item.is (sym c.stripe_of.ensures ∙ w.in_default.is) c.loop-key.invariant p n
    ]
