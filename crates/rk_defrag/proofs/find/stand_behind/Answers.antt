use Rattle.std.proofs.Common.{◌≡◌, subst, Some, IfSome, OnOk}
use Rattle.rk_model.specs.Cuts.{count_before}
use Rattle.rk_model.specs.Items.{span_beside}
use Rattle.rk_defrag.specs.Moves.{part, place}
use Rattle.rk_defrag.proofs.find.stand_behind.Goals as goal

pub returns-clause-stands : goal.returns-clause-stands
returns-clause-stands g c = subst (λ key. OnOk c.seek.result (IfSome (part g.S.Sorted.listing c.args.source.now).held (λ xs. (place g.S.Sorted.listing g.S.Sorted.standing c.seek.new.self).gap ≡ Some (count_before (span_beside c.args.forward key) xs)))) c.far_end.ensures c.seek.ensures.leads.there
