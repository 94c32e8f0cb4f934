use Rattle.std.proofs.Common.{◌≡◌, ◌∙◌, ap, map, sym, subst, refl, Bool, None, IfOk}
use Rattle.rk_model.specs.Cuts.{cut_copied}
use Rattle.rk_model.specs.Items.{span_takes}
use Rattle.rk_model.specs.declared.span.Span.{Span}
use Rattle.rk_merge.specs.Cuts.{near_cut}
use Rattle.rk_spanmerge.proofs.Pools.{if_told}
use Rattle.rk_spanmerge.proofs.Found.{IsFound, outer_is, none_beyond}
use Rattle.rk_spanmerge.proofs.find.find_at.Goals as goal

pub returns-then-forward-clause-found : goal.returns-then-forward-clause-found
returns-then-forward-clause-found g c =
    subst (λ (t : Span → Bool). IfOk c.find_outermost.result (IsFound (map g.S.Sorted.listing c.args.sources.now) c.args.forward t)) (outer_is c.args.forward (cut_copied c.args.cut) (ap cut_copied c.in-Start.is ∙ rw c.if-forward.true refl)) c.find_outermost.ensures.found

pub returns-else-forward-clause-found : goal.returns-else-forward-clause-found
returns-else-forward-clause-found g c = if_told _ (λ xs u. subst (λ z. None ≡ near_cut c.args.forward (span_takes c.args.forward z) xs) (sym (ap cut_copied c.in-Start.is ∙ rw c.if-forward.false refl)) (none_beyond c.args.forward xs))

pub returns-then-forward-2-clause-found : goal.returns-then-forward-2-clause-found
returns-then-forward-2-clause-found g c = if_told _ (λ xs u. subst (λ z. None ≡ near_cut c.args.forward (span_takes c.args.forward z) xs) (sym (ap cut_copied c.in-End.is ∙ rw c.if-forward-2.true refl)) (none_beyond c.args.forward xs))

pub returns-else-forward-2-clause-found : goal.returns-else-forward-2-clause-found
returns-else-forward-2-clause-found g c =
    subst (λ (t : Span → Bool). IfOk c.find_outermost-else-forward-2.result (IsFound (map g.S.Sorted.listing c.args.sources.now) c.args.forward t)) (outer_is c.args.forward (cut_copied c.args.cut) (ap cut_copied c.in-End.is ∙ rw c.if-forward-2.false refl)) c.find_outermost-else-forward-2.ensures.found

pub returns-in-Below-clause-found : goal.returns-in-Below-clause-found
returns-in-Below-clause-found g c =
    subst (λ (t : Span → Bool). IfOk c.find.result (IsFound (map g.S.Sorted.listing c.args.sources.now) c.args.forward t)) (ap (λ k. span_takes c.args.forward (cut_copied k)) (sym c.in-Below.is)) c.find.ensures.found

pub returns-in-Past-clause-found : goal.returns-in-Past-clause-found
returns-in-Past-clause-found g c =
    subst (λ (t : Span → Bool). IfOk c.find-in-Past.result (IsFound (map g.S.Sorted.listing c.args.sources.now) c.args.forward t)) (ap (λ k. span_takes c.args.forward (cut_copied k)) (sym c.in-Past.is)) c.find-in-Past.ensures.found
