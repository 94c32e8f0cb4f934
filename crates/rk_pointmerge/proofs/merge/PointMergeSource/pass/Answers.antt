use Rattle.std.proofs.Common.{◌≡◌, ◌<◌, sym, subst, false, Option, IsTrue, IfSome}
use Rattle.std.specs.Vec.{with_items}
use Rattle.rk_model.specs.Cuts.{cut_copied, is_passed}
use Rattle.rk_model.specs.Items.{point_takes}
use Rattle.rk_model.specs.declared.op.Entry.{Entry}
use Rattle.rk_model.proofs.Paying.{paid_from, paid_ok}
use Rattle.rk_pointmerge.specs.Merges.{still}
use Rattle.rk_pointmerge.proofs.Methods.{before, new_is, merge_here, seen_over}
use Rattle.rk_pointmerge.proofs.merge.PointMergeSource.pass.Goals as goal

pub returns-clause-costs : goal.returns-clause-costs
returns-clause-costs g c =
    let made = c.in_ok-self-inside.ensures.arrives in
    let was = before g.S.Sorted.listing g.S.Sorted.standing c.self.view_is c.deref_mut.ensures.value c.requires.known in
    rw (was.known, was.sources, new_is g.S.Sorted.listing g.S.Sorted.standing c.self.inside.sources c.deref_mut.result.now c.pass_to.new.sources made.same c.deref_mut.ensures.len) (paid_ok _ _ _ _ _ _ _ tt (paid_from _ _ _ _ _ _ _ _ made.costs))

pub returns-clause-beyond : goal.returns-clause-beyond
returns-clause-beyond g c =
    let made = c.in_ok-self-inside.ensures in
    let was = before g.S.Sorted.listing g.S.Sorted.standing c.self.view_is c.deref_mut.ensures.value c.requires.known in
    seen_over g.S.Sorted.listing g.S.Sorted.standing g.met.S.Source.ordered g.met.S.Source.told (λ x. is_passed c.args.forward (point_takes (cut_copied c.args.cut) x) ≡ false)
    (new_is g.S.Sorted.listing g.S.Sorted.standing c.self.inside.sources c.deref_mut.result.now c.pass_to.new.sources made.arrives.same c.deref_mut.ensures.len) (rw was.forward at c.requires.faces) made.arrives.stands made.beyond

pub returns-clause-fewer : goal.returns-clause-fewer
returns-clause-fewer g c =
    let made = c.in_ok-self-inside.ensures in
    let was = before g.S.Sorted.listing g.S.Sorted.standing c.self.view_is c.deref_mut.ensures.value c.requires.known in
    subst (λ (p : Option Entry). IfSome p (λ x. IsTrue (is_passed c.args.forward (point_takes (cut_copied c.args.cut) x)) → still g.S.Sorted.standing (with_items c.self.inside.sources c.pass_to.new.sources).items < still g.S.Sorted.standing c.args.self.now.sources))
    (sym (merge_here g.S.Sorted.listing g.S.Sorted.standing g.met.S.Source.ordered g.met.S.Source.told c.self.view_is c.self.invariant))
    (rw (new_is g.S.Sorted.listing g.S.Sorted.standing c.self.inside.sources c.deref_mut.result.now c.pass_to.new.sources made.arrives.same c.deref_mut.ensures.len, was.sources) (made.fewer c.args.self.now.at))
