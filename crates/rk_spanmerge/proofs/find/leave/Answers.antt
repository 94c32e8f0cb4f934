use Rattle.std.proofs.Common.{◌≡◌, ◌<◌, sym, map, not, true, subst, IfSome, ℕ, length, get_or}
use Rattle.rk_spanmerge.specs.Merges.{left_end}
use Rattle.rk_spanmerge.specs.Moves.{takes, is_past, Passed, ReachesTo}
use Rattle.rk_spanmerge.proofs.Gaps.{left_falls}
use Rattle.rk_spanmerge.proofs.Found.{IsFound, IsEnd, all_face, same_length, left_stands, left_is_end, arrives_at}
use Rattle.rk_spanmerge.proofs.find.leave.Goals as goal

pub settle-requires-clause-faces : goal.settle-requires-clause-faces
settle-requires-clause-faces g c = all_face g.S.Sorted.listing g.S.Sorted.standing c.args.sources.now c.pass_all.new.sources c.args.forward c.left_end-key.result.now c.pass_all.ensures.same c.in_ok-pass_all.ensures.passed

pub settle-requires-clause-stands : goal.settle-requires-clause-stands
settle-requires-clause-stands g c =
    let near = left_end (not c.args.forward) c.args.span.now in
    let past = subst (λ z. is_past c.args.forward near z ≡ true) (sym c.left_end-key.ensures) c.requires.arrives.end.past in
    left_stands g.S.Sorted.listing g.S.Sorted.standing c.args.sources.now c.pass_all.new.sources c.args.forward c.left_end-key.result.now c.pass_all.ensures.same c.in_ok-pass_all.ensures.passed near past c.requires.arrives.stands

pub settle-requires-clause-end : goal.settle-requires-clause-end
settle-requires-clause-end g c =
    let end = left_is_end g.S.Sorted.listing g.S.Sorted.standing g.met.S.Source.ordered c.args.sources.now c.args.span.now c.args.forward c.requires.among in
    subst (IsEnd (map g.S.Sorted.listing c.pass_all.new.sources)) (sym c.left_end-key.ensures) (subst (λ ls. IsEnd ls (left_end c.args.forward c.args.span.now)) (sym c.pass_all.ensures.same) end)

pub returns-clause-found : goal.returns-clause-found
returns-clause-found g c =
    let found = subst (λ ls. IsFound ls c.args.forward (takes c.args.forward c.left_end-key.result.now) c.in_ok-settle.field-0) c.pass_all.ensures.same c.in_ok-settle.ensures.found in
    subst (λ z. IsFound (map g.S.Sorted.listing c.args.sources.now) c.args.forward (takes c.args.forward z) c.in_ok-settle.field-0) c.left_end-key.ensures found

pub returns-clause-arrives : goal.returns-clause-arrives
returns-clause-arrives g c =
    arrives_at g.S.Sorted.listing g.S.Sorted.standing c.pass_all.new.sources c.args.forward c.left_end-key.result.now c.in_ok-settle.field-0 (all_face g.S.Sorted.listing g.S.Sorted.standing c.args.sources.now c.pass_all.new.sources c.args.forward c.left_end-key.result.now c.pass_all.ensures.same c.in_ok-pass_all.ensures.passed) c.in_ok-settle.ensures.stands c.in_ok-settle.ensures.reaches

pub returns-clause-fewer : goal.returns-clause-fewer
returns-clause-fewer g c =
    let olds = c.args.sources.now in
    let news = c.pass_all.new.sources in
    let found = c.in_ok-settle.field-0 in
    left_falls g.S.Sorted.listing g.S.Sorted.standing olds news c.args.forward c.args.span.now found (same_length g.S.Sorted.listing news olds c.pass_all.ensures.same) c.requires.arrives.end
    (subst (λ z. (k : ℕ) (d : g.row.S.Denot) → k < length olds → Passed c.args.forward z (g.S.Sorted.listing (get_or olds k d)) (g.S.Sorted.standing (get_or olds k d)) (g.S.Sorted.standing (get_or news k d))) c.left_end-key.ensures c.in_ok-pass_all.ensures.passed)
    (subst (λ z. IfSome found (ReachesTo g.S.Sorted.standing news c.args.forward z)) c.left_end-key.ensures c.in_ok-settle.ensures.reaches)
