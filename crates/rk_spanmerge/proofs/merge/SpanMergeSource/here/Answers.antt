use Rattle.std.proofs.Common.{◌∙◌, sym}
use Rattle.rk_spanmerge.proofs.Gaps.{here_is}
use Rattle.rk_spanmerge.proofs.merge.SpanMergeSource.here.Goals as goal

pub returns : goal.returns
returns g c =
    let m = c.self.inside in
    rw (← c.self.view_is) (c.as_ref.ensures.value ∙ sym (here_is g.S.Sorted.listing g.S.Sorted.standing (record { sources = m.sources.items; current = m.current; forward = m.forward; known = m.known }) c.self.invariant))
