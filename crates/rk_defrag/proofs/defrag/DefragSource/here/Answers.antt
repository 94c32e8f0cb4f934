use Rattle.std.proofs.Common.{◌∙◌, sym}
use Rattle.rk_defrag.proofs.Methods.{here_is}
use Rattle.rk_defrag.proofs.defrag.DefragSource.here.Goals as goal

pub returns : goal.returns
returns g c =
    let d = c.self.inside in
    rw (← c.self.view_is) (c.as_ref.ensures.value ∙ sym (here_is g.S.Sorted.listing g.S.Sorted.standing (record { source = d.source; n = d.n; options = d.options; current = d.current; facing = d.facing }) c.self.invariant))
