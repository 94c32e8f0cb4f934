use Rattle.std.proofs.Common.{◌≡◌, ◌∙◌, sym}
use Rattle.rk_mem.specs.Chunks.{ranges_of}
use Rattle.rk_mem.proofs.Split.{ranges_inside, fragments_of_ranges}
use Rattle.rk_mem.proofs.chunk.Chunk.ranges.Goals as goal

pub returns-clause-value : goal.returns-clause-value
returns-clause-value c =
    let are : ranges_of c.args.self.now ≡ c.self.inside.ranges = ranges_inside c.self.inside.points.items c.self.inside.ranges c.args.self.now c.self.invariant c.self.view_is in
    c.deref.ensures.value ∙ c.behind-self.view_is ∙ c.input.ensures ∙ sym are

pub returns-clause-differ : goal.returns-clause-differ
returns-clause-differ c =
    let are : ranges_of c.args.self.now ≡ c.self.inside.ranges = ranges_inside c.self.inside.points.items c.self.inside.ranges c.args.self.now c.self.invariant c.self.view_is in
    rw are c.self.invariant.differ

pub returns-clause-alone : goal.returns-clause-alone
returns-clause-alone c = fragments_of_ranges c.args.self.now
