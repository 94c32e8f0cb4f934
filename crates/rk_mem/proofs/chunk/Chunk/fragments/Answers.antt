use Rattle.std.proofs.Common.{◌≡◌, ◌∙◌, sym, ap}
use Rattle.std.specs.Prelude.{IsTrue}
use Rattle.std.specs.Arc.{arc_value}
use Rattle.std.proofs.lemmas.Result.{IfOk-weaker}
use Rattle.rk_model.specs.Operations.{NumbersDiffer}
use Rattle.rk_model.specs.Items.{are_keyed, keyed_spans}
use Rattle.rk_fragment.specs.Fragments.{fragments}
use Rattle.rk_mem.specs.Chunks.{ranges_of}
use Rattle.rk_mem.proofs.Split.{ranges_inside, fragments_of_ranges, spans_keyed}
use Rattle.rk_mem.proofs.chunk.Chunk.fragments.Goals as goal

pub returns-clause-value : goal.returns-clause-value
returns-clause-value c =
    let chunk = c.args.self.now in
    let are : ranges_of chunk ≡ c.self.inside.ranges = ranges_inside c.self.inside.points.items c.self.inside.ranges chunk c.self.invariant c.self.view_is in
    IfOk-weaker c.fragments_of.result (λ spans. arc_value spans ≡ fragments c.self.inside.ranges) (λ spans. arc_value spans ≡ fragments chunk) (λ spans is. is ∙ ap fragments (sym are) ∙ fragments_of_ranges chunk) c.fragments_of.ensures

pub returns-clause-spans : goal.returns-clause-spans
returns-clause-spans c =
    let chunk = c.args.self.now in
    let are : ranges_of chunk ≡ c.self.inside.ranges = ranges_inside c.self.inside.points.items c.self.inside.ranges chunk c.self.invariant c.self.view_is in
    let differ : NumbersDiffer (ranges_of chunk) = rw are c.self.invariant.differ in
    IfOk-weaker c.fragments_of.result (λ spans. arc_value spans ≡ fragments c.self.inside.ranges) (λ spans. IsTrue (keyed_spans (fragments chunk))) (λ spans is. spans_keyed chunk differ (ap are_keyed (sym c.self.view_is) ∙ c.self.invariant.keyed)) c.fragments_of.ensures
