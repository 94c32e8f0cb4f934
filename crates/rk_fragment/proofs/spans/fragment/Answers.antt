use Rattle.std.proofs.Common.{◌≡◌, ◌∙◌, ap}
use Rattle.std.proofs.lemmas.Result.{IfOk-weaker}
use Rattle.rk_fragment.specs.Fragments.{written, fragments}
use Rattle.rk_fragment.specs.Intervals.{spans_of}
use Rattle.rk_fragment.proofs.Parts.{spans_of_ends}
use Rattle.rk_fragment.proofs.spans.fragment.Goals as goal

pub returns : goal.returns
returns c =
    let es = c.args.entries.now in
    IfOk-weaker c.spans_of.result (λ spans. spans.items ≡ spans_of c.in_ok-intervals.intervals.items) (λ spans. spans.items ≡ fragments es)
    (λ spans h. h ∙ ap spans_of c.in_ok-intervals.ensures ∙ spans_of_ends es (written es)) c.spans_of.ensures
