use Rattle.std.specs.List.{flat_map}
use Rattle.rk_model.specs.Spans.{op_ends}
use Rattle.rk_fragment.specs.Fragments.{written}
use Rattle.rk_fragment.proofs.Parts.{bare_starts}
use Rattle.rk_fragment.proofs.Rising.{sorted_rises}
use Rattle.rk_fragment.proofs.intervals.roomy_intervals.Goals as goal

pub counts_of-requires : goal.counts_of-requires
counts_of-requires c =
    let es = c.args.entries.now in
    rw (c.deref.ensures.value, c.in_ok-intervals.ensures, c.in_ok-written_ends.ensures, bare_starts (written es)) (sorted_rises (flat_map (λ e. op_ends e.op) es))
