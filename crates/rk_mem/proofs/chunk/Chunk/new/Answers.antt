use Rattle.std.proofs.Common.{◌≡◌, ◌++◌, subst, sym}
use Rattle.std.specs.List.Sorted.{IsPermutation}
use Rattle.std.proofs.lemmas.Result.{IfOk-weaker}
use Rattle.rk_model.proofs.Numbers.{some_differ}
use Rattle.rk_model.specs.Covers.{is_point}
use Rattle.rk_mem.specs.Chunks.{points_of, IsChunkOf}
use Rattle.rk_mem.proofs.Numbers.{rising_differ}
use Rattle.rk_mem.proofs.Split.{filter_again, sorted_out, chunk_is}
use Rattle.rk_mem.proofs.chunk.Chunk.new.Goals as goal

pub sort-requires-clause-differ : goal.sort-requires-clause-differ
sort-requires-clause-differ c =
    let es = c.args.entries.items in
    rw c.in_ok-points.ensures.points (some_differ (λ e. is_point e.op) es (rising_differ es c.requires))

pub sort-requires-clause-points : goal.sort-requires-clause-points
sort-requires-clause-points c =
    let es = c.args.entries.items in
    rw c.in_ok-points.ensures.points (filter_again (λ e. is_point e.op) es)

pub of-requires : goal.of-requires
of-requires c =
    let es = c.args.entries.items in
    let points = c.sort.new.points.items in
    let same : IsPermutation (points_of es) points = rw c.in_ok-points.ensures.points at c.sort.ensures.same in
    rw c.in_ok-points.ensures.ranges (sorted_out es points c.requires same c.in_ok-sort.ensures.in_order c.in_ok-points.ensures.keyed)

pub returns : goal.returns
returns c =
    let es = c.args.entries.items in
    let points = c.sort.new.points.items in
    let ranges = c.in_ok-points.ranges.items in
    let same : IsPermutation (points_of es) points = rw c.in_ok-points.ensures.points at c.sort.ensures.same in
    let is : IsChunkOf es (points ++ ranges) = rw c.in_ok-points.ensures.ranges (chunk_is es points same c.in_ok-sort.ensures.in_order) in
    IfOk-weaker c.of.result (λ chunk. chunk ≡ points ++ ranges) (λ chunk. IsChunkOf es chunk) (λ chunk e. subst (IsChunkOf es) (sym e) is) c.of.ensures
