use Rattle.std.proofs.Common.{◌≡◌, ◌++◌, sym, subst}
use Rattle.std.specs.List.Sorted.{IsPermutation}
use Rattle.std.proofs.lemmas.Result.{IfOk-weaker}
use Rattle.rk_model.specs.Operations.{NumbersDiffer}
use Rattle.rk_mem.specs.Chunks.{AreNewer, points_of, ranges_of, IsChunkOf}
use Rattle.rk_mem.specs.SortedOut.{AreSortedOut}
use Rattle.rk_mem.proofs.Split.{points_newer, merged_sorted_out, merged_is}
use Rattle.rk_mem.proofs.chunk.Chunk.merged.Goals as goal

pub merged-requires-clause-apart : goal.merged-requires-clause-apart
merged-requires-clause-apart c =
    let newer : AreNewer (points_of c.args.older.now) (points_of c.args.newer.now) = points_newer c.args.older.now c.args.newer.now c.requires in
    rw (c.points.ensures.value, c.points-2.ensures.value) newer

pub of-requires : goal.of-requires
of-requires c =
    let old = c.args.older.now in
    let new = c.args.newer.now in
    let old_differ : NumbersDiffer (ranges_of old) = c.ranges-2.ensures.differ in
    let new_differ : NumbersDiffer (ranges_of new) = c.ranges-3.ensures.differ in
    let points = c.in_ok-points.points.items in
    let same : IsPermutation (points_of old ++ points_of new) points = rw (c.points.ensures.value, c.points-2.ensures.value) at c.in_ok-points.ensures.same in
    let out : AreSortedOut points (ranges_of old ++ ranges_of new) = merged_sorted_out old new c.requires points c.in_ok-points.ensures.in_order old_differ new_differ (merged_is old new points same c.in_ok-points.ensures.in_order) c.points.ensures.keyed c.points-2.ensures.keyed in
    rw (c.in_ok-ranges.ensures, c.ranges-2.ensures.value, c.ranges-3.ensures.value) out

pub returns : goal.returns
returns c =
    let old = c.args.older.now in
    let new = c.args.newer.now in
    let points = c.in_ok-points.points.items in
    let ranges = c.in_ok-ranges.ranges.items in
    let same : IsPermutation (points_of old ++ points_of new) points = rw (c.points.ensures.value, c.points-2.ensures.value) at c.in_ok-points.ensures.same in
    let is : IsChunkOf (old ++ new) (points ++ ranges) =
    rw (c.in_ok-ranges.ensures, c.ranges-2.ensures.value, c.ranges-3.ensures.value) (merged_is old new points same c.in_ok-points.ensures.in_order) in
    IfOk-weaker c.of.result (λ chunk. chunk ≡ points ++ ranges) (λ chunk. IsChunkOf (old ++ new) chunk) (λ chunk e. subst (IsChunkOf (old ++ new)) (sym e) is) c.of.ensures
