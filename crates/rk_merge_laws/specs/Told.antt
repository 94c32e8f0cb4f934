-- When merges of chunks are told.
use Rattle.std.specs.Prelude.{IsTrue, List}
use Rattle.std.specs.List.{AllByRecursion}
use Rattle.rk_model.specs.Items.{keyed_points, keyed_spans}
use Rattle.rk_model.specs.declared.op.Entry.{Entry}
use Rattle.rk_fragment.specs.Fragments.{fragments}
use Rattle.rk_merge.specs.Laws.{union_of}
use Rattle.rk_spanmerge.specs.Merges.{cut_spans}
use Rattle.rk_merge_laws.specs.Chunks.{all_fragments, NumbersDifferOver}

-- the union of points that are told is told
abbrev pub PointsAreTold : Type 0
PointsAreTold = (ess : List (List Entry)) → AllByRecursion (λ es. IsTrue (keyed_points es)) ess → NumbersDifferOver ess → IsTrue (keyed_points (union_of ess))

-- and so are spans that are told, cut at each other's ends
abbrev pub SpansAreTold : Type 0
SpansAreTold = (ess : List (List Entry)) → AllByRecursion (λ es. IsTrue (keyed_spans (fragments es))) ess → NumbersDifferOver ess → IsTrue (keyed_spans (cut_spans (all_fragments ess)))
