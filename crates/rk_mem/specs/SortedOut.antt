-- What each chunk keeps of its two lists.
use Rattle.std.specs.Prelude.{◌≡◌, false, List, ◌++◌, IsTrue}
use Rattle.std.specs.List.{AllByRecursion}
use Rattle.rk_model.specs.Operations.{NumbersDiffer}
use Rattle.rk_model.specs.Covers.{is_point}
use Rattle.rk_model.specs.Items.{are_keyed}
use Rattle.rk_model.specs.Sources.{are_points}
use Rattle.rk_model.specs.declared.op.Entry.{Entry}

-- points in order, and range entries whose numbers differ; all keys are keys
pub record AreSortedOut (points ranges : List Entry) : Type 0 where
  pub in_order : IsTrue (are_points points)
  pub no_points : AllByRecursion (λ e. is_point e.op ≡ false) ranges
  pub differ : NumbersDiffer ranges
  pub keyed : IsTrue (are_keyed (points ++ ranges))
