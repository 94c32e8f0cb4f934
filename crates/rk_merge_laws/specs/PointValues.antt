-- What is visible, and the values of points.
use Rattle.std.specs.Prelude.{◌≡◌, ℕ, IsTrue, List, [], ◌∷◌, Some, MatchOption}
use Rattle.rk_model.specs.Covers.{upto, over, point, put_value}
use Rattle.rk_model.specs.Sources.{are_points}
use Rattle.rk_model.specs.declared.op.Entry.{Entry}
use Rattle.rk_pointmerge.specs.Visibles.{visible}

-- Over a key there is one visible entry, with the value of the point there, or there is none, where the point has no
-- value.
abbrev pub VisibleIsThePoint : Type 0
VisibleIsThePoint = (n : ℕ) (es : List Entry) (x : List ℕ) → IsTrue (are_points es)
    → MatchOption (point (upto n es) x) (over x (visible n es) ≡ []) (λ v. (e : Entry) × (over x (visible n es) ≡ e ∷ []) × (put_value e.op ≡ Some v))
