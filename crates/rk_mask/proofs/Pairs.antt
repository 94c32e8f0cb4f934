-- Whether any of a list passes a test, once mapped.
use Rattle.std.proofs.Common.{◌≡◌, Bool, List, [], ◌∷◌, map, refl, ap}
use Rattle.std.specs.Prelude.{◌||◌}
use Rattle.std.specs.List.{list_any}

pub any_mapped : {X Y : Type 0} (f : X → Y) (t : Y → Bool) (xs : List X) → list_any t (map f xs) ≡ list_any (λ x. t (f x)) xs
any_mapped f t [] = refl
any_mapped f t (x ∷ xs) = ap (λ b. t (f x) || b) (any_mapped f t xs)
