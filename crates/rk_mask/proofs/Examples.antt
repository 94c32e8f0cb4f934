-- Worked examples: which points a mask hides under the pair `@5=x`. Each is computed.
use Rattle.std.proofs.Common.{◌≡◌, List, [], ◌∷◌, true, false, refl}
use Rattle.std.specs.Prelude.{codes}
use Rattle.rk_model.specs.Positions.{masks}
use Rattle.rk_model.specs.declared.span.SuffixValue.{SuffixValue}

abbrev five_x : List SuffixValue
five_x = record { suffix = codes "@5"; value = codes "x" } ∷ []

an_older_point_is_hidden : masks five_x (codes "@9") (codes "b@3") ≡ true
an_older_point_is_hidden = refl

a_newer_point_is_shown : masks five_x (codes "@9") (codes "b@7") ≡ false
a_newer_point_is_shown = refl

a_point_of_the_same_suffix_is_shown : masks five_x (codes "@9") (codes "b@5") ≡ false
a_point_of_the_same_suffix_is_shown = refl

a_point_without_a_suffix_is_shown : masks five_x (codes "@9") (codes "b") ≡ false
a_point_without_a_suffix_is_shown = refl

a_pair_at_the_mask_hides : masks five_x (codes "@5") (codes "b@3") ≡ true
a_pair_at_the_mask_hides = refl

a_pair_before_the_mask_hides_nothing : masks five_x (codes "@4") (codes "b@3") ≡ false
a_pair_before_the_mask_hides_nothing = refl

an_empty_mask_hides_nothing : masks five_x [] (codes "b@3") ≡ false
an_empty_mask_hides_nothing = refl
