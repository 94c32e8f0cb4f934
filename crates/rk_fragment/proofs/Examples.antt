-- Worked examples: what the definitions give on short lists of entries. Each is computed.
use Rattle.std.proofs.Common.{◌≡◌, [], ◌∷◌, refl}
use Rattle.std.specs.Prelude.{codes}
use Rattle.rk_model.specs.Operations.{numbered}
use Rattle.rk_model.specs.declared.op.Op.TheVariants.{Put, RangeSet, RangeUnset, RangeDel}
use Rattle.rk_model.specs.declared.span.RangeKind.TheVariants.{Set, Unset, Del}
use Rattle.rk_fragment.specs.Fragments.{fragments}

nothing_makes_no_span : fragments [] ≡ []
nothing_makes_no_span = refl

two_sets_that_overlap :
    fragments (numbered 1 (RangeSet (codes "a") (codes "d") [] (codes "foo") ∷ RangeSet (codes "c") (codes "e") [] (codes "bar") ∷ []))
    ≡ record { start = codes "a"; end = codes "c"; keys = record { kind = Set; seq = 1; suffix = []; value = codes "foo" } ∷ [] }
    ∷ record { start = codes "c"; end = codes "d"; keys = record { kind = Set; seq = 2; suffix = []; value = codes "bar" } ∷ record { kind = Set; seq = 1; suffix = []; value = codes "foo" } ∷ [] }
    ∷ record { start = codes "d"; end = codes "e"; keys = record { kind = Set; seq = 2; suffix = []; value = codes "bar" } ∷ [] } ∷ []
two_sets_that_overlap = refl

a_point_is_passed_over : fragments (numbered 1 (Put (codes "a") (codes "x") ∷ Put (codes "c") (codes "y") ∷ [])) ≡ []
a_point_is_passed_over = refl

an_unset_and_a_delete_that_leave_a_gap :
    fragments (numbered 1 (RangeUnset (codes "a") (codes "b") (codes "@5") ∷ RangeDel (codes "c") (codes "d") ∷ []))
    ≡ record { start = codes "a"; end = codes "b"; keys = record { kind = Unset; seq = 1; suffix = codes "@5"; value = [] } ∷ [] }
    ∷ record { start = codes "c"; end = codes "d"; keys = record { kind = Del; seq = 2; suffix = []; value = [] } ∷ [] } ∷ []
an_unset_and_a_delete_that_leave_a_gap = refl

-- the ends of an operation over no key cut, and its range key is nowhere
an_operation_over_no_key :
    fragments (numbered 1 (RangeDel (codes "c") (codes "b") ∷ RangeDel (codes "a") (codes "d") ∷ []))
    ≡ record { start = codes "a"; end = codes "b"; keys = record { kind = Del; seq = 2; suffix = []; value = [] } ∷ [] }
    ∷ record { start = codes "b"; end = codes "c"; keys = record { kind = Del; seq = 2; suffix = []; value = [] } ∷ [] }
    ∷ record { start = codes "c"; end = codes "d"; keys = record { kind = Del; seq = 2; suffix = []; value = [] } ∷ [] } ∷ []
an_operation_over_no_key = refl
