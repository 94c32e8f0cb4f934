-- Laws of unions of points.
use Rattle.std.specs.Prelude.{◌≡◌, false, IsTrue, List, [], ◌∷◌}
use Rattle.std.specs.List.{AllByRecursion}
use Rattle.std.specs.Ordering.{is_lt, is_eq}
use Rattle.rk_model.specs.Sources.{are_points, entry_cmp}
use Rattle.rk_model.specs.declared.op.Entry.{Entry}
use Rattle.rk_merge.specs.Unions.{Among, AmongAny, union}

-- the entries of all lists, by key, and the newest first within one key
abbrev pub union_of : List (List Entry) → List Entry
union_of ess = union (λ e f. is_lt (entry_cmp e f)) ess

-- no entry of one list has the key and the number of an entry of another
abbrev pub NoneTie : List (List Entry) → Type 0
NoneTie [] = Unit {0}
NoneTie (es ∷ ess) = ((e f : Entry) → Among e es → AmongAny f ess → is_eq (entry_cmp e f) ≡ false) × NoneTie ess

-- the union of sorted lists of points is one
abbrev pub UnionIsSorted : Type 0
UnionIsSorted = (ess : List (List Entry)) → AllByRecursion (λ es. IsTrue (are_points es)) ess → NoneTie ess → IsTrue (are_points (union_of ess))

-- it has exactly their entries
abbrev pub UnionHasTheirs : Type 0
UnionHasTheirs = (ess : List (List Entry)) (e : Entry) → (Among e (union_of ess) → AmongAny e ess) × (AmongAny e ess → Among e (union_of ess))

-- two sorted lists of points with the same entries are one list
abbrev pub SameEntriesSameList : Type 0
SameEntriesSameList = (es fs : List Entry) → IsTrue (are_points es) → IsTrue (are_points fs)
    → ((e : Entry) → Among e es → Among e fs) → ((e : Entry) → Among e fs → Among e es) → es ≡ fs

-- so it does not matter in which order lists are merged, nor which of them are merged first
abbrev pub OrderDoesNotMatter : Type 0
OrderDoesNotMatter = (ess fss : List (List Entry)) → IsTrue (are_points (union_of ess)) → IsTrue (are_points (union_of fss))
    → ((e : Entry) → AmongAny e ess → AmongAny e fss) → ((e : Entry) → AmongAny e fss → AmongAny e ess) → union_of ess ≡ union_of fss
