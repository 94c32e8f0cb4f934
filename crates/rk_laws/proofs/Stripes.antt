-- Stripes that rise, and the entries in one stripe.
use Rattle.std.proofs.Common.{◌≡◌, ℕ, suc, ◌<◌, ◌≤◌, true, false, List, [], ◌∷◌, filter, Option, Some, None, refl, arith, nat_lt, nat_le, eqb}
use Rattle.std.specs.Option.{option_map_or}
use Rattle.std.specs.List.{AllPairs, AllByRecursion}
use Rattle.std.specs.List.Sorted.{IsStrictlyIncreasing}
use Rattle.std.proofs.lemmas.Bool.{lt-ltb, le-ltb, ltb-true, ltb-false, leb-true, le-leb, eqb-true, eq-eqb}
use Rattle.std.proofs.lemmas.List.Kept.{AllPairs-from_increasing}
use Rattle.std.proofs.lemmas.List.Elements.{recursion_from_All}
use Rattle.rk_model.specs.Kept.{stripe_of, same_stripe, in_lowest}
use Rattle.rk_model.specs.Lists.{Among}
use Rattle.rk_model.proofs.Members.{Ascending, all_among, among_all, among_filter, filter_among, first_among, first_least, ascending_filter}

pub pairs_head : {X : Type 0} (R : X → X → Type 0) (x : X) (xs : List X) → AllPairs R (x ∷ xs) → AllByRecursion (R x) xs
pairs_head R x xs h = recursion_from_All (R x) xs (λ k d m. h 0 (suc k) d (omega arith) (omega arith))

pub pairs_tail : {X : Type 0} (R : X → X → Type 0) (x : X) (xs : List X) → AllPairs R (x ∷ xs) → AllPairs R xs
pairs_tail R x xs h i j d m n = h (suc i) (suc j) d (omega arith) (omega arith)

ascends : (stripes : List ℕ) → AllPairs (λ s t. s < t) stripes → Ascending nat_lt stripes
ascends [] h = tt
ascends (s ∷ ss) h = (all_among (λ t. nat_lt s t ≡ true) ss (λ t m. lt-ltb s t (among_all (λ t. s < t) ss t (pairs_head (λ s t. s < t) s ss h) m)), ascends ss (pairs_tail (λ s t. s < t) s ss h))

pub stripes_ascend : (stripes : List ℕ) → IsStrictlyIncreasing stripes → Ascending nat_lt stripes
stripes_ascend stripes h = ascends stripes (AllPairs-from_increasing stripes h)

-- the stripe of a number
pub record IsStripe (stripes : List ℕ) (m s : ℕ) : Type 0 where
  pub among : Among s stripes
  pub upto : m ≤ s
  pub least : (t : ℕ) → Among t stripes → m ≤ t → s ≤ t

stripe_is : (stripes : List ℕ) (m s : ℕ) → Ascending nat_lt stripes → stripe_of stripes m ≡ Some s → IsStripe stripes m s
stripe_is stripes m s up h =
    let n = filter_among (λ t. nat_le m t) stripes s (first_among (filter (λ t. nat_le m t) stripes) s h) in
    record {
      among = n.0;
      upto = leb-true m s n.1;
      least = λ t k l. ltb-false t s (first_least nat_lt (λ a b g. le-ltb b a (omega (arith, ltb-true a b g))) (λ a. le-ltb a a (omega arith)) (filter (λ t. nat_le m t) stripes) s t (ascending_filter nat_lt (λ t. nat_le m t) stripes up) h (among_filter (λ t. nat_le m t) stripes t k (le-leb m t l)));
    }

-- two numbers of one stripe are both at most a stripe's number, or neither is
pub together : (stripes : List ℕ) (m k n : ℕ) → Ascending nat_lt stripes → Among n stripes → same_stripe stripes m k ≡ true → m ≤ n → k ≤ n
together stripes m k n up among same upto = go (stripe_of stripes m) refl (stripe_of stripes k) refl same
  where
    go : (a : Option ℕ) → stripe_of stripes m ≡ a → (b : Option ℕ) → stripe_of stripes k ≡ b → option_map_or (λ s. option_map_or (λ t. eqb s t) b false) a false ≡ true → k ≤ n
    go None e b f h = cc
    go (Some s) e None f h = cc
    go (Some s) e (Some t) f h =
        let i = stripe_is stripes m s up e in
        let j = stripe_is stripes k t up f in
        let p : s ≡ t = eqb-true s t h in
        let q : s ≤ n = i.least n among upto in
        let r : k ≤ t = j.upto in
        omega arith

-- a number not above one of the lowest stripe is of that stripe
pub lowest_below : (stripes : List ℕ) (m k : ℕ) → in_lowest stripes k ≡ true → m ≤ k → same_stripe stripes m k ≡ true
lowest_below [] m k h l = cc
lowest_below (s ∷ ss) m k h l =
    let p : nat_le m s ≡ true = le-leb m s (omega (arith, leb-true k s h)) in
    rw (p, h, eq-eqb s s refl) refl

pub lowest_of_below : (stripes : List ℕ) (m k : ℕ) → in_lowest stripes k ≡ true → m ≤ k → in_lowest stripes m ≡ true
lowest_of_below [] m k h l = cc
lowest_of_below (s ∷ ss) m k h l = le-leb m s (omega (arith, leb-true k s h))
