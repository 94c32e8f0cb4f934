-- The numbers of the files that are there, of slots in order.
use Rattle.std.proofs.Common.{◌≡◌, ◌≢◌, ℕ, zero, suc, ◌<◌, false, List, [], ◌∷◌, Option, Some, None, refl, sym, ap, subst, arith, ⊎_elim, inl, inr, ◌⊎◌, cond}
use Rattle.std.specs.Prelude.{◌↔◌, IsSome, IfOk, Result, Ok, Err, Contains}
use Rattle.std.specs.List.{AllByRecursion}
use Rattle.std.specs.List.Sorted.{IsStrictlySortedBy}
use Rattle.std.specs.Map.{keys_of, lookup}
use Rattle.std.specs.BTreeMap.{is_at}
use Rattle.std.specs.Ordering.{nat_cmp, is_eq}
use Rattle.std.specs.declared.cmp.Ordering.TheVariants.{Less, Equal, Greater}
use Rattle.std.specs.Cmp.{nat_cmp_is}
use Rattle.std.proofs.lemmas.Cmp.{ranked}
use Rattle.std.proofs.lemmas.Bool.{cases_order, false≢true}
use Rattle.std.proofs.lemmas.Map.Keys.{sorted_head, sorted_tail}
use Rattle.std.proofs.lemmas.List.Elements.{Contains-append_right, Contains-append_cases}
use Rattle.rk_outside.specs.Vaults.{NumbersRise, AreNumbers}
use Rattle.rk_memvault.specs.Slots.{Held, bytes_of, files_in, put_before, numbers_in}

above : (k : ℕ) (slots : List (ℕ × Held)) → AllByRecursion (λ y. nat_cmp k y ≡ Less) (keys_of slots) → AllByRecursion (λ n. k < n) (numbers_in slots)
above k [] all = tt
above k (slot ∷ slots) all = before slot.1.bytes (above k slots all.1)
  where
    before : (bytes : Option (List ℕ)) → AllByRecursion (λ n. k < n) (numbers_in slots) → AllByRecursion (λ n. k < n) (put_before bytes slot.0 (numbers_in slots))
    before None rest = rest
    before (Some bytes) rest = (ranked k slot.0 Less (sym all.0), rest)

not_among : (k : ℕ) (ns : List ℕ) → AllByRecursion (λ n. k < n) ns → Contains ns k → ⊥
not_among k [] all (i, lt, is) = absurd (omega (arith, lt))
not_among k (n ∷ ns) all (zero, lt, is) = absurd (omega (arith, all.0, is))
not_among k (n ∷ ns) all (suc i, lt, is) = not_among k ns all.1 (i, omega (arith, lt), is)

at_head : (k f : ℕ) → Contains (k ∷ []) f → k ≡ f
at_head k f (zero, lt, is) = is
at_head k f (suc i, lt, is) = absurd (omega (arith, lt))

rises : (bytes : Option (List ℕ)) (k : ℕ) (ns : List ℕ) → AllByRecursion (λ n. k < n) ns → NumbersRise ns → NumbersRise (put_before bytes k ns)
rises None k ns all rise = rise
rises (Some bytes) k ns all rise = (all, rise)

here : (bytes : Option (List ℕ)) (k : ℕ) (ns : List ℕ) → AllByRecursion (λ n. k < n) ns → Contains (put_before bytes k ns) k ↔ IsSome bytes
here None k ns all = (λ is. absurd (not_among k ns all is), λ e. absurd (false≢true e))
here (Some bytes) k ns all = (λ is. refl, λ e. (0, omega arith, refl))

elsewhere : (bytes : Option (List ℕ)) (k f : ℕ) (ns : List ℕ) → k ≢ f → Contains (put_before bytes k ns) f ↔ Contains ns f
elsewhere None k f ns apart = (λ is. is, λ is. is)
elsewhere (Some bytes) k f ns apart = (
  λ is. ⊎_elim (λ e. absurd (apart (at_head k f e))) (λ e. e) (Contains-append_cases (k ∷ []) ns f is),
  λ is. Contains-append_right (k ∷ []) ns f is,
)

pub are_numbers : (slots : List (ℕ × Held)) → IsStrictlySortedBy nat_cmp (keys_of slots) → AreNumbers (files_in slots) (numbers_in slots)
are_numbers [] sorted = record { rising = tt; there = λ f. (λ is. absurd (omega (arith, is.1)), λ e. absurd (false≢true e)) }
are_numbers (slot ∷ slots) sorted =
    let head = above slot.0 slots (sorted_head nat_cmp slot.0 (keys_of slots) sorted) in
    let rest = are_numbers slots (sorted_tail nat_cmp slot.0 (keys_of slots) sorted) in
    record { rising = rises slot.1.bytes slot.0 (numbers_in slots) head rest.rising; there = λ f. at f head rest (cases_order f slot.0) }
  where
    other : (f : ℕ) → AreNumbers (files_in slots) (numbers_in slots) → slot.0 ≢ f → is_eq (nat_cmp f slot.0) ≡ false →
        Contains (put_before slot.1.bytes slot.0 (numbers_in slots)) f ↔ IsSome (bytes_of (cond (is_eq (nat_cmp f slot.0)) (Some slot.1) (lookup (is_at (nat_cmp f)) slots)))
    other f rest apart e =
        let skip = elsewhere slot.1.bytes slot.0 f (numbers_in slots) apart in
        let there = rest.there f in
        subst (λ b. Contains (put_before slot.1.bytes slot.0 (numbers_in slots)) f ↔ IsSome (bytes_of (cond b (Some slot.1) (lookup (is_at (nat_cmp f)) slots)))) (sym e)
        (λ is. there.0 (skip.0 is), λ is. skip.1 (there.1 is))

    at : (f : ℕ) → AllByRecursion (λ n. slot.0 < n) (numbers_in slots) → AreNumbers (files_in slots) (numbers_in slots) → (f ≡ slot.0) ⊎ ((f < slot.0) ⊎ (slot.0 < f)) →
        Contains (put_before slot.1.bytes slot.0 (numbers_in slots)) f ↔ IsSome (bytes_of (cond (is_eq (nat_cmp f slot.0)) (Some slot.1) (lookup (is_at (nat_cmp f)) slots)))
    at f head rest (inl same) =
        subst (λ b. Contains (put_before slot.1.bytes slot.0 (numbers_in slots)) f ↔ IsSome (bytes_of (cond b (Some slot.1) (lookup (is_at (nat_cmp f)) slots)))) (ap is_eq (nat_cmp_is f slot.0 Equal same))
        (subst (λ k. Contains (put_before slot.1.bytes slot.0 (numbers_in slots)) k ↔ IsSome slot.1.bytes) (sym same) (here slot.1.bytes slot.0 (numbers_in slots) head))
    at f head rest (inr (inl lt)) = other f rest (λ e. absurd (omega (arith, lt, e))) (sym (ap is_eq (nat_cmp_is f slot.0 Less lt)))
    at f head rest (inr (inr gt)) = other f rest (λ e. absurd (omega (arith, gt, e))) (sym (ap is_eq (nat_cmp_is f slot.0 Greater gt)))

pub listed : {A E : Type 0} (items : A → List ℕ) (slots : List (ℕ × Held)) (result : Result A E) → IfOk result (λ ns. items ns ≡ numbers_in slots) → IsStrictlySortedBy nat_cmp (keys_of slots) →
    IfOk result (λ ns. AreNumbers (files_in slots) (items ns))
listed items slots (Ok ns) is sorted = subst (AreNumbers (files_in slots)) (sym is) (are_numbers slots sorted)
listed items slots (Err e) is sorted = tt
