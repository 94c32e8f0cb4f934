-- Points that a sort leaves are in order: by key, and the newest first within one key.
use Rattle.std.proofs.Common.{◌≡◌, ℕ, zero, suc, ◌+◌, ◌≤◌, Bool, true, false, List, [], ◌∷◌, refl, sym, subst, ◌∙◌, arith, Ordering}
use Rattle.std.specs.Prelude.{IsTrue, All}
use Rattle.std.specs.List.Sorted.{IsPermutation, IsSortedBy}
use Rattle.std.specs.declared.cmp.Ordering.TheVariants.{Less, Equal, Greater}
use Rattle.std.specs.Ordering.{is_lt, ordering_then, nat_cmp}
use Rattle.std.specs.Cmp.{IsStrictWeakOrder}
use Rattle.std.proofs.lemmas.Cmp.{ranked}
use Rattle.std.proofs.lemmas.List.Sorted.{ranks_by, All-permutation, sum_by-IsPermutation}
use Rattle.std.proofs.lemmas.List.Elements.{filter_passes}
use Rattle.std.proofs.lemmas.List.Sums.{list_all-from_AllPass}
use Rattle.rk_model.proofs.Orders.{entry_total}
use Rattle.rk_model.specs.Operations.{NumbersDiffer}
use Rattle.rk_key.specs.Keys.{key_cmp}
use Rattle.rk_model.specs.Covers.{is_point}
use Rattle.rk_model.specs.Sources.{ascends, op_key, entry_cmp, are_points}
use Rattle.rk_model.specs.declared.op.Entry.{Entry}
use Rattle.rk_mem.specs.Chunks.{points_of}
use Rattle.rk_mem.proofs.Numbers.{has_number, count, count_is, counted, one_with}

abbrev pub precedes : Entry → Entry → Bool
precedes e f = is_lt (entry_cmp e f)

pub weak_order : IsStrictWeakOrder precedes
weak_order = ranks_by entry_total (λ e. e)

same_number : (e f : Entry) → entry_cmp e f ≡ Equal → f.seq ≡ e.seq
same_number e f h = ranked f.seq e.seq Equal (sym (go (key_cmp (op_key e.op) (op_key f.op)) h))
  where
    go : (o : Ordering) → ordering_then o (nat_cmp f.seq e.seq) ≡ Equal → nat_cmp f.seq e.seq ≡ Equal
    go Less h = cc
    go Equal h = h
    go Greater h = cc

-- two neighbours with different numbers
pub less : (e f : Entry) → precedes f e ≡ false → (f.seq ≡ e.seq → ⊥) → precedes e f ≡ true
less e f h apart = go (entry_cmp e f) refl
  where
    go : (o : Ordering) → entry_cmp e f ≡ o → is_lt o ≡ true
    go Less k = refl
    go Equal k = absurd (apart (same_number e f k))
    go Greater k = let g : is_lt (entry_cmp f e) ≡ true = rw (entry_total.antisymm f e, k) refl in cc

strictly : (es : List Entry) → IsSortedBy precedes es → ((n : ℕ) → count n es ≤ 1) → ascends precedes es ≡ true
strictly [] s once = refl
strictly (e ∷ []) s once = refl
strictly (e ∷ f ∷ es) s once = rw (less e f (s zero e (omega arith) (omega arith)) apart) (strictly (f ∷ es) next (λ n. let h : has_number n e + count n (f ∷ es) ≤ 1 = once n in omega arith))
  where
    apart : f.seq ≡ e.seq → ⊥
    apart h =
        let all : has_number e.seq e + (has_number e.seq f + count e.seq es) ≤ 1 = once e.seq in
        let one : has_number e.seq e ≡ 1 = counted e.seq e refl in
        let two : has_number e.seq f ≡ 1 = counted e.seq f h in
        omega arith

    next : IsSortedBy precedes (f ∷ es)
    next k d low high =
        let at : suc k + 1 ≡ suc (k + 1) = omega arith in
        rw at at (s (suc k) d (omega arith) (omega arith))

pub in_order : (old new : List Entry) → NumbersDiffer old → points_of old ≡ old → IsPermutation old new → IsSortedBy precedes new → IsTrue (are_points new)
in_order old new differ points same sorted =
    let passing : All (λ e. is_point e.op ≡ true) old = subst (λ es. All (λ e. is_point e.op ≡ true) es) points (filter_passes (λ e. is_point e.op) old) in
    let passed : All (λ e. is_point e.op ≡ true) new = All-permutation (λ e. is_point e.op ≡ true) old new same passing in
    rw (list_all-from_AllPass (λ e. is_point e.op) new passed) (strictly new sorted once)
  where
    once : (n : ℕ) → count n new ≤ 1
    once n =
        let sums : count n new ≡ count n old = sym (count_is n new) ∙ sum_by-IsPermutation (has_number n) old new same ∙ count_is n old in
        let one : count n old ≤ 1 = one_with n old differ in
        omega arith
