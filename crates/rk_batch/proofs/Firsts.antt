-- Of checks in order, one refusal comes first.
use Rattle.std.proofs.Common.{◌≡◌, ℕ, ◌<◌, List, [], ◌∷◌, inl, inr, sym, ap, ◌∙◌, arith}
use Rattle.std.proofs.lemmas.Bool.{cases_lt}
use Rattle.rk_key.specs.Keys.{IsKey, IsSuffix}
use Rattle.rk_key.specs.Refusals.{IsBadAt}
use Rattle.rk_key.specs.declared.error.Which.TheVariants as which
use Rattle.rk_batch.specs.declared.error.BatchError.{BatchError}
use Rattle.rk_batch.specs.declared.error.BatchError.TheVariants.{BadKey}
use Rattle.rk_batch.specs.Checks.{Check, Is_key, Is_bare, Is_below, Is_suffix, Is_at_most, Refuses, IsFirst}
use Rattle.rk_batch.proofs.Refusing.{fails}

longest : (Is : List ℕ → Type 0) (bytes : List ℕ) (a b : ℕ) → IsBadAt Is bytes a → IsBadAt Is bytes b → a < b → ⊥
longest Is bytes a b p q less = p.place.longest b less q.place.within q.place.begins

one_end : (Is : List ℕ → Type 0) (bytes : List ℕ) (a b : ℕ) → IsBadAt Is bytes a → IsBadAt Is bytes b → a ≡ b
one_end Is bytes a b p q =
    elim (cases_lt a b) [
      | inl less ↦ absurd (longest Is bytes a b p q less)
      | inr le ↦ elim (cases_lt b a) [ inl less ↦ absurd (longest Is bytes b a q p less) | inr ge ↦ omega arith ]
    ]

one_error : (check : Check) (a b : BatchError) → Refuses check a → Refuses check b → a ≡ b
one_error (Is_key which bytes) a b p q = p.1 ∙ ap (λ (n : ℕ). BadKey which n) (one_end IsKey bytes p.0 q.0 p.2 q.2) ∙ sym q.1
one_error (Is_bare which key) a b p q = p.0 ∙ sym q.0
one_error (Is_below start end) a b p q = p.0 ∙ sym q.0
one_error (Is_suffix bytes) a b p q = p.1 ∙ ap (λ (n : ℕ). BadKey which.Suffix n) (one_end IsSuffix bytes p.0 q.0 p.2 q.2) ∙ sym q.1
one_error (Is_at_most what have limit) a b p q = p.0 ∙ sym q.0

pub one_first : (cs : List Check) (a b : BatchError) → IsFirst cs a → IsFirst cs b → a ≡ b
one_first [] a b p q = absurd p
one_first (c ∷ cs) a b (inl p) (inl q) = one_error c a b p q
one_first (c ∷ cs) a b (inl p) (inr q) = absurd (fails c a p q.0)
one_first (c ∷ cs) a b (inr p) (inl q) = absurd (fails c b q p.0)
one_first (c ∷ cs) a b (inr p) (inr q) = one_first cs a b p.1 q.1
