-- The nearest of several entries.
use Rattle.std.proofs.Common.{◌≡◌, ℕ, ◌+◌, ◌<◌, length, get_or, Bool, true, false, List, Option, Some, None, refl, sym, ◌∙◌, ap, inl, inr, arith, option_and_then}
use Rattle.std.proofs.lemmas.Bool.{cases_eq, false_from_ne_true, true≢false}
use Rattle.std.proofs.lemmas.Option.{slice_get-get_or}
use Rattle.rk_key.proofs.TotalOrders.{lt_itself, lt_trans}
use Rattle.rk_model.specs.Standings.{Standing}
use Rattle.rk_model.specs.declared.op.Entry.{Entry}
use Rattle.rk_merge.specs.Cuts.{is_nearer}
use Rattle.rk_model.proofs.Orders.{entry_total}
use Rattle.rk_pointmerge.specs.Merges.{comes_before, shown, beats}

pub beats_itself : (forward : Bool) (p : Option Entry) → beats forward p p ≡ false
beats_itself forward None = refl
beats_itself true (Some e) = lt_itself entry_total e
beats_itself false (Some e) = lt_itself entry_total e

nearer_trans : (forward : Bool) (e f h : Entry) → is_nearer forward comes_before e f ≡ true → is_nearer forward comes_before f h ≡ true → is_nearer forward comes_before e h ≡ true
nearer_trans true e f h p q = lt_trans entry_total e f h p q
nearer_trans false e f h p q = lt_trans entry_total h f e q p

-- what doesn't beat a third doesn't beat what does
pub beats_third : (forward : Bool) (p q r : Option Entry) → beats forward p r ≡ false → beats forward q r ≡ true → beats forward p q ≡ false
beats_third forward None q r a b = refl
beats_third forward (Some e) None r a b = cc
beats_third forward (Some e) (Some f) None a b = cc
beats_third forward (Some e) (Some f) (Some h) a b = false_from_ne_true _ (λ k. true≢false (sym (nearer_trans forward e f h k b) ∙ a))

module _ {S : Type 0} (standing : S → Standing Entry) where
  shown_some : (ss : List S) (i : ℕ) (d : S) → i < length ss → shown standing ss (Some i) ≡ (standing (get_or ss i d)).here
  shown_some ss i d h = ap (option_and_then (λ s. (standing s).here)) (slice_get-get_or ss i d h)

  -- the best of the first sources
  abbrev pub BestOf : List S → Bool → ℕ → Option ℕ → Type 0
  BestOf ss forward i best = (k : ℕ) (d : S) → k < i → beats forward (standing (get_or ss k d)).here (shown standing ss best) ≡ false

  -- with one more, where the best now is beaten by none of those before and not by that one
  pub best_on : (ss : List S) (forward : Bool) (i : ℕ) (best now : Option ℕ) → i < length ss → BestOf ss forward i best → ((p : Option Entry) → beats forward p (shown standing ss best) ≡ false → beats forward p (shown standing ss now) ≡ false)
      → beats forward (shown standing ss (Some i)) (shown standing ss now) ≡ false → BestOf ss forward (i + 1) now
  best_on ss forward i best now within was before here k d h =
      elim (cases_eq k i) [
        | inl e ↦ rw e (ap (λ p. beats forward p (shown standing ss now)) (sym (shown_some ss i d within)) ∙ here)
        | inr e ↦ before _ (was k d (omega arith))
      ]
