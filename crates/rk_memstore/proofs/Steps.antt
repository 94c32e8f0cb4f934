-- Steps: an answer that is due, a call that is done, and one that fails. None tells of a fault, and the vault's count stays.
use Rattle.std.proofs.Common.{◌≡◌, ◌⊎◌, ℕ, false, Some, None, refl, sym, subst, arith}
use Rattle.rk_machine.specs.State.{State}
use Rattle.rk_machine.specs.Events.{Event, Reply}
use Rattle.rk_machine.specs.Due.{Unless}
use Rattle.rk_machine.specs.Machine.{IsAllowed, due, Done, Answers, counted, Step}
use Rattle.rk_machine.specs.Faults.{Fails, is_fault, RoseIf, CountRises}

count_stays : (reply : Reply) (before now : ℕ) → now ≡ before → is_fault reply ≡ false → CountRises reply before now
count_stays reply before now same none = record {
  later = omega (arith, same);
  told = subst (λ b. RoseIf b before now) (sym none) tt;
}

pub step_due : (m : State) (event : Event) (reply : Reply) → is_fault reply ≡ false → IsAllowed m event → due m event ≡ Some reply → Step m event reply m
step_due m event reply no_fault allowed is = record {
  allowed = allowed;
  count = count_stays reply m.faults m.faults refl no_fault;
  answer = subst (λ d. Unless d m reply m (Done m event reply m ⊎ Fails m event reply m)) (sym is) (refl, refl);
}

pub step_goes_on : (m : State) (event : Event) (reply : Reply) (m' : State) → m'.faults ≡ m.faults → is_fault reply ≡ false → IsAllowed m event → due m event ≡ None → Done m event reply m' ⊎ Fails m event reply m' → Step m event reply m'
step_goes_on m event reply m' same no_fault allowed is goes_on = record {
  allowed = allowed;
  count = count_stays reply m.faults m'.faults same no_fault;
  answer = subst (λ k. Answers (counted k m) event reply m') (sym same) (subst (λ d. Unless d m reply m' (Done m event reply m' ⊎ Fails m event reply m')) (sym is) goes_on);
}
