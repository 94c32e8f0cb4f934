-- Facts about answers.
use Rattle.std.proofs.Common.{◌≡◌, ◌∙◌, ℕ, List, subst}
use Rattle.rk_machine.specs.Events.{Reply}
use Rattle.rk_program.specs.Replies.{Tells}
use Rattle.std.specs.Prelude.{Result, Ok, Err, OnOk, OnErr}

-- what is the same as something else where it is well
pub on_same : {T E A : Type 0} (x a b : A) (result : Result T E) → OnOk result (x ≡ a) → a ≡ b → OnOk result (x ≡ b)
on_same x a b (Ok t) is same = is ∙ same
on_same x a b (Err e) is same = tt

-- a fact that holds whatever the answer is
pub on_ok : {T E : Type 0} (P : Type 0) (result : Result T E) → P → OnOk result P
on_ok P (Ok x) p = p
on_ok P (Err e) p = tt

pub on_err : {T E : Type 0} (P : Type 0) (result : Result T E) → P → OnErr result P
on_err P (Ok x) p = tt
on_err P (Err e) p = p

pub OnOk-weaker : {T E : Type 0} (result : Result T E) (P Q : Type 0) → (P → Q) → OnOk result P → OnOk result Q
OnOk-weaker (Ok t) P Q more p = more p
OnOk-weaker (Err e) P Q more p = tt

-- a reply that was told under a name
pub told_under : (before now called name : List ℕ) (reply : Reply) → called ≡ name → Tells before now called reply → Tells before now name reply
told_under before now called name reply same tells = subst (λ n. Tells before now n reply) same tells
