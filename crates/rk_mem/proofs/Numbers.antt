-- Entries by their numbers.
use Rattle.std.proofs.Common.{◌≡◌, ◌≢◌, ℕ, ◌+◌, ◌<◌, ◌≤◌, Bool, true, false, cond, eqb, List, [], ◌∷◌, refl, arith}
use Rattle.std.specs.Prelude.{nat_lt}
use Rattle.std.specs.List.{AllByRecursion, sum_by}
use Rattle.std.proofs.lemmas.List.Sums.{sum_by-cons}
use Rattle.std.proofs.lemmas.Bool.{and_parts}
use Rattle.std.proofs.lemmas.Bool.Decides.{nat_tests}
use Rattle.rk_model.specs.Operations.{NumbersDiffer}
use Rattle.rk_model.specs.Sources.{ascends}
use Rattle.rk_model.specs.declared.op.Entry.{Entry}
use Rattle.rk_fragment.proofs.Falling.{lt_is}
use Rattle.rk_model.proofs.Lists.{all_weaker}
use Rattle.rk_mem.specs.Chunks.{NumbersRise}

-- those after an entry have greater numbers
later : (e : Entry) (es : List Entry) → NumbersRise (e ∷ es) → AllByRecursion (λ f. e.seq < f.seq) es
later e [] h = tt
later e (f ∷ es) h =
    let parts = and_parts (nat_lt e.seq f.seq) (ascends (λ e f. nat_lt e.seq f.seq) (f ∷ es)) h in
    let less : e.seq < f.seq = lt_is e.seq f.seq parts.0 in
    (less, all_weaker (λ g. f.seq < g.seq) (λ g. e.seq < g.seq) (λ g more. omega arith) es (later f es parts.1))

rise_on : (e : Entry) (es : List Entry) → NumbersRise (e ∷ es) → NumbersRise es
rise_on e [] h = refl
rise_on e (f ∷ es) h = (and_parts (nat_lt e.seq f.seq) (ascends (λ e f. nat_lt e.seq f.seq) (f ∷ es)) h).1

pub rising_differ : (es : List Entry) → NumbersRise es → NumbersDiffer es
rising_differ [] h = tt
rising_differ (e ∷ es) h =
    (all_weaker (λ f. e.seq < f.seq) (λ f. f.seq ≢ e.seq) (λ f less. omega arith) es (later e es h), rising_differ es (rise_on e es h))

-- how many have a number
abbrev pub has_number : ℕ → Entry → ℕ
has_number n e = cond (eqb e.seq n) 1 0

pub counted : (n : ℕ) (e : Entry) → e.seq ≡ n → has_number n e ≡ 1
counted n e h = grind (arith, nat_tests)

uncounted : (n : ℕ) (e : Entry) → e.seq ≢ n → has_number n e ≡ 0
uncounted n e h = grind (arith, nat_tests)

abbrev pub count : ℕ → List Entry → ℕ
count n [] = 0
count n (e ∷ es) = has_number n e + count n es

pub count_is : (n : ℕ) (es : List Entry) → sum_by (has_number n) es ≡ count n es
count_is n [] = refl
count_is n (e ∷ es) = rw (sum_by-cons (has_number n) e es, count_is n es) refl

none_with : (n : ℕ) (es : List Entry) → AllByRecursion (λ f. f.seq ≢ n) es → count n es ≡ 0
none_with n [] h = refl
none_with n (e ∷ es) h = rw (uncounted n e h.0, none_with n es h.1) refl

pub one_with : (n : ℕ) (es : List Entry) → NumbersDiffer es → count n es ≤ 1
one_with n [] h = omega arith
one_with n (e ∷ es) h = go (eqb e.seq n) refl (one_with n es h.1)
  where
    is : eqb e.seq n ≡ true → e.seq ≡ n
    is t = grind (arith, nat_tests)

    go : (b : Bool) → eqb e.seq n ≡ b → count n es ≤ 1 → cond b 1 0 + count n es ≤ 1
    go false t ih = omega arith
    go true t ih =
        let here : e.seq ≡ n = is t in
        let none : count n es ≡ 0 = none_with n es (all_weaker (λ f. f.seq ≢ e.seq) (λ f. f.seq ≢ n) (λ f apart. λ k. apart (omega arith)) es h.0) in
        omega arith
