-- Sums of a number of each of several.
use Rattle.std.proofs.Common.{◌≡◌, ◌≢◌, ℕ, zero, suc, ◌+◌, ◌<◌, ◌≤◌, length, get_or, set, take, map, List, [], ◌∷◌, refl, ap, arith, add-one}
use Rattle.rk_merge.specs.Pools.{total}

pub total_step : {S : Type 0} (f : S → ℕ) (ss : List S) (k : ℕ) (d : S) → k < length ss → total f (take (k + 1) ss) ≡ total f (take k ss) + f (get_or ss k d)
total_step f [] k d h = absurd (omega arith)
total_step f (s ∷ ss) zero d h = omega arith
total_step f (s ∷ ss) (suc k) d h = let ih = total_step f ss k d (omega arith) in rw add-one (omega (arith, rw add-one at ih))

pub total_le : {S : Type 0} (f g : S → ℕ) (xs ys : List S) → length xs ≡ length ys → ((k : ℕ) (d : S) → k < length xs → f (get_or xs k d) ≤ g (get_or ys k d)) → total f xs ≤ total g ys
total_le f g [] ys e h = omega arith
total_le f g (x ∷ xs) [] e h = absurd (omega arith)
total_le f g (x ∷ xs) (y ∷ ys) e h =
    let one = h 0 x (omega arith) in
    let more = total_le f g xs ys (omega arith) (λ k d l. h (suc k) d (omega arith)) in
    omega arith

pub total_each : {S : Type 0} (f g : S → ℕ) (ss : List S) → ((k : ℕ) (d : S) → k < length ss → f (get_or ss k d) ≡ g (get_or ss k d)) → total f ss ≡ total g ss
total_each f g [] same = refl
total_each f g (s ∷ ss) same = rw (same 0 s (omega arith), total_each f g ss (λ k d h. same (suc k) d (omega arith))) refl

-- one is replaced, and none of the others falls
pub total_rest : {S : Type 0} (f g : S → ℕ) (xs ys : List S) (k : ℕ) (d : S) → length xs ≡ length ys → k < length xs → ((j : ℕ) (c : S) → j < length xs → j ≢ k → f (get_or xs j c) ≤ g (get_or ys j c)) → total f xs + g (get_or ys k d) ≤ f (get_or xs k d) + total g ys
total_rest f g [] ys k d e h le = absurd (omega arith)
total_rest f g (x ∷ xs) [] k d e h le = absurd (omega arith)
total_rest f g (x ∷ xs) (y ∷ ys) zero d e h le =
    let more = total_le f g xs ys (omega arith) (λ j c l. le (suc j) c (omega arith) (omega arith)) in
    omega arith
total_rest f g (x ∷ xs) (y ∷ ys) (suc k) d e h le =
    let one = le 0 d (omega arith) (omega arith) in
    let ih = total_rest f g xs ys k d (omega arith) (omega arith) (λ j c l n. le (suc j) c (omega arith) (omega arith)) in
    omega arith

-- two of several that don't fall
pub total_two : {S : Type 0} (f g : S → ℕ) (ss : List S) (j k : ℕ) (c d : S) → ((s : S) → f s ≤ g s) → j < length ss → k < length ss → j ≢ k → total f ss + (g (get_or ss j c) + g (get_or ss k d)) ≤ (f (get_or ss j c) + f (get_or ss k d)) + total g ss
total_two f g [] j k c d le h l n = absurd (omega arith)
total_two f g (s ∷ ss) zero zero c d le h l n = absurd (n refl)
total_two f g (s ∷ ss) zero (suc k) c d le h l n = let a = total_rest f g ss ss k d refl (omega arith) (λ i e m u. le (get_or ss i e)) in omega arith
total_two f g (s ∷ ss) (suc j) zero c d le h l n = let a = total_rest f g ss ss j c refl (omega arith) (λ i e m u. le (get_or ss i e)) in omega arith
total_two f g (s ∷ ss) (suc j) (suc k) c d le h l n =
    let one = le s in
    let ih = total_two f g ss j k c d le (omega arith) (omega arith) (omega arith) in
    omega arith

pub total_at : {S : Type 0} (f : S → ℕ) (ss : List S) (k : ℕ) (d : S) → k < length ss → f (get_or ss k d) ≤ total f ss
total_at f ss k d h = let a = total_rest (λ s. 0) f ss ss k d refl h (λ j c l n. omega arith) in omega arith

pub total_less : {S : Type 0} (f : S → ℕ) (xs ys : List S) (i : ℕ) (e : S) → length xs ≡ length ys → ((k : ℕ) (d : S) → k < length xs → f (get_or xs k d) ≤ f (get_or ys k d)) → i < length xs → f (get_or xs i e) < f (get_or ys i e) → total f xs < total f ys
total_less f xs ys i e len le h lt = let a = total_rest f f xs ys i e len h (λ j c l n. le j c l) in omega arith

pub total_set : {S : Type 0} (f : S → ℕ) (ss : List S) (k : ℕ) (v d : S) → k < length ss → total f (set ss k v) + f (get_or ss k d) ≡ total f ss + f v
total_set f [] k v d h = absurd (omega arith)
total_set f (s ∷ ss) zero v d h = omega arith
total_set f (s ∷ ss) (suc k) v d h = let ih = total_set f ss k v d (omega arith) in omega arith

pub total_map : {S T : Type 0} (f : T → ℕ) (g : S → T) (ss : List S) → total f (map g ss) ≡ total (λ s. f (g s)) ss
total_map f g [] = refl
total_map f g (s ∷ ss) = ap (λ n. f (g s) + n) (total_map f g ss)

-- what is left of two sums from a place on
pub total_room : {S : Type 0} (f g : S → ℕ) (ss : List S) (k : ℕ) (d : S) → ((j : ℕ) (c : S) → j < length ss → f (get_or ss j c) ≤ g (get_or ss j c)) → k < length ss
    → total f ss + (total g (take k ss) + g (get_or ss k d)) ≤ (total f (take k ss) + f (get_or ss k d)) + total g ss
total_room f g [] k d le h = absurd (omega arith)
total_room f g (s ∷ ss) zero d le h =
    let more = total_le f g ss ss refl (λ j c l. le (suc j) c (omega arith)) in
    omega arith
total_room f g (s ∷ ss) (suc k) d le h = let ih = total_room f g ss k d (λ j c l. le (suc j) c (omega arith)) (omega arith) in omega arith
