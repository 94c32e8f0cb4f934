-- Range keys by falling numbers.
use Rattle.std.proofs.Common.{◌≡◌, ◌≢◌, ℕ, zero, suc, ◌<◌, ◌≤◌, Bool, true, false, cond, List, [], ◌∷◌, length, get_or, refl, arith}
use Rattle.std.specs.Prelude.{nat_lt}
use Rattle.std.specs.List.{AllByRecursion, insert}
use Rattle.std.specs.List.Sorted.{IsPartitionPoint, IsPartitionedBy}
use Rattle.std.proofs.lemmas.Bool.Decides.{nat_tests}
use Rattle.rk_model.specs.declared.span.RangeKey.{RangeKey}
use Rattle.rk_fragment.specs.Fragments.{insert_newest, newest_first, FallsBy, KeysDiffer}
use Rattle.rk_model.proofs.Lists.{all_weaker}

pub lt_is : (m n : ℕ) → nat_lt m n ≡ true → m < n
lt_is m n h = grind (arith, nat_tests)

pub ge_is : (m n : ℕ) → nat_lt m n ≡ false → n ≤ m
ge_is m n h = grind (arith, nat_tests)

pub lt_says : (m n : ℕ) → m < n → nat_lt m n ≡ true
lt_says m n h = grind (arith, nat_tests)

pub all_inserted : (P : RangeKey → Type 0) (k : RangeKey) (qs : List RangeKey) → P k → AllByRecursion P qs → AllByRecursion P (insert_newest k qs)
all_inserted P k [] p h = (p, tt)
all_inserted P k (q ∷ qs) p h = go (nat_lt k.seq q.seq) (all_inserted P k qs p h.1)
  where
    go : (b : Bool) → AllByRecursion P (insert_newest k qs) → AllByRecursion P (cond b (q ∷ insert_newest k qs) (k ∷ q ∷ qs))
    go true ih = (h.0, ih)
    go false ih = (p, h)

-- an insert into falling numbers, where R holds of lesser numbers, and of those not greater that are inserted before
module _ (R : ℕ → ℕ → Type 0) (from_less : (m n : ℕ) → m < n → R m n) (chain : (l m n : ℕ) → R l m → m ≤ n → R l n) where
  pub insert_falls : (k : RangeKey) (qs : List RangeKey) → AllByRecursion (λ q. q.seq ≤ k.seq → R q.seq k.seq) qs → FallsBy R qs → FallsBy R (insert_newest k qs)
  insert_falls k [] h f = (tt, tt)
  insert_falls k (q ∷ qs) h f = go (nat_lt k.seq q.seq) refl (insert_falls k qs h.1 f.1)
    where
      go : (b : Bool) → nat_lt k.seq q.seq ≡ b → FallsBy R (insert_newest k qs) → FallsBy R (cond b (q ∷ insert_newest k qs) (k ∷ q ∷ qs))
      go true e ih = (all_inserted (λ r. R r.seq q.seq) k qs (from_less k.seq q.seq (lt_is k.seq q.seq e)) f.0, ih)
      go false e ih =
          let le : q.seq ≤ k.seq = ge_is k.seq q.seq e in
          ((h.0 le, all_weaker (λ r. R r.seq q.seq) (λ r. R r.seq k.seq) (λ r m. chain r.seq q.seq k.seq m le) qs f.0), f)

all_newest : (P : RangeKey → Type 0) (ks : List RangeKey) → AllByRecursion P ks → AllByRecursion P (newest_first ks)
all_newest P [] h = tt
all_newest P (k ∷ ks) h = all_inserted P k (newest_first ks) h.0 (all_newest P ks h.1)

pub newest_falls : (ks : List RangeKey) → KeysDiffer ks → FallsBy (λ m n. m < n) (newest_first ks)
newest_falls [] h = tt
newest_falls (k ∷ ks) h =
    let others = all_newest (λ q. q.seq ≢ k.seq) ks h.0 in
    insert_falls (λ m n. m < n) (λ m n less. less) (λ l m n less le. omega arith) k (newest_first ks)
    (all_weaker (λ q. q.seq ≢ k.seq) (λ q. q.seq ≤ k.seq → q.seq < k.seq) (λ q other le. omega arith) (newest_first ks) others) (newest_falls ks h.1)

every : (k : RangeKey) (qs : List RangeKey) → AllByRecursion (λ q. q.seq ≤ k.seq → q.seq ≤ k.seq) qs
every k [] = tt
every k (q ∷ qs) = (λ h. h, every k qs)

-- with equal numbers or without
pub insert_keeps_falling : (k : RangeKey) (qs : List RangeKey) → FallsBy (λ m n. m ≤ n) qs → FallsBy (λ m n. m ≤ n) (insert_newest k qs)
insert_keeps_falling k qs f = insert_falls (λ m n. m ≤ n) (λ m n h. omega arith) (λ l m n h g. omega arith) k qs (every k qs) f

all_at : (P : RangeKey → Type 0) (qs : List RangeKey) (k : ℕ) (d : RangeKey) → AllByRecursion P qs → k < length qs → P (get_or qs k d)
all_at P [] k d h l = absurd (omega arith)
all_at P (q ∷ qs) zero d h l = h.0
all_at P (q ∷ qs) (suc k) d h l = all_at P qs k d h.1 (omega arith)

-- the newer ones come first
pub newer_first : (n : ℕ) (qs : List RangeKey) → FallsBy (λ m n. m ≤ n) qs → IsPartitionedBy (λ q. nat_lt n q.seq) qs
newer_first n [] h i j d le l p = absurd (omega arith)
newer_first n (q ∷ qs) h zero zero d le l p = p
newer_first n (q ∷ qs) h zero (suc j) d le l p =
    let up : (get_or qs j d).seq ≤ q.seq = all_at (λ r. r.seq ≤ q.seq) qs j d h.0 (omega arith) in
    let above : n < (get_or qs j d).seq = lt_is n (get_or qs j d).seq p in
    lt_says n q.seq (omega arith)
newer_first n (q ∷ qs) h (suc i) zero d le l p = absurd (omega arith)
newer_first n (q ∷ qs) h (suc i) (suc j) d le l p = newer_first n qs h.1 i j d (omega arith) (omega arith) p

-- an insert behind the newer ones
pub inserted : (k : RangeKey) (qs : List RangeKey) (at : ℕ) → at ≤ length qs → IsPartitionPoint (λ q. nat_lt k.seq q.seq ≡ true) (λ q. nat_lt k.seq q.seq ≡ false) qs at → insert qs at k ≡ insert_newest k qs
inserted k [] zero l h = refl
inserted k [] (suc at) l h = absurd (omega arith)
inserted k (q ∷ qs) zero l h = rw (h.1 zero q (omega arith) (omega arith)) refl
inserted k (q ∷ qs) (suc at) l h =
    rw (h.0 zero q (omega arith) (omega arith), inserted k qs at (omega arith) ((λ i d a b. h.0 (suc i) d (omega arith) (omega arith)), (λ i d a b. h.1 (suc i) d (omega arith) (omega arith)))) refl
