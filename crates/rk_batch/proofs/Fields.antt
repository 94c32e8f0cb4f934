-- A field that is read has the bytes that it is written as, and what was written is read again.
use Rattle.std.proofs.Common.{◌≡◌, ℕ, suc, ◌+◌, ◌*◌, ◌/◌, ◌%◌, ◌<◌, ◌≤◌, Bool, true, false, cond, ltb, List, [], ◌∷◌, ◌++◌, length, get_or, take, drop, Option, Some, None, refl, sym, ap, subst, ◌∙◌, length-append, arith}
use Rattle.std.proofs.lemmas.Bool.{ltb-false, le-ltb}
use Rattle.std.proofs.lemmas.List.{take_at, drop_at, take-append-drop, length-take}
use Rattle.byteorder.specs.Endian.{big_bytes, big_number}
use Rattle.byteorder.specs.Numbers.{big_number-reads_back}
use Rattle.rk_batch.specs.Encoding.{short, long}
use Rattle.rk_batch.specs.Reading.{◌>>=◌, cut, short_at, number_at, long_at}

abbrev pub IsBytes : List ℕ → Type 0
IsBytes bytes = (i : ℕ) → get_or bytes i 0 < 256

behind : (xs ys : List ℕ) → IsBytes (xs ++ ys) → IsBytes ys
behind [] ys h = h
behind (x ∷ xs) ys h = behind xs ys (λ i. h (suc i))

pub rest_fits : (bytes xs ys : List ℕ) → IsBytes bytes → bytes ≡ xs ++ ys → IsBytes ys
rest_fits bytes xs ys h e = behind xs ys (subst IsBytes e h)

pub bind_some : {A B : Type 0} (r : Option A) (f : A → Option B) (y : B) → (r >>= f) ≡ Some y → (x : A) × (r ≡ Some x) × (f x ≡ Some y)
bind_some None f y e = absurd cc
bind_some (Some x) f y e = (x, refl, e)

pub bind_again : {A B : Type 0} (r : Option A) (x : A) (f : A → Option B) → r ≡ Some x → (r >>= f) ≡ f x
bind_again r x f e = ap (λ (o : Option _). o >>= f) e

abbrev pub done : {A : Type 0} → A → Option A
done x = Some x

pub some_is : {A : Type 0} (x y : A) → done x ≡ done y → x ≡ y
some_is x y e = cc

-- a test that was passed
pub guard_some : {A : Type 0} (b : Bool) (r : Option A) (y : A) → cond b None r ≡ Some y → (b ≡ false) × (r ≡ Some y)
guard_some true r y e = absurd cc
guard_some false r y e = (refl, e)

cut_takes : (n : ℕ) (bytes s rest : List ℕ) → cut n bytes ≡ Some (s, rest) → (bytes ≡ s ++ rest) × (length s ≡ n)
cut_takes n bytes s rest e =
    let g = guard_some (ltb (length bytes) n) (Some (take n bytes, drop n bytes)) (s, rest) e in
    let p = some_is (take n bytes, drop n bytes) (s, rest) g.1 in
    let long : n ≤ length bytes = ltb-false _ _ g.0 in
    let s-is : take n bytes ≡ s = ap (λ (q : List ℕ × List ℕ). q.0) p in
    let rest-is : drop n bytes ≡ rest = ap (λ (q : List ℕ × List ℕ). q.1) p in
    (rw (← s-is, ← rest-is) (sym (take-append-drop n bytes)), rw (← s-is) (omega (arith, length-take n bytes)))

cut_again : (s rest : List ℕ) → cut (length s) (s ++ rest) ≡ Some (s, rest)
cut_again s rest =
    let fits : ltb (length (s ++ rest)) (length s) ≡ false = le-ltb _ _ (omega (arith, length-append s rest)) in
    rw (fits, take_at s rest (length s) refl, drop_at s rest (length s) refl) refl

pub short_takes : (bytes s rest : List ℕ) → short_at bytes ≡ Some (s, rest) → bytes ≡ short s ++ rest
short_takes [] s rest e = absurd cc
short_takes (n ∷ bytes) s rest e =
    let c = cut_takes n bytes s rest e in
    rw (c.0, ← c.1) refl

pub short_again : (s rest : List ℕ) → short_at (short s ++ rest) ≡ Some (s, rest)
short_again s rest = cut_again s rest

-- the two bytes of the number that they make
two_bytes : (a b : ℕ) → a < 256 → b < 256 → (a * 256 + b) / 256 % 256 ≡ a
two_bytes a b p q = omega arith

low_byte : (a b : ℕ) → a < 256 → b < 256 → (a * 256 + b) % 256 ≡ b
low_byte a b p q = omega arith

pub number_takes : (bytes : List ℕ) (n : ℕ) (rest : List ℕ) → IsBytes bytes → number_at bytes ≡ Some (n, rest) → (bytes ≡ big_bytes 2 n ++ rest) × (n < 65536)
number_takes [] n rest fits e = absurd cc
number_takes (a ∷ []) n rest fits e = absurd cc
number_takes (a ∷ b ∷ bytes) n rest fits e =
    let g = guard_some (ltb (length (a ∷ b ∷ bytes)) 2) (Some (big_number 2 (a ∷ b ∷ bytes), bytes)) (n, rest) e in
    let p = some_is (big_number 2 (a ∷ b ∷ bytes), bytes) (n, rest) g.1 in
    let n-is : big_number 2 (a ∷ b ∷ bytes) ≡ n = ap (λ (q : ℕ × List ℕ). q.0) p in
    let sum : a * 256 + b ≡ n = omega (arith, n-is) in
    let rest-is : bytes ≡ rest = ap (λ (q : ℕ × List ℕ). q.1) p in
    let high : a < 256 = fits 0 in
    let low : b < 256 = fits 1 in
    (rw (← sum, ← rest-is, two_bytes a b high low, low_byte a b high low) refl, omega arith)

pub number_again : (n : ℕ) (rest : List ℕ) → n < 65536 → number_at (big_bytes 2 n ++ rest) ≡ Some (n, rest)
number_again n rest h =
    let fits : ltb (length (big_bytes 2 n ++ rest)) 2 ≡ false = le-ltb _ _ (omega arith) in
    ap (λ (b : Bool). cond b None (Some (big_number 2 (big_bytes 2 n ++ rest), rest))) fits
    ∙ ap (λ (k : ℕ). Some (k, rest)) (big_number-reads_back 2 n rest h)

pub long_takes : (bytes s rest : List ℕ) → IsBytes bytes → long_at bytes ≡ Some (s, rest) → (bytes ≡ long s ++ rest) × (length s < 65536)
unfolding long_at
long_takes bytes s rest fits e =
    let b = bind_some (number_at bytes) (λ n. cut n.0 n.1) (s, rest) e in
    let n = number_takes bytes b.0.0 b.0.1 fits b.1 in
    let c = cut_takes b.0.0 b.0.1 s rest b.2 in
    let len : b.0.0 ≡ length s = sym c.1 in
    (n.0 ∙ ap (λ (k : ℕ). big_bytes 2 k ++ b.0.1) len ∙ ap (λ (t : List ℕ). big_bytes 2 (length s) ++ t) c.0, omega arith)

pub long_again : (s rest : List ℕ) → length s < 65536 → long_at (long s ++ rest) ≡ Some (s, rest)
unfolding long_at
long_again s rest h =
    bind_again (number_at (big_bytes 2 (length s) ++ (s ++ rest))) (length s, s ++ rest) (λ n. cut n.0 n.1) (number_again (length s) (s ++ rest) h)
    ∙ cut_again s rest
