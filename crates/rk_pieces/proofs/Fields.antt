-- A field that is read has the bytes that it is written as, and what was written is read again.
use Rattle.std.proofs.Common.{◌≡◌, ℕ, zero, suc, ◌^◌, ◌<◌, ◌≤◌, Bool, true, false, cond, ltb, List, [], ◌∷◌, ◌++◌, length, get_or, take, drop, Option, Some, None, refl, sym, ap, subst, ◌∙◌, length-append, arith}
use Rattle.std.specs.Prelude.{All}
use Rattle.std.proofs.lemmas.Bool.{ltb-false, le-ltb}
use Rattle.std.proofs.lemmas.List.{take_at, drop_at, take-append-drop, length-take, length-take-le}
use Rattle.std.proofs.lemmas.List.Elements.{All-head, All-tail}
use Rattle.std.proofs.lemmas.Nat.{be_bytes_4, be_bytes_8}
use Rattle.byteorder.specs.Endian.{big_bytes, big_number}
use Rattle.byteorder.specs.Numbers.{big_number-reads_back, big_from-take, big_from-lt, length-bytes_high_first}
use Rattle.rk_pieces.specs.Pieces.{◌>>=◌, big_at, cut, short, short_at, whole, tested}

abbrev pub IsBytes : List ℕ → Type 0
IsBytes bytes = (i : ℕ) → get_or bytes i 0 < 256

pub bytes_from_all : (bytes : List ℕ) → All (λ b. b < 256) bytes → IsBytes bytes
bytes_from_all [] h i = omega arith
bytes_from_all (b ∷ bytes) h zero = All-head (λ x. x < 256) b bytes h
bytes_from_all (b ∷ bytes) h (suc i) = bytes_from_all bytes (All-tail (λ x. x < 256) b bytes h) i

behind : (xs ys : List ℕ) → IsBytes (xs ++ ys) → IsBytes ys
behind [] ys h = h
behind (x ∷ xs) ys h = behind xs ys (λ i. h (suc i))

pub rest_fits : (bytes xs ys : List ℕ) → IsBytes bytes → bytes ≡ xs ++ ys → IsBytes ys
rest_fits bytes xs ys h e = behind xs ys (subst IsBytes e h)

pub bind_some : {A B : Type 0} (r : Option A) (f : A → Option B) (y : B) → (r >>= f) ≡ Some y → (x : A) × (r ≡ Some x) × (f x ≡ Some y)
bind_some None f y e = absurd cc
bind_some (Some x) f y e = (x, refl, e)

pub bind_again : {A B : Type 0} (r : Option A) (x : A) (f : A → Option B) → r ≡ Some x → (r >>= f) ≡ f x
bind_again r x f e = ap (λ (o : Option _). o >>= f) e

pub bind_none : {A B : Type 0} (r : Option A) (f : A → Option B) → r ≡ None → (r >>= f) ≡ None
bind_none r f e = ap (λ (o : Option _). o >>= f) e

abbrev pub done : {A : Type 0} → A → Option A
done x = Some x

pub some_is : {A : Type 0} (x y : A) → done x ≡ done y → x ≡ y
some_is x y e = cc

-- a test that was passed
pub guard_some : {A : Type 0} (b : Bool) (r : Option A) (y : A) → cond b None r ≡ Some y → (b ≡ false) × (r ≡ Some y)
guard_some true r y e = absurd cc
guard_some false r y e = (refl, e)

pub whole_is : {A : Type 0} (p : A × List ℕ) (a : A) → whole p ≡ Some a → p ≡ (a, [])
whole_is (x, []) a e = ap (λ y. (y, [])) (some_is x a e)
whole_is (x, b ∷ bytes) a e = absurd cc

by_test : {A : Type 0} (b : Bool) (a v : A) → cond b (Some a) None ≡ Some v → (b ≡ true) × (a ≡ v)
by_test true a v e = (refl, some_is a v e)
by_test false a v e = absurd cc

pub tested_is : {A : Type 0} (test : A → Bool) (a v : A) → tested test a ≡ Some v → (test a ≡ true) × (a ≡ v)
tested_is test a v e = by_test (test a) a v e

pub tested_again : {A : Type 0} (test : A → Bool) (a : A) → test a ≡ true → tested test a ≡ Some a
tested_again test a e = ap (λ (b : Bool). cond b (Some a) None) e

-- bytes of a number, so many, are those that spell it
abbrev pub Spells : ℕ → Type 0
Spells n = (bytes : List ℕ) → length bytes ≡ n → IsBytes bytes → big_bytes n (big_number n bytes) ≡ bytes

pub spells_4 : Spells 4
spells_4 bytes len fits = be_bytes_4 bytes (big_number 4 bytes) len fits (omega arith)

pub spells_8 : Spells 8
spells_8 bytes len fits = be_bytes_8 bytes (big_number 8 bytes) len fits (omega arith)

fits_take : (n : ℕ) (bytes : List ℕ) → IsBytes bytes → IsBytes (take n bytes)
fits_take zero bytes h i = omega arith
fits_take (suc n) [] h i = omega arith
fits_take (suc n) (x ∷ bytes) h zero = h zero
fits_take (suc n) (x ∷ bytes) h (suc i) = fits_take n bytes (λ j. h (suc j)) i

pub big_takes : (n : ℕ) → Spells n → (bytes : List ℕ) (x : ℕ) (rest : List ℕ) → IsBytes bytes → big_at n bytes ≡ Some (x, rest)
    → (bytes ≡ big_bytes n x ++ rest) × (x < 256 ^ n)
big_takes n spells bytes x rest fits e =
    let g = guard_some (ltb (length bytes) n) (Some (big_number n bytes, drop n bytes)) (x, rest) e in
    let p = some_is (big_number n bytes, drop n bytes) (x, rest) g.1 in
    let long : n ≤ length bytes = ltb-false _ _ g.0 in
    let x-is : big_number n bytes ≡ x = ap (λ (q : ℕ × List ℕ). q.0) p in
    let rest-is : drop n bytes ≡ rest = ap (λ (q : ℕ × List ℕ). q.1) p in
    let front : big_number n (take n bytes) ≡ big_number n bytes = big_from-take 0 n n bytes (omega arith) in
    let spelled : big_bytes n x ≡ take n bytes =
    ap (big_bytes n) (sym x-is ∙ sym front) ∙ spells (take n bytes) (length-take-le n bytes long) (fits_take n bytes fits) in
    (rw (spelled, ← rest-is) (sym (take-append-drop n bytes)), subst (λ (k : ℕ). k < 256 ^ n) x-is (big_from-lt 0 n bytes fits))

pub big_again : (n x : ℕ) (rest : List ℕ) → x < 256 ^ n → big_at n (big_bytes n x ++ rest) ≡ Some (x, rest)
big_again n x rest h =
    let len : n ≡ length (big_bytes n x) = sym (length-bytes_high_first n x) in
    let fits : ltb (length (big_bytes n x ++ rest)) n ≡ false = le-ltb _ _ (omega (arith, len, length-append (big_bytes n x) rest)) in
    rw (fits, big_number-reads_back n x rest h, drop_at (big_bytes n x) rest n (sym len)) refl

pub cut_takes : (n : ℕ) (bytes s rest : List ℕ) → cut n bytes ≡ Some (s, rest) → (bytes ≡ s ++ rest) × (length s ≡ n)
cut_takes n bytes s rest e =
    let g = guard_some (ltb (length bytes) n) (Some (take n bytes, drop n bytes)) (s, rest) e in
    let p = some_is (take n bytes, drop n bytes) (s, rest) g.1 in
    let long : n ≤ length bytes = ltb-false _ _ g.0 in
    let s-is : take n bytes ≡ s = ap (λ (q : List ℕ × List ℕ). q.0) p in
    let rest-is : drop n bytes ≡ rest = ap (λ (q : List ℕ × List ℕ). q.1) p in
    (rw (← s-is, ← rest-is) (sym (take-append-drop n bytes)), rw (← s-is) (omega (arith, length-take n bytes)))

pub cut_again : (s rest : List ℕ) → cut (length s) (s ++ rest) ≡ Some (s, rest)
cut_again s rest =
    let fits : ltb (length (s ++ rest)) (length s) ≡ false = le-ltb _ _ (omega (arith, length-append s rest)) in
    rw (fits, take_at s rest (length s) refl, drop_at s rest (length s) refl) refl

pub short_takes : (bytes s rest : List ℕ) → short_at bytes ≡ Some (s, rest) → bytes ≡ short s ++ rest
short_takes [] s rest e = absurd cc
short_takes (n ∷ bytes) s rest e =
    let c = cut_takes n bytes s rest e in
    rw (c.0, ← c.1) refl

pub short_again : (s rest : List ℕ) → short_at (short s ++ rest) ≡ Some (s, rest)
short_again s rest = cut_again s rest
