-- Keys and suffixes that the order does not tell apart have the same bytes.
use Rattle.std.proofs.Common.{true, ◌≡◌, ℕ, List, [], ◌∷◌, ◌++◌, refl, ap, sym, ◌∙◌, Ordering, Less, Equal, Greater}
use Rattle.std.specs.Cmp.Lexicographic.{slice_cmp}
use Rattle.std.specs.Ordering.{is_eq, nat_cmp, ordering_then}
use Rattle.std.proofs.lemmas.Cmp.{ranked, tied_itself}
use Rattle.rk_key.specs.Keys.{IsSuffix, IsKey, prefix, suffix, suffix_cmp, key_cmp}
use Rattle.rk_key.specs.Laws.{key_cmp-total, suffix_cmp-total}
use Rattle.rk_key.proofs.Decimals.{same_number}
use Rattle.rk_key.proofs.Parts.{prefix-append-suffix}

both_equal : (o p : Ordering) → ordering_then o p ≡ Equal → (o ≡ Equal) × (p ≡ Equal)
both_equal Less p e = cc
both_equal Equal p e = (refl, e)
both_equal Greater p e = cc

same_nat : (x y : ℕ) → nat_cmp x y ≡ Equal → x ≡ y
same_nat x y e = ranked x y Equal (sym e)

same_bytes : (xs ys : List ℕ) → slice_cmp nat_cmp xs ys ≡ Equal → xs ≡ ys
same_bytes [] [] e = refl
same_bytes [] (y ∷ ys) e = cc
same_bytes (x ∷ xs) [] e = cc
same_bytes (x ∷ xs) (y ∷ ys) e =
    let both : (nat_cmp x y ≡ Equal) × (slice_cmp nat_cmp xs ys ≡ Equal) = both_equal _ _ e in
    let heads : x ≡ y = same_nat x y both.0 in
    let tails : xs ≡ ys = same_bytes xs ys both.1 in
    cc

pub same_suffix : (s t : List ℕ) → IsSuffix s → IsSuffix t → suffix_cmp s t ≡ Equal → s ≡ t
same_suffix [] [] p q e = refl
same_suffix [] (b ∷ t) p q e = cc
same_suffix (a ∷ s) [] p q e = cc
same_suffix (a ∷ []) (b ∷ t) p q e = absurd p
same_suffix (a ∷ c ∷ s) (b ∷ []) p q e = absurd q
same_suffix (a ∷ c ∷ s) (b ∷ d ∷ t) p q e =
    let numbers : c ∷ s ≡ d ∷ t = same_number c s d t p.1 q.1 (sym (same_nat _ _ e)) in
    let at : a ≡ b = p.0 ∙ sym q.0 in
    cc

pub same_key : (x y : List ℕ) → IsKey x → IsKey y → key_cmp x y ≡ Equal → x ≡ y
same_key x y p q e =
    let both : (slice_cmp nat_cmp (prefix x) (prefix y) ≡ Equal) × (suffix_cmp (suffix x) (suffix y) ≡ Equal) =
    both_equal _ _ e in
    let prefixes : prefix x ≡ prefix y = same_bytes _ _ both.0 in
    let suffixes : suffix x ≡ suffix y = same_suffix _ _ p.suffix q.suffix both.1 in
    sym (prefix-append-suffix x) ∙ ap (λ start. start ++ suffix x) prefixes
    ∙ ap (λ end. prefix y ++ end) suffixes ∙ prefix-append-suffix y

pub suffix_cmp-refl : (s : List ℕ) → suffix_cmp s s ≡ Equal
suffix_cmp-refl s = tied_itself suffix_cmp-total s

pub key_cmp-refl : (x : List ℕ) → key_cmp x x ≡ Equal
key_cmp-refl x = tied_itself key_cmp-total x

is_equal : (o : Ordering) → is_eq o ≡ true → o ≡ Equal
is_equal Less e = cc
is_equal Equal e = refl
is_equal Greater e = cc

-- what `==` answers
pub same_suffix_from_eq : (s t : List ℕ) → IsSuffix s → IsSuffix t → is_eq (suffix_cmp s t) ≡ true → s ≡ t
same_suffix_from_eq s t p q e = same_suffix s t p q (is_equal (suffix_cmp s t) e)

pub same_key_from_eq : (x y : List ℕ) → IsKey x → IsKey y → is_eq (key_cmp x y) ≡ true → x ≡ y
same_key_from_eq x y p q e = same_key x y p q (is_equal (key_cmp x y) e)
