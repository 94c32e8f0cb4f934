-- A cover, as a loop makes it: from the last entry to the first, by inserts at a place.
use Rattle.std.proofs.Common.{◌≡◌, ℕ, suc, ◌+◌, ◌≤◌, arith, ap, Bool, true, false, cond, List, [], ◌∷◌, length, Some, None, Option, unwrap_or, refl}
use Rattle.std.specs.Prelude.{◌&&◌, nat_lt, not}
use Rattle.std.specs.List.{insert, prefix_len, position, position_or_len, filter_map, list_any}
use Rattle.std.specs.Ordering.{is_lt}
use Rattle.std.proofs.lemmas.Bool.Decides.{nat_tests}
use Rattle.std.proofs.lemmas.List.Sums.{prefix_len-le-length}
use Rattle.rk_key.specs.Keys.{suffix_cmp}
use Rattle.rk_model.specs.Operations.{is_over}
use Rattle.rk_model.specs.Covers.{over, ends_set, standing, insert_pair, by_suffix}
use Rattle.rk_model.specs.declared.op.Op.{Op}
use Rattle.rk_model.specs.declared.op.Op.TheVariants.{RangeSet}
use Rattle.rk_model.specs.declared.op.Entry.{Entry}
use Rattle.rk_model.specs.declared.span.SuffixValue.{SuffixValue}

abbrev goes_before : SuffixValue → SuffixValue → Bool
goes_before p q = is_lt (suffix_cmp p.suffix q.suffix)

inserted : (p : SuffixValue) (qs : List SuffixValue) → insert qs (position_or_len (goes_before p) qs) p ≡ insert_pair p qs
inserted p [] = refl
inserted p (q ∷ qs) =
    let n = prefix_len (λ r. not (goes_before p r)) qs in
    let e : 1 + n ≡ suc n = omega arith in
    elim (goes_before p q) as (λ b. insert (q ∷ qs) (cond (not b) (1 + n) 0) p ≡ cond b (p ∷ q ∷ qs) (q ∷ insert_pair p qs)) [
      | true ↦ refl
      | false ↦ rw e (ap (λ l. q ∷ l) (inserted p qs))
    ]

at_most : (n m : ℕ) → n ≤ m → unwrap_or (cond (nat_lt n m) (Some n) None) m ≡ n
at_most n m h = grind (arith, nat_tests)

place : (p : SuffixValue) (qs : List SuffixValue) → unwrap_or (position (goes_before p) qs) (length qs) ≡ position_or_len (goes_before p) qs
place p qs = at_most (position_or_len (goes_before p) qs) (length qs) (prefix_len-le-length _ qs)

-- an insert before the first pair with a greater suffix, or at the end
pub insert_at_place : (p : SuffixValue) (qs : List SuffixValue) (found : Option ℕ) (n at : ℕ) →
    found ≡ position (goes_before p) qs → n ≡ length qs → at ≡ unwrap_or found n
    → insert qs at p ≡ insert_pair p qs
insert_at_place p qs found n at is_found is_length is_at = rw (is_at, is_found, is_length, place p qs) (inserted p qs)

pub standing_is : (here : List Entry) (n : ℕ) (op : Op) (s e u v : List ℕ) (b : Bool) →
    op ≡ RangeSet s e u v
    → b ≡ list_any (λ f. nat_lt n f.seq && ends_set u f.op) here
    → standing here n op ≡ cond b None (Some (record { suffix = u; value = v }))
standing_is here n op s e u v b is ended = rw (is, ended) refl

-- the cover of the entries in a part of the list, each against all
abbrev pub cover_of_part : List Entry → List ℕ → List Entry → List SuffixValue
cover_of_part es x part = by_suffix (filter_map (λ e. standing (over x es) e.seq e.op) (over x part))

pub one_pair_more : (es : List Entry) (x : List ℕ) (e : Entry) (part : List Entry) (p : SuffixValue) →
    is_over x e.op ≡ true → standing (over x es) e.seq e.op ≡ Some p
    → cover_of_part es x (e ∷ part) ≡ insert_pair p (cover_of_part es x part)
one_pair_more es x e part p is_here stands = rw (is_here) (rw stands refl)
