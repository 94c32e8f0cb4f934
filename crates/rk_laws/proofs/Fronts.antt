-- The part of a history up to one of its ends.
use Rattle.std.proofs.Common.{◌≡◌, ℕ, ◌+◌, ◌-◌, ◌<◌, ◌≤◌, Bool, true, false, List, [], ◌∷◌, ◌++◌, length, subst, refl, ap, sym, ◌∙◌, inl, inr, nat_le, arith, le-leb, leb-true}
use Rattle.std.proofs.lemmas.List.{length-append}
use Rattle.std.proofs.lemmas.List.Elements.{filter-append}
use Rattle.rk_model.specs.Lists.{Among}
use Rattle.rk_model.specs.Operations.{History, operations, numbered, last}
use Rattle.rk_model.specs.Covers.{upto}
use Rattle.rk_model.specs.declared.op.Op.{Op}
use Rattle.rk_model.specs.Histories.{AreCommits, ends_after, part_to}
use Rattle.rk_laws.specs.Parts.{IsPartTo, EachEndHasItsPart}

-- no end is below the first number
not_below : (m : ℕ) (h : History) (n : ℕ) → Among n (ends_after m h) → m ≤ n
not_below m [] n (inl is) = omega (arith, is)
not_below m [] n (inr none) = absurd none
not_below m (c ∷ cs) n (inl is) = omega (arith, is)
not_below m (c ∷ cs) n (inr more) = omega (arith, not_below (m + length c) cs n more)

above : (a b : ℕ) → b < a → nat_le a b ≡ false
above a b lt = go (nat_le a b) refl
  where
    go : (t : Bool) → nat_le a b ≡ t → t ≡ false
    go true e = absurd (omega (arith, lt, leb-true a b e))
    go false e = refl

-- operations numbered above n are none up to n
all_above : (n m : ℕ) (ops : List Op) → n < m → upto n (numbered m ops) ≡ []
all_above n m [] lt = refl
all_above n m (op ∷ ops) lt = rw (above m n lt) (all_above n (m + 1) ops (omega (arith, lt)))

numbered_both : (m : ℕ) (ops more : List Op) → numbered m (ops ++ more) ≡ numbered m ops ++ numbered (m + length ops) more
numbered_both m [] more = ap (λ k. numbered k more) (omega arith)
numbered_both m (op ∷ ops) more = ap (λ es. record { op = op; seq = m } ∷ es) (numbered_both (m + 1) ops more ∙ ap (λ k. numbered (m + 1) ops ++ numbered k more) (omega arith))

all_below : (n m : ℕ) (ops : List Op) → m + length ops ≤ n + 1 → upto n (numbered m ops) ≡ numbered m ops
all_below n m [] le = refl
all_below n m (op ∷ ops) le = rw (le-leb m n (omega (arith, le))) (ap (λ es. record { op = op; seq = m } ∷ es) (all_below n (m + 1) ops (omega (arith, le))))

-- what is wanted of a part, where the first operation has the number after m
record IsPart (m n : ℕ) (h part : History) : Type 0 where
  first : (rest : History) × (h ≡ part ++ rest)
  last : m + last part ≡ n
  entries : numbered (m + 1) (operations part) ≡ upto n (numbered (m + 1) (operations h))

part_whole : (m n : ℕ) (c : List Op) (cs : History) → m + length c ≤ n → c ∷ part_to (n - (m + length c)) cs ≡ part_to (n - m) (c ∷ cs)
part_whole m n c cs le = rw (le-leb (length c) (n - m) (omega (arith, le))) (ap (λ k. c ∷ part_to k cs) (omega arith))

part_none : (m n : ℕ) (c : List Op) (cs : History) → 1 ≤ length c → n ≡ m → [] ≡ part_to (n - m) (c ∷ cs)
part_none m n c cs some is = rw (above (length c) (n - m) (omega (arith, some, is))) refl

numbers_on : (m : ℕ) (c ops : List Op) → numbered (m + 1) (c ++ ops) ≡ numbered (m + 1) c ++ numbered (m + length c + 1) ops
numbers_on m c ops = numbered_both (m + 1) c ops ∙ ap (λ k. numbered (m + 1) c ++ numbered k ops) (omega arith)

part_from : (m n : ℕ) (h : History) → AreCommits h → Among n (ends_after m h) → IsPart m n h (part_to (n - m) h)
part_from m n [] all (inl is) = record { first = ([], refl); last = omega (arith, is); entries = refl }
part_from m n [] all (inr none) = absurd none
part_from m n (c ∷ cs) all (inl is) = subst (IsPart m n (c ∷ cs)) (part_none m n c cs all.0 is) (record {
  first = (c ∷ cs, refl);
  last = omega (arith, is);
  entries = sym (all_above n (m + 1) (c ++ operations cs) (omega (arith, is)));
})
part_from m n (c ∷ cs) all (inr more) =
    let le : m + length c ≤ n = not_below (m + length c) cs n more in
    let rest = part_from (m + length c) n cs all.1 more in
    let part : History = part_to (n - (m + length c)) cs in
    subst (IsPart m n (c ∷ cs)) (part_whole m n c cs le) (record {
      first = (rest.first.0, ap (λ h. c ∷ h) rest.first.1);
      last = omega (arith, length-append c (operations (part_to (n - (m + length c)) cs)), rest.last);
      entries =
          numbers_on m c (operations (part_to (n - (m + length c)) cs))
          ∙ ap (λ es. numbered (m + 1) c ++ es) rest.entries
          ∙ ap (λ es. es ++ upto n (numbered (m + length c + 1) (operations cs))) (sym (all_below n (m + 1) c (omega (arith, le))))
          ∙ sym (ap (upto n) (numbers_on m c (operations cs)) ∙ filter-append (λ e. nat_le e.seq n) (numbered (m + 1) c) (numbered (m + length c + 1) (operations cs)));
    })

pub part_of_end : EachEndHasItsPart
part_of_end h n all among = go (n - 0) (omega arith) (part_from 0 n h all among)
  where
    go : (p : ℕ) → p ≡ n → IsPart 0 n h (part_to p h) → IsPartTo n h
    go p is found =
        let here : IsPart 0 n h (part_to n h) = subst (λ k. IsPart 0 n h (part_to k h)) is found in
        let one : 0 + 1 ≡ 1 = omega arith in
        record {
          first = here.first;
          last = omega (arith, here.last);
          entries = subst (λ k. numbered k (operations (part_to n h)) ≡ upto n (numbered k (operations h))) one here.entries;
        }
