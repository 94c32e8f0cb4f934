-- The reading of a journal's bytes and their spelling are one.
use Rattle.std.proofs.Common.{◌≡◌, ℕ, zero, suc, ◌+◌, ◌<◌, ◌≤◌, ◌^◌, Bool, true, false, List, [], ◌∷◌, ◌++◌, map, length, take, drop, get_or, flat_map, All, Ok, refl, sym, ◌∙◌, ap, arith, ⊎_elim}
use Rattle.std.specs.Int.{w64, from_be_bytes}
use Rattle.std.proofs.lemmas.Nat.{be_bytes_8}
use Rattle.std.proofs.lemmas.List.{length-append, length-take-le, take-append-drop, drop-drop, get_or-take, get_or-drop, get_or_past, append_assoc}
use Rattle.std.proofs.lemmas.Bool.Decides.{eqb_tells, leb_tells}
use Rattle.byteorder.specs.Endian.{big_bytes, big_from}
use Rattle.byteorder.specs.Numbers.{big_from-take, big_from-lt}
use Rattle.rk_gate.specs.declared.record.Record.{Record}
use Rattle.rk_gate.specs.Records.{IsTail, IsJournalOf, placed, record_bytes, records_from, payload_length, payload_of, is_whole, with_record}
use Rattle.rk_gate.proofs.Recovering.{closed_gate, open_gate, not_whole, one_record, one_answer, no_answer, pass_over, whole_parts, length-payload_of, with_record_ok}

abbrev Short : List ℕ → Type 0
Short payload = length payload < 2 ^ 64

tail_some : (tail : List ℕ) → IsTail tail → 0 < length tail
tail_some [] is = absurd is
tail_some (gate ∷ free) is = omega arith

-- what is spelled is read
pub reads_spelled : (payloads : List (List ℕ)) (at : ℕ) (tail : List ℕ) → All Short payloads → IsTail tail → records_from 0 at (flat_map record_bytes payloads ++ tail) ≡ Ok (placed at payloads)
reads_spelled [] at [] short is = absurd is
reads_spelled [] at (gate ∷ free) short is = closed_gate at gate free is
reads_spelled (p ∷ ps) at tail short is =
    let more = flat_map record_bytes ps ++ tail in
    ap (records_from 0 at) (append_assoc (record_bytes p) (flat_map record_bytes ps) tail)
    ∙ one_record at p more (short 0 [] (omega arith)) (omega (arith, tail_some tail is, length-append (flat_map record_bytes ps) tail))
    ∙ ap (with_record (record { at = at; payload = p })) (reads_spelled ps (at + 9 + length p) tail (λ k d lt. short (suc k) d (omega (arith, lt))) is)

-- eight bytes spell the number that is read of them
eight_bytes : (xs : List ℕ) → 8 ≤ length xs → ((i : ℕ) → get_or xs i 0 < 256) → big_bytes 8 (payload_length xs) ≡ take 8 xs
eight_bytes xs le fits =
    be_bytes_8 (take 8 xs) (payload_length xs) (length-take-le 8 xs le) (λ i. below i) (sym (big_from-take 0 8 8 xs (omega arith)) ∙ same (take 8 xs))
  where
    below : (i : ℕ) → get_or (take 8 xs) i 0 < 256
    below i = ⊎_elim
        (λ e. let past : get_or (take 8 xs) i 0 ≡ 0 = get_or_past (take 8 xs) i 0 (omega (arith, e.1, length-take-le 8 xs le)) in omega (arith, past))
        (λ e. let at_it : get_or (take 8 xs) i 0 ≡ get_or xs i 0 = get_or-take 8 xs i 0 e.1 in omega (arith, at_it, fits i))
        (leb_tells 8 i)

    same : (ys : List ℕ) → big_from 0 8 ys ≡ from_be_bytes w64 ys
    same ys = omega arith

pub record Spelled (at : ℕ) (rs : List Record) (bytes : List ℕ) : Type 0 where
  pub journal : IsJournalOf bytes (map (λ r. r.payload) rs)
  pub places : rs ≡ placed at (map (λ r. r.payload) rs)

first_short : (p : List ℕ) (ps : List (List ℕ)) → Short p → All Short ps → All Short (p ∷ ps)
first_short p ps short all zero d lt = short
first_short p ps short all (suc k) d lt = all k d (omega (arith, lt))

none_short : All Short []
none_short k d lt = absurd (omega (arith, lt))

-- an open gate is read as a bad record or as a first one
open_read : (rs : List Record) (at x : ℕ) (xs : List ℕ) → x ≡ 1 → records_from 0 at (x ∷ xs) ≡ Ok rs →
    (is_whole xs ≡ true) × ((more : List Record) × (records_from (8 + payload_length xs) (at + 1) xs ≡ Ok more) × (rs ≡ record { at = at; payload = payload_of xs } ∷ more))
open_read rs at x xs is e = go (is_whole xs) refl
  where
    go : (b : Bool) → is_whole xs ≡ b → (is_whole xs ≡ true) × ((more : List Record) × (records_from (8 + payload_length xs) (at + 1) xs ≡ Ok more) × (rs ≡ record { at = at; payload = payload_of xs } ∷ more))
    go true whole = (whole, with_record_ok (record { at = at; payload = payload_of xs }) (records_from (8 + payload_length xs) (at + 1) xs) rs (sym (open_gate at x xs is whole) ∙ e))
    go false part = absurd (no_answer (records_from 0 at (x ∷ xs)) at rs (not_whole at x xs is part) e)

-- the bytes behind an open gate are a length, a payload, and what follows
behind_open : (xs : List ℕ) → ((i : ℕ) → get_or xs i 0 < 256) → is_whole xs ≡ true →
    xs ≡ (big_bytes 8 (length (payload_of xs)) ++ payload_of xs) ++ drop (8 + payload_length xs) xs
behind_open xs fits whole =
    let n = payload_length xs in
    let le : 8 + n < length xs = whole_parts xs whole in
    sym (take-append-drop 8 xs)
    ∙ ap (λ l. l ++ drop 8 xs) (sym (eight_bytes xs (omega (arith, le)) fits) ∙ ap (big_bytes 8) (sym (length-payload_of xs whole)))
    ∙ ap (λ l. big_bytes 8 (length (payload_of xs)) ++ l) (sym (take-append-drop n (drop 8 xs)) ∙ ap (λ l. payload_of xs ++ l) (drop-drop n 8 xs))
    ∙ sym (append_assoc (big_bytes 8 (length (payload_of xs))) (payload_of xs) (drop (8 + n) xs))

spelled_first : (r : Record) (rs : List Record) (at x : ℕ) (xs : List ℕ) → ((i : ℕ) → get_or xs i 0 < 256) → x ≡ 1 → records_from 0 at (x ∷ xs) ≡ Ok (r ∷ rs) →
    ((at' : ℕ) (bytes : List ℕ) → ((i : ℕ) → get_or bytes i 0 < 256) → records_from 0 at' bytes ≡ Ok rs → Spelled at' rs bytes) → Spelled at (r ∷ rs) (x ∷ xs)
spelled_first r rs at x xs fits is e ih =
    let w = open_read (r ∷ rs) at x xs is e in
    let n = payload_length xs in
    let first : r ≡ record { at = at; payload = payload_of xs } = let split = w.1.2 in cc in
    let rest : rs ≡ w.1.0 = let split = w.1.2 in cc in
    let p : r.payload ≡ payload_of xs = ap (λ q. q.payload) first in
    let le : 8 + n < length xs = whole_parts xs w.0 in
    let place : at + 1 + (8 + n) ≡ at + 9 + length r.payload = omega (arith, ap length p, length-payload_of xs w.0) in
    let h = ih (at + 9 + length r.payload) (drop (8 + n) xs) (λ i. let moved = get_or-drop (8 + n) xs i 0 in omega (arith, moved, fits (8 + n + i)))
    (ap (λ k. records_from 0 k (drop (8 + n) xs)) (sym place) ∙ sym (pass_over xs (8 + n) (at + 1) (omega (arith, le))) ∙ w.1.1 ∙ ap (λ (l : List Record). Ok l) (sym rest)) in
    let payloads = map (λ (q : Record). q.payload) rs in
    let short : length r.payload < 2 ^ 64 =
    omega (arith, ap length p, length-payload_of xs w.0, big_from-lt 0 8 xs fits) in
    record {
      journal = record {
        tail = h.journal.tail;
        is_tail = h.journal.is_tail;
        spelled = ap (λ k. k ∷ xs) is
            ∙ ap (λ l. 1 ∷ l) (behind_open xs fits w.0)
            ∙ ap (λ l. (1 ∷ big_bytes 8 (length l) ++ l) ++ drop (8 + n) xs) (sym p)
            ∙ ap (λ l. record_bytes r.payload ++ l) h.journal.spelled
            ∙ sym (append_assoc (record_bytes r.payload) (flat_map record_bytes payloads) h.journal.tail);
        short = first_short r.payload payloads short h.journal.short;
      };
      places = ap (λ q. q ∷ rs) (first ∙ ap (λ l. record { at = at; payload = l }) (sym p)) ∙ ap (λ l. record { at = at; payload = r.payload } ∷ l) h.places;
    }

-- what is read is spelled
pub spelled : (rs : List Record) (at : ℕ) (bytes : List ℕ) → ((i : ℕ) → get_or bytes i 0 < 256) → records_from 0 at bytes ≡ Ok rs → Spelled at rs bytes
spelled rs at [] fits e = absurd (no_answer (records_from 0 at []) at rs refl e)
spelled [] at (x ∷ xs) fits e = record {
  journal = record {
    tail = x ∷ xs;
    is_tail = λ is. let w = open_read [] at x xs is e in let split = w.1.2 in let bad : ⊥ = cc in bad;
    spelled = refl;
    short = none_short;
  };
  places = refl;
}
spelled (r ∷ rs) at (x ∷ xs) fits e = ⊎_elim
    (λ o. spelled_first r rs at x xs (λ i. fits (suc i)) o.1 e (λ at' bytes fits' e'. spelled rs at' bytes fits' e'))
    (λ s. let none : [] ≡ r ∷ rs = one_answer (records_from 0 at (x ∷ xs)) [] (r ∷ rs) (closed_gate at x xs s.1) e in let bad : ⊥ = cc in absurd bad)
    (eqb_tells x 1)
