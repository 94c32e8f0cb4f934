-- Which records bytes have, by their bytes up to the closed gate.
use Rattle.std.proofs.Common.{◌≡◌, ◌≢◌, ℕ, zero, suc, ◌+◌, ◌-◌, ◌<◌, ◌≤◌, ◌^◌, Bool, true, false, not, ◌&&◌, ◌==◌, List, [], ◌∷◌, ◌++◌, length, take, drop, get_or, Result, Ok, Err, refl, sym, ◌∙◌, ap, subst, arith, ⊎_elim, if◌then◌else◌, Bor}
use Rattle.std.specs.Prelude.{nat_lt, nat_le}
use Rattle.std.proofs.lemmas.List.{length-append, length-take, length-take-le, length-drop, take-take, drop-take, drop_at, take_at, drop-drop, drop_more, get_or-take, append-nil, append_assoc}
use Rattle.std.proofs.lemmas.List.Sums.{sum_by-cons, sum_by-append}
use Rattle.std.proofs.lemmas.Bool.{lt-ltb, ltb-true, and_parts}
use Rattle.std.proofs.lemmas.Bool.Decides.{eqb_tells, leb_tells}
use Rattle.byteorder.specs.Endian.{big_bytes, big_from}
use Rattle.byteorder.specs.Numbers.{big_from-take, big_number-reads_back, length-bytes_high_first}
use Rattle.rk_gate.specs.declared.record.Record.{Record}
use Rattle.rk_gate.specs.Records.{records_from, recovered, with_record, payload_length, payload_of, is_whole, record_length, record_bytes, gate_behind}
use Rattle.rk_gate.specs.declared.reading.Front.TheVariants.{Open}
use Rattle.rk_gate.specs.Reading.{IsFront, with_records}
use Rattle.rk_gate.specs.Changes.{behind_gate, with_payload}

-- what stands behind a gate, by whether it is open and a whole record stands there
abbrev behind : Bool → Bool → ℕ → List ℕ → Result (List Record) ℕ
behind open_gate whole at bytes =
    if not open_gate then Ok []
    else if not whole then Err at
    else with_record (record { at = at; payload = payload_of bytes }) (records_from (8 + payload_length bytes) (at + 1) bytes)

pub closed_gate : (at gate : ℕ) (bytes : List ℕ) → gate ≢ 1 → records_from 0 at (gate ∷ bytes) ≡ Ok []
closed_gate at gate bytes ne = ⊎_elim (λ e. absurd (ne e.1)) (λ e. ap (λ b. behind b (is_whole bytes) at bytes) e.0) (eqb_tells gate 1)

pub not_whole : (at gate : ℕ) (bytes : List ℕ) → gate ≡ 1 → is_whole bytes ≡ false → records_from 0 at (gate ∷ bytes) ≡ Err at
not_whole at gate bytes is part =
    ap (λ k. behind (k == 1) (is_whole bytes) at bytes) is ∙ ap (λ b. behind true b at bytes) part

pub open_gate : (at gate : ℕ) (bytes : List ℕ) → gate ≡ 1 → is_whole bytes ≡ true →
    records_from 0 at (gate ∷ bytes) ≡ with_record (record { at = at; payload = payload_of bytes }) (records_from (8 + payload_length bytes) (at + 1) bytes)
open_gate at gate bytes is whole =
    ap (λ k. behind (k == 1) (is_whole bytes) at bytes) is ∙ ap (λ b. behind true b at bytes) whole

passed : (pass at x : ℕ) (xs : List ℕ) → 0 < pass → records_from pass at (x ∷ xs) ≡ records_from (pass - 1) (at + 1) xs
passed pass at x xs lt = ap (λ b. if b then records_from (pass - 1) (at + 1) xs else behind (x == 1) (is_whole xs) at xs) (lt-ltb 0 pass lt)

passed_one : (pass at x : ℕ) (xs : List ℕ) → records_from (suc pass) at (x ∷ xs) ≡ records_from pass (at + 1) xs
passed_one pass at x xs = passed (suc pass) at x xs (omega arith) ∙ ap (λ k. records_from k (at + 1) xs) (omega arith)

-- bytes that are passed over are as if they were not there
pub pass_over : (xs : List ℕ) (n at : ℕ) → n ≤ length xs → records_from n at xs ≡ records_from 0 (at + n) (drop n xs)
pass_over xs zero at le = ap (λ k. records_from 0 k xs) (omega arith)
pass_over [] (suc n) at le = absurd (omega (arith, le))
pass_over (x ∷ xs) (suc n) at le =
    passed_one n at x xs ∙ pass_over xs n (at + 1) (omega (arith, le)) ∙ ap (λ k. records_from 0 k (drop n xs)) (omega arith)

-- a whole record: its length is in eight bytes, and one byte more follows it
pub whole_parts : (bytes : List ℕ) → is_whole bytes ≡ true → 8 + payload_length bytes < length bytes
whole_parts bytes e =
    ltb-true (8 + payload_length bytes) (length bytes) (and_parts (nat_le 8 (length bytes)) (nat_lt (8 + payload_length bytes) (length bytes)) e).1

pub is_whole_by : (bytes : List ℕ) → 8 + payload_length bytes < length bytes → is_whole bytes ≡ true
is_whole_by bytes lt =
    ap (λ b. b && nat_lt (8 + payload_length bytes) (length bytes)) (le_true 8 (length bytes) (omega (arith, lt)))
    ∙ lt-ltb (8 + payload_length bytes) (length bytes) lt
  where
    le_true : (a b : ℕ) → a ≤ b → nat_le a b ≡ true
    le_true a b le = ⊎_elim (λ l. l.0) (λ l. absurd (omega (arith, le, l.1))) (leb_tells a b)

pub length-payload_of : (bytes : List ℕ) → is_whole bytes ≡ true → length (payload_of bytes) ≡ payload_length bytes
length-payload_of bytes e = length-take-le (payload_length bytes) (drop 8 bytes) (omega (arith, whole_parts bytes e, length-drop 8 bytes))

pub with_record_ok : (r : Record) (inner : Result (List Record) ℕ) (rs : List Record) → with_record r inner ≡ Ok rs → (more : List Record) × (inner ≡ Ok more) × (rs ≡ r ∷ more)
with_record_ok r (Ok more) rs e = let same : rs ≡ r ∷ more = cc in (more, refl, same)
with_record_ok r (Err at) rs e = let bad : ⊥ = cc in absurd bad

pub one_answer : (q : Result (List Record) ℕ) (rs ss : List Record) → q ≡ Ok rs → q ≡ Ok ss → rs ≡ ss
one_answer q rs ss e f = cc

pub no_answer : (q : Result (List Record) ℕ) (at : ℕ) (rs : List Record) → q ≡ Err at → q ≡ Ok rs → ⊥
no_answer q at rs e f = cc

pub nil_records : (q : Result (List Record) ℕ) → with_records [] q ≡ q
nil_records (Ok more) = refl
nil_records (Err at) = refl

with_record_records : (r : Record) (rs : List Record) (q : Result (List Record) ℕ) → with_record r (with_records rs q) ≡ with_records (r ∷ rs) q
with_record_records r rs (Ok more) = refl
with_record_records r rs (Err at) = refl

-- The gate behind these records stands at m, within the bytes, and is closed; and bytes that are the same before it have
-- these records, and then what is read at m.
pub record HasFront (pass m at : ℕ) (rs : List Record) (bytes : List ℕ) : Type 0 where
  pub long : m < length bytes
  pub closed : get_or bytes m 1 ≢ 1
  pub same : (c : List ℕ) → take m c ≡ take m bytes → m < length c → records_from pass at c ≡ with_records rs (records_from 0 (at + m) (drop m c))

front_pass : (pass m at x : ℕ) (rs : List Record) (xs : List ℕ) → HasFront pass m (at + 1) rs xs → HasFront (suc pass) (suc m) at rs (x ∷ xs)
front_pass pass m at x rs xs h = record {
  long = omega (arith, h.long);
  closed = h.closed;
  same = same;
}
  where
    same : (c : List ℕ) → take (suc m) c ≡ take (suc m) (x ∷ xs) → suc m < length c → records_from (suc pass) at c ≡ with_records rs (records_from 0 (at + suc m) (drop (suc m) c))
    same [] e lt = absurd (omega (arith, lt))
    same (y ∷ cs) e lt =
        let t : take m cs ≡ take m xs = cc in
        passed_one pass at y cs ∙ h.same cs t (omega (arith, lt)) ∙ ap (λ k. with_records rs (records_from 0 k (drop m cs))) (omega arith)

front_closed : (at x : ℕ) (xs : List ℕ) → x ≢ 1 → HasFront 0 0 at [] (x ∷ xs)
front_closed at x xs ne = record {
  long = omega arith;
  closed = ne;
  same = λ c e lt. ap (λ k. records_from 0 k c) (omega arith) ∙ sym (nil_records (records_from 0 (at + 0) c));
}

-- bytes that are the same up to a gate behind a whole record have that record too
front_open : (m at : ℕ) (rs : List Record) (xs : List ℕ) → is_whole xs ≡ true → 8 + payload_length xs ≤ m → HasFront (8 + payload_length xs) m (at + 1) rs xs →
    HasFront 0 (suc m) at (record { at = at; payload = payload_of xs } ∷ rs) (1 ∷ xs)
front_open m at rs xs whole le h = record {
  long = omega (arith, h.long);
  closed = h.closed;
  same = same;
}
  where
    r : Record
    r = record { at = at; payload = payload_of xs }

    len : (cs : List ℕ) → take m cs ≡ take m xs → payload_length cs ≡ payload_length xs
    len cs t =
        sym (big_from-take 0 8 m cs (omega (arith, le))) ∙ ap (big_from 0 8) t ∙ big_from-take 0 8 m xs (omega (arith, le))

    front : (cs : List ℕ) → take m cs ≡ take m xs → take (8 + payload_length xs) cs ≡ take (8 + payload_length xs) xs
    front cs t =
        sym (take-take (8 + payload_length xs) m cs le) ∙ ap (take (8 + payload_length xs)) t ∙ take-take (8 + payload_length xs) m xs le

    payload : (cs : List ℕ) → take m cs ≡ take m xs → payload_of cs ≡ payload_of xs
    payload cs t =
        ap (λ k. take k (drop 8 cs)) (len cs t) ∙ sym (drop-take 8 (payload_length xs) cs) ∙ ap (drop 8) (front cs t) ∙ drop-take 8 (payload_length xs) xs

    open_at : (y : ℕ) (cs : List ℕ) → y ≡ 1 → take m cs ≡ take m xs → m < length cs →
        records_from 0 at (y ∷ cs) ≡ with_records (record { at = at; payload = payload_of xs } ∷ rs) (records_from 0 (at + suc m) (drop m cs))
    open_at y cs is t lt =
        open_gate at y cs is (is_whole_by cs (omega (arith, len cs t, le, lt)))
        ∙ ap (λ p. with_record (record { at = at; payload = p }) (records_from (8 + payload_length cs) (at + 1) cs)) (payload cs t)
        ∙ ap (λ k. with_record (record { at = at; payload = payload_of xs }) (records_from (8 + k) (at + 1) cs)) (len cs t)
        ∙ ap (with_record (record { at = at; payload = payload_of xs })) (h.same cs t lt)
        ∙ with_record_records (record { at = at; payload = payload_of xs }) rs (records_from 0 (at + 1 + m) (drop m cs))
        ∙ ap (λ k. with_records (record { at = at; payload = payload_of xs } ∷ rs) (records_from 0 k (drop m cs))) (omega arith)

    same : (c : List ℕ) → take (suc m) c ≡ take (suc m) (1 ∷ xs) → suc m < length c →
        records_from 0 at c ≡ with_records (record { at = at; payload = payload_of xs } ∷ rs) (records_from 0 (at + suc m) (drop (suc m) c))
    same [] e lt = absurd (omega (arith, lt))
    same (y ∷ cs) e lt =
        let t : take m cs ≡ take m xs = cc in
        let is : y ≡ 1 = cc in
        open_at y cs is t (omega (arith, lt))

front_gate : (at x : ℕ) (xs : List ℕ) (rs : List Record) →
    ((more : List Record) → records_from (8 + payload_length xs) (at + 1) xs ≡ Ok more → HasFront (8 + payload_length xs) (8 + payload_length xs + gate_behind more) (at + 1) more xs) →
    records_from 0 at (x ∷ xs) ≡ Ok rs → HasFront 0 (gate_behind rs) at rs (x ∷ xs)
front_gate at x xs rs ih e = ⊎_elim (λ o. is_open o.1 (is_whole xs) refl) (λ s. is_closed s.1) (eqb_tells x 1)
  where
    is_closed : x ≢ 1 → HasFront 0 (gate_behind rs) at rs (x ∷ xs)
    is_closed ne =
        let none : [] ≡ rs = one_answer (records_from 0 at (x ∷ xs)) [] rs (closed_gate at x xs ne) e in
        subst (λ q. HasFront 0 (gate_behind q) at q (x ∷ xs)) none (front_closed at x xs ne)

    is_open : x ≡ 1 → (whole : Bool) → is_whole xs ≡ whole → HasFront 0 (gate_behind rs) at rs (x ∷ xs)
    is_open is false part = absurd (no_answer (records_from 0 at (x ∷ xs)) at rs (not_whole at x xs is part) e)
    is_open is true whole =
        let r : Record = record { at = at; payload = payload_of xs } in
        let w = with_record_ok r (records_from (8 + payload_length xs) (at + 1) xs) rs (sym (open_gate at x xs is whole) ∙ e) in
        let h = ih w.0 w.1 in
        let g : suc (8 + payload_length xs + gate_behind w.0) ≡ gate_behind (r ∷ w.0) =
        omega (arith, sum_by-cons record_length r w.0, length-payload_of xs whole) in
        let f = front_open (8 + payload_length xs + gate_behind w.0) at w.0 xs whole (omega arith) h in
        subst (λ q. HasFront 0 (gate_behind q) at q (x ∷ xs)) (sym w.2)
        (subst (λ y. HasFront 0 (gate_behind (r ∷ w.0)) at (r ∷ w.0) (y ∷ xs)) (sym is)
        (subst (λ k. HasFront 0 k at (r ∷ w.0) (1 ∷ xs)) g f))

pub front : (bytes : List ℕ) (pass at : ℕ) (rs : List Record) → records_from pass at bytes ≡ Ok rs → HasFront pass (pass + gate_behind rs) at rs bytes
front [] pass at rs e = let bad : ⊥ = cc in absurd bad
front (x ∷ xs) zero at rs e =
    subst (λ k. HasFront 0 k at rs (x ∷ xs)) (omega arith)
    (front_gate at x xs rs (λ more f. front xs (8 + payload_length xs) (at + 1) more f) e)
front (x ∷ xs) (suc pass) at rs e =
    subst (λ k. HasFront (suc pass) k at rs (x ∷ xs)) (omega arith)
    (front_pass pass (pass + gate_behind rs) at x rs xs (front xs pass (at + 1) rs (sym (passed_one pass at x xs) ∙ e)))

-- the bytes up to the gate behind the records decide on them
pub recovered_front : (bytes : List ℕ) (rs : List Record) → recovered bytes ≡ Ok rs → HasFront 0 (gate_behind rs) 0 rs bytes
recovered_front bytes rs e = subst (λ k. HasFront 0 k 0 rs bytes) (omega arith) (front bytes 0 0 rs e)

-- with a closed gate there they are the same
pub closed_records : (b c : List ℕ) (rs : List Record) → recovered b ≡ Ok rs → take (gate_behind rs) c ≡ take (gate_behind rs) b → gate_behind rs < length c → get_or c (gate_behind rs) 1 ≢ 1 →
    recovered c ≡ Ok rs
closed_records b c rs e t lt ne =
    let g = gate_behind rs in
    (recovered_front b rs e).same c t lt
    ∙ ap (λ l. with_records rs (records_from 0 (0 + g) l)) (drop_more c g 1 lt)
    ∙ ap (with_records rs) (closed_gate (0 + g) (get_or c g 1) (drop (g + 1) c) ne)
    ∙ ap (λ (l : List Record). Ok l) (append-nil rs)

-- bytes that are the same up to the gate, that one too, have the same records
pub same_records : (b c : List ℕ) (rs : List Record) → recovered b ≡ Ok rs → take (gate_behind rs + 1) c ≡ take (gate_behind rs + 1) b → recovered c ≡ Ok rs
same_records b c rs e t =
    let g = gate_behind rs in
    let h = recovered_front b rs e in
    let lt : g < length c = omega (arith, ap length t, length-take (g + 1) c, length-take (g + 1) b, h.long) in
    closed_records b c rs e
    (sym (take-take g (g + 1) c (omega arith)) ∙ ap (take g) t ∙ take-take g (g + 1) b (omega arith))
    lt
    (λ is. h.closed (sym (get_or-take (g + 1) b g 1 (omega arith)) ∙ sym (ap (λ l. get_or l g 1) t) ∙ get_or-take (g + 1) c g 1 (omega arith) ∙ is))

-- a record, and then what is read behind it
pub one_record : (at : ℕ) (payload rest : List ℕ) → length payload < 2 ^ 64 → 0 < length rest →
    records_from 0 at (record_bytes payload ++ rest) ≡ with_record (record { at = at; payload = payload }) (records_from 0 (at + 9 + length payload) rest)
one_record at payload rest short some =
    let n = length payload in
    let head = big_bytes 8 n in
    let eight : length head ≡ 8 = length-bytes_high_first 8 n in
    let bytes = head ++ payload ++ rest in
    let two : length (head ++ payload) ≡ 8 + n = omega (arith, eight, length-append head payload) in
    let all : length bytes ≡ 8 + n + length rest = omega (arith, two, length-append (head ++ payload) rest) in
    let len : payload_length bytes ≡ n = ap (big_from 0 8) (append_assoc head payload rest) ∙ big_number-reads_back 8 n (payload ++ rest) short in
    let is : payload_of bytes ≡ payload =
    ap (λ k. take k (drop 8 bytes)) len ∙ ap (λ l. take n (drop 8 l)) (append_assoc head payload rest) ∙ ap (take n) (drop_at head (payload ++ rest) 8 eight) ∙ take_at payload rest n refl in
    open_gate at 1 bytes refl (is_whole_by bytes (omega (arith, len, all, some)))
    ∙ ap (λ p. with_record (record { at = at; payload = p }) (records_from (8 + payload_length bytes) (at + 1) bytes)) is
    ∙ ap (λ k. with_record (record { at = at; payload = payload }) (records_from (8 + k) (at + 1) bytes)) len
    ∙ ap (with_record (record { at = at; payload = payload })) (pass_over bytes (8 + n) (at + 1) (omega (arith, all)))
    ∙ ap (λ l. with_record (record { at = at; payload = payload }) (records_from 0 (at + 1 + (8 + n)) l)) (drop_at (head ++ payload) rest (8 + n) two)
    ∙ ap (λ k. with_record (record { at = at; payload = payload }) (records_from 0 k rest)) (omega arith)

-- with an open record and a closed gate there, there is one record more
pub opened_records : (b c : List ℕ) (rs : List Record) (payload rest : List ℕ) → recovered b ≡ Ok rs → take (gate_behind rs) c ≡ take (gate_behind rs) b →
    drop (gate_behind rs) c ≡ 1 ∷ behind_gate payload ++ rest → length payload < 2 ^ 64 → recovered c ≡ Ok (with_payload rs payload)
opened_records b c rs payload rest e t d short =
    let g = gate_behind rs in
    let lt : g < length c = omega (arith, ap length d, length-drop g c, length-append (1 ∷ behind_gate payload) rest) in
    (recovered_front b rs e).same c t lt
    ∙ ap (λ l. with_records rs (records_from 0 (0 + g) l)) (d ∙ append_assoc (record_bytes payload) (0 ∷ []) rest)
    ∙ ap (λ k. with_records rs (records_from 0 k (record_bytes payload ++ 0 ∷ rest))) (omega arith)
    ∙ ap (with_records rs) (one_record g payload (0 ∷ rest) short (omega arith))
    ∙ ap (λ q. with_records rs (with_record (record { at = g; payload = payload }) q)) (closed_gate (g + 9 + length payload) 0 rest (omega arith))

pub gate_behind-with_payload : (rs : List Record) (payload : List ℕ) → gate_behind (with_payload rs payload) ≡ gate_behind rs + 9 + length payload
gate_behind-with_payload rs payload =
    let r : Record = record { at = gate_behind rs; payload = payload } in
    omega (arith, sum_by-append record_length rs (r ∷ []))

push_records : (rs : List Record) (r : Record) (q : Result (List Record) ℕ) → with_records rs (with_record r q) ≡ with_records (rs ++ r ∷ []) q
push_records rs r (Ok more) = ap (λ (l : List Record). Ok l) (sym (append_assoc rs (r ∷ []) more))
push_records rs r (Err at) = refl

open_parts : (payload : Bor (List ℕ)) (l : List ℕ) → IsFront (Open payload) l → (xs : List ℕ) × (l ≡ 1 ∷ xs) × (is_whole xs ≡ true) × (payload.now ≡ payload_of xs)
open_parts payload [] f = absurd f
open_parts payload (x ∷ xs) f = (xs, ap (λ y. y ∷ xs) f.0, f.1, f.2)

-- one record more was read
pub turn : (bytes l : List ℕ) (at : ℕ) (rs : List Record) (payload : Bor (List ℕ)) → l ≡ drop at bytes → IsFront (Open payload) l →
    recovered bytes ≡ with_records rs (records_from 0 at (drop at bytes)) →
    (at + (9 + length payload.now) ≤ length bytes)
    × (recovered bytes ≡ with_records (rs ++ record { at = at; payload = payload.now } ∷ []) (records_from 0 (at + (9 + length payload.now)) (drop (at + (9 + length payload.now)) bytes)))
turn bytes l at rs payload is f e =
    let p = open_parts payload l f in
    let xs = p.0 in
    let n = length payload.now in
    let d : drop at bytes ≡ 1 ∷ xs = sym is ∙ p.1 in
    let len : n ≡ payload_length xs = ap length p.3 ∙ length-payload_of xs p.2 in
    let fits : 8 + n < length xs = omega (arith, len, whole_parts xs p.2) in
    let all : length xs + 1 + at ≤ length bytes = omega (arith, ap length d, length-drop at bytes, fits) in
    let nine : suc (8 + n) ≡ 9 + n = omega arith in
    let behind_it : drop (8 + n) xs ≡ drop (at + (9 + n)) bytes =
    ap (λ k. drop k (1 ∷ xs)) nine ∙ sym (ap (drop (9 + n)) d) ∙ drop-drop (9 + n) at bytes in (
      omega (arith, all, fits),
      e ∙ ap (λ q. with_records rs (records_from 0 at q)) d
          ∙ ap (with_records rs) (open_gate at 1 xs refl p.2)
          ∙ ap (λ q. with_records rs (with_record (record { at = at; payload = q }) (records_from (8 + payload_length xs) (at + 1) xs))) (sym p.3)
          ∙ ap (λ k. with_records rs (with_record (record { at = at; payload = payload.now }) (records_from (8 + k) (at + 1) xs))) (sym len)
          ∙ ap (λ q. with_records rs (with_record (record { at = at; payload = payload.now }) q)) (pass_over xs (8 + n) (at + 1) (omega (arith, fits)))
          ∙ ap (λ q. with_records rs (with_record (record { at = at; payload = payload.now }) (records_from 0 (at + 1 + (8 + n)) q))) behind_it
          ∙ ap (λ k. with_records rs (with_record (record { at = at; payload = payload.now }) (records_from 0 k (drop (at + (9 + n)) bytes)))) (omega arith)
          ∙ push_records rs (record { at = at; payload = payload.now }) (records_from 0 (at + (9 + n)) (drop (at + (9 + n)) bytes)),
    )
