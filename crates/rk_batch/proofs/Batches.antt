-- A batch read from the front: its head, and one operation after the other.
use Rattle.std.proofs.Common.{◌≡◌, ◌≢◌, ℕ, suc, ◌<◌, ◌≤◌, inl, inr, Bool, true, false, cond, ltb, eqb, eqb-true, List, [], ◌∷◌, ◌++◌, length, Option, Some, None, refl, sym, ap, subst, ◌∙◌, append_assoc, length-append, arith}
use Rattle.std.specs.Prelude.{flat_map}
use Rattle.std.proofs.lemmas.Bool.{ltb-false, le-ltb}
use Rattle.std.proofs.lemmas.List.{append-nil}
use Rattle.std.proofs.lemmas.List.Elements.{All-nil, All-push}
use Rattle.byteorder.specs.Endian.{big_bytes}
use Rattle.rk_model.specs.declared.op.Op.{Op}
use Rattle.rk_batch.specs.declared.error.BatchError.{BatchError}
use Rattle.rk_batch.specs.declared.error.BatchError.TheVariants.{BadBatch}
use Rattle.rk_batch.specs.Encoding.{op_bytes, head, batch_bytes}
use Rattle.rk_batch.specs.Checks.{AllPass, IsOp, form, room, checks}
use Rattle.rk_batch.specs.Grammar.{IsBatchOf, HasHead, BeginsWith, IsBadBatch, IsDecodeRefusal}
use Rattle.rk_batch.specs.Reading.{number_at, counted_at, head_at, TakesNext}
use Rattle.rk_batch.proofs.Fields.{IsBytes, bind_some, bind_again, some_is, guard_some, number_takes, number_again}
use Rattle.rk_batch.proofs.Refusing.{front_passes, back_passes, all_pass}
use Rattle.rk_batch.proofs.Sizes.{ops_bytes-more}

passed : {A : Type 0} (b : Bool) (r : Option A) (y : A) → cond b r None ≡ Some y → (b ≡ true) × (r ≡ Some y)
passed true r y e = (refl, e)
passed false r y e = absurd cc

counted_takes : (bytes : List ℕ) (count : ℕ) (rest : List ℕ) → IsBytes bytes → counted_at bytes ≡ Some (count, rest) → HasHead (1 ∷ bytes) count rest
unfolding counted_at
counted_takes bytes count rest fits e =
    let n = bind_some (number_at bytes) (λ c. cond (ltb c.0 1) None (cond (ltb 1000 c.0) None (Some c))) (count, rest) e in
    let low = guard_some (ltb n.0.0 1) (cond (ltb 1000 n.0.0) None (Some n.0)) (count, rest) n.2 in
    let high = guard_some (ltb 1000 n.0.0) (Some n.0) (count, rest) low.1 in
    let number = number_takes bytes n.0.0 n.0.1 fits n.1 in
    let some : 1 ≤ n.0.0 = ltb-false _ _ low.0 in
    let few : n.0.0 ≤ 1000 = ltb-false _ _ high.0 in
    let p = some_is n.0 (count, rest) high.1 in
    subst (λ (q : ℕ × List ℕ). HasHead (1 ∷ bytes) q.0 q.1) p
    (record { some = some; few = few; spelled = ap (λ (t : List ℕ). 1 ∷ t) number.0 })

pub head_takes : (bytes : List ℕ) (count : ℕ) (rest : List ℕ) → IsBytes bytes → head_at bytes ≡ Some (count, rest) → HasHead bytes count rest
head_takes [] count rest fits e = absurd cc
head_takes (version ∷ bytes) count rest fits e =
    let p = passed (eqb version 1) (counted_at bytes) (count, rest) e in
    subst (λ (v : ℕ). HasHead (v ∷ bytes) count rest) (sym (eqb-true version 1 p.0)) (counted_takes bytes count rest (λ i. fits (suc i)) p.1)

counted_again : (count : ℕ) (rest : List ℕ) → 1 ≤ count → count ≤ 1000 → counted_at (big_bytes 2 count ++ rest) ≡ Some (count, rest)
unfolding counted_at
counted_again count rest some few =
    let low : ltb count 1 ≡ false = le-ltb _ _ some in
    let high : ltb 1000 count ≡ false = le-ltb _ _ few in
    bind_again (number_at (big_bytes 2 count ++ rest)) (count, rest) (λ c. cond (ltb c.0 1) None (cond (ltb 1000 c.0) None (Some c))) (number_again count rest (omega arith))
    ∙ rw (low, high) refl

pub head_again : (bytes : List ℕ) (count : ℕ) (rest : List ℕ) → HasHead bytes count rest → head_at bytes ≡ Some (count, rest)
head_again bytes count rest h = ap head_at h.spelled ∙ counted_again count rest h.some h.few

pub head_none : (bytes : List ℕ) → head_at bytes ≡ None → (count : ℕ) (rest : List ℕ) → ¬ HasHead bytes count rest
head_none bytes none count rest h =
    let again : head_at bytes ≡ Some (count, rest) = head_again bytes count rest h in
    cc

pub begins_first : (bytes : List ℕ) (count : ℕ) (rest : List ℕ) → HasHead bytes count rest → BeginsWith bytes count [] rest
begins_first bytes count rest h = record { head = h; within = omega arith; each = All-nil IsOp; short = omega arith }

more_with : (bytes : List ℕ) (count : ℕ) (ops : List Op) (op : Op) (rest after : List ℕ) → BeginsWith bytes count ops rest → length ops < count
    → AllPass (checks ops op) → rest ≡ op_bytes op ++ after → BeginsWith bytes count (ops ++ op ∷ []) after
more_with bytes count ops op rest after b less passes spelled =
    let room_passes : AllPass (room ops op) = back_passes (form op) (room ops op) passes in
    let moved : flat_map op_bytes ops ++ rest ≡ flat_map op_bytes (ops ++ op ∷ []) ++ after =
    ap (λ (t : List ℕ). flat_map op_bytes ops ++ t) spelled ∙ sym (append_assoc (flat_map op_bytes ops) (op_bytes op) after)
    ∙ ap (λ (t : List ℕ). t ++ after) (sym (ops_bytes-more ops op)) in
    record {
      head = record { some = b.head.some; few = b.head.few; spelled = b.head.spelled ∙ ap (λ (t : List ℕ). head count ++ t) moved };
      within = omega (arith, length-append ops (op ∷ []));
      each = All-push IsOp ops op b.each (front_passes (form op) (room ops op) passes);
      short = room_passes.1.0;
    }

pub begins_more : (bytes : List ℕ) (count : ℕ) (ops new : List Op) (rest after : List ℕ) → BeginsWith bytes count ops rest → length ops < count
    → TakesNext ops new rest after → BeginsWith bytes count new after
begins_more bytes count ops new rest after b less t =
    subst (λ (o : List Op). BeginsWith bytes count o after) (sym t.added) (more_with bytes count ops t.op rest after b less t.passes t.spelled)

pub bad_op : (bytes : List ℕ) (count : ℕ) (ops : List Op) (rest : List ℕ) → BeginsWith bytes count ops rest → length ops < count
    → ((op : Op) (after : List ℕ) → AllPass (checks ops op) → rest ≢ op_bytes op ++ after) → IsBadBatch bytes (length (batch_bytes ops))
bad_op bytes count ops rest b less none =
    let few : count ≤ 1000 = b.head.few in
    inr (inl (record {
      count = count;
      ops = ops;
      rest = rest;
      begins = b;
      more = less;
      none = λ op after h. none op after (all_pass (form op) (room ops op) h.form (omega arith, (h.short, tt))) h.spelled;
      place = refl;
    }))

pub trailing : (bytes : List ℕ) (count : ℕ) (ops : List Op) (rest : List ℕ) → BeginsWith bytes count ops rest → length ops ≡ count → rest ≢ []
    → IsBadBatch bytes (length (batch_bytes ops))
trailing bytes count ops rest b all some =
    inr (inr (record { ops = ops; rest = rest; begins = subst (λ (n : ℕ). BeginsWith bytes n ops rest) (sym all) b; some = some; place = refl }))

pub whole : (bytes : List ℕ) (count : ℕ) (ops : List Op) (rest : List ℕ) → BeginsWith bytes count ops rest → length ops ≡ count → rest ≡ []
    → IsBatchOf bytes ops
whole bytes count ops rest b all none =
    let few : count ≤ 1000 = b.head.few in
    let some : 1 ≤ count = b.head.some in
    record {
      batch = record { each = b.each; some = omega arith; few = omega arith; short = b.short };
      spelled = b.head.spelled ∙ ap (λ (n : ℕ). head n ++ (flat_map op_bytes ops ++ rest)) (sym all)
          ∙ ap (λ (t : List ℕ). head (length ops) ++ (flat_map op_bytes ops ++ t)) none
          ∙ ap (λ (t : List ℕ). head (length ops) ++ t) (append-nil (flat_map op_bytes ops));
    }

pub refused : (bytes : List ℕ) (at : ℕ) (e : BatchError) → e ≡ BadBatch at → IsBadBatch bytes at → IsDecodeRefusal bytes e
refused bytes at e is bad = inr (at, is, bad)

pub not_empty : (xs : List ℕ) → false ≡ eqb (length xs) 0 → xs ≢ []
not_empty [] e same = absurd cc
not_empty (x ∷ xs) e same = absurd cc

pub empty : (xs : List ℕ) → true ≡ eqb (length xs) 0 → xs ≡ []
empty [] e = refl
empty (x ∷ xs) e = let none : length (x ∷ xs) ≡ 0 = eqb-true _ _ (sym e) in absurd (omega arith)
