-- A group that was read has an operation, so that it ends above the number that it begins with.
use Rattle.std.proofs.Common.{◌≡◌, ℕ, zero, suc, ◌<◌, ◌≤◌, Bool, true, false, cond, ltb, leb, eqb, List, [], ◌∷◌, length, Option, Some, None, Ok, refl, sym, ap, subst, length-append, arith}
use Rattle.std.specs.Prelude.{All, Result}
use Rattle.std.proofs.lemmas.Bool.{ltb-true, ltb-false}
use Rattle.std.proofs.lemmas.List.Elements.{All-nil, All-cons}
use Rattle.rk_pieces.specs.Pieces.{◌>>=◌, cut, big_at, whole, tested, then_do, or_refuse}
use Rattle.rk_pieces.proofs.Fields.{done, bind_some, guard_some, some_is, tested_is, whole_is}
use Rattle.rk_gate.specs.Records.{recovered_file}
use Rattle.rk_gate.specs.declared.record.Record.{Record}
use Rattle.rk_model.specs.Operations.{operations}
use Rattle.rk_model.specs.declared.op.Op.{Op}
use Rattle.rk_batch.specs.Reading.{number_at, counted_at, head_at, op_at}
use Rattle.rk_batch.proofs.Fields as fields
use Rattle.rk_log.specs.Batches.{is_op, ops_at, batch_of}
use Rattle.rk_log.specs.Groups.{GroupSeen, framed_at, batches_at, group_of, group_end}
use Rattle.rk_log.specs.Logs.{groups_in, log_of}
use Rattle.rk_log.specs.declared.group.Logged.{Logged}
use Rattle.rk_opening.proofs.Alike.{then_ok}

-- what holds of a value holds of what was read
of_read : {A : Type 0} (P : A → Type 0) (a b : A) → done a ≡ done b → P a → P b
of_read P a b e p = subst P (some_is a b e) p

-- where nothing follows it
of_whole : {A : Type 0} (P : A → Type 0) (p : A × List ℕ) (a : A) → whole p ≡ Some a → P p.0 → P a
of_whole P p a e h = subst (λ (q : _ × List ℕ). P q.0) (whole_is p a e) h

count_some : (n count : ℕ) → tested (ltb 0) n ≡ Some count → 1 ≤ count
count_some n count e =
    let test = tested_is (ltb 0) n count e in
    subst (λ (k : ℕ). 1 ≤ k) test.1 (ltb-true 0 n test.0)

ops_counted : (n : ℕ) (bytes : List ℕ) (p : List Op × List ℕ) → ops_at n bytes ≡ Some p → length p.0 ≡ n
unfolding ops_at
ops_counted zero bytes p e = of_read (λ (q : List Op × List ℕ). length q.0 ≡ zero) ([], bytes) p e refl
ops_counted (suc n) bytes p e =
    let op = bind_some (op_at bytes) (λ op. tested is_op op.0 >>= λ first. ops_at n op.1 >>= λ more. Some (first ∷ more.0, more.1)) p e in
    let first = bind_some (tested is_op op.0.0) (λ first. ops_at n op.0.1 >>= λ more. Some (first ∷ more.0, more.1)) p op.2 in
    let more = bind_some (ops_at n op.0.1) (λ more. Some (first.0 ∷ more.0, more.1)) p first.2 in
    of_read (λ (q : List Op × List ℕ). length q.0 ≡ suc n) (first.0 ∷ more.0.0, more.0.1) p more.2 (ap suc (ops_counted n op.0.1 more.0 more.1))

counted_some : (bytes : List ℕ) (head : ℕ × List ℕ) → counted_at bytes ≡ Some head → 1 ≤ head.0
unfolding counted_at
counted_some bytes head e =
    let count = fields.bind_some (number_at bytes) (λ c. cond (ltb c.0 1) None (cond (ltb 1000 c.0) None (Some c))) head e in
    let low = guard_some (ltb count.0.0 1) (cond (ltb 1000 count.0.0) None (Some count.0)) head count.2 in
    let high = guard_some (ltb 1000 count.0.0) (Some count.0) head low.1 in
    of_read (λ (q : ℕ × List ℕ). 1 ≤ q.0) count.0 head high.1 (ltb-false _ _ low.0)

read_where : {A : Type 0} (b : Bool) (r : Option A) (y : A) → cond b r None ≡ Some y → r ≡ Some y
read_where true r y e = e
read_where false r y e = absurd cc

head_some : (bytes : List ℕ) (head : ℕ × List ℕ) → head_at bytes ≡ Some head → 1 ≤ head.0
head_some [] head e = absurd cc
head_some (version ∷ bytes) head e = counted_some bytes head (read_where (eqb version 1) (counted_at bytes) head e)

abbrev is_short : List ℕ → Bool
is_short bytes = leb (length bytes) 1048576

batch_some : (bytes : List ℕ) (ops : List Op) → batch_of bytes ≡ Some ops → 1 ≤ length ops
unfolding batch_of
batch_some bytes ops e =
    let head = bind_some (head_at bytes) (λ head. tested is_short bytes >>= λ short. ops_at head.0 head.1 >>= λ ops. whole ops) ops e in
    let short = bind_some (tested is_short bytes) (λ short. ops_at head.0.0 head.0.1 >>= λ ops. whole ops) ops head.2 in
    let read = bind_some (ops_at head.0.0 head.0.1) (λ ops. whole ops) ops short.2 in
    let some : 1 ≤ head.0.0 = head_some bytes head.0 head.1 in
    let all : 1 ≤ length read.0.0 = subst (λ (n : ℕ). 1 ≤ n) (sym (ops_counted head.0.0 head.0.1 read.0 read.1)) some in
    of_whole (λ (ops : List Op). 1 ≤ length ops) read.0 ops read.2 all

framed_some : (bytes : List ℕ) (p : List Op × List ℕ) → framed_at bytes ≡ Some p → 1 ≤ length p.0
unfolding framed_at
framed_some bytes p e =
    let number = bind_some (big_at 4 bytes) (λ n. cut n.0 n.1 >>= λ piece. batch_of piece.0 >>= λ ops. Some (ops, piece.1)) p e in
    let piece = bind_some (cut number.0.0 number.0.1) (λ piece. batch_of piece.0 >>= λ ops. Some (ops, piece.1)) p number.2 in
    let batch = bind_some (batch_of piece.0.0) (λ ops. Some (ops, piece.0.1)) p piece.2 in
    of_read (λ (q : List Op × List ℕ). 1 ≤ length q.0) (batch.0, piece.0.1) p batch.2 (batch_some piece.0.0 batch.0 batch.1)

batches_some : (n : ℕ) (bytes : List ℕ) (p : List (List Op) × List ℕ) → batches_at n bytes ≡ Some p → 1 ≤ n → 1 ≤ length (operations p.0)
unfolding batches_at
batches_some zero bytes p e some = absurd (omega (arith, some))
batches_some (suc n) bytes p e some =
    let batch = bind_some (framed_at bytes) (λ batch. batches_at n batch.1 >>= λ more. Some (batch.0 ∷ more.0, more.1)) p e in
    let more = bind_some (batches_at n batch.0.1) (λ more. Some (batch.0.0 ∷ more.0, more.1)) p batch.2 in
    let one : 1 ≤ length batch.0.0 = framed_some bytes batch.0 batch.1 in
    let all : 1 ≤ length (operations (batch.0.0 ∷ more.0.0)) = omega (arith, one, length-append batch.0.0 (operations more.0.0)) in
    of_read (λ (q : List (List Op) × List ℕ). 1 ≤ length (operations q.0)) (batch.0.0 ∷ more.0.0, more.0.1) p more.2 all

group_some : (payload : List ℕ) (g : GroupSeen) → group_of payload ≡ Some g → 1 ≤ length (operations g.batches)
unfolding group_of
group_some payload g e =
    let first = bind_some (big_at 8 payload) (λ first. big_at 4 first.1 >>= λ count. tested (ltb 0) count.0 >>= λ some. batches_at some count.1 >>= λ batches. whole batches >>= λ all. Some (record { first = first.0; batches = all })) g e in
    let count = bind_some (big_at 4 first.0.1) (λ count. tested (ltb 0) count.0 >>= λ some. batches_at some count.1 >>= λ batches. whole batches >>= λ all. Some (record { first = first.0.0; batches = all })) g first.2 in
    let some = bind_some (tested (ltb 0) count.0.0) (λ some. batches_at some count.0.1 >>= λ batches. whole batches >>= λ all. Some (record { first = first.0.0; batches = all })) g count.2 in
    let batches = bind_some (batches_at some.0 count.0.1) (λ batches. whole batches >>= λ all. Some (record { first = first.0.0; batches = all })) g some.2 in
    let all = bind_some (whole batches.0) (λ all. Some (record { first = first.0.0; batches = all })) g batches.2 in
    let above = count_some count.0.0 some.0 some.1 in
    let read : 1 ≤ length (operations batches.0.0) = batches_some some.0 count.0.1 batches.0 batches.1 above in
    let is = of_whole (λ (bs : List (List Op)). 1 ≤ length (operations bs)) batches.0 all.0 all.1 read in
    of_read (λ (h : GroupSeen). 1 ≤ length (operations h.batches)) (record { first = first.0.0; batches = all.0 }) g all.2 is

-- the group ends above the number that it begins with
abbrev pub EndsAbove : Logged → Type 0
EndsAbove g = g.group.first < group_end g.group

read_ends_above : (at : ℕ) (payload : List ℕ) (g : GroupSeen) → group_of payload ≡ Some g → EndsAbove (record { at = at; group = g })
read_ends_above at payload g is = omega (arith, group_some payload g is)

not_refused : {A : Type 0} (at : ℕ) (read : Option A) (a : A) → or_refuse at read ≡ Ok a → read ≡ Some a
not_refused at None a e = absurd cc
not_refused at (Some b) a e = cc

abbrev ok : {A : Type 0} → A → Result A ℕ
ok a = Ok a

pub ok_is : {A : Type 0} (a b : A) → ok a ≡ ok b → a ≡ b
ok_is a b e = cc

groups_end_above : (rs : List Record) (gs : List Logged) → groups_in rs ≡ Ok gs → All EndsAbove gs
groups_end_above [] gs e = subst (All EndsAbove) (ok_is [] gs e) (All-nil EndsAbove)
groups_end_above (r ∷ rs) gs e =
    let one = then_ok (or_refuse r.at (group_of r.payload)) (λ g. then_do (groups_in rs) (λ gs. Ok (record { at = r.at; group = g } ∷ gs))) gs e in
    let more = then_ok (groups_in rs) (λ gs. Ok (record { at = r.at; group = one.0 } ∷ gs)) gs one.2 in
    let here : EndsAbove (record { at = r.at; group = one.0 }) = read_ends_above r.at r.payload one.0 (not_refused r.at (group_of r.payload) one.0 one.1) in
    subst (All EndsAbove) (ok_is (record { at = r.at; group = one.0 } ∷ more.0) gs more.2)
    (All-cons EndsAbove (record { at = r.at; group = one.0 }) more.0 here (groups_end_above rs more.0 more.1))

-- so do all groups of a log
pub log_ends_above : (file : Option (List ℕ)) (gs : List Logged) → log_of file ≡ Ok gs → All EndsAbove gs
log_ends_above file gs e =
    let records = then_ok (recovered_file file) groups_in gs e in
    groups_end_above records.0 gs records.2
