-- The reading of a payload is the spelling of a group.
use Rattle.std.proofs.Common.{◌≡◌, ℕ, zero, suc, ◌+◌, ◌^◌, ◌<◌, ◌≤◌, Bool, true, ltb, List, [], ◌∷◌, ◌++◌, length, Option, Some, None, refl, sym, ap, subst, ◌∙◌, append_assoc, arith}
use Rattle.std.specs.Prelude.{All, flat_map}
use Rattle.std.proofs.lemmas.Bool.Decides.{Decides-ltb}
use Rattle.std.proofs.lemmas.List.{append-nil}
use Rattle.std.proofs.lemmas.List.Elements.{All-nil, All-cons, All-head, All-tail}
use Rattle.byteorder.specs.Endian.{big_bytes}
use Rattle.rk_model.specs.declared.op.Op.{Op}
use Rattle.rk_batch.specs.Encoding.{batch_bytes}
use Rattle.rk_batch.specs.Grammar.{IsBatch}
use Rattle.rk_pieces.specs.Pieces.{◌>>=◌, cut, big_at, whole, tested}
use Rattle.rk_log.specs.Batches.{batch_of}
use Rattle.rk_log.specs.Groups.{GroupSeen, IsGroupOf, framed, framed_at, batches_at, group_of, group_bytes}
use Rattle.rk_pieces.proofs.Fields.{IsBytes, rest_fits, some_is, bind_some, bind_again, whole_is, tested_is, tested_again, spells_4, spells_8, big_takes, big_again, cut_takes, cut_again}
use Rattle.rk_log.proofs.Fields.{front_fits, joined}
use Rattle.rk_log.proofs.Batches.{batch_takes, batch_again}

-- the bytes are those of the batch behind its length, and then the rest
record TakesFramed (bytes : List ℕ) (ops : List Op) (rest : List ℕ) : Type 0 where
  pub spelled : bytes ≡ framed ops ++ rest
  pub batch : IsBatch ops

framed_takes : (bytes : List ℕ) (p : List Op × List ℕ) → IsBytes bytes → framed_at bytes ≡ Some p → TakesFramed bytes p.0 p.1
unfolding framed_at
framed_takes bytes p fits e =
    let n = bind_some (big_at 4 bytes) (λ n. cut n.0 n.1 >>= λ piece. batch_of piece.0 >>= λ ops. Some (ops, piece.1)) p e in
    let c = bind_some (cut n.0.0 n.0.1) (λ piece. batch_of piece.0 >>= λ ops. Some (ops, piece.1)) p n.2 in
    let b = bind_some (batch_of c.0.0) (λ ops. Some (ops, c.0.1)) p c.2 in
    let number = big_takes 4 spells_4 bytes n.0.0 n.0.1 fits n.1 in
    let piece = cut_takes n.0.0 n.0.1 c.0.0 c.0.1 c.1 in
    let piece_fits = front_fits c.0.0 c.0.1 (subst IsBytes piece.0 (rest_fits bytes (big_bytes 4 n.0.0) n.0.1 fits number.0)) in
    let is = batch_takes c.0.0 b.0 piece_fits b.1 in
    let own : List ℕ = batch_bytes b.0 in
    let len : n.0.0 ≡ length own = sym piece.1 ∙ ap length is.spelled in
    let taken : TakesFramed bytes b.0 c.0.1 = record {
      spelled = joined bytes (big_bytes 4 (length own)) n.0.1 own c.0.1 (number.0 ∙ ap (λ (k : ℕ). big_bytes 4 k ++ n.0.1) len) (piece.0 ∙ ap (λ (t : List ℕ). t ++ c.0.1) is.spelled);
      batch = is.batch;
    } in
    subst (λ (q : List Op × List ℕ). TakesFramed bytes q.0 q.1) (some_is (b.0, c.0.1) p b.2) taken

framed_again : (ops : List Op) (rest : List ℕ) → IsBatch ops → framed_at (framed ops ++ rest) ≡ Some (ops, rest)
unfolding framed_at
framed_again ops rest is =
    let own : List ℕ = batch_bytes ops in
    let short : length own ≤ 1048576 = is.short in
    ap framed_at (append_assoc (big_bytes 4 (length own)) own rest)
    ∙ bind_again (big_at 4 (big_bytes 4 (length own) ++ (own ++ rest))) (length own, own ++ rest) (λ n. cut n.0 n.1 >>= λ piece. batch_of piece.0 >>= λ ops. Some (ops, piece.1)) (big_again 4 (length own) (own ++ rest) (omega arith))
    ∙ bind_again (cut (length own) (own ++ rest)) (own, rest) (λ piece. batch_of piece.0 >>= λ ops. Some (ops, piece.1)) (cut_again own rest)
    ∙ bind_again (batch_of own) ops (λ ops. Some (ops, rest)) (batch_again own ops (record { batch = is; spelled = refl }))

-- the bytes are those of so many of them, and then the rest
record TakesBatches (n : ℕ) (bytes : List ℕ) (batches : List (List Op)) (rest : List ℕ) : Type 0 where
  pub spelled : bytes ≡ flat_map framed batches ++ rest
  pub count : length batches ≡ n
  pub each : All IsBatch batches

batches_take : (n : ℕ) (bytes : List ℕ) (p : List (List Op) × List ℕ) → IsBytes bytes → batches_at n bytes ≡ Some p → TakesBatches n bytes p.0 p.1
unfolding batches_at
batches_take zero bytes p fits e =
    subst (λ (q : List (List Op) × List ℕ). TakesBatches zero bytes q.0 q.1) (some_is ([], bytes) p e) (record { spelled = refl; count = refl; each = All-nil IsBatch })
batches_take (suc n) bytes p fits e =
    let a = bind_some (framed_at bytes) (λ batch. batches_at n batch.1 >>= λ more. Some (batch.0 ∷ more.0, more.1)) p e in
    let b = bind_some (batches_at n a.0.1) (λ more. Some (a.0.0 ∷ more.0, more.1)) p a.2 in
    let one = framed_takes bytes a.0 fits a.1 in
    let more = batches_take n a.0.1 b.0 (rest_fits bytes (framed a.0.0) a.0.1 fits one.spelled) b.1 in
    let taken : TakesBatches (suc n) bytes (a.0.0 ∷ b.0.0) b.0.1 = record {
      spelled = joined bytes (framed a.0.0) a.0.1 (flat_map framed b.0.0) b.0.1 one.spelled more.spelled;
      count = ap suc more.count;
      each = All-cons IsBatch a.0.0 b.0.0 one.batch more.each;
    } in
    subst (λ (q : List (List Op) × List ℕ). TakesBatches (suc n) bytes q.0 q.1) (some_is (a.0.0 ∷ b.0.0, b.0.1) p b.2) taken

batches_again : (batches : List (List Op)) (rest : List ℕ) → All IsBatch batches → batches_at (length batches) (flat_map framed batches ++ rest) ≡ Some (batches, rest)
unfolding batches_at
batches_again [] rest each = refl
batches_again (b ∷ bs) rest each =
    let after : List ℕ = flat_map framed bs ++ rest in
    ap (batches_at (suc (length bs))) (append_assoc (framed b) (flat_map framed bs) rest)
    ∙ bind_again (framed_at (framed b ++ after)) (b, after) (λ batch. batches_at (length bs) batch.1 >>= λ more. Some (batch.0 ∷ more.0, more.1)) (framed_again b after (All-head IsBatch b bs each))
    ∙ bind_again (batches_at (length bs) after) (bs, rest) (λ more. Some (b ∷ more.0, more.1)) (batches_again bs rest (All-tail IsBatch b bs each))

all_joined : (bytes a x b y c : List ℕ) → bytes ≡ a ++ x → x ≡ b ++ y → y ≡ c ++ [] → bytes ≡ (a ++ b) ++ c
all_joined bytes a x b y c p q r = joined bytes a x b y p q ∙ ap (λ (t : List ℕ). (a ++ b) ++ t) (r ∙ append-nil c)

-- the bytes that are read as a group are its spelling
pub group_takes : (payload : List ℕ) (g : GroupSeen) → IsBytes payload → group_of payload ≡ Some g → IsGroupOf payload g
unfolding group_of
group_takes payload g fits e =
    let f = bind_some (big_at 8 payload) (λ first. big_at 4 first.1 >>= λ count. tested (ltb 0) count.0 >>= λ some. batches_at some count.1 >>= λ batches. whole batches >>= λ all. Some (record { first = first.0; batches = all })) g e in
    let c = bind_some (big_at 4 f.0.1) (λ count. tested (ltb 0) count.0 >>= λ some. batches_at some count.1 >>= λ batches. whole batches >>= λ all. Some (record { first = f.0.0; batches = all })) g f.2 in
    let s = bind_some (tested (ltb 0) c.0.0) (λ some. batches_at some c.0.1 >>= λ batches. whole batches >>= λ all. Some (record { first = f.0.0; batches = all })) g c.2 in
    let b = bind_some (batches_at s.0 c.0.1) (λ batches. whole batches >>= λ all. Some (record { first = f.0.0; batches = all })) g s.2 in
    let w = bind_some (whole b.0) (λ all. Some (record { first = f.0.0; batches = all })) g b.2 in
    let first = big_takes 8 spells_8 payload f.0.0 f.0.1 fits f.1 in
    let fits_1 = rest_fits payload (big_bytes 8 f.0.0) f.0.1 fits first.0 in
    let count = big_takes 4 spells_4 f.0.1 c.0.0 c.0.1 fits_1 c.1 in
    let fits_2 = rest_fits f.0.1 (big_bytes 4 c.0.0) c.0.1 fits_1 count.0 in
    let test = tested_is (ltb 0) c.0.0 s.0 s.1 in
    let all = subst (λ (q : List (List Op) × List ℕ). TakesBatches s.0 c.0.1 q.0 q.1) (whole_is b.0 w.0 w.1) (batches_take s.0 c.0.1 b.0 fits_2 b.1) in
    let n : c.0.0 ≡ length w.0 = test.1 ∙ sym all.count in
    let some : 0 < c.0.0 = (Decides-ltb 0 c.0.0).0 test.0 in
    let is : IsGroupOf payload (record { first = f.0.0; batches = w.0 }) = record {
      first = first.1;
      some = omega arith;
      few = subst (λ (k : ℕ). k < 2 ^ 32) n count.1;
      each = all.each;
      spelled = all_joined payload (big_bytes 8 f.0.0) f.0.1 (big_bytes 4 (length w.0)) c.0.1 (flat_map framed w.0) first.0 (count.0 ∙ ap (λ (k : ℕ). big_bytes 4 k ++ c.0.1) n) all.spelled;
    } in
    subst (IsGroupOf payload) (some_is (record { first = f.0.0; batches = w.0 }) g w.2) is

-- the spelling of a group is read as that group
pub group_again : (payload : List ℕ) (g : GroupSeen) → IsGroupOf payload g → group_of payload ≡ Some g
unfolding group_of
group_again payload g is =
    let n : ℕ = length g.batches in
    let all : List ℕ = flat_map framed g.batches in
    let read : batches_at n all ≡ Some (g.batches, []) = ap (batches_at n) (sym (append-nil all)) ∙ batches_again g.batches [] is.each in
    ap group_of (is.spelled ∙ append_assoc (big_bytes 8 g.first) (big_bytes 4 n) all)
    ∙ bind_again (big_at 8 (big_bytes 8 g.first ++ (big_bytes 4 n ++ all))) (g.first, big_bytes 4 n ++ all) (λ first. big_at 4 first.1 >>= λ count. tested (ltb 0) count.0 >>= λ some. batches_at some count.1 >>= λ batches. whole batches >>= λ all. Some (record { first = first.0; batches = all })) (big_again 8 g.first (big_bytes 4 n ++ all) is.first)
    ∙ bind_again (big_at 4 (big_bytes 4 n ++ all)) (n, all) (λ count. tested (ltb 0) count.0 >>= λ some. batches_at some count.1 >>= λ batches. whole batches >>= λ all. Some (record { first = g.first; batches = all })) (big_again 4 n all is.few)
    ∙ bind_again (tested (ltb 0) n) n (λ some. batches_at some all >>= λ batches. whole batches >>= λ all. Some (record { first = g.first; batches = all })) (tested_again (ltb 0) n ((Decides-ltb 0 n).1 is.some))
    ∙ bind_again (batches_at n all) (g.batches, []) (λ batches. whole batches >>= λ all. Some (record { first = g.first; batches = all })) read
