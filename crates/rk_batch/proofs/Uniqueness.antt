-- Bytes are one batch at most, and where they are none they show it at one place.
use Rattle.std.proofs.Common.{◌≡◌, ℕ, ◌<◌, ◌≤◌, inl, inr, List, [], ◌∷◌, ◌++◌, length, refl, sym, ap, subst, ◌∙◌, append_assoc, length-append, arith}
use Rattle.std.specs.Prelude.{flat_map}
use Rattle.std.specs.List.{All}
use Rattle.std.proofs.lemmas.List.{append-nil}
use Rattle.std.proofs.lemmas.List.Elements.{All-head, All-tail}
use Rattle.std.proofs.lemmas.Grind.{flat_map-append}
use Rattle.std.proofs.lemmas.Bool.{cases_lt}
use Rattle.rk_model.specs.declared.op.Op.{Op}
use Rattle.rk_batch.specs.Encoding.{op_bytes, head, batch_bytes}
use Rattle.rk_batch.specs.Checks.{IsOp}
use Rattle.rk_batch.specs.Grammar.{IsBatchOf, HasHead, BeginsWith, HasNext, IsBadOp, IsTrailing, IsBadBatch}
use Rattle.rk_batch.proofs.Fields.{some_is}
use Rattle.rk_batch.proofs.Operations.{fits_from_op, one_op}
use Rattle.rk_batch.proofs.Batches.{head_again}

-- of two lists of operations that the same bytes begin with, the shorter one begins the other
ops_prefix : (fs bs : List Op) (x y : List ℕ) → All IsOp fs → All IsOp bs → length fs ≤ length bs → flat_map op_bytes fs ++ x ≡ flat_map op_bytes bs ++ y
    → (more : List Op) × (bs ≡ fs ++ more) × (x ≡ flat_map op_bytes more ++ y)
ops_prefix [] bs x y p q h e = (bs, refl, e)
ops_prefix (a ∷ fs) [] x y p q h e = absurd (omega arith)
ops_prefix (a ∷ fs) (b ∷ bs) x y p q h e =
    let moved : op_bytes a ++ (flat_map op_bytes fs ++ x) ≡ op_bytes b ++ (flat_map op_bytes bs ++ y) =
    sym (append_assoc (op_bytes a) (flat_map op_bytes fs) x) ∙ e ∙ append_assoc (op_bytes b) (flat_map op_bytes bs) y in
    let one = one_op a b _ _ (fits_from_op a (All-head IsOp a fs p)) (fits_from_op b (All-head IsOp b bs q)) moved in
    let shorter : length fs ≤ length bs = omega arith in
    let r = ops_prefix fs bs x y (All-tail IsOp a fs p) (All-tail IsOp b bs q) shorter one.1 in
    let whole : b ∷ bs ≡ a ∷ (fs ++ r.0) = ap (λ (o : Op). o ∷ bs) (sym one.0) ∙ ap (λ (o : List Op). a ∷ o) r.1 in
    (r.0, whole, r.2)

same_head : (bytes : List ℕ) (c d : ℕ) (x y : List ℕ) → HasHead bytes c x → HasHead bytes d y → (c ≡ d) × (x ≡ y)
same_head bytes c d x y h k =
    let p = some_is (c, x) (d, y) (sym (head_again bytes c x h) ∙ head_again bytes d y k) in
    (ap (λ (q : ℕ × List ℕ). q.0) p, ap (λ (q : ℕ × List ℕ). q.1) p)

operation_behind : (fs : List Op) (op : Op) (more : List Op) → All IsOp (fs ++ op ∷ more) → IsOp op
operation_behind [] op more h = All-head IsOp op more h
operation_behind (a ∷ fs) op more h = operation_behind fs op more (All-tail IsOp a (fs ++ op ∷ more) h)

longer : (fs : List Op) (op : Op) (more : List Op) → length (batch_bytes (fs ++ op ∷ [])) ≤ length (batch_bytes (fs ++ op ∷ more))
longer fs op more =
    omega (arith, ap length (flat_map-append op_bytes fs (op ∷ [])), ap length (flat_map-append op_bytes fs (op ∷ more)), length-append (flat_map op_bytes fs) (flat_map op_bytes (op ∷ [])), length-append (flat_map op_bytes fs) (flat_map op_bytes (op ∷ more)), length-append (op_bytes op) (flat_map op_bytes more), length-append (op_bytes op) [])

next : (fs bs more : List Op) (x y : List ℕ) → All IsOp bs → length (batch_bytes bs) ≤ 1048576 → length fs < length bs → bs ≡ fs ++ more → x ≡ flat_map op_bytes more ++ y
    → (op : Op) × (after : List ℕ) × HasNext fs x op after
next fs bs [] x y each short less e spelled = absurd (omega (arith, ap length e, length-append fs []))
next fs bs (op ∷ more) x y each short less e spelled =
    let short_as : length (batch_bytes (fs ++ op ∷ more)) ≤ 1048576 = subst (λ (o : List Op). length (batch_bytes o) ≤ 1048576) e short in
    let h : HasNext fs x op (flat_map op_bytes more ++ y) = record {
      form = operation_behind fs op more (subst (All IsOp) e each);
      short = omega (arith, longer fs op more);
      spelled = spelled ∙ append_assoc (op_bytes op) (flat_map op_bytes more) y;
    } in
    (op, flat_map op_bytes more ++ y, h)

-- of two beginnings of the same bytes, one operation more stands behind the shorter one
beyond : (bytes : List ℕ) (c d : ℕ) (fs bs : List Op) (x y : List ℕ) → BeginsWith bytes c fs x → BeginsWith bytes d bs y → length fs < length bs
    → (op : Op) × (after : List ℕ) × HasNext fs x op after
beyond bytes c d fs bs x y b e less =
    let same = same_head bytes c d (flat_map op_bytes fs ++ x) (flat_map op_bytes bs ++ y) b.head e.head in
    let shorter : length fs ≤ length bs = omega arith in
    let r = ops_prefix fs bs x y b.each e.each shorter same.1 in
    next fs bs r.0 x y e.each e.short less r.1 r.2

no_more : (fs bs more : List Op) (x y : List ℕ) → length fs ≡ length bs → bs ≡ fs ++ more → x ≡ flat_map op_bytes more ++ y → (fs ≡ bs) × (x ≡ y)
no_more fs bs [] x y len e spelled = (sym (e ∙ append-nil fs), spelled)
no_more fs bs (op ∷ more) x y len e spelled = absurd (omega (arith, ap length e, length-append fs (op ∷ more)))

same_ops : (bytes : List ℕ) (c d : ℕ) (fs bs : List Op) (x y : List ℕ) → BeginsWith bytes c fs x → BeginsWith bytes d bs y → length fs ≡ length bs → (fs ≡ bs) × (x ≡ y)
same_ops bytes c d fs bs x y b e len =
    let same = same_head bytes c d (flat_map op_bytes fs ++ x) (flat_map op_bytes bs ++ y) b.head e.head in
    let shorter : length fs ≤ length bs = omega arith in
    let r = ops_prefix fs bs x y b.each e.each shorter same.1 in
    no_more fs bs r.0 x y len r.1 r.2

same_count : (bytes : List ℕ) (c d : ℕ) (fs bs : List Op) (x y : List ℕ) → BeginsWith bytes c fs x → BeginsWith bytes d bs y → c ≡ d
same_count bytes c d fs bs x y b e = (same_head bytes c d (flat_map op_bytes fs ++ x) (flat_map op_bytes bs ++ y) b.head e.head).0

batch_begins : (bytes : List ℕ) (ops : List Op) → IsBatchOf bytes ops → BeginsWith bytes (length ops) ops []
batch_begins bytes ops h = record {
  head = record {
    some = h.batch.some;
    few = h.batch.few;
    spelled = h.spelled ∙ ap (λ (t : List ℕ). head (length ops) ++ t) (sym (append-nil (flat_map op_bytes ops)));
  };
  within = omega arith;
  each = h.batch.each;
  short = h.batch.short;
}

pub one_batch : (bytes : List ℕ) (a b : List Op) → IsBatchOf bytes a → IsBatchOf bytes b → a ≡ b
one_batch bytes a b h k =
    let p = batch_begins bytes a h in
    let q = batch_begins bytes b k in
    (same_ops bytes (length a) (length b) a b [] [] p q (same_count bytes (length a) (length b) a b [] [] p q)).0

pub no_batch : (bytes : List ℕ) (at : ℕ) (ops : List Op) → IsBadBatch bytes at → ¬ IsBatchOf bytes ops
no_batch bytes at ops bad h =
    let b = batch_begins bytes ops h in
    elim bad [
      | inl r ↦ r.none _ _ b.head
      | inr others ↦ elim others [
        | inl r ↦
            let count : r.count ≡ length ops = same_count bytes r.count (length ops) r.ops ops r.rest [] r.begins b in
            let more : length r.ops < r.count = r.more in
            let less : length r.ops < length ops = omega arith in
            let n = beyond bytes r.count (length ops) r.ops ops r.rest [] r.begins b less in
            r.none n.0 n.1 n.2
        | inr r ↦
            let count : length r.ops ≡ length ops = same_count bytes (length r.ops) (length ops) r.ops ops r.rest [] r.begins b in
            r.some (same_ops bytes (length r.ops) (length ops) r.ops ops r.rest [] r.begins b count).1
      ]
    ]

-- no operation stands behind those where the bytes stop, so none are read beyond them
not_beyond : (bytes : List ℕ) (at d : ℕ) (bs : List Op) (y : List ℕ) (r : IsBadOp bytes at) → BeginsWith bytes d bs y → length r.ops < length bs → ⊥
not_beyond bytes at d bs y r b less =
    let n = beyond bytes r.count d r.ops bs r.rest y r.begins b less in
    r.none n.0 n.1 n.2

same_place : (bytes : List ℕ) (a b c d : ℕ) (fs bs : List Op) (x y : List ℕ) → BeginsWith bytes c fs x → BeginsWith bytes d bs y → length fs ≡ length bs
    → a ≡ length (batch_bytes fs) → b ≡ length (batch_bytes bs) → a ≡ b
same_place bytes a b c d fs bs x y p q len e f =
    e ∙ ap (λ (o : List Op). length (batch_bytes o)) (same_ops bytes c d fs bs x y p q len).0 ∙ sym f

op_and_op : (bytes : List ℕ) (a b : ℕ) → IsBadOp bytes a → IsBadOp bytes b → a ≡ b
op_and_op bytes a b r s =
    elim (cases_lt (length r.ops) (length s.ops)) [
      | inl less ↦ absurd (not_beyond bytes a s.count s.ops s.rest r s.begins less)
      | inr le ↦ elim (cases_lt (length s.ops) (length r.ops)) [
        | inl less ↦ absurd (not_beyond bytes b r.count r.ops r.rest s r.begins less)
        | inr ge ↦
            let len : length r.ops ≡ length s.ops = omega arith in
            same_place bytes a b r.count s.count r.ops s.ops r.rest s.rest r.begins s.begins len r.place s.place
      ]
    ]

op_and_trailing : (bytes : List ℕ) (a b : ℕ) → IsBadOp bytes a → IsTrailing bytes b → ⊥
op_and_trailing bytes a b r s =
    let count : r.count ≡ length s.ops = same_count bytes r.count (length s.ops) r.ops s.ops r.rest s.rest r.begins s.begins in
    let more : length r.ops < r.count = r.more in
    let less : length r.ops < length s.ops = omega arith in
    not_beyond bytes a (length s.ops) s.ops s.rest r s.begins less

trailing_and_trailing : (bytes : List ℕ) (a b : ℕ) → IsTrailing bytes a → IsTrailing bytes b → a ≡ b
trailing_and_trailing bytes a b r s =
    let count : length r.ops ≡ length s.ops = same_count bytes (length r.ops) (length s.ops) r.ops s.ops r.rest s.rest r.begins s.begins in
    same_place bytes a b (length r.ops) (length s.ops) r.ops s.ops r.rest s.rest r.begins s.begins count r.place s.place

pub one_place : (bytes : List ℕ) (a b : ℕ) → IsBadBatch bytes a → IsBadBatch bytes b → a ≡ b
one_place bytes a b (inl r) (inl s) = r.place ∙ sym s.place
one_place bytes a b (inl r) (inr (inl s)) = absurd (r.none _ _ s.begins.head)
one_place bytes a b (inl r) (inr (inr s)) = absurd (r.none _ _ s.begins.head)
one_place bytes a b (inr (inl r)) (inl s) = absurd (s.none _ _ r.begins.head)
one_place bytes a b (inr (inl r)) (inr (inl s)) = op_and_op bytes a b r s
one_place bytes a b (inr (inl r)) (inr (inr s)) = absurd (op_and_trailing bytes a b r s)
one_place bytes a b (inr (inr r)) (inl s) = absurd (s.none _ _ r.begins.head)
one_place bytes a b (inr (inr r)) (inr (inl s)) = absurd (op_and_trailing bytes b a s r)
one_place bytes a b (inr (inr r)) (inr (inr s)) = trailing_and_trailing bytes a b r s
