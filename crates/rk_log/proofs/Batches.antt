-- The reading of a batch is its spelling.
use Rattle.std.proofs.Common.{◌≡◌, ◌≢◌, inl, inr, ℕ, zero, suc, ◌≤◌, Bool, leb, List, [], ◌∷◌, ◌++◌, length, Option, Some, None, Decides, refl, sym, ap, subst, ◌∙◌, append_assoc, arith}
use Rattle.std.specs.Prelude.{All, flat_map}
use Rattle.std.specs.Ordering.{is_lt}
use Rattle.std.specs.declared.cmp.Ordering.{Ordering}
use Rattle.std.specs.declared.cmp.Ordering.TheVariants.{Less, Equal, Greater}
use Rattle.std.proofs.lemmas.Bool.{false≢true}
use Rattle.std.proofs.lemmas.Bool.Decides.{nat_tests, Decides-and, Decides-like}
use Rattle.std.proofs.lemmas.List.{append-nil}
use Rattle.std.proofs.lemmas.List.Elements.{All-nil, All-cons, All-head, All-tail}
use Rattle.rk_key.specs.Keys.{IsKey, suffix, key_cmp}
use Rattle.rk_key.proofs.KeyTests.{is_key-Decides, is_suffix-Decides}
use Rattle.rk_model.specs.declared.op.Op.{Op}
use Rattle.rk_model.specs.declared.op.Op.TheVariants.{Put, Del, RangeSet, RangeUnset, RangeDel}
use Rattle.rk_batch.specs.Encoding.{op_bytes, head, batch_bytes}
use Rattle.rk_batch.specs.Checks.{IsOp}
use Rattle.rk_batch.specs.declared.error.BatchError.{BatchError}
use Rattle.rk_batch.specs.declared.error.BatchError.TheVariants.{Memory}
use Rattle.rk_batch.specs.Grammar.{IsBatchOf, IsDecodeRefusal, HasHead}
use Rattle.rk_batch.specs.Reading.{op_at, head_at}
use Rattle.rk_pieces.proofs.Fields.{IsBytes, rest_fits, done, some_is, bind_some, bind_again, whole_is, tested_is, tested_again}
use Rattle.rk_batch.proofs.Operations.{fits_from_op, op_takes, op_again}
use Rattle.rk_batch.proofs.Batches.{head_takes, head_again}
use Rattle.rk_batch.proofs.Uniqueness.{no_batch}
use Rattle.rk_pieces.specs.Pieces.{◌>>=◌, whole, tested, is_empty}
use Rattle.rk_log.specs.Batches.{is_bare, is_span, is_value, is_op, ops_at, batch_of}
use Rattle.rk_log.proofs.Fields.{joined}

Decides-leb : (a b : ℕ) → Decides (leb a b) (a ≤ b)
Decides-leb a b = (λ h. grind (arith, nat_tests), λ h. grind (arith, nat_tests))

is_empty-Decides : (xs : List ℕ) → Decides (is_empty xs) (xs ≡ [])
is_empty-Decides [] = (λ _. refl, λ _. refl)
is_empty-Decides (x ∷ xs) = (λ e. absurd (false≢true e), λ e. absurd cc)

is_lt-Decides : (o : Ordering) → Decides (is_lt o) (o ≡ Less)
is_lt-Decides Less = (λ _. refl, λ _. refl)
is_lt-Decides Equal = (λ e. absurd (false≢true e), λ e. absurd cc)
is_lt-Decides Greater = (λ e. absurd (false≢true e), λ e. absurd cc)

abbrev IsBare : List ℕ → Type 0
IsBare key = IsKey key × (suffix key ≡ [])

is_bare-Decides : (key : List ℕ) → Decides (is_bare key) (IsBare key)
is_bare-Decides key = Decides-and _ _ (is_key-Decides key) (is_empty-Decides (suffix key))

abbrev IsSpan : List ℕ → List ℕ → Type 0
IsSpan start end = (IsBare start × IsBare end) × (key_cmp start end ≡ Less)

is_span-Decides : (start end : List ℕ) → Decides (is_span start end) (IsSpan start end)
is_span-Decides start end =
    Decides-and _ _ (Decides-and _ _ (is_bare-Decides start) (is_bare-Decides end)) (is_lt-Decides (key_cmp start end))

is_value-Decides : (value : List ℕ) → Decides (is_value value) (length value ≤ 32768)
is_value-Decides value = Decides-leb (length value) 32768

pub is_op-Decides : (op : Op) → Decides (is_op op) (IsOp op)
is_op-Decides (Put key value) =
    Decides-like _ (λ h. (h.0, (h.1, tt))) (λ h. (h.0, h.1.0)) (Decides-and _ _ (is_key-Decides key) (is_value-Decides value))
is_op-Decides (Del key) = Decides-like _ (λ h. (h, tt)) (λ h. h.0) (is_key-Decides key)
is_op-Decides (RangeSet start end suffix value) =
    Decides-like _ (λ h. (h.0.0.0.0.0, (h.0.0.0.0.1, (h.0.0.0.1.0, (h.0.0.0.1.1, (h.0.0.1, (h.0.1, (h.1, tt))))))))
    (λ h. ((((((h.0, h.1.0), (h.1.1.0, h.1.1.1.0)), h.1.1.1.1.0), h.1.1.1.1.1.0), h.1.1.1.1.1.1.0)))
    (Decides-and _ _ (Decides-and _ _ (is_span-Decides start end) (is_suffix-Decides suffix)) (is_value-Decides value))
is_op-Decides (RangeUnset start end suffix) =
    Decides-like _ (λ h. (h.0.0.0.0, (h.0.0.0.1, (h.0.0.1.0, (h.0.0.1.1, (h.0.1, (h.1, tt)))))))
    (λ h. ((((h.0, h.1.0), (h.1.1.0, h.1.1.1.0)), h.1.1.1.1.0), h.1.1.1.1.1.0))
    (Decides-and _ _ (is_span-Decides start end) (is_suffix-Decides suffix))
is_op-Decides (RangeDel start end) =
    Decides-like _ (λ h. (h.0.0.0, (h.0.0.1, (h.0.1.0, (h.0.1.1, (h.1, tt))))))
    (λ h. (((h.0, h.1.0), (h.1.1.0, h.1.1.1.0)), h.1.1.1.1.0))
    (is_span-Decides start end)

-- the bytes are those of so many operations, and then the rest
pub record TakesOps (n : ℕ) (bytes : List ℕ) (ops : List Op) (rest : List ℕ) : Type 0 where
  pub spelled : bytes ≡ flat_map op_bytes ops ++ rest
  pub count : length ops ≡ n
  pub each : All IsOp ops

taken : (n : ℕ) (bytes : List ℕ) (ops : List Op) (rest : List ℕ) (p : List Op × List ℕ) → done (ops, rest) ≡ done p → TakesOps n bytes ops rest → TakesOps n bytes p.0 p.1
taken n bytes ops rest p e t = subst (λ (q : List Op × List ℕ). TakesOps n bytes q.0 q.1) (some_is (ops, rest) p e) t

ops_take : (n : ℕ) (bytes : List ℕ) (p : List Op × List ℕ) → IsBytes bytes → ops_at n bytes ≡ Some p → TakesOps n bytes p.0 p.1
unfolding ops_at
ops_take zero bytes p fits e =
    taken zero bytes [] bytes p e (record { spelled = refl; count = refl; each = All-nil IsOp })
ops_take (suc n) bytes p fits e =
    let a = bind_some (op_at bytes) (λ op. tested is_op op.0 >>= λ first. ops_at n op.1 >>= λ more. Some (first ∷ more.0, more.1)) p e in
    let b = bind_some (tested is_op a.0.0) (λ first. ops_at n a.0.1 >>= λ more. Some (first ∷ more.0, more.1)) p a.2 in
    let c = bind_some (ops_at n a.0.1) (λ more. Some (b.0 ∷ more.0, more.1)) p b.2 in
    let one = op_takes bytes a.0.0 a.0.1 fits a.1 in
    let test = tested_is is_op a.0.0 b.0 b.1 in
    let here : bytes ≡ op_bytes b.0 ++ a.0.1 = one.0 ∙ ap (λ (o : Op). op_bytes o ++ a.0.1) test.1 in
    let is : IsOp b.0 = subst IsOp test.1 ((is_op-Decides a.0.0).0 test.0) in
    let more = ops_take n a.0.1 c.0 (rest_fits bytes (op_bytes b.0) a.0.1 fits here) c.1 in
    taken (suc n) bytes (b.0 ∷ c.0.0) c.0.1 p c.2 (record {
      spelled = joined bytes (op_bytes b.0) a.0.1 (flat_map op_bytes c.0.0) c.0.1 here more.spelled;
      count = ap suc more.count;
      each = All-cons IsOp b.0 c.0.0 is more.each;
    })

ops_again : (ops : List Op) (rest : List ℕ) → All IsOp ops → ops_at (length ops) (flat_map op_bytes ops ++ rest) ≡ Some (ops, rest)
unfolding ops_at
ops_again [] rest each = refl
ops_again (op ∷ ops) rest each =
    let is = All-head IsOp op ops each in
    let after : List ℕ = flat_map op_bytes ops ++ rest in
    ap (ops_at (suc (length ops))) (append_assoc (op_bytes op) (flat_map op_bytes ops) rest)
    ∙ bind_again (op_at (op_bytes op ++ after)) (op, after) (λ op. tested is_op op.0 >>= λ first. ops_at (length ops) op.1 >>= λ more. Some (first ∷ more.0, more.1)) (op_again op after (fits_from_op op is))
    ∙ bind_again (tested is_op op) op (λ first. ops_at (length ops) after >>= λ more. Some (first ∷ more.0, more.1)) (tested_again is_op op ((is_op-Decides op).1 is))
    ∙ bind_again (ops_at (length ops) after) (ops, rest) (λ more. Some (op ∷ more.0, more.1)) (ops_again ops rest (All-tail IsOp op ops each))

abbrev is_short : List ℕ → Bool
is_short bytes = leb (length bytes) 1048576

-- the bytes that are read as a batch are its spelling
pub batch_takes : (bytes : List ℕ) (ops : List Op) → IsBytes bytes → batch_of bytes ≡ Some ops → IsBatchOf bytes ops
unfolding batch_of
batch_takes bytes ops fits e =
    let h = bind_some (head_at bytes) (λ head. tested is_short bytes >>= λ short. ops_at head.0 head.1 >>= λ ops. whole ops) ops e in
    let s = bind_some (tested is_short bytes) (λ short. ops_at h.0.0 h.0.1 >>= λ ops. whole ops) ops h.2 in
    let o = bind_some (ops_at h.0.0 h.0.1) (λ ops. whole ops) ops s.2 in
    let front = head_takes bytes h.0.0 h.0.1 fits h.1 in
    let few : h.0.0 ≤ 1000 = front.few in
    let some : 1 ≤ h.0.0 = front.some in
    let short : length bytes ≤ 1048576 = (Decides-leb _ _).0 (tested_is is_short bytes s.0 s.1).0 in
    let taken = subst (λ (q : List Op × List ℕ). TakesOps h.0.0 h.0.1 q.0 q.1) (whole_is o.0 ops o.2) (ops_take h.0.0 h.0.1 o.0 (rest_fits bytes (head h.0.0) h.0.1 fits front.spelled) o.1) in
    let count : length ops ≡ h.0.0 = taken.count in
    let spelled : bytes ≡ batch_bytes ops =
    front.spelled ∙ ap (λ (n : ℕ). head n ++ h.0.1) (sym count)
    ∙ ap (λ (t : List ℕ). head (length ops) ++ t) (taken.spelled ∙ append-nil (flat_map op_bytes ops)) in
    record {
      batch = record {
        each = taken.each;
        some = omega arith;
        few = omega arith;
        short = subst (λ (t : List ℕ). length t ≤ 1048576) spelled short;
      };
      spelled = spelled;
    }

batch_head : (ops : List Op) → 1 ≤ length ops → length ops ≤ 1000 → HasHead (batch_bytes ops) (length ops) (flat_map op_bytes ops)
batch_head ops some few = record { some = some; few = few; spelled = refl }

-- the spelling of a batch is read as that batch
pub batch_again : (bytes : List ℕ) (ops : List Op) → IsBatchOf bytes ops → batch_of bytes ≡ Some ops
unfolding batch_of
batch_again bytes ops is =
    let b = is.batch in
    let own : List ℕ = batch_bytes ops in
    let all : List ℕ = flat_map op_bytes ops in
    let read : ops_at (length ops) all ≡ Some (ops, []) =
    ap (ops_at (length ops)) (sym (append-nil all)) ∙ ops_again ops [] b.each in
    ap batch_of is.spelled
    ∙ bind_again (head_at own) (length ops, all) (λ head. tested is_short own >>= λ short. ops_at head.0 head.1 >>= λ ops. whole ops) (head_again own (length ops) all (batch_head ops b.some b.few))
    ∙ bind_again (tested is_short own) own (λ short. ops_at (length ops) all >>= λ ops. whole ops) (tested_again is_short own ((Decides-leb _ _).1 b.short))
    ∙ bind_again (ops_at (length ops) all) (ops, []) (λ ops. whole ops) read

none_from : {A : Type 0} (r : Option A) → ((x : A) → r ≡ Some x → ⊥) → r ≡ None
none_from None fails = refl
none_from (Some x) fails = absurd (fails x refl)

-- where decoding refuses bytes, and memory is there, none is read
pub batch_refused : (bytes : List ℕ) (e : BatchError) → IsBytes bytes → IsDecodeRefusal bytes e → e ≢ Memory → batch_of bytes ≡ None
batch_refused bytes e fits r not =
    elim r [
      | inl memory ↦ absurd (not memory)
      | inr bad ↦ none_from (batch_of bytes) (λ ops read. no_batch bytes bad.0 ops bad.2 (batch_takes bytes ops fits read))
    ]
