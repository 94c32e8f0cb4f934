-- An operation that is read has the bytes that it is written as, and what was written is read again.
use Rattle.std.proofs.Common.{◌≡◌, ◌≢◌, ℕ, suc, ◌<◌, Bool, true, false, cond, eqb, List, [], ◌∷◌, ◌++◌, length, Option, Some, None, refl, sym, ap, subst, ◌∙◌, append_assoc, eqb-true, arith}
use Rattle.rk_model.specs.declared.op.Op.{Op}
use Rattle.rk_model.specs.declared.op.Op.TheVariants.{Put, Del, RangeSet, RangeUnset, RangeDel}
use Rattle.rk_batch.specs.Encoding.{short, long, op_bytes}
use Rattle.rk_batch.specs.Checks.{IsOp}
use Rattle.rk_batch.specs.Reading.{◌>>=◌, short_at, long_at, put_at, del_at, range_set_at, range_unset_at, range_del_at, fields_at, op_at}
use Rattle.rk_batch.proofs.Fields.{IsBytes, rest_fits, bind_some, bind_again, done, some_is, short_takes, short_again, long_takes, long_again}

-- its value's length fits two bytes
abbrev pub Fits : Op → Type 0
Fits (Put key value) = length value < 65536
Fits (Del key) = Unit {0}
Fits (RangeSet start end suffix value) = length value < 65536
Fits (RangeUnset start end suffix) = Unit {0}
Fits (RangeDel start end) = Unit {0}

pub fits_from_op : (op : Op) → IsOp op → Fits op
fits_from_op (Put key value) h = omega (arith, h.1.0)
fits_from_op (Del key) h = tt
fits_from_op (RangeSet start end suffix value) h = omega (arith, h.1.1.1.1.1.1.0)
fits_from_op (RangeUnset start end suffix) h = tt
fits_from_op (RangeDel start end) h = tt

-- the bytes, behind their kind, are those of the operation, and then the rest
pub record Takes (kind : ℕ) (bytes : List ℕ) (op : Op) (rest : List ℕ) : Type 0 where
  pub spelled : kind ∷ bytes ≡ op_bytes op ++ rest
  pub fits : Fits op

taken : (kind : ℕ) (bytes : List ℕ) (op : Op) (rest : List ℕ) (p : Op × List ℕ) → done (op, rest) ≡ done p → Takes kind bytes op rest → Takes kind bytes p.0 p.1
taken kind bytes op rest p e t = subst (λ (q : Op × List ℕ). Takes kind bytes q.0 q.1) (some_is (op, rest) p e) t

joined_2 : (k : ℕ) (bytes x a y rest : List ℕ) → bytes ≡ x ++ a → a ≡ y ++ rest → k ∷ bytes ≡ ((k ∷ x) ++ y) ++ rest
joined_2 k bytes x a y rest p q = rw (p, q) (sym (append_assoc (k ∷ x) y rest))

joined_3 : (k : ℕ) (bytes x a y b z rest : List ℕ) → bytes ≡ x ++ a → a ≡ y ++ b → b ≡ z ++ rest → k ∷ bytes ≡ (((k ∷ x) ++ y) ++ z) ++ rest
joined_3 k bytes x a y b z rest p q r = joined_2 k bytes x a y b p q ∙ rw r (sym (append_assoc ((k ∷ x) ++ y) z rest))

joined_4 : (k : ℕ) (bytes x a y b z c w rest : List ℕ) → bytes ≡ x ++ a → a ≡ y ++ b → b ≡ z ++ c → c ≡ w ++ rest
    → k ∷ bytes ≡ ((((k ∷ x) ++ y) ++ z) ++ w) ++ rest
joined_4 k bytes x a y b z c w rest p q r t =
    joined_3 k bytes x a y b z c p q r ∙ rw t (sym (append_assoc (((k ∷ x) ++ y) ++ z) w rest))

put_takes : (bytes : List ℕ) (p : Op × List ℕ) → IsBytes bytes → put_at bytes ≡ Some p → Takes 1 bytes p.0 p.1
unfolding put_at
put_takes bytes p fits e =
    let k = bind_some (short_at bytes) (λ key. long_at key.1 >>= λ value. Some (Put key.0 value.0, value.1)) p e in
    let v = bind_some (long_at k.0.1) (λ value. Some (Put k.0.0 value.0, value.1)) p k.2 in
    let key = short_takes bytes k.0.0 k.0.1 k.1 in
    let value = long_takes k.0.1 v.0.0 v.0.1 (rest_fits bytes (short k.0.0) k.0.1 fits key) v.1 in
    taken 1 bytes (Put k.0.0 v.0.0) v.0.1 p v.2
    (record { spelled = joined_2 1 bytes (short k.0.0) k.0.1 (long v.0.0) v.0.1 key value.0; fits = value.1 })

del_takes : (bytes : List ℕ) (p : Op × List ℕ) → IsBytes bytes → del_at bytes ≡ Some p → Takes 2 bytes p.0 p.1
unfolding del_at
del_takes bytes p fits e =
    let k = bind_some (short_at bytes) (λ key. Some (Del key.0, key.1)) p e in
    let key = short_takes bytes k.0.0 k.0.1 k.1 in
    taken 2 bytes (Del k.0.0) k.0.1 p k.2 (record { spelled = ap (λ (t : List ℕ). 2 ∷ t) key; fits = tt })

regroup3 : (a b c rest : List ℕ) → a ++ (b ++ (c ++ rest)) ≡ ((a ++ b) ++ c) ++ rest
regroup3 a b c rest = simp append_assoc

regroup4 : (a b c d rest : List ℕ) → a ++ (b ++ (c ++ (d ++ rest))) ≡ (((a ++ b) ++ c) ++ d) ++ rest
regroup4 a b c d rest = simp append_assoc

range_set_takes : (bytes : List ℕ) (p : Op × List ℕ) → IsBytes bytes → range_set_at bytes ≡ Some p → Takes 3 bytes p.0 p.1
unfolding range_set_at
range_set_takes bytes p fits e =
    let s = bind_some (short_at bytes) (λ start. short_at start.1 >>= λ end. short_at end.1 >>= λ suffix. long_at suffix.1 >>= λ value. Some (RangeSet start.0 end.0 suffix.0 value.0, value.1)) p e in
    let n = bind_some (short_at s.0.1) (λ end. short_at end.1 >>= λ suffix. long_at suffix.1 >>= λ value. Some (RangeSet s.0.0 end.0 suffix.0 value.0, value.1)) p s.2 in
    let x = bind_some (short_at n.0.1) (λ suffix. long_at suffix.1 >>= λ value. Some (RangeSet s.0.0 n.0.0 suffix.0 value.0, value.1)) p n.2 in
    let v = bind_some (long_at x.0.1) (λ value. Some (RangeSet s.0.0 n.0.0 x.0.0 value.0, value.1)) p x.2 in
    let start = short_takes bytes s.0.0 s.0.1 s.1 in
    let end = short_takes s.0.1 n.0.0 n.0.1 n.1 in
    let suffix = short_takes n.0.1 x.0.0 x.0.1 x.1 in
    let fits_1 = rest_fits bytes (short s.0.0) s.0.1 fits start in
    let fits_2 = rest_fits s.0.1 (short n.0.0) n.0.1 fits_1 end in
    let fits_3 = rest_fits n.0.1 (short x.0.0) x.0.1 fits_2 suffix in
    let value = long_takes x.0.1 v.0.0 v.0.1 fits_3 v.1 in
    taken 3 bytes (RangeSet s.0.0 n.0.0 x.0.0 v.0.0) v.0.1 p v.2
    (record {
      spelled = joined_4 3 bytes (short s.0.0) s.0.1 (short n.0.0) n.0.1 (short x.0.0) x.0.1 (long v.0.0) v.0.1 start end suffix value.0;
      fits = value.1;
    })

range_unset_takes : (bytes : List ℕ) (p : Op × List ℕ) → IsBytes bytes → range_unset_at bytes ≡ Some p → Takes 4 bytes p.0 p.1
unfolding range_unset_at
range_unset_takes bytes p fits e =
    let s = bind_some (short_at bytes) (λ start. short_at start.1 >>= λ end. short_at end.1 >>= λ suffix. Some (RangeUnset start.0 end.0 suffix.0, suffix.1)) p e in
    let n = bind_some (short_at s.0.1) (λ end. short_at end.1 >>= λ suffix. Some (RangeUnset s.0.0 end.0 suffix.0, suffix.1)) p s.2 in
    let x = bind_some (short_at n.0.1) (λ suffix. Some (RangeUnset s.0.0 n.0.0 suffix.0, suffix.1)) p n.2 in
    let start = short_takes bytes s.0.0 s.0.1 s.1 in
    let end = short_takes s.0.1 n.0.0 n.0.1 n.1 in
    let suffix = short_takes n.0.1 x.0.0 x.0.1 x.1 in
    taken 4 bytes (RangeUnset s.0.0 n.0.0 x.0.0) x.0.1 p x.2
    (record { spelled = joined_3 4 bytes (short s.0.0) s.0.1 (short n.0.0) n.0.1 (short x.0.0) x.0.1 start end suffix; fits = tt })

range_del_takes : (bytes : List ℕ) (p : Op × List ℕ) → IsBytes bytes → range_del_at bytes ≡ Some p → Takes 5 bytes p.0 p.1
unfolding range_del_at
range_del_takes bytes p fits e =
    let s = bind_some (short_at bytes) (λ start. short_at start.1 >>= λ end. Some (RangeDel start.0 end.0, end.1)) p e in
    let n = bind_some (short_at s.0.1) (λ end. Some (RangeDel s.0.0 end.0, end.1)) p s.2 in
    let start = short_takes bytes s.0.0 s.0.1 s.1 in
    let end = short_takes s.0.1 n.0.0 n.0.1 n.1 in
    taken 5 bytes (RangeDel s.0.0 n.0.0) n.0.1 p n.2
    (record { spelled = joined_2 5 bytes (short s.0.0) s.0.1 (short n.0.0) n.0.1 start end; fits = tt })

-- behind its kind, one kind after the other
of_kind : (k kind : ℕ) (bytes : List ℕ) (p : Op × List ℕ) (this : Option (Op × List ℕ)) (others : Option (Op × List ℕ)) (b : Bool)
    → eqb kind k ≡ b → (this ≡ Some p → Takes k bytes p.0 p.1) → (others ≡ Some p → Takes kind bytes p.0 p.1)
    → cond b this others ≡ Some p → Takes kind bytes p.0 p.1
of_kind k kind bytes p this others true t first later e = subst (λ (n : ℕ). Takes n bytes p.0 p.1) (sym (eqb-true kind k t)) (first e)
of_kind k kind bytes p this others false t first later e = later e

none_takes : (kind : ℕ) (bytes : List ℕ) (p : Op × List ℕ) → None ≡ done p → Takes kind bytes p.0 p.1
none_takes kind bytes p e = absurd cc

fields_takes : (kind : ℕ) (bytes : List ℕ) (p : Op × List ℕ) → IsBytes bytes → fields_at kind bytes ≡ Some p → Takes kind bytes p.0 p.1
unfolding fields_at
fields_takes kind bytes p fits e =
    of_kind 1 kind bytes p (put_at bytes) _ (eqb kind 1) refl (put_takes bytes p fits)
    (of_kind 2 kind bytes p (del_at bytes) _ (eqb kind 2) refl (del_takes bytes p fits)
    (of_kind 3 kind bytes p (range_set_at bytes) _ (eqb kind 3) refl (range_set_takes bytes p fits)
    (of_kind 4 kind bytes p (range_unset_at bytes) _ (eqb kind 4) refl (range_unset_takes bytes p fits)
    (of_kind 5 kind bytes p (range_del_at bytes) None (eqb kind 5) refl (range_del_takes bytes p fits) (none_takes kind bytes p))))) e

-- what is read has these bytes
pub op_takes : (bytes : List ℕ) (op : Op) (rest : List ℕ) → IsBytes bytes → op_at bytes ≡ Some (op, rest) → (bytes ≡ op_bytes op ++ rest) × Fits op
op_takes [] op rest fits e = absurd cc
op_takes (kind ∷ bytes) op rest fits e =
    let t = fields_takes kind bytes (op, rest) (λ i. fits (suc i)) e in
    (t.spelled, t.fits)

put_again : (key value rest : List ℕ) → length value < 65536 → put_at (short key ++ (long value ++ rest)) ≡ Some (Put key value, rest)
unfolding put_at
put_again key value rest h =
    bind_again (short_at (short key ++ (long value ++ rest))) (key, long value ++ rest) (λ key. long_at key.1 >>= λ value. Some (Put key.0 value.0, value.1)) (short_again key (long value ++ rest))
    ∙ bind_again (long_at (long value ++ rest)) (value, rest) (λ v. Some (Put key v.0, v.1)) (long_again value rest h)

del_again : (key rest : List ℕ) → del_at (short key ++ rest) ≡ Some (Del key, rest)
unfolding del_at
del_again key rest = bind_again (short_at (short key ++ rest)) (key, rest) (λ key. Some (Del key.0, key.1)) (short_again key rest)

range_set_again : (start end suffix value rest : List ℕ) → length value < 65536
    → range_set_at (short start ++ (short end ++ (short suffix ++ (long value ++ rest)))) ≡ Some (RangeSet start end suffix value, rest)
unfolding range_set_at
range_set_again start end suffix value rest h =
    let r_3 = long value ++ rest in
    let r_2 = short suffix ++ r_3 in
    let r_1 = short end ++ r_2 in
    bind_again (short_at (short start ++ r_1)) (start, r_1) (λ s. short_at s.1 >>= λ n. short_at n.1 >>= λ x. long_at x.1 >>= λ v. Some (RangeSet s.0 n.0 x.0 v.0, v.1)) (short_again start r_1)
    ∙ bind_again (short_at r_1) (end, r_2) (λ n. short_at n.1 >>= λ x. long_at x.1 >>= λ v. Some (RangeSet start n.0 x.0 v.0, v.1)) (short_again end r_2)
    ∙ bind_again (short_at r_2) (suffix, r_3) (λ x. long_at x.1 >>= λ v. Some (RangeSet start end x.0 v.0, v.1)) (short_again suffix r_3)
    ∙ bind_again (long_at r_3) (value, rest) (λ v. Some (RangeSet start end suffix v.0, v.1)) (long_again value rest h)

range_unset_again : (start end suffix rest : List ℕ) → range_unset_at (short start ++ (short end ++ (short suffix ++ rest))) ≡ Some (RangeUnset start end suffix, rest)
unfolding range_unset_at
range_unset_again start end suffix rest =
    let r_2 = short suffix ++ rest in
    let r_1 = short end ++ r_2 in
    bind_again (short_at (short start ++ r_1)) (start, r_1) (λ s. short_at s.1 >>= λ n. short_at n.1 >>= λ x. Some (RangeUnset s.0 n.0 x.0, x.1)) (short_again start r_1)
    ∙ bind_again (short_at r_1) (end, r_2) (λ n. short_at n.1 >>= λ x. Some (RangeUnset start n.0 x.0, x.1)) (short_again end r_2)
    ∙ bind_again (short_at r_2) (suffix, rest) (λ x. Some (RangeUnset start end x.0, x.1)) (short_again suffix rest)

range_del_again : (start end rest : List ℕ) → range_del_at (short start ++ (short end ++ rest)) ≡ Some (RangeDel start end, rest)
unfolding range_del_at
range_del_again start end rest =
    let r_1 = short end ++ rest in
    bind_again (short_at (short start ++ r_1)) (start, r_1) (λ s. short_at s.1 >>= λ n. Some (RangeDel s.0 n.0, n.1)) (short_again start r_1)
    ∙ bind_again (short_at r_1) (end, rest) (λ n. Some (RangeDel start n.0, n.1)) (short_again end rest)

-- what was written is read again, whatever follows it
pub op_again : (op : Op) (rest : List ℕ) → Fits op → op_at (op_bytes op ++ rest) ≡ Some (op, rest)
unfolding fields_at
op_again (Put key value) rest h = ap put_at (append_assoc (short key) (long value) rest) ∙ put_again key value rest h
op_again (Del key) rest h = del_again key rest
op_again (RangeSet start end suffix value) rest h =
    ap range_set_at (sym (regroup4 (short start) (short end) (short suffix) (long value) rest)) ∙ range_set_again start end suffix value rest h
op_again (RangeUnset start end suffix) rest h =
    ap range_unset_at (sym (regroup3 (short start) (short end) (short suffix) rest)) ∙ range_unset_again start end suffix rest
op_again (RangeDel start end) rest h = ap range_del_at (append_assoc (short start) (short end) rest) ∙ range_del_again start end rest

-- no operation's bytes begin another's
pub one_op : (a b : Op) (x y : List ℕ) → Fits a → Fits b → op_bytes a ++ x ≡ op_bytes b ++ y → (a ≡ b) × (x ≡ y)
one_op a b x y f g e =
    let p = some_is (a, x) (b, y) (sym (op_again a x f) ∙ ap op_at e ∙ op_again b y g) in
    (ap (λ (q : Op × List ℕ). q.0) p, ap (λ (q : Op × List ℕ). q.1) p)

-- where none is read, none stands
pub no_op : (bytes : List ℕ) → op_at bytes ≡ None → (op : Op) (rest : List ℕ) → Fits op → bytes ≢ op_bytes op ++ rest
no_op bytes none op rest fits e =
    let again : op_at (op_bytes op ++ rest) ≡ Some (op, rest) = op_again op rest fits in
    let same : op_at bytes ≡ op_at (op_bytes op ++ rest) = ap op_at e in
    cc
