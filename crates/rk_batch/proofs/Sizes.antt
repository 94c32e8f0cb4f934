-- The length of a batch's bytes, one operation after the other.
use Rattle.std.proofs.Common.{◌≡◌, ◌+◌, List, [], ◌∷◌, ◌++◌, length, ap, sym, length-append, append_assoc, arith}
use Rattle.std.proofs.lemmas.List.{append-nil}
use Rattle.std.specs.Prelude.{flat_map}
use Rattle.rk_model.specs.declared.op.Op.{Op}
use Rattle.rk_batch.specs.Encoding.{op_bytes, batch_bytes}

pub ops_bytes-more : (ops : List Op) (op : Op) → flat_map op_bytes (ops ++ op ∷ []) ≡ flat_map op_bytes ops ++ op_bytes op
ops_bytes-more [] op = simp append-nil
ops_bytes-more (x ∷ xs) op = rw (ops_bytes-more xs op) (sym (append_assoc (op_bytes x) _ _))

pub size_more : (ops : List Op) (op : Op) → length (batch_bytes (ops ++ op ∷ [])) ≡ length (batch_bytes ops) + length (op_bytes op)
size_more ops op = omega (arith, ap length (ops_bytes-more ops op), length-append (flat_map op_bytes ops) (op_bytes op))
