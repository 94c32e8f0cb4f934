-- The bytes of a batch.
use Rattle.std.specs.Prelude.{ℕ, List, ◌∷◌, ◌++◌, length, flat_map}
use Rattle.byteorder.specs.Endian.{big_bytes}
use Rattle.rk_model.specs.declared.op.Op.{Op}
use Rattle.rk_model.specs.declared.op.Op.TheVariants.{Put, Del, RangeSet, RangeUnset, RangeDel}

-- a length in one byte, and so many bytes
abbrev pub short : List ℕ → List ℕ
short bytes = length bytes ∷ bytes

-- a length in two bytes, the higher one first, and so many bytes
abbrev pub long : List ℕ → List ℕ
long bytes = big_bytes 2 (length bytes) ++ bytes

-- the kind, and the fields of its kind
abbrev pub op_bytes : Op → List ℕ
op_bytes (Put key value) = 1 ∷ short key ++ long value
op_bytes (Del key) = 2 ∷ short key
op_bytes (RangeSet start end suffix value) = 3 ∷ short start ++ short end ++ short suffix ++ long value
op_bytes (RangeUnset start end suffix) = 4 ∷ short start ++ short end ++ short suffix
op_bytes (RangeDel start end) = 5 ∷ short start ++ short end

-- the version, and the count of operations in two bytes
abbrev pub head : ℕ → List ℕ
head count = 1 ∷ big_bytes 2 count

abbrev pub batch_bytes : List Op → List ℕ
batch_bytes ops = head (length ops) ++ flat_map op_bytes ops
