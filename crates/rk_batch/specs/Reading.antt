-- How bytes are read, which the contracts of private functions cite. What is read has these bytes, and what
-- has these bytes is read so: the laws stand in `proofs/`.
use Rattle.std.specs.Prelude.{◌≡◌, ℕ, ◌==◌, nat_lt, if◌then◌else◌, Option, Some, None, List, [], ◌∷◌, ◌++◌, length, take, drop}
use Rattle.byteorder.specs.Endian.{big_number}
use Rattle.rk_model.specs.declared.op.Op.{Op}
use Rattle.rk_model.specs.declared.op.Op.TheVariants as op
use Rattle.rk_batch.specs.Checks.{AllPass, checks}
use Rattle.rk_batch.specs.Encoding.{op_bytes}
use Rattle.rk_batch.specs.declared.raw.RawOp.{RawOp}
use Rattle.rk_batch.specs.declared.raw.RawOp.TheVariants.{Put, Del, RangeSet, RangeUnset, RangeDel}

infixl 10 ◌>>=◌
abbrev pub ◌>>=◌ : {A B : Type 0} → Option A → (A → Option B) → Option B
None >>= f = None
(Some x) >>= f = f x

-- what a function answered, seen by view, is what reading gives
abbrev pub GivesAs : {X Y : Type 0} → (X → Y) → Option X → Option Y → Type 0
GivesAs view None read = read ≡ None
GivesAs view (Some x) read = read ≡ Some (view x)

-- so many bytes, and the bytes after them
abbrev pub cut : ℕ → List ℕ → Option (List ℕ × List ℕ)
cut n bytes = if nat_lt (length bytes) n then None else Some (take n bytes, drop n bytes)

abbrev pub short_at : List ℕ → Option (List ℕ × List ℕ)
short_at [] = None
short_at (n ∷ bytes) = cut n bytes

-- a number of two bytes, and the bytes after it
abbrev pub number_at : List ℕ → Option (ℕ × List ℕ)
number_at bytes = if nat_lt (length bytes) 2 then None else Some (big_number 2 bytes, drop 2 bytes)

unfoldable pub long_at : List ℕ → Option (List ℕ × List ℕ)
long_at bytes = do
  n ← number_at bytes
  cut n.0 n.1

unfoldable pub put_at : List ℕ → Option (Op × List ℕ)
put_at bytes = do
  key ← short_at bytes
  value ← long_at key.1
  Some (op.Put key.0 value.0, value.1)

unfoldable pub del_at : List ℕ → Option (Op × List ℕ)
del_at bytes = do
  key ← short_at bytes
  Some (op.Del key.0, key.1)

unfoldable pub range_set_at : List ℕ → Option (Op × List ℕ)
range_set_at bytes = do
  start ← short_at bytes
  end ← short_at start.1
  suffix ← short_at end.1
  value ← long_at suffix.1
  Some (op.RangeSet start.0 end.0 suffix.0 value.0, value.1)

unfoldable pub range_unset_at : List ℕ → Option (Op × List ℕ)
range_unset_at bytes = do
  start ← short_at bytes
  end ← short_at start.1
  suffix ← short_at end.1
  Some (op.RangeUnset start.0 end.0 suffix.0, suffix.1)

unfoldable pub range_del_at : List ℕ → Option (Op × List ℕ)
range_del_at bytes = do
  start ← short_at bytes
  end ← short_at start.1
  Some (op.RangeDel start.0 end.0, end.1)

-- behind its kind
unfoldable pub fields_at : ℕ → List ℕ → Option (Op × List ℕ)
fields_at kind bytes =
    if kind == 1 then put_at bytes else if kind == 2 then del_at bytes else if kind == 3 then range_set_at bytes
    else if kind == 4 then range_unset_at bytes else if kind == 5 then range_del_at bytes else None

abbrev pub op_at : List ℕ → Option (Op × List ℕ)
op_at [] = None
op_at (kind ∷ bytes) = fields_at kind bytes

-- the count, which is neither 0 nor too large
unfoldable pub counted_at : List ℕ → Option (ℕ × List ℕ)
counted_at bytes = do
  count ← number_at bytes
  if nat_lt count.0 1 then None else if nat_lt 1000 count.0 then None else Some count

abbrev pub head_at : List ℕ → Option (ℕ × List ℕ)
head_at [] = None
head_at (version ∷ bytes) = if version == 1 then counted_at bytes else None

-- one more operation, which stands at the front, and which the batch takes
pub record TakesNext (old new : List Op) (bytes rest : List ℕ) : Type 0 where
  pub op : Op
  pub added : new ≡ old ++ op ∷ []
  pub passes : AllPass (checks old op)
  pub spelled : bytes ≡ op_bytes op ++ rest

-- the operation that these parts make
abbrev pub op_of : RawOp → Op
op_of (Put key value) = op.Put key.now value.now
op_of (Del key) = op.Del key.now
op_of (RangeSet start end suffix value) = op.RangeSet start.now end.now suffix.now value.now
op_of (RangeUnset start end suffix) = op.RangeUnset start.now end.now suffix.now
op_of (RangeDel start end) = op.RangeDel start.now end.now
