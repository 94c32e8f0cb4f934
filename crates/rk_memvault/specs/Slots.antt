-- What a vault in memory holds under each number: a file's bytes, and room for more.
use Rattle.std.specs.Prelude.{ℕ, List, [], ◌∷◌, Option, Some, None}
use Rattle.std.specs.Ordering.{nat_cmp}
use Rattle.std.specs.Map.{lookup}
use Rattle.std.specs.BTreeMap.{is_at}
use Rattle.rk_outside.specs.Disks.{Files}

-- the bytes, and none where the file is not there; and up to which length it may be written
pub record Held : Type 0 where
  pub bytes : Option (List ℕ)
  pub room : ℕ

-- what is held under a number
abbrev pub held_at : List (ℕ × Held) → ℕ → Option Held
held_at slots f = lookup (is_at (nat_cmp f)) slots

abbrev pub bytes_of : Option Held → Option (List ℕ)
bytes_of None = None
bytes_of (Some held) = held.bytes

abbrev pub room_of : Option Held → ℕ
room_of None = 0
room_of (Some held) = held.room

abbrev pub files_in : List (ℕ × Held) → Files
files_in slots = λ f. bytes_of (held_at slots f)

abbrev pub rooms_in : List (ℕ × Held) → ℕ → ℕ
rooms_in slots = λ f. room_of (held_at slots f)

abbrev pub put_before : Option (List ℕ) → ℕ → List ℕ → List ℕ
put_before None f numbers = numbers
put_before (Some bytes) f numbers = f ∷ numbers

-- the numbers of the files that are there
abbrev pub numbers_in : List (ℕ × Held) → List ℕ
numbers_in [] = []
numbers_in (slot ∷ slots) = put_before slot.1.bytes slot.0 (numbers_in slots)
