-- What the calls of a vault answer that change nothing.
use Rattle.std.specs.Prelude.{◌≡◌, ◌≢◌, ℕ, ◌≤◌, ◌<◌, ◌↔◌, List, [], ◌∷◌, length, take, drop, IsSome, Contains}
use Rattle.std.specs.List.{AllByRecursion}
use Rattle.rk_outside.specs.Causes.{Rose}
use Rattle.rk_outside.specs.Disks.{Files}

-- the bytes of a piece that a read from a place on fills
abbrev pub bytes_from : List ℕ → ℕ → ℕ → List ℕ
bytes_from bytes at n = take n (drop at bytes)

-- the front of the piece holds the bytes from a place on, as many as there are up to its length, and the answer is how many
abbrev pub Fills : List ℕ → ℕ → List ℕ → ℕ → Type 0
Fills bytes at out n = (n ≡ length (bytes_from bytes at (length out))) × (take n out ≡ bytes_from bytes at (length out))

-- each number is below those after it
abbrev pub NumbersRise : List ℕ → Type 0
NumbersRise [] = Unit {0}
NumbersRise (n ∷ ns) = AllByRecursion (λ m. n < m) ns × NumbersRise ns

-- the numbers of the files that are there, rising
pub record AreNumbers (files : Files) (numbers : List ℕ) : Type 0 where
  pub rising : NumbersRise numbers
  pub there : (f : ℕ) → Contains numbers f ↔ IsSome (files f)

-- no file's room falls
abbrev pub RoomsStay : (ℕ → ℕ) → (ℕ → ℕ) → Type 0
RoomsStay old new = (f : ℕ) → old f ≤ new f

-- a reader was given back whose count of faults is this: the vault's count never falls, and rises exactly where that
-- isn't 0
pub record TakesBack (faults before now : ℕ) : Type 0 where
  pub later : before ≤ now
  pub well : faults ≡ 0 → now ≡ before
  pub failed : faults ≢ 0 → Rose before now
