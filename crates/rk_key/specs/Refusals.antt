-- What the refusal of bytes says: that they are no key, or no suffix, and how far they begin one.
use Rattle.std.specs.Prelude.{◌≡◌, ℕ, ◌<◌, ◌≤◌, ◌^◌, All, List, ◌++◌, length, take}
use Rattle.rk_key.specs.Keys.{IsDigit, decimal}
use Rattle.rk_key.specs.declared.error.Which.{Which}
use Rattle.rk_key.specs.declared.error.KeyError.{KeyError}
use Rattle.rk_key.specs.declared.error.KeyError.TheVariants.{Memory, BadKey}

-- with some bytes after them they are one
abbrev pub Begins : (List ℕ → Type 0) → List ℕ → Type 0
Begins Is bytes = (rest : List ℕ) × Is (bytes ++ rest)

-- at is the length of the longest beginning of the bytes that begins one
pub record IsLongestBeginning (Is : List ℕ → Type 0) (bytes : List ℕ) (at : ℕ) : Type 0 where
  pub within : at ≤ length bytes
  pub begins : Begins Is (take at bytes)
  pub longest : (n : ℕ) → at < n → n ≤ length bytes → ¬ Begins Is (take n bytes)

-- the bytes are none, and stop to begin one at a place
pub record IsBadAt (Is : List ℕ → Type 0) (bytes : List ℕ) (at : ℕ) : Type 0 where
  pub none : ¬ Is bytes
  pub place : IsLongestBeginning Is bytes at

-- digits, maybe none, of a number that fits
pub record IsDecimal (digits : List ℕ) : Type 0 where
  pub all_digits : All IsDigit digits
  pub fits : decimal digits < 2 ^ 64

-- there is no memory, which says nothing of the bytes, or they are none
abbrev pub IsRefusalOf : (List ℕ → Type 0) → Which → List ℕ → KeyError → Type 0
IsRefusalOf Is wanted bytes Memory = Unit {0}
IsRefusalOf Is wanted bytes (BadKey which at) = (which ≡ wanted) × IsBadAt Is bytes at
