-- What a write does to the bytes that a sink was given, where they are known.
use Rattle.std.specs.Prelude.{ℕ, ◌<◌, ◌≤◌, List, length, take, Option, Result, IfOk}
use Rattle.std.specs.Io.KnownBytes.{Appends}

-- on `Ok(n)`, n is not 0 unless the piece is empty
abbrev pub TakesSome : {E : Type 0} → Result ℕ E → List ℕ → Type 0
TakesSome result piece = IfOk result (λ n. 0 < length piece → 0 < n)

-- on `Ok(n)`, known bytes grow by the first n of the piece
abbrev pub AddsTaken : {E : Type 0} → Option (List ℕ) → Option (List ℕ) → Result ℕ E → List ℕ → Type 0
AddsTaken old new result piece = IfOk result (λ n. Appends old new (take n piece))

-- known bytes grow by some first bytes of the piece, or by none
abbrev pub AppendsPrefix : Option (List ℕ) → Option (List ℕ) → List ℕ → Type 0
AppendsPrefix old new piece = (n : ℕ) × (n ≤ length piece) × Appends old new (take n piece)
