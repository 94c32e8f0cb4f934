-- Histories, tickets and names, as lists.
use Rattle.std.specs.Prelude.{◌≡◌, ◌⊎◌, ℕ, ◌+◌, ◌==◌, ◌&&◌, Bool, true, false, List, [], ◌∷◌, ◌++◌, length, if◌then◌else◌, nat_le}

module _ {A : Type 0} where
  -- x is one of these
  abbrev pub Among : A → List A → Type 0
  Among x [] = ⊥
  Among x (y ∷ ys) = (x ≡ y) ⊎ Among x ys

  -- the history begins with these events
  abbrev pub IsPrefix : List A → List A → Type 0
  IsPrefix events history = (rest : List A) × (history ≡ events ++ rest)

  abbrev pub longer : List A → List A → List A
  longer xs ys = if nat_le (length xs) (length ys) then ys else xs

  abbrev pub shorter : List A → List A → List A
  shorter xs ys = if nat_le (length xs) (length ys) then xs else ys

  -- the events carry the tickets k, k + 1, ..
  abbrev pub IsNumbered : (A → ℕ) → ℕ → List A → Type 0
  IsNumbered ticket k [] = Unit {0}
  IsNumbered ticket k (e ∷ es) = (ticket e ≡ k) × IsNumbered ticket (k + 1) es

  -- the sum of a number of each
  abbrev pub total : (A → ℕ) → List A → ℕ
  total f [] = 0
  total f (x ∷ xs) = f x + total f xs

-- Names are lists of counts
abbrev pub same_name : List ℕ → List ℕ → Bool
same_name [] [] = true
same_name [] (y ∷ ys) = false
same_name (x ∷ xs) [] = false
same_name (x ∷ xs) (y ∷ ys) = (x == y) && same_name xs ys

abbrev pub one_if : Bool → ℕ
one_if true = 1
one_if false = 0

-- 1 where the two are one name, and not the first pass's
abbrev pub hits : List ℕ → List ℕ → ℕ
hits n [] = 0
hits n (k ∷ ks) = one_if (same_name n (k ∷ ks))

-- the names without the first that is n
abbrev pub without : List ℕ → List (List ℕ) → List (List ℕ)
without n [] = []
without n (m ∷ ms) = if same_name n m then ms else m ∷ without n ms
