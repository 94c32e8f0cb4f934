-- Several sources that are moved together: what they list, which bad tables they may name, and sums over them.
use Rattle.std.specs.Prelude.{ℕ, ◌+◌, Bool, List, [], ◌∷◌, is_some, unwrap_or}
use Rattle.std.specs.List.{list_all, list_any}
use Rattle.rk_model.specs.Standings.{Listing, names}

-- what a source lists, where it is told
abbrev pub told_items : {A : Type 0} → Listing A → List A
told_items l = unwrap_or l.held []

abbrev pub all_told : {A : Type 0} → List (Listing A) → Bool
all_told ls = list_all (λ l. is_some l.held) ls

-- one of them may name that place of that file
abbrev pub some_names : {A : Type 0} → List (Listing A) → ℕ → ℕ → Bool
some_names ls = λ file at. list_any (λ l. names l file at) ls

-- the sum of a number of each
abbrev pub total : {S : Type 0} → (S → ℕ) → List S → ℕ
total f [] = 0
total f (s ∷ ss) = f s + total f ss
