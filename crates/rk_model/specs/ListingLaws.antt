-- The laws of a source over a list in memory.
use Rattle.std.proofs.Common.{ℕ, Bool, true, false, List, Option, Some, None, refl, arith}
use Rattle.std.specs.Prelude.{IsTrue, IfSome, if◌then◌else◌}
use Rattle.rk_model.specs.Items.{sound}
use Rattle.rk_model.specs.Listings.{stands_within}
use Rattle.rk_model.specs.Standings.{IsTold, WalksRise, IsFree, free_listing}

-- what is told is the list, and it passes the test
pub of_sound : {A : Type 0} (test : List A → Bool) (xs : List A) (P : List A → Type 0) → (IsTrue (test xs) → P xs) → IfSome (sound test xs) P
of_sound test xs P holds = go (test xs) holds
  where
    go : (b : Bool) → (IsTrue b → P xs) → IfSome (if b then Some xs else None) P
    go true holds = holds refl
    go false holds = tt

pub listed-told : {A : Type 0} (test : List A → Bool) (xs : List A) (gap : Option ℕ) (forward : Bool) → IsTold (free_listing (sound test xs)) (stands_within xs gap forward)
listed-told test xs None forward = record { within = of_sound test xs _ (λ t. tt); shown = of_sound test xs _ (λ t. tt); lost = λ e. refl }
listed-told test xs (Some g) forward = record { within = of_sound test xs _ (λ t. omega arith); shown = of_sound test xs _ (λ t. refl); lost = λ e. cc }

pub listed-rise : {A : Type 0} (held : Option (List A)) → WalksRise (free_listing held)
listed-rise held = record { forward = λ told g h le. omega arith; backward = λ told g h le. omega arith }

pub listed-free : {A : Type 0} (held : Option (List A)) → IsFree (free_listing held)
listed-free held = record { seek = λ forward cut. refl; walk = λ forward g. refl; turn = λ forward g. refl }
