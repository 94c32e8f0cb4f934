-- The laws of the widest spans of a source.
use Rattle.std.specs.Prelude.{◌≡◌, ℕ, ◌≤◌, Bool, true, false, not, List, length, Option, Some, None, if◌then◌else◌, option_and_then, IfSome, IsTrue, refl}
use Rattle.std.proofs.Common.{arith}
use Rattle.rk_model.specs.Cuts.{item_from}
use Rattle.rk_model.specs.Items.{span_beside, keyed_extents, sound}
use Rattle.rk_model.specs.Standings.{Listing, Standing, IsTold, WalksRise, IsFree}
use Rattle.rk_model.specs.declared.span.Span.{Span}
use Rattle.rk_model.specs.declared.options.IterOptions.{IterOptions}
use Rattle.rk_model.proofs.Gaps.{cut_within}
use Rattle.rk_span_laws.specs.Joined.{joined}
use Rattle.rk_defrag.specs.Defrags.{defragged, defragged_standing, gap_from, left_end, lent_gap, lent_here}

sound_sorted : (ss : List Span) → IfSome (sound keyed_extents ss) (λ xs. IsTrue (keyed_extents xs))
sound_sorted ss = go (keyed_extents ss) refl
  where
    go : (b : Bool) → keyed_extents ss ≡ b → IfSome (if b then Some ss else None) (λ xs. IsTrue (keyed_extents xs))
    go true e = e
    go false e = tt

pub defragged-ordered : (n : ℕ) (o : IterOptions) (l : Listing Span) → IfSome (defragged n o l).held (λ xs. IsTrue (keyed_extents xs))
defragged-ordered n o l = go l.held
  where
    go : (h : Option (List Span)) → IfSome (option_and_then (λ ss. sound keyed_extents (joined n o ss)) h) (λ xs. IsTrue (keyed_extents xs))
    go None = tt
    go (Some ss) = sound_sorted (joined n o ss)

gap_within : (forward : Bool) (xs : List Span) (c : Option Span) → gap_from forward xs c ≤ length xs
gap_within true xs None = omega arith
gap_within false xs None = omega arith
gap_within forward xs (Some c) = cut_within (span_beside forward (left_end (not forward) c)) xs

pub defragged-told : (l : Listing Span) (facing : Option Bool) (current : Option Span) (s : Standing Span) → IsTold l (defragged_standing l.held facing current s)
defragged-told l None current s = record { within = none (λ xs g. g ≤ length xs) l.held; shown = none (λ xs g. None ≡ item_from true xs g) l.held; lost = λ e. refl }
  where
    none : (F : List Span → ℕ → Type 0) (h : Option (List Span)) → IfSome h (λ xs. IfSome None (F xs))
    none F None = tt
    none F (Some xs) = tt
defragged-told l (Some forward) current s = record { within = within l.held; shown = shown l.held; lost = λ e. cc }
  where
    within : (h : Option (List Span)) → IfSome h (λ xs. lent_gap h forward current ≤ length xs)
    within None = tt
    within (Some xs) = gap_within forward xs current

    shown : (h : Option (List Span)) → IfSome h (λ xs. lent_here h forward current ≡ item_from forward xs (lent_gap h forward current))
    shown None = tt
    shown (Some xs) = refl

pub defragged-rise : (n : ℕ) (o : IterOptions) (l : Listing Span) → WalksRise (defragged n o l)
defragged-rise n o l = record { forward = λ told g h le. omega arith; backward = λ told g h le. omega arith }

pub defragged-free : (n : ℕ) (o : IterOptions) (l : Listing Span) → IsFree (defragged n o l)
defragged-free n o l = record { seek = λ forward cut. refl; walk = λ forward g. refl; turn = λ forward g. refl }
