-- Where range keys shadow one another: in one stripe, and there under one suffix or as deletes.
use Rattle.std.specs.Prelude.{◌≡◌, ℕ, Bool, true, false, [], ◌∷◌, ◌&&◌, ◌||◌, not, nat_lt, nat_le, if◌then◌else◌, List, Option, Some, None}
use Rattle.std.specs.List.{list_any}
use Rattle.std.specs.Option.{option_map_or, option_cmp}
use Rattle.std.specs.Ordering.{nat_cmp, ordering_then, is_eq}
use Rattle.std.specs.declared.cmp.Ordering.{Ordering}
use Rattle.rk_key.specs.Keys.{suffix_cmp}
use Rattle.rk_model.specs.Kept.{stripe_of, in_lowest}
use Rattle.rk_model.specs.declared.span.RangeKind.{RangeKind}
use Rattle.rk_model.specs.declared.span.RangeKind.TheVariants.{Set, Unset, Del}
use Rattle.rk_model.specs.declared.span.RangeKey.{RangeKey}
use Rattle.rk_model.specs.declared.span.SuffixValue.{SuffixValue}

-- a stripe, and a suffix or none for deletes
abbrev pub Place : Type 0
Place = ℕ × Option (List ℕ)

abbrev pub place_cmp : Place → Place → Ordering
place_cmp p q = ordering_then (nat_cmp p.0 q.0) (option_cmp suffix_cmp p.1 q.1)

abbrev pub suffix_if : RangeKind → List ℕ → Option (List ℕ)
suffix_if Set s = Some s
suffix_if Unset s = Some s
suffix_if Del s = None

abbrev pub is_set_kind : RangeKind → Bool
is_set_kind Set = true
is_set_kind Unset = false
is_set_kind Del = false

-- whether a range key is at a place
abbrev pub is_at : List ℕ → Place → RangeKey → Bool
is_at stripes p k = option_map_or (λ s. is_eq (place_cmp (s, suffix_if k.kind k.suffix) p)) (stripe_of stripes k.seq) false

-- the number of each place is the greatest of the range keys there
abbrev pub TellsNewest : List ℕ → List RangeKey → (Place → ℕ) → Type 0
TellsNewest stripes keys newest = (p : Place) (n : ℕ) → nat_lt n (newest p) ≡ list_any (λ k. nat_lt n k.seq && is_at stripes p k) keys

-- whether a delete of its stripe, or what stands under its suffix there, is newer than a range key
abbrev pub is_shadowed : (Place → ℕ) → List ℕ → RangeKey → Bool
is_shadowed newest stripes k =
    option_map_or (λ s. nat_lt k.seq (newest (s, None)) || nat_lt k.seq (newest (s, suffix_if k.kind k.suffix))) (stripe_of stripes k.seq) false

abbrev pub stays : (Place → ℕ) → List ℕ → Bool → RangeKey → Bool
stays newest stripes bottom k =
    not (is_shadowed newest stripes k) && not (bottom && in_lowest stripes k.seq && not (is_set_kind k.kind))

-- the pair that a range key gives to the cover at n, where the one stripe is n
abbrev pub pair_of : (Place → ℕ) → ℕ → RangeKey → Option SuffixValue
pair_of newest n k =
    if nat_le k.seq n && is_set_kind k.kind && not (is_shadowed newest (n ∷ []) k)
    then Some (record { suffix = k.suffix; value = k.value })
    else None
