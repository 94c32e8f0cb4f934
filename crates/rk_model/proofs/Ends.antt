-- The written ends, as a loop makes them: from the last entry to the first.
use Rattle.std.proofs.Common.{◌≡◌, ℕ, List, [], ◌∷◌, drop, Bool, true, false, refl}
use Rattle.std.specs.Prelude.{◌&&◌, filter, if◌then◌else◌}
use Rattle.std.specs.List.{flat_map}
use Rattle.rk_model.specs.Spans.{above, below, op_ends, insert_key, sorted_keys}
use Rattle.rk_model.specs.declared.op.Entry.{Entry}
use Rattle.rk_model.specs.declared.options.IterOptions.{IterOptions}

abbrev pub is_inside : IterOptions → List ℕ → Bool
is_inside o x = above o.lower x && below o.upper x

abbrev pub ends_from : IterOptions → List Entry → List (List ℕ)
ends_from o es = sorted_keys (filter (is_inside o) (flat_map (λ e. op_ends e.op) es))

-- of the entries from the i-th on
abbrev pub ends_of_part : IterOptions → ℕ → List Entry → List (List ℕ)
ends_of_part o i es = ends_from o (drop i es)

abbrev pub with_end : IterOptions → List ℕ → List (List ℕ) → List (List ℕ)
with_end o x keys = if is_inside o x then insert_key x keys else keys

pub two_ends_more : (o : IterOptions) (e : Entry) (part : List Entry) (s t : List ℕ) → op_ends e.op ≡ s ∷ t ∷ []
    → ends_from o (e ∷ part) ≡ with_end o s (with_end o t (ends_from o part))
two_ends_more o e part s t is =
    let rest = filter (is_inside o) (flat_map (λ e. op_ends e.op) part) in
    rw is (
    elim (is_inside o s) as (λ a. sorted_keys (if a then s ∷ (if is_inside o t then t ∷ rest else rest) else (if is_inside o t then t ∷ rest else rest)) ≡ (if a then insert_key s (with_end o t (sorted_keys rest)) else with_end o t (sorted_keys rest))) [
      | true ↦ elim (is_inside o t) as (λ b. insert_key s (sorted_keys (if b then t ∷ rest else rest)) ≡ insert_key s (if b then insert_key t (sorted_keys rest) else sorted_keys rest)) [ true ↦ refl | false ↦ refl ]
      | false ↦ elim (is_inside o t) as (λ b. sorted_keys (if b then t ∷ rest else rest) ≡ (if b then insert_key t (sorted_keys rest) else sorted_keys rest)) [ true ↦ refl | false ↦ refl ]
    ])
