-- The positions, as loops make them: from the last to the first.
use Rattle.std.proofs.Common.{◌≡◌, ℕ, ◌∙◌, sym, ap, List, [], ◌∷◌, ◌++◌, map, Bool, true, false, cond, refl}
use Rattle.std.specs.Prelude.{◌&&◌, filter, is_some, if◌then◌else◌}
use Rattle.std.specs.List.{flat_map}
use Rattle.rk_model.specs.Covers.{cover}
use Rattle.rk_model.specs.Spans.{in_bounds, written_ends, insert_key, sorted_keys}
use Rattle.rk_model.specs.Positions.{put_key, shown, begins_span, positions}
use Rattle.rk_model.specs.Plain.{covered_ends, shown_points, starts_among, put_in}
use Rattle.rk_model.specs.declared.op.Entry.{Entry}
use Rattle.rk_model.specs.declared.options.IterOptions.{IterOptions}
use Rattle.rk_model.specs.declared.plain.ends.EndCover.{EndCover}

sorted_keys-append : (xs ys : List (List ℕ)) → sorted_keys (xs ++ ys) ≡ put_in xs (sorted_keys ys)
sorted_keys-append [] ys = refl
sorted_keys-append (x ∷ xs) ys = ap (insert_key x) (sorted_keys-append xs ys)

keys_of : (es : List Entry) (xs : List (List ℕ)) → map (λ a. a.key) (map (λ a. let end : EndCover = record { key = a; cover = cover es a } in end) xs) ≡ xs
keys_of es [] = refl
keys_of es (x ∷ xs) = ap (λ l. x ∷ l) (keys_of es xs)

pub positions_are : (es : List Entry) (o : IterOptions) →
    put_in (shown_points es o es) (sorted_keys (starts_among es o (map (λ a. a.key) (covered_ends es o)))) ≡ positions es o
positions_are es o =
    (λ i. put_in (shown_points es o es) (sorted_keys (starts_among es o (keys_of es (written_ends es o) i))))
    ∙ sym (sorted_keys-append (shown_points es o es) (starts_among es o (written_ends es o)))

pub filter-append : {A : Type 0} (p : A → Bool) (xs ys : List A) → filter p (xs ++ ys) ≡ filter p xs ++ filter p ys
filter-append p [] ys = refl
filter-append p (x ∷ xs) ys =
    elim (p x) as (λ b. cond b (x ∷ filter p (xs ++ ys)) (filter p (xs ++ ys)) ≡ cond b (x ∷ filter p xs) (filter p xs) ++ filter p ys) [
      | true ↦ ap (λ l. x ∷ l) (filter-append p xs ys)
      | false ↦ filter-append p xs ys
    ]

put_in-append : (xs ys keys : List (List ℕ)) → put_in (xs ++ ys) keys ≡ put_in xs (put_in ys keys)
put_in-append [] ys keys = refl
put_in-append (x ∷ xs) ys keys = ap (insert_key x) (put_in-append xs ys keys)

-- one more entry
pub points_more : (es : List Entry) (o : IterOptions) (e : Entry) (part : List Entry) (keys : List (List ℕ)) →
    put_in (shown_points es o (e ∷ part)) keys
    ≡ put_in (filter (λ x. in_bounds o x && is_some (shown es o x)) (put_key e.op)) (put_in (shown_points es o part) keys)
points_more es o e part keys =
    let p : List ℕ → Bool = λ x. in_bounds o x && is_some (shown es o x) in
    ap (λ l. put_in l keys) (filter-append p (put_key e.op) (flat_map (λ e. put_key e.op) part))
    ∙ put_in-append (filter p (put_key e.op)) (shown_points es o part) keys

-- one more end
pub start_more : (es : List Entry) (o : IterOptions) (a : EndCover) (part : List EndCover) →
    sorted_keys (starts_among es o (map (λ a. a.key) (a ∷ part)))
    ≡ (if in_bounds o a.key && begins_span es o a.key
    then insert_key a.key (sorted_keys (starts_among es o (map (λ a. a.key) part)))
    else sorted_keys (starts_among es o (map (λ a. a.key) part)))
start_more es o a part =
    let rest = starts_among es o (map (λ a. a.key) part) in
    elim (in_bounds o a.key && begins_span es o a.key) as (λ b. sorted_keys (cond b (a.key ∷ rest) rest) ≡ cond b (insert_key a.key (sorted_keys rest)) (sorted_keys rest)) [
      | true ↦ refl
      | false ↦ refl
    ]
