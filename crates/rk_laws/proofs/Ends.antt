-- Sorted keys and the written ends.
use Rattle.std.proofs.Common.{◌≡◌, ℕ, Bool, true, false, ◌&&◌, cond, List, [], ◌∷◌, ◌++◌, filter, Option, Some, None, refl, ap, sym, ◌⊎◌, inl, inr, option_to_list, flat_map}
use Rattle.std.specs.Ordering.{is_lt, is_eq}
use Rattle.std.proofs.lemmas.Bool.{and_parts}
use Rattle.rk_key.specs.Keys.{key_cmp}
use Rattle.rk_model.specs.Spans.{above, below, op_ends, insert_key, sorted_keys, written_ends}
use Rattle.rk_model.specs.declared.op.Entry.{Entry}
use Rattle.rk_model.specs.declared.options.IterOptions.{IterOptions}
use Rattle.rk_model.specs.Lists.{Among}
use Rattle.rk_model.proofs.Members.{Ascending, among_all, all_among, among_left, among_right, among_append, among_filter, filter_among}
use Rattle.rk_model.proofs.SortedKeys.{Like, among_insert, sorted_among, among_sorted}
use Rattle.rk_laws.proofs.Order.{key_total, lt_itself, lt_back, lt_trans, ge_trans, apart}

abbrev pub lt : List ℕ → List ℕ → Bool
lt x y = is_lt (key_cmp x y)

insert_ascends : (x : List ℕ) (l : List (List ℕ)) → Ascending lt l → Ascending lt (insert_key x l)
insert_ascends x [] h = (tt, tt)
insert_ascends x (y ∷ ys) h = go (lt x y) (is_eq (key_cmp x y)) refl refl (insert_ascends x ys h.1)
  where
    above : lt x y ≡ true → (z : List ℕ) → Among z ys → lt x z ≡ true
    above e z m = lt_trans key_total x y z e (among_all (λ z. lt y z ≡ true) ys z h.0 m)

    after : lt x y ≡ false → is_eq (key_cmp x y) ≡ false → (z : List ℕ) → (z ≡ x) ⊎ Among z ys → lt y z ≡ true
    after e f z (inl k) = rw k (apart key_total x y f e)
    after e f z (inr m) = among_all (λ z. lt y z ≡ true) ys z h.0 m

    go : (s t : Bool) → lt x y ≡ s → is_eq (key_cmp x y) ≡ t → Ascending lt (insert_key x ys) → Ascending lt (cond s (x ∷ y ∷ ys) (cond t (y ∷ ys) (y ∷ insert_key x ys)))
    go true t e f ih = ((e, all_among (λ z. lt x z ≡ true) ys (above e)), h)
    go false true e f ih = h
    go false false e f ih = (all_among (λ z. lt y z ≡ true) (insert_key x ys) (λ z m. after e f z (among_insert x z ys m)), ih)

pub sorted_ascends : (xs : List (List ℕ)) → Ascending lt (sorted_keys xs)
sorted_ascends [] = tt
sorted_ascends (x ∷ xs) = insert_ascends x (sorted_keys xs) (sorted_ascends xs)

-- what a written end is: the lower bound, the upper one, or an end strictly inside
pub data IsEnd (es : List Entry) (o : IterOptions) (w : List ℕ) : Type 0 where
  lower : o.lower ≡ Some w → IsEnd es o w
  upper : o.upper ≡ Some w → IsEnd es o w
  inner : above o.lower w ≡ true → below o.upper w ≡ true → Among w (flat_map (λ e. op_ends e.op) es) → IsEnd es o w

among_bound : (b : Option (List ℕ)) (w : List ℕ) → Among w (option_to_list b) → b ≡ Some w
among_bound None w m = absurd m
among_bound (Some l) w (inl e) = ap Some (sym e)
among_bound (Some l) w (inr m) = absurd m

pub end_is : (es : List Entry) (o : IterOptions) (w : List ℕ) → Among w (written_ends es o) → IsEnd es o w
end_is es o w m = go (among_append (option_to_list o.lower ++ option_to_list o.upper) inside w (sorted_among (option_to_list o.lower ++ option_to_list o.upper ++ inside) w m))
  where
    ends : List (List ℕ)
    ends = flat_map (λ e. op_ends e.op) es

    inside : List (List ℕ)
    inside = filter (λ x. above o.lower x && below o.upper x) ends

    bound : Among w (option_to_list o.lower) ⊎ Among w (option_to_list o.upper) → IsEnd es o w
    bound (inl m) = lower (among_bound o.lower w m)
    bound (inr m) = upper (among_bound o.upper w m)

    strict : Among w ends × ((above o.lower w && below o.upper w) ≡ true) → IsEnd es o w
    strict m = let k = and_parts (above o.lower w) (below o.upper w) m.1 in inner k.0 k.1 m.0

    go : Among w (option_to_list o.lower ++ option_to_list o.upper) ⊎ Among w inside → IsEnd es o w
    go (inl m) = bound (among_append (option_to_list o.lower) (option_to_list o.upper) w m)
    go (inr m) = strict (filter_among (λ x. above o.lower x && below o.upper x) ends w m)

pub is_end : (es : List Entry) (o : IterOptions) (w : List ℕ) → IsEnd es o w → Like w (written_ends es o)
is_end es o w h = among_sorted (option_to_list o.lower ++ option_to_list o.upper ++ inside) w (go h)
  where
    ends : List (List ℕ)
    ends = flat_map (λ e. op_ends e.op) es

    inside : List (List ℕ)
    inside = filter (λ x. above o.lower x && below o.upper x) ends

    go : IsEnd es o w → Among w (option_to_list o.lower ++ option_to_list o.upper ++ inside)
    go (lower e) = among_left (option_to_list o.lower ++ option_to_list o.upper) inside w (among_left (option_to_list o.lower) (option_to_list o.upper) w (rw e (inl refl)))
    go (upper e) = among_left (option_to_list o.lower ++ option_to_list o.upper) inside w (among_right (option_to_list o.lower) (option_to_list o.upper) w (rw e (inl refl)))
    go (inner h k m) = among_right (option_to_list o.lower ++ option_to_list o.upper) inside w (among_filter (λ x. above o.lower x && below o.upper x) ends w m (rw (h, k) refl))

-- of some keys, the last not above y, or none
pub data Floor (y : List ℕ) (l : List (List ℕ)) : Type 0 where
  none : ((w : List ℕ) → Among w l → lt y w ≡ true) → Floor y l
  some : (b : List ℕ) → Among b l → lt y b ≡ false → ((w : List ℕ) → Among w l → lt y w ≡ false → lt b w ≡ false) → Floor y l

pub floor : (y : List ℕ) (l : List (List ℕ)) → Floor y l
floor y [] = none (λ w m. absurd m)
floor y (x ∷ xs) = go (lt y x) refl (floor y xs)
  where
    go : (s : Bool) → lt y x ≡ s → Floor y xs → Floor y (x ∷ xs)
    go true e (none f) = none (λ w m. elim m [ inl k ↦ rw k e | inr k ↦ f w k ])
    go true e (some b m h f) = some b (inr m) h (λ w n k. elim n [ inl g ↦ (let p : lt y w ≡ true = rw g e in cc) | inr g ↦ f w g k ])
    go false e (none f) = some x (inl refl) e (λ w n k. elim n [ inl g ↦ rw g (lt_itself key_total x) | inr g ↦ (let p : lt y w ≡ true = f w g in cc) ])
    go false e (some b m h f) = either (lt b x) refl
      where
        either : (t : Bool) → lt b x ≡ t → Floor y (x ∷ xs)
        either true p = some x (inl refl) e (λ w n k. elim n [ inl g ↦ rw g (lt_itself key_total x) | inr g ↦ ge_trans key_total x b w (lt_back key_total b x p) (f w g k) ])
        either false p = some b (inr m) h (λ w n k. elim n [ inl g ↦ rw g p | inr g ↦ f w g k ])

pub ends_ascend : (es : List Entry) (o : IterOptions) → Ascending lt (written_ends es o)
ends_ascend es o = sorted_ascends (option_to_list o.lower ++ option_to_list o.upper ++ filter (λ x. above o.lower x && below o.upper x) (flat_map (λ e. op_ends e.op) es))

-- of some keys, the greatest, or that there is none
pub data Greatest (l : List (List ℕ)) : Type 0 where
  empty : ((w : List ℕ) → Among w l → ⊥) → Greatest l
  top : (b : List ℕ) → Among b l → ((w : List ℕ) → Among w l → lt b w ≡ false) → Greatest l

pub greatest : (l : List (List ℕ)) → Greatest l
greatest [] = empty (λ w m. m)
greatest (x ∷ xs) = go (greatest xs)
  where
    go : Greatest xs → Greatest (x ∷ xs)
    go (empty f) = top x (inl refl) (λ w n. elim n [ inl g ↦ rw g (lt_itself key_total x) | inr g ↦ absurd (f w g) ])
    go (top b m f) = either (lt b x) refl
      where
        either : (t : Bool) → lt b x ≡ t → Greatest (x ∷ xs)
        either true p = top x (inl refl) (λ w n. elim n [ inl g ↦ rw g (lt_itself key_total x) | inr g ↦ ge_trans key_total x b w (lt_back key_total b x p) (f w g) ])
        either false p = top b (inr m) (λ w n. elim n [ inl g ↦ rw g p | inr g ↦ f w g ])
