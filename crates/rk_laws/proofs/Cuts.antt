-- Covers change at written ends alone.
use Rattle.std.proofs.Common.{◌≡◌, ℕ, Bool, true, false, not, ◌&&◌, List, [], Option, Some, None, refl, ap, sym, ◌∙◌, inl, inr}
use Rattle.std.specs.Ordering.{is_lt}
use Rattle.std.proofs.lemmas.Bool.{and_parts, not-true}
use Rattle.std.proofs.lemmas.Cmp.{alike_right}
use Rattle.rk_model.specs.Operations.{within, is_over}
use Rattle.rk_model.specs.Covers.{is_point, cover}
use Rattle.rk_model.specs.Spans.{at_or_above, above, below, in_bounds, op_ends, written_ends}
use Rattle.rk_model.specs.declared.op.Op.{Op}
use Rattle.rk_model.specs.declared.op.Op.TheVariants.{Put, Del, RangeSet, RangeUnset, RangeDel}
use Rattle.rk_model.specs.declared.op.Entry.{Entry}
use Rattle.rk_model.specs.declared.options.IterOptions.{IterOptions}
use Rattle.rk_model.specs.Lists.{Among}
use Rattle.rk_model.proofs.Members.{among_flat_map}
use Rattle.rk_laws.proofs.Order.{key_total, lt_itself, lt_back, lt_trans, ge_trans, ge_lt}
use Rattle.rk_model.proofs.SortedKeys.{Like}
use Rattle.rk_laws.proofs.Ends.{lt, IsEnd, lower, upper, inner, is_end, end_is}
use Rattle.rk_laws.proofs.Plain.{all_ends, is_span, cover_agrees, cover_none}

-- between a key at or above the lower bound and one above it
pub above_from : (b : Option (List ℕ)) (y k : List ℕ) → at_or_above b y ≡ true → lt y k ≡ true → above b k ≡ true
above_from None y k h g = refl
above_from (Some l) y k h g = ge_lt key_total l y k (not-true (lt y l) h) g

pub at_or_above_from : (b : Option (List ℕ)) (y k : List ℕ) → at_or_above b y ≡ true → lt k y ≡ false → at_or_above b k ≡ true
at_or_above_from None y k h g = refl
at_or_above_from (Some l) y k h g = rw (ge_trans key_total k y l g (not-true (lt y l) h)) refl

pub at_or_above_of_above : (b : Option (List ℕ)) (k : List ℕ) → above b k ≡ true → at_or_above b k ≡ true
at_or_above_of_above None k h = refl
at_or_above_of_above (Some l) k h = rw (lt_back key_total l k h) refl

-- at or below a key that is below the upper bound
pub below_from : (b : Option (List ℕ)) (y k : List ℕ) → below b y ≡ true → lt y k ≡ false → below b k ≡ true
below_from None y k h g = refl
below_from (Some u) y k h g = ge_lt key_total k y u g h

-- a start or end just above y and not above z is a written end
cut_between : (es : List Entry) (o : IterOptions) (y z k : List ℕ) → at_or_above o.lower y ≡ true → below o.upper z ≡ true → Among k (all_ends es) → lt y k ≡ true → lt z k ≡ false → Like k (written_ends es o)
cut_between es o y z k low high m h g = is_end es o k (inner (above_from o.lower y k low h) (below_from o.upper z k high g) m)

-- from y up to z there is no written end
abbrev pub Uncut : List Entry → IterOptions → List ℕ → List ℕ → Type 0
Uncut es o y z = (w : List ℕ) → Among w (written_ends es o) → lt y w ≡ true → lt z w ≡ true

pub cover_uncut : (es : List Entry) (o : IterOptions) (y z : List ℕ) → at_or_above o.lower y ≡ true → below o.upper z ≡ true → lt z y ≡ false → Uncut es o y z → cover es y ≡ cover es z
cover_uncut es o y z low high up uncut = cover_agrees y z es same
  where
    same : (k : List ℕ) → Among k (all_ends es) → lt y k ≡ lt z k
    same k m = go (lt y k) (lt z k) refl refl
      where
        go : (s t : Bool) → lt y k ≡ s → lt z k ≡ t → s ≡ t
        go true true h g = refl
        go false false h g = refl
        go false true h g = let p : lt z k ≡ false = ge_trans key_total z y k up h in cc
        go true false h g =
            let (w, n) = cut_between es o y z k low high m h g in
            let p : lt y k ≡ lt y w = ap is_lt (alike_right key_total k w y n.1) in
            let q : lt z k ≡ lt z w = ap is_lt (alike_right key_total k w z n.1) in
            let r : lt z w ≡ true = uncut w n.0 (sym p ∙ h) in
            cc

-- the bounds are not above what lies inside, and a written end at or below a key within the bounds is within them
pub end_at_or_above : (es : List Entry) (o : IterOptions) (x w : List ℕ) → in_bounds o x ≡ true → Among w (written_ends es o) → at_or_above o.lower w ≡ true
end_at_or_above es o x w inside m = go (end_is es o w m) (and_parts (at_or_above o.lower x) (below o.upper x) inside)
  where
    go : IsEnd es o w → (at_or_above o.lower x ≡ true) × (below o.upper x ≡ true) → at_or_above o.lower w ≡ true
    go (lower e) b = rw (e, lt_itself key_total w) refl
    go (upper e) b = let p : lt x w ≡ true = rw e at b.1 in at_or_above_from o.lower x w b.0 (lt_back key_total x w p)
    go (inner h k n) b = at_or_above_of_above o.lower w h

-- the cover of a key within the bounds is that of the last written end not above it
pub cover_at_floor : (es : List Entry) (o : IterOptions) (x b : List ℕ) → in_bounds o x ≡ true → Among b (written_ends es o) → lt x b ≡ false → ((w : List ℕ) → Among w (written_ends es o) → lt x w ≡ false → lt b w ≡ false) → cover es b ≡ cover es x
cover_at_floor es o x b inside m h last =
    cover_uncut es o b x (end_at_or_above es o x b inside m) (and_parts (at_or_above o.lower x) (below o.upper x) inside).1 h uncut
  where
    uncut : Uncut es o b x
    uncut w n k = go (lt x w) refl
      where
        go : (s : Bool) → lt x w ≡ s → s ≡ true
        go true e = refl
        go false e = let p : lt b w ≡ false = last w n e in cc

-- below all written ends there is no cover
pub cover_below_ends : (es : List Entry) (o : IterOptions) (x : List ℕ) → in_bounds o x ≡ true → ((w : List ℕ) → Among w (written_ends es o) → lt x w ≡ true) → cover es x ≡ []
cover_below_ends es o x inside under = cover_none es x nothing
  where
    bounds : (at_or_above o.lower x ≡ true) × (below o.upper x ≡ true)
    bounds = and_parts (at_or_above o.lower x) (below o.upper x) inside

    not_under : (k : List ℕ) → Like k (written_ends es o) → lt x k ≡ true
    not_under k like = let (w, n) = like in ap is_lt (alike_right key_total k w x n.1) ∙ under w n.0

    no_lower : (b : Option (List ℕ)) → o.lower ≡ b → (k : List ℕ) → above b k ≡ true
    no_lower None e k = refl
    no_lower (Some l) e k =
        let p : lt x l ≡ true = not_under l (is_end es o l (lower e)) in
        let h : at_or_above (Some l) x ≡ true = rw e at bounds.0 in
        let q : lt x l ≡ false = not-true (lt x l) h in
        cc

    outside : (start end : List ℕ) → Among start (all_ends es) → within start end x ≡ false
    outside start end m = go (lt x start) refl
      where
        go : (s : Bool) → lt x start ≡ s → (not s && lt x end) ≡ false
        go true e = refl
        go false e =
            let p : lt x start ≡ true = not_under start (is_end es o start (inner (no_lower o.lower refl start) (below_from o.upper x start bounds.1 e) m)) in
            cc

    nothing : (e : Entry) → Among e es → is_span e ≡ true → is_over x e.op ≡ false
    nothing e m s = go e.op s (λ k n. among_flat_map (λ f. op_ends f.op) es e k m n)
      where
        go : (op : Op) → not (is_point op) ≡ true → ((k : List ℕ) → Among k (op_ends op) → Among k (all_ends es)) → is_over x op ≡ false
        go (Put key value) s n = cc
        go (Del key) s n = cc
        go (RangeSet start end suffix value) s n = outside start end (n start (inl refl))
        go (RangeUnset start end suffix) s n = outside start end (n start (inl refl))
        go (RangeDel start end) s n = outside start end (n start (inl refl))

-- a key below an end that is past x is below the upper bound
pub end_at_or_below : (es : List Entry) (o : IterOptions) (x w y : List ℕ) → in_bounds o x ≡ true → Among w (written_ends es o) → lt x w ≡ true → lt y w ≡ true → below o.upper y ≡ true
end_at_or_below es o x w y inside m past under = go (end_is es o w m) (and_parts (at_or_above o.lower x) (below o.upper x) inside)
  where
    below_inner : (b : Option (List ℕ)) → below b w ≡ true → below b y ≡ true
    below_inner None h = refl
    below_inner (Some u) h = lt_trans key_total y w u under h

    go : IsEnd es o w → (at_or_above o.lower x ≡ true) × (below o.upper x ≡ true) → below o.upper y ≡ true
    go (lower e) b =
        let p : not (lt x w) ≡ true = rw e at b.0 in
        let q : lt x w ≡ false = not-true (lt x w) p in
        cc
    go (upper e) b = rw e under
    go (inner h k n) b = below_inner o.upper k

-- at or above all written ends, where no bound cuts, there is no cover
pub cover_above_ends : (es : List Entry) (o : IterOptions) (x : List ℕ) → at_or_above o.lower x ≡ true → o.upper ≡ None → ((w : List ℕ) → Among w (written_ends es o) → lt x w ≡ false) → cover es x ≡ []
cover_above_ends es o x low free over_all = cover_none es x nothing
  where
    not_over : (k : List ℕ) → Like k (written_ends es o) → lt x k ≡ false
    not_over k like = let (w, n) = like in ap is_lt (alike_right key_total k w x n.1) ∙ over_all w n.0

    outside : (start end : List ℕ) → Among end (all_ends es) → within start end x ≡ false
    outside start end m = go (lt x end) refl
      where
        none_under : (b : Bool) → (b && false) ≡ false
        none_under true = refl
        none_under false = refl

        go : (s : Bool) → lt x end ≡ s → (not (lt x start) && s) ≡ false
        go false e = none_under (not (lt x start))
        go true e =
            let q : below o.upper end ≡ true = rw free refl in
            let p : lt x end ≡ false = not_over end (is_end es o end (inner (above_from o.lower x end low e) q m)) in
            cc

    nothing : (e : Entry) → Among e es → is_span e ≡ true → is_over x e.op ≡ false
    nothing e m s = go e.op s (λ k n. among_flat_map (λ f. op_ends f.op) es e k m n)
      where
        go : (op : Op) → not (is_point op) ≡ true → ((k : List ℕ) → Among k (op_ends op) → Among k (all_ends es)) → is_over x op ≡ false
        go (Put key value) s n = cc
        go (Del key) s n = cc
        go (RangeSet start end suffix value) s n = outside start end (n end (inr (inl refl)))
        go (RangeUnset start end suffix) s n = outside start end (n end (inr (inl refl)))
        go (RangeDel start end) s n = outside start end (n end (inr (inl refl)))
