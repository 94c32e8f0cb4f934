-- A key and its prefix.
use Rattle.std.proofs.Common.{◌≡◌, ℕ, Bool, true, false, not, ◌&&◌, cond, List, [], ◌∷◌, filter, Option, Some, None, refl, ap, sym, ◌∙◌, inl, inr, flat_map, nat_lt}
use Rattle.std.specs.Ordering.{is_lt}
use Rattle.std.specs.declared.cmp.Ordering.TheVariants.{Equal}
use Rattle.std.specs.Option.{option_and_then}
use Rattle.std.specs.List.{All}
use Rattle.std.proofs.lemmas.List.Elements.{recursion_from_All}
use Rattle.rk_key.specs.Keys.{prefix, suffix, key_cmp}
use Rattle.rk_model.specs.Operations.{within, is_over}
use Rattle.rk_model.specs.Covers.{over, is_point, cover, standing, ends_set, by_suffix, newest, put_value, cover_of}
use Rattle.rk_model.specs.Spans.{op_ends}
use Rattle.rk_model.specs.declared.op.Op.{Op}
use Rattle.rk_model.specs.declared.op.Op.TheVariants.{Put, Del, RangeSet, RangeUnset, RangeDel}
use Rattle.rk_model.specs.declared.op.Entry.{Entry}
use Rattle.rk_laws.specs.Prefixes.{PlainEnds, spans_over, CoverOfSpans, CoverOfPrefix, SpansOverPrefix, PointOfItsOwn}
use Rattle.rk_model.specs.Lists.{Among}
use Rattle.rk_model.proofs.Members.{among_all, all_among, among_left, among_right, flat_map_among, filter_among}
use Rattle.rk_laws.proofs.Ends.{lt}
use Rattle.rk_model.proofs.Lists.{filter_none, any_filter, filter_map_filter, filter_map_same, filter_twice, filter_swap}
use Rattle.rk_laws.proofs.Order.{lt_plain_prefix, key_total}

-- entries of spans
abbrev pub is_span : Entry → Bool
is_span e = not (is_point e.op)

points_end_nothing : (n : ℕ) (s : List ℕ) (f : Entry) → is_span f ≡ false → (nat_lt n f.seq && ends_set s f.op) ≡ false
points_end_nothing n s f h = go f.op h
  where
    none : (b : Bool) → (b && false) ≡ false
    none true = refl
    none false = refl

    go : (op : Op) → not (is_point op) ≡ false → (nat_lt n f.seq && ends_set s op) ≡ false
    go (Put key value) k = none (nat_lt n f.seq)
    go (Del key) k = none (nat_lt n f.seq)
    go (RangeSet start end suffix value) k = cc
    go (RangeUnset start end suffix) k = cc
    go (RangeDel start end) k = cc

standing_of_spans : (here : List Entry) (n : ℕ) (op : Op) → standing here n op ≡ standing (filter is_span here) n op
standing_of_spans here n (Put key value) = refl
standing_of_spans here n (Del key) = refl
standing_of_spans here n (RangeSet start end suffix value) =
    ap (λ b. cond b None (Some (record { suffix = suffix; value = value }))) (sym (any_filter (λ f. nat_lt n f.seq && ends_set suffix f.op) is_span (points_end_nothing n suffix) here))
standing_of_spans here n (RangeUnset start end suffix) = refl
standing_of_spans here n (RangeDel start end) = refl

points_put_nothing : (here : List Entry) (e : Entry) → is_span e ≡ false → standing here e.seq e.op ≡ None
points_put_nothing here e h = go e.op h
  where
    go : (op : Op) → not (is_point op) ≡ false → standing here e.seq op ≡ None
    go (Put key value) k = refl
    go (Del key) k = refl
    go (RangeSet start end suffix value) k = cc
    go (RangeUnset start end suffix) k = cc
    go (RangeDel start end) k = cc

pub cover_of-spans : (here : List Entry) → cover_of here ≡ cover_of (filter is_span here)
cover_of-spans here = ap by_suffix (
    filter_map_same (λ e. standing here e.seq e.op) (λ e. standing (filter is_span here) e.seq e.op) (λ e. standing_of_spans here e.seq e.op) here
    ∙ sym (filter_map_filter (λ e. standing (filter is_span here) e.seq e.op) is_span (points_put_nothing (filter is_span here)) here))

-- the entries of one kind over a key are all over it
over_again : (x : List ℕ) (kind : Entry → Bool) (es : List Entry) → over x (filter kind (over x es)) ≡ filter kind (over x es)
over_again x kind es = filter_swap (λ e. is_over x e.op) kind (over x es) ∙ ap (filter kind) (filter_twice (λ e. is_over x e.op) es)

pub cover_of_spans : CoverOfSpans
cover_of_spans es x = cover_of-spans (over x es) ∙ ap cover_of (sym (over_again x is_span es))

-- the value that the newest of a list of points gives
abbrev pub value_of : List Entry → Option (List ℕ)
value_of points = option_and_then (λ e. put_value e.op) (newest points)

pub point_of_its_own : PointOfItsOwn
point_of_its_own es x = ap value_of (sym (ap (filter (λ e. is_point e.op)) (over_again x (λ e. is_point e.op) es) ∙ filter_twice (λ e. is_point e.op) (over x es)))

abbrev pub all_ends : List Entry → List (List ℕ)
all_ends es = flat_map (λ e. op_ends e.op) es

within_agree : (y z start end : List ℕ) → ((k : List ℕ) → Among k (start ∷ end ∷ []) → lt y k ≡ lt z k) → within start end y ≡ within start end z
within_agree y z start end h = rw (h start (inl refl), h end (inr (inl refl))) refl

over_agree : (y z : List ℕ) (op : Op) → ((k : List ℕ) → Among k (op_ends op) → lt y k ≡ lt z k) → not (is_point op) ≡ true → is_over y op ≡ is_over z op
over_agree y z (Put key value) h k = cc
over_agree y z (Del key) h k = cc
over_agree y z (RangeSet start end s value) h k = within_agree y z start end h
over_agree y z (RangeUnset start end s) h k = within_agree y z start end h
over_agree y z (RangeDel start end) h k = within_agree y z start end h

-- two keys that no start or end tells apart have the same spans over them
pub spans_agree : (y z : List ℕ) (es : List Entry) → ((k : List ℕ) → Among k (all_ends es) → lt y k ≡ lt z k) → spans_over y es ≡ spans_over z es
spans_agree y z [] h = refl
spans_agree y z (e ∷ es) h =
    step (is_over y e.op) (is_over z e.op) (is_span e) (over_agree y z e.op (λ k m. h k (among_left (op_ends e.op) (all_ends es) k m))) refl
    ∙ shift (is_over z e.op) (is_span e) refl (spans_agree y z es (λ k m. h k (among_right (op_ends e.op) (all_ends es) k m)))
  where
    step : (a b s : Bool) → (s ≡ true → a ≡ b) → is_span e ≡ s → filter is_span (cond a (e ∷ over y es) (over y es)) ≡ filter is_span (cond b (e ∷ over y es) (over y es))
    step a b true same h = rw (same refl) refl
    step true true false same h = refl
    step true false false same h = rw h refl
    step false true false same h = rw h refl
    step false false false same h = refl

    shift : (b s : Bool) → is_span e ≡ s → spans_over y es ≡ spans_over z es → filter is_span (cond b (e ∷ over y es) (over y es)) ≡ filter is_span (cond b (e ∷ over z es) (over z es))
    shift true true h k = rw h (ap (λ l. e ∷ l) k)
    shift true false h k = rw h k
    shift false s h k = k

pub cover_agrees : (y z : List ℕ) (es : List Entry) → ((k : List ℕ) → Among k (all_ends es) → lt y k ≡ lt z k) → cover es y ≡ cover es z
cover_agrees y z es h = cover_of-spans (over y es) ∙ ap cover_of (spans_agree y z es h) ∙ sym (cover_of-spans (over z es))

-- keys that are ordered alike have one cover
pub cover_alike : (y z : List ℕ) (es : List Entry) → key_cmp y z ≡ Equal → cover es y ≡ cover es z
cover_alike y z es h = cover_agrees y z es (λ k m. ap is_lt (key_total.congr y z k h))

-- ends without a suffix don't tell a key from its prefix
plain_end : (es : List Entry) (k : List ℕ) → PlainEnds es → Among k (all_ends es) → suffix k ≡ []
plain_end es k plain m =
    let (e, n) = flat_map_among (λ e. op_ends e.op) es k m in
    let P : Entry → Type 0 = λ f. All (λ k. suffix k ≡ []) (op_ends f.op) in
    let all : P e = among_all P es e (recursion_from_All P es plain) n.0 in
    among_all (λ k. suffix k ≡ []) (op_ends e.op) k (recursion_from_All (λ k. suffix k ≡ []) (op_ends e.op) all) n.1

pub spans_over_prefix : SpansOverPrefix
spans_over_prefix es x plain = spans_agree x (prefix x) es (λ k m. lt_plain_prefix x k (plain_end es k plain m))

pub cover_of_prefix : CoverOfPrefix
cover_of_prefix es x plain = cover_agrees x (prefix x) es (λ k m. lt_plain_prefix x k (plain_end es k plain m))

-- where no span is over a key, its cover is empty
pub cover_none : (es : List Entry) (x : List ℕ) → ((e : Entry) → Among e es → is_span e ≡ true → is_over x e.op ≡ false) → cover es x ≡ []
cover_none es x h = cover_of-spans (over x es) ∙ ap cover_of (filter_none is_span (over x es) (all_among (λ e. is_span e ≡ false) (over x es) point_alone))
  where
    point_alone : (e : Entry) → Among e (over x es) → is_span e ≡ false
    point_alone e m = go (is_span e) refl (filter_among (λ e. is_over x e.op) es e m)
      where
        go : (b : Bool) → is_span e ≡ b → Among e es × (is_over x e.op ≡ true) → b ≡ false
        go true k n = let f : is_over x e.op ≡ false = h e n.0 k in (let g : is_over x e.op ≡ true = n.1 in cc)
        go false k n = refl
