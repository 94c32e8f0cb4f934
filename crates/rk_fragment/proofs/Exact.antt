-- Over each key are exactly the range keys of the entries over it.
use Rattle.std.proofs.Common.{◌≡◌, ℕ, Bool, true, false, cond, List, [], ◌∷◌, ◌++◌, refl, ap, sym, ◌∙◌, inl, inr, drop}
use Rattle.std.specs.Prelude.{filter}
use Rattle.std.specs.List.{filter_map, flat_map, zip, cons_option}
use Rattle.std.proofs.lemmas.List.{append-nil}
use Rattle.rk_model.specs.Operations.{within}
use Rattle.rk_model.specs.Spans.{op_ends, KeysRise}
use Rattle.rk_model.specs.declared.op.Entry.{Entry}
use Rattle.rk_model.specs.declared.span.RangeKey.{RangeKey}
use Rattle.rk_model.specs.declared.span.Span.{Span}
use Rattle.rk_fragment.specs.Fragments.{keys_at, written, span_with, fragments, keys_over}
use Rattle.rk_fragment.proofs.Order.{lt, lt_itself, lt_trans, ge_trans, alike}
use Rattle.rk_fragment.proofs.Rising.{IsIn, EndsIn, ends_in, sorted_rises, below_all}
use Rattle.rk_fragment.proofs.Over.{same_keys, no_keys_below, no_keys_above}

-- the spans between neighbours of some ends
abbrev pub spans_along : List Entry → List (List ℕ) → List Span
spans_along es ends = filter_map (λ ab. span_with ab.0 ab.1 (keys_at es ab.0)) (zip ends (drop 1 ends))

keys_over_one : (a b : List ℕ) (keys : List RangeKey) (spans : List Span) (x : List ℕ) → keys_over (cons_option (span_with a b keys) spans) x ≡ cond (within a b x) keys [] ++ keys_over spans x
keys_over_one a b [] spans x = elim (within a b x) as (λ w. keys_over spans x ≡ cond w [] [] ++ keys_over spans x) [ true ↦ refl | false ↦ refl ]
keys_over_one a b (k ∷ ks) spans x =
    let span : Span = record { start = a; end = b; keys = k ∷ ks } in
    let rest = filter (λ s. within s.start s.end x) spans in
    elim (within a b x) as (λ w. flat_map (λ s. s.keys) (cond w (span ∷ rest) rest) ≡ cond w (k ∷ ks) [] ++ keys_over spans x) [ true ↦ refl | false ↦ refl ]

below_spans : (es : List Entry) (x b : List ℕ) (bs : List (List ℕ)) → KeysRise (b ∷ bs) → lt x b ≡ true → keys_over (spans_along es (b ∷ bs)) x ≡ []
below_spans es x b [] h l = refl
below_spans es x b (c ∷ cs) h l =
    keys_over_one b c (keys_at es b) (spans_along es (c ∷ cs)) x
    ∙ rw l (below_spans es x c cs h.1 (lt_trans x b c l h.0.0))

-- the key's range keys among those from an end on that is not above it, where ends above that one are among the rest
from_end : (es : List Entry) (all : List (List ℕ)) → EndsIn all es → (x a : List ℕ) (rest : List (List ℕ)) → lt x a ≡ false → KeysRise (a ∷ rest)
    → ((k : List ℕ) → IsIn k all → lt a k ≡ true → IsIn k rest)
    → keys_over (spans_along es (a ∷ rest)) x ≡ keys_at es x
from_end es all ends x a [] g h after = sym (no_keys_above x all es ends past)
  where
    past : (k : List ℕ) → IsIn k all → lt x k ≡ false
    past k m = go (lt a k) refl
      where
        go : (b : Bool) → lt a k ≡ b → lt x k ≡ false
        go true e = absurd (after k m e)
        go false e = ge_trans x a k g e
from_end es all ends x a (b ∷ bs) g h after =
    keys_over_one a b (keys_at es a) (spans_along es (b ∷ bs)) x ∙ rw g (go (lt x b) refl (λ l. from_end es all ends x b bs l h.1 later))
  where
    same : lt x b ≡ true → (k : List ℕ) → IsIn k all → lt a k ≡ lt x k
    same l k m = pick (lt a k) refl
      where
        pick : (t : Bool) → lt a k ≡ t → t ≡ lt x k
        pick true e = sym (below_all x k b bs h.1 (after k m e) l)
        pick false e = sym (ge_trans x a k g e)

    later : (k : List ℕ) → IsIn k all → lt b k ≡ true → IsIn k bs
    later k m l = pick (after k m (lt_trans a b k h.0.0 l))
      where
        pick : IsIn k (b ∷ bs) → IsIn k bs
        pick (inl e) = let f : lt b k ≡ false = alike b k b e ∙ lt_itself b in cc
        pick (inr n) = n

    go : (t : Bool) → lt x b ≡ t → (lt x b ≡ false → keys_over (spans_along es (b ∷ bs)) x ≡ keys_at es x) → cond t (keys_at es a) [] ++ keys_over (spans_along es (b ∷ bs)) x ≡ keys_at es x
    go true l rest = ap (λ r. keys_at es a ++ r) (below_spans es x b bs h.1 l) ∙ append-nil (keys_at es a) ∙ same_keys a all x es ends (same l)
    go false l rest = rest l

pub each_key : (es : List Entry) (x : List ℕ) → keys_over (fragments es) x ≡ keys_at es x
each_key es x = go (written es) (ends_in es) (sorted_rises (flat_map (λ e. op_ends e.op) es))
  where
    go : (all : List (List ℕ)) → EndsIn all es → KeysRise all → keys_over (spans_along es all) x ≡ keys_at es x
    go [] ends h = sym (no_keys_below x [] es ends (λ k m. absurd m))
    go (a ∷ rest) ends h = pick (lt x a) refl
      where
        after : (k : List ℕ) → IsIn k (a ∷ rest) → lt a k ≡ true → IsIn k rest
        after k (inl e) l = let f : lt a k ≡ false = alike a k a e ∙ lt_itself a in cc
        after k (inr m) l = m

        pick : (t : Bool) → lt x a ≡ t → keys_over (spans_along es (a ∷ rest)) x ≡ keys_at es x
        pick true l = below_spans es x a rest h l ∙ sym (no_keys_below x (a ∷ rest) es ends (λ k m. below_all x k a rest h m l))
        pick false l = from_end es (a ∷ rest) ends x a rest l h after
