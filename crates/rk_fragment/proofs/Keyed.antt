-- Where the keys of operations are keys, so are the ends of the spans.
use Rattle.std.proofs.Common.{◌≡◌, ℕ, Bool, true, false, cond, List, [], ◌∷◌, refl}
use Rattle.std.specs.Prelude.{◌&&◌}
use Rattle.std.specs.List.{list_all, cons_option, flat_map}
use Rattle.std.specs.Ordering.{is_lt, is_eq}
use Rattle.std.proofs.lemmas.Bool.{and_parts}
use Rattle.std.proofs.lemmas.List.Folds.{list_all-append}
use Rattle.rk_key.specs.Keys.{key_cmp}
use Rattle.rk_key.specs.KeyTests.{is_key}
use Rattle.rk_model.specs.Items.{has_keys, are_keyed}
use Rattle.rk_model.specs.Sources.{op_key}
use Rattle.rk_model.specs.Spans.{op_ends, insert_key, sorted_keys}
use Rattle.rk_model.specs.declared.op.Entry.{Entry}
use Rattle.rk_model.specs.declared.span.RangeKey.{RangeKey}
use Rattle.rk_fragment.specs.Fragments.{keys_at, written, span_with, spans_between, fragments}

insert_keyed : (x : List ℕ) (ks : List (List ℕ)) → is_key x ≡ true → list_all is_key ks ≡ true → list_all is_key (insert_key x ks) ≡ true
insert_keyed x [] k h = rw k refl
insert_keyed x (y ∷ ys) k h = go (is_lt (key_cmp x y)) (is_eq (key_cmp x y)) (insert_keyed x ys k (and_parts (is_key y) (list_all is_key ys) h).1)
  where
    go : (s t : Bool) → list_all is_key (insert_key x ys) ≡ true → list_all is_key (cond s (x ∷ y ∷ ys) (cond t (y ∷ ys) (y ∷ insert_key x ys))) ≡ true
    go true t ih = rw k h
    go false true ih = h
    go false false ih = rw ((and_parts (is_key y) (list_all is_key ys) h).0, ih) refl

sorted_keyed : (ks : List (List ℕ)) → list_all is_key ks ≡ true → list_all is_key (sorted_keys ks) ≡ true
sorted_keyed [] h = refl
sorted_keyed (k ∷ ks) h = let parts = and_parts (is_key k) (list_all is_key ks) h in insert_keyed k (sorted_keys ks) parts.0 (sorted_keyed ks parts.1)

ends_keyed : (es : List Entry) → are_keyed es ≡ true → list_all is_key (flat_map (λ e. op_ends e.op) es) ≡ true
ends_keyed [] h = refl
ends_keyed (e ∷ es) h =
    let parts = and_parts (has_keys e.op) (are_keyed es) h in
    let ends = and_parts (is_key (op_key e.op)) (list_all is_key (op_ends e.op)) parts.0 in
    rw (list_all-append is_key (op_ends e.op) (flat_map (λ e. op_ends e.op) es), ends.1, ends_keyed es parts.1) refl

between_keyed : (keys : List ℕ → List RangeKey) (ends : List (List ℕ)) → list_all is_key ends ≡ true → list_all (λ s. is_key s.start && is_key s.end) (spans_between keys ends) ≡ true
between_keyed keys [] h = refl
between_keyed keys (a ∷ []) h = refl
between_keyed keys (a ∷ b ∷ bs) h = go (keys a) (between_keyed keys (b ∷ bs) (and_parts (is_key a) _ h).1)
  where
    go : (some : List RangeKey) → list_all (λ s. is_key s.start && is_key s.end) (spans_between keys (b ∷ bs)) ≡ true → list_all (λ s. is_key s.start && is_key s.end) (cons_option (span_with a b some) (spans_between keys (b ∷ bs))) ≡ true
    go [] ih = ih
    go (k ∷ ks) ih = let parts = and_parts (is_key a) _ h in rw (parts.0, (and_parts (is_key b) _ parts.1).0, ih) refl

pub fragments_keyed : (es : List Entry) → are_keyed es ≡ true → list_all (λ s. is_key s.start && is_key s.end) (fragments es) ≡ true
fragments_keyed es h = between_keyed (keys_at es) (written es) (sorted_keyed (flat_map (λ e. op_ends e.op) es) (ends_keyed es h))
