-- The range keys of the entries over a key.
use Rattle.std.proofs.Common.{◌≡◌, ℕ, Bool, true, false, cond, List, [], ◌∷◌, Option, None, refl, ap, sym, ◌∙◌}
use Rattle.std.specs.Prelude.{◌&&◌, not}
use Rattle.std.specs.List.{AllByRecursion, filter_map, cons_option}
use Rattle.rk_model.specs.Operations.{within, is_over}
use Rattle.rk_model.specs.Covers.{over}
use Rattle.rk_model.specs.Spans.{op_ends}
use Rattle.rk_model.specs.declared.op.Op.{Op}
use Rattle.rk_model.specs.declared.op.Op.TheVariants.{Put, Del, RangeSet, RangeUnset, RangeDel}
use Rattle.rk_model.specs.declared.op.Entry.{Entry}
use Rattle.rk_model.specs.declared.span.RangeKey.{RangeKey}
use Rattle.rk_fragment.specs.Fragments.{range_key, newest_first, keys_at}
use Rattle.rk_fragment.specs.Intervals.{key_over}
use Rattle.rk_fragment.proofs.Order.{lt}
use Rattle.rk_model.proofs.Lists.{all_weaker}
use Rattle.rk_fragment.proofs.Rising.{IsIn, EndsIn}

pub over_keys : (x : List ℕ) (es : List Entry) → filter_map (λ e. range_key e.seq e.op) (over x es) ≡ filter_map (λ e. key_over x e.seq e.op) es
over_keys x [] = refl
over_keys x (e ∷ es) =
    elim (is_over x e.op) as (λ b. filter_map (λ e. range_key e.seq e.op) (cond b (e ∷ over x es) (over x es)) ≡ cons_option (cond b (range_key e.seq e.op) None) (filter_map (λ e. key_over x e.seq e.op) es)) [
      | true ↦ ap (cons_option (range_key e.seq e.op)) (over_keys x es)
      | false ↦ over_keys x es
    ]

keys_agree : (x y : List ℕ) (es : List Entry) → AllByRecursion (λ e. key_over x e.seq e.op ≡ key_over y e.seq e.op) es → keys_at es x ≡ keys_at es y
keys_agree x y es h = ap newest_first (over_keys x es ∙ go es h ∙ sym (over_keys y es))
  where
    go : (es : List Entry) → AllByRecursion (λ e. key_over x e.seq e.op ≡ key_over y e.seq e.op) es → filter_map (λ e. key_over x e.seq e.op) es ≡ filter_map (λ e. key_over y e.seq e.op) es
    go [] h = refl
    go (e ∷ es) h = rw (h.0, go es h.1) refl

keys_none : (x : List ℕ) (es : List Entry) → AllByRecursion (λ e. key_over x e.seq e.op ≡ None) es → keys_at es x ≡ []
keys_none x es h = ap newest_first (over_keys x es ∙ go es h)
  where
    go : (es : List Entry) → AllByRecursion (λ e. key_over x e.seq e.op ≡ None) es → filter_map (λ e. key_over x e.seq e.op) es ≡ []
    go [] h = refl
    go (e ∷ es) h = rw h.0 (go es h.1)

pub never : (b : Bool) → cond {A = Option RangeKey} b None None ≡ None
never true = refl
never false = refl

pub and_false : (b : Bool) → (b && false) ≡ false
and_false true = refl
and_false false = refl

module _ (x : List ℕ) (bs : List (List ℕ)) where
  -- keys with one order to each written end have the same range keys
  pub same_keys : (y : List ℕ) (es : List Entry) → EndsIn bs es → ((k : List ℕ) → IsIn k bs → lt x k ≡ lt y k) → keys_at es x ≡ keys_at es y
  same_keys y es h same =
      keys_agree x y es (all_weaker (λ e. AllByRecursion (λ k. IsIn k bs) (op_ends e.op)) (λ e. key_over x e.seq e.op ≡ key_over y e.seq e.op) (λ e m. go e.seq e.op m) es h)
    where
      inside : (s t : List ℕ) → AllByRecursion (λ k. IsIn k bs) (s ∷ t ∷ []) → within s t x ≡ within s t y
      inside s t m = rw (same s m.0, same t m.1.0) refl

      go : (n : ℕ) (op : Op) → AllByRecursion (λ k. IsIn k bs) (op_ends op) → key_over x n op ≡ key_over y n op
      go n (Put key value) m = never (is_over x (Put key value)) ∙ sym (never (is_over y (Put key value)))
      go n (Del key) m = never (is_over x (Del key)) ∙ sym (never (is_over y (Del key)))
      go n (RangeSet start end suffix value) m = rw (inside start end m) refl
      go n (RangeUnset start end suffix) m = rw (inside start end m) refl
      go n (RangeDel start end) m = rw (inside start end m) refl

  -- where no operation on a span is over the key, it has no range key
  no_keys : (es : List Entry) → EndsIn bs es → ((s t : List ℕ) → IsIn s bs → IsIn t bs → within s t x ≡ false) → keys_at es x ≡ []
  no_keys es h outside =
      keys_none x es (all_weaker (λ e. AllByRecursion (λ k. IsIn k bs) (op_ends e.op)) (λ e. key_over x e.seq e.op ≡ None) (λ e m. go e.seq e.op m) es h)
    where
      go : (n : ℕ) (op : Op) → AllByRecursion (λ k. IsIn k bs) (op_ends op) → key_over x n op ≡ None
      go n (Put key value) m = never (is_over x (Put key value))
      go n (Del key) m = never (is_over x (Del key))
      go n (RangeSet start end suffix value) m = rw (outside start end m.0 m.1.0) refl
      go n (RangeUnset start end suffix) m = rw (outside start end m.0 m.1.0) refl
      go n (RangeDel start end) m = rw (outside start end m.0 m.1.0) refl

  pub no_keys_below : (es : List Entry) → EndsIn bs es → ((k : List ℕ) → IsIn k bs → lt x k ≡ true) → keys_at es x ≡ []
  no_keys_below es h under = no_keys es h (λ s t m n. rw (under s m) refl)

  pub no_keys_above : (es : List Entry) → EndsIn bs es → ((k : List ℕ) → IsIn k bs → lt x k ≡ false) → keys_at es x ≡ []
  no_keys_above es h past = no_keys es h (λ s t m n. rw (past t n) (and_false (not (lt x s))))
