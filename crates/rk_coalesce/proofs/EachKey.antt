-- At a key of a span, all of its entries are over the key.
use Rattle.std.proofs.Common.{◌≡◌, ℕ, Bool, true, false, cond, List, [], ◌∷◌, map, filter, refl, ap, ◌∙◌}
use Rattle.std.specs.Prelude.{nat_le}
use Rattle.rk_model.specs.Kept.{is_kept}
use Rattle.rk_model.specs.Operations.{within, is_over}
use Rattle.rk_model.specs.Covers.{over, upto, cover_of}
use Rattle.rk_model.specs.declared.span.RangeKind.{RangeKind}
use Rattle.rk_model.specs.declared.span.RangeKind.TheVariants.{Set, Unset, Del}
use Rattle.rk_model.specs.declared.span.RangeKey.{RangeKey}
use Rattle.rk_model.specs.declared.span.Span.{Span}
use Rattle.rk_model.proofs.Filters.{filter-map}
use Rattle.rk_coalesce.specs.SpanKeys.{op_of, entry_of, CoverAtEachKey, KeptAtEachKey}

pub is_over_is : (start end x : List ℕ) (kind : RangeKind) (suffix value : List ℕ) → is_over x (op_of start end kind suffix value) ≡ within start end x
is_over_is start end x Set suffix value = refl
is_over_is start end x Unset suffix value = refl
is_over_is start end x Del suffix value = refl

all_over : (span : Span) (x : List ℕ) → within span.start span.end x ≡ true → (keys : List RangeKey) → over x (map (entry_of span) keys) ≡ map (entry_of span) keys
all_over span x h [] = refl
all_over span x h (k ∷ ks) = rw (is_over_is span.start span.end x k.kind k.suffix k.value, h) (ap (λ l. entry_of span k ∷ l) (all_over span x h ks))

pub upto_over : (span : Span) (n : ℕ) (x : List ℕ) → within span.start span.end x ≡ true → (keys : List RangeKey) →
    over x (upto n (map (entry_of span) keys)) ≡ upto n (map (entry_of span) keys)
upto_over span n x h [] = refl
upto_over span n x h (k ∷ ks) = go (nat_le k.seq n) (upto_over span n x h ks)
  where
    go : (b : Bool) → over x (upto n (map (entry_of span) ks)) ≡ upto n (map (entry_of span) ks) →
        over x (cond b (entry_of span k ∷ upto n (map (entry_of span) ks)) (upto n (map (entry_of span) ks))) ≡ cond b (entry_of span k ∷ upto n (map (entry_of span) ks)) (upto n (map (entry_of span) ks))
    go true ih = rw (is_over_is span.start span.end x k.kind k.suffix k.value, h) (ap (λ l. entry_of span k ∷ l) ih)
    go false ih = ih

pub cover_at_each_key : CoverAtEachKey
cover_at_each_key span n x h = ap cover_of (upto_over span n x h span.keys)

pub kept_at_each_key : KeptAtEachKey
kept_at_each_key span stripes bottom x h =
    ap (λ here. filter (is_kept here stripes bottom) here) (all_over span x h span.keys)
    ∙ filter-map (entry_of span) (is_kept (map (entry_of span) span.keys) stripes bottom) span.keys
