-- What the newest numbers of places tell of a range key: which newer ones shadow it.
use Rattle.std.proofs.Common.{◌≡◌, ℕ, ◌+◌, ◌<◌, Bool, true, false, not, ◌&&◌, ◌||◌, cond, List, [], ◌∷◌, ◌++◌, map, filter, length, get_or, take, max, Option, Some, None, refl, ap, sym, ◌∙◌, arith}
use Rattle.std.specs.Prelude.{nat_lt, ◌==◌}
use Rattle.std.specs.Cmp.{IsTotalOrder, IsEquivalence}
use Rattle.std.specs.Cmp.Lexicographic.{options_total}
use Rattle.std.specs.List.{list_any}
use Rattle.std.specs.Option.{option_map_or, option_cmp}
use Rattle.std.specs.declared.cmp.Ordering.{Ordering}
use Rattle.std.specs.Ordering.{nat_cmp, ordering_then, is_eq, eq_by_cmp}
use Rattle.std.proofs.lemmas.Bool.Decides.{nat_tests}
use Rattle.std.proofs.lemmas.Cmp.{nat_cmp_total, on_total, then_total, eq_by_cmp_equiv}
use Rattle.std.proofs.lemmas.List.{take_more}
use Rattle.std.proofs.lemmas.List.Folds.{list_any-append}
use Rattle.rk_key.specs.Keys.{suffix_cmp}
use Rattle.rk_key.specs.Laws.{suffix_cmp-total}
use Rattle.rk_model.specs.Kept.{stripe_of, same_stripe, in_lowest, is_set, shadows, is_kept}
use Rattle.rk_model.specs.declared.span.RangeKind.{RangeKind}
use Rattle.rk_model.specs.declared.span.RangeKind.TheVariants.{Set, Unset, Del}
use Rattle.rk_model.specs.declared.span.RangeKey.{RangeKey}
use Rattle.rk_model.specs.declared.span.Span.{Span}
use Rattle.rk_coalesce.specs.SpanKeys.{op_of, entry_of, kept_keys}
use Rattle.rk_coalesce.specs.Places.{Place, place_cmp, suffix_if, is_set_kind, is_at, TellsNewest, is_shadowed, stays}

place_total : IsTotalOrder place_cmp
place_total = then_total (on_total (λ (p : Place). p.0) nat_cmp_total) (on_total (λ (p : Place). p.1) (options_total suffix_cmp-total))

places : IsEquivalence (eq_by_cmp place_cmp)
places = eq_by_cmp_equiv place_total

pub any_same : {X : Type 0} (p q : X → Bool) → ((x : X) → p x ≡ q x) → (xs : List X) → list_any p xs ≡ list_any q xs
any_same p q h [] = refl
any_same p q h (x ∷ xs) = rw (h x, any_same p q h xs) refl

pub any_map : {X Y : Type 0} (p : Y → Bool) (f : X → Y) (xs : List X) → list_any p (map f xs) ≡ list_any (λ x. p (f x)) xs
any_map p f [] = refl
any_map p f (x ∷ xs) = ap (λ b. p (f x) || b) (any_map p f xs)

any_none : {X : Type 0} (p : X → Bool) → ((x : X) → p x ≡ false) → (xs : List X) → list_any p xs ≡ false
any_none p h [] = refl
any_none p h (x ∷ xs) = rw (h x) (any_none p h xs)

either : (a b c d : Bool) → ((a || b) || (c || d)) ≡ ((a || c) || (b || d))
either true b c d = refl
either false true true d = refl
either false true false d = refl
either false false true d = refl
either false false false d = refl

any_either : {X : Type 0} (p q : X → Bool) (xs : List X) → list_any (λ x. p x || q x) xs ≡ (list_any p xs || list_any q xs)
any_either p q [] = refl
any_either p q (x ∷ xs) = ap (λ b. (p x || q x) || b) (any_either p q xs) ∙ either (p x) (q x) (list_any p xs) (list_any q xs)

pub filter_same : {X : Type 0} (p q : X → Bool) → ((x : X) → p x ≡ q x) → (xs : List X) → filter p xs ≡ filter q xs
filter_same p q h [] = refl
filter_same p q h (x ∷ xs) = rw (h x, filter_same p q h xs) refl

-- places that are equal have the same range keys
same_place : (stripes : List ℕ) (p q : Place) → is_eq (place_cmp p q) ≡ true → (k : RangeKey) → is_at stripes p k ≡ is_at stripes q k
same_place stripes p q h k = go (stripe_of stripes k.seq)
  where
    go : (o : Option ℕ) → option_map_or (λ s. is_eq (place_cmp (s, suffix_if k.kind k.suffix) p)) o false ≡ option_map_or (λ s. is_eq (place_cmp (s, suffix_if k.kind k.suffix) q)) o false
    go None = refl
    go (Some s) = places.symm (s, suffix_if k.kind k.suffix) p ∙ places.congr p q (s, suffix_if k.kind k.suffix) h ∙ places.symm q (s, suffix_if k.kind k.suffix)

pub tells_none : (stripes : List ℕ) (newest : Place → ℕ) → ((p : Place) → newest p ≡ 0) → TellsNewest stripes [] newest
tells_none stripes newest h p n = let e : newest p ≡ 0 = h p in grind (arith, nat_tests)

above_max : (n a b : ℕ) → nat_lt n (max a b) ≡ (nat_lt n a || nat_lt n b)
above_max n a b = grind (arith, nat_tests)

-- one range key more, which was noted at its place
pub tells_noted : (stripes : List ℕ) (keys : List RangeKey) (i : ℕ) (k : RangeKey) (old new : Place → ℕ) (s : ℕ) →
    i < length keys → k ≡ get_or keys i k → stripe_of stripes k.seq ≡ Some s →
    ((p : Place) → new p ≡ cond (is_eq (place_cmp (s, suffix_if k.kind k.suffix) p)) (max (old (s, suffix_if k.kind k.suffix)) k.seq) (old p)) →
    TellsNewest stripes (take i keys) old → TellsNewest stripes (take (i + 1) keys) new
tells_noted stripes keys i k old new s h is here noted before p n =
    ap (nat_lt n) (noted p) ∙ go (is_eq (place_cmp (s, suffix_if k.kind k.suffix) p)) refl ∙ sym more
  where
    test : Place → RangeKey → Bool
    test q f = nat_lt n f.seq && is_at stripes q f

    more : list_any (test p) (take (i + 1) keys) ≡ (list_any (test p) (take i keys) || ((nat_lt n k.seq && is_eq (place_cmp (s, suffix_if k.kind k.suffix) p)) || false))
    more =
        ap (list_any (test p)) (take_more keys i k h ∙ ap (λ f. take i keys ++ f ∷ []) (sym is))
        ∙ list_any-append (test p) (take i keys) (k ∷ [])
        ∙ ap (λ o. list_any (test p) (take i keys) || ((nat_lt n k.seq && option_map_or (λ t. is_eq (place_cmp (t, suffix_if k.kind k.suffix) p)) o false) || false)) here

    joined : (a b : Bool) → (a || b) ≡ (a || ((b && true) || false))
    joined true b = refl
    joined false true = refl
    joined false false = refl

    apart : (a b : Bool) → a ≡ (a || ((b && false) || false))
    apart true b = refl
    apart false true = refl
    apart false false = refl

    go : (b : Bool) → is_eq (place_cmp (s, suffix_if k.kind k.suffix) p) ≡ b →
        nat_lt n (cond b (max (old (s, suffix_if k.kind k.suffix)) k.seq) (old p)) ≡ (list_any (test p) (take i keys) || ((nat_lt n k.seq && b) || false))
    go true e =
        above_max n (old (s, suffix_if k.kind k.suffix)) k.seq
        ∙ ap (λ b. b || nat_lt n k.seq) (before (s, suffix_if k.kind k.suffix) n ∙ any_same _ _ (λ f. ap (λ b. nat_lt n f.seq && b) (same_place stripes (s, suffix_if k.kind k.suffix) p e f)) (take i keys))
        ∙ joined (list_any (test p) (take i keys)) (nat_lt n k.seq)
    go false e = before p n ∙ apart (list_any (test p) (take i keys)) (nat_lt n k.seq)

-- one more, above all stripes
pub tells_above : (stripes : List ℕ) (keys : List RangeKey) (i : ℕ) (k : RangeKey) (newest : Place → ℕ) →
    i < length keys → k ≡ get_or keys i k → stripe_of stripes k.seq ≡ None →
    TellsNewest stripes (take i keys) newest → TellsNewest stripes (take (i + 1) keys) newest
tells_above stripes keys i k newest h is here before p n = before p n ∙ sym (more ∙ apart (list_any test (take i keys)) (nat_lt n k.seq))
  where
    test : RangeKey → Bool
    test f = nat_lt n f.seq && is_at stripes p f

    apart : (a b : Bool) → (a || ((b && false) || false)) ≡ a
    apart true b = refl
    apart false true = refl
    apart false false = refl

    more : list_any test (take (i + 1) keys) ≡ (list_any test (take i keys) || ((nat_lt n k.seq && false) || false))
    more =
        ap (list_any test) (take_more keys i k h ∙ ap (λ f. take i keys ++ f ∷ []) (sym is))
        ∙ list_any-append test (take i keys) (k ∷ [])
        ∙ ap (λ o. list_any test (take i keys) || ((nat_lt n k.seq && option_map_or (λ t. is_eq (place_cmp (t, suffix_if k.kind k.suffix) p)) o false) || false)) here

one_stripe : (t s : ℕ) (o : Ordering) → is_eq (ordering_then (nat_cmp t s) o) ≡ ((s == t) && is_eq o)
one_stripe t s o = grind (arith, nat_tests)

-- a range key shadows those with its suffix, or all where it is a delete
shadows_is : (start end : List ℕ) (f k : RangeKind) (s v t w : List ℕ) →
    shadows (op_of start end f s v) (op_of start end k t w) ≡ (is_eq (option_cmp suffix_cmp (suffix_if f s) None) || is_eq (option_cmp suffix_cmp (suffix_if f s) (suffix_if k t)))
shadows_is start end Set Set s v t w = refl
shadows_is start end Set Unset s v t w = refl
shadows_is start end Set Del s v t w = refl
shadows_is start end Unset Set s v t w = refl
shadows_is start end Unset Unset s v t w = refl
shadows_is start end Unset Del s v t w = refl
shadows_is start end Del Set s v t w = refl
shadows_is start end Del Unset s v t w = refl
shadows_is start end Del Del s v t w = refl

abbrev pub shadowed_by : Span → List ℕ → RangeKey → RangeKey → Bool
shadowed_by span stripes k f = nat_lt k.seq f.seq && same_stripe stripes k.seq f.seq && shadows (entry_of span f).op (entry_of span k).op

spread : (a b u v : Bool) → ((a && b) && (u || v)) ≡ ((a && (b && u)) || (a && (b && v)))
spread true true u v = refl
spread true false u v = refl
spread false b u v = refl

shadowed_at : (span : Span) (stripes : List ℕ) (s : ℕ) (k : RangeKey) → stripe_of stripes k.seq ≡ Some s → (f : RangeKey) →
    shadowed_by span stripes k f ≡ ((nat_lt k.seq f.seq && is_at stripes (s, None) f) || (nat_lt k.seq f.seq && is_at stripes (s, suffix_if k.kind k.suffix) f))
shadowed_at span stripes s k here f =
    ap (λ o. nat_lt k.seq f.seq && option_map_or (λ s. option_map_or (λ t. s == t) (stripe_of stripes f.seq) false) o false && shadows (entry_of span f).op (entry_of span k).op) here
    ∙ go (stripe_of stripes f.seq)
  where
    none : (a b : Bool) → ((a && false) && b) ≡ ((a && false) || (a && false))
    none true b = refl
    none false b = refl

    go : (o : Option ℕ) → (nat_lt k.seq f.seq && option_map_or (λ t. s == t) o false && shadows (entry_of span f).op (entry_of span k).op)
        ≡ ((nat_lt k.seq f.seq && option_map_or (λ t. is_eq (place_cmp (t, suffix_if f.kind f.suffix) (s, None))) o false)
        || (nat_lt k.seq f.seq && option_map_or (λ t. is_eq (place_cmp (t, suffix_if f.kind f.suffix) (s, suffix_if k.kind k.suffix))) o false))
    go None = none (nat_lt k.seq f.seq) (shadows (entry_of span f).op (entry_of span k).op)
    go (Some t) =
        ap (λ b. (nat_lt k.seq f.seq && (s == t)) && b) (shadows_is span.start span.end f.kind k.kind f.suffix f.value k.suffix k.value)
        ∙ spread (nat_lt k.seq f.seq) (s == t) (is_eq (option_cmp suffix_cmp (suffix_if f.kind f.suffix) None)) (is_eq (option_cmp suffix_cmp (suffix_if f.kind f.suffix) (suffix_if k.kind k.suffix)))
        ∙ (λ i. (nat_lt k.seq f.seq && sym (one_stripe t s (option_cmp suffix_cmp (suffix_if f.kind f.suffix) None)) i) || (nat_lt k.seq f.seq && sym (one_stripe t s (option_cmp suffix_cmp (suffix_if f.kind f.suffix) (suffix_if k.kind k.suffix))) i))

-- a range key is shadowed where the newest numbers say so
pub shadowed_is : (span : Span) (stripes : List ℕ) (keys : List RangeKey) (newest : Place → ℕ) → TellsNewest stripes keys newest → (k : RangeKey) →
    list_any (shadowed_by span stripes k) keys ≡ is_shadowed newest stripes k
shadowed_is span stripes keys newest tells k = go (stripe_of stripes k.seq) refl
  where
    none : (a b : Bool) → ((a && false) && b) ≡ false
    none true b = refl
    none false b = refl

    go : (o : Option ℕ) → stripe_of stripes k.seq ≡ o →
        list_any (shadowed_by span stripes k) keys ≡ option_map_or (λ s. nat_lt k.seq (newest (s, None)) || nat_lt k.seq (newest (s, suffix_if k.kind k.suffix))) o false
    go None e = any_none (shadowed_by span stripes k) (λ f. ap (λ o. nat_lt k.seq f.seq && option_map_or (λ s. option_map_or (λ t. s == t) (stripe_of stripes f.seq) false) o false && shadows (entry_of span f).op (entry_of span k).op) e ∙ none (nat_lt k.seq f.seq) (shadows (entry_of span f).op (entry_of span k).op)) keys
    go (Some s) e =
        any_same (shadowed_by span stripes k) _ (shadowed_at span stripes s k e) keys
        ∙ any_either (λ f. nat_lt k.seq f.seq && is_at stripes (s, None) f) (λ f. nat_lt k.seq f.seq && is_at stripes (s, suffix_if k.kind k.suffix) f) keys
        ∙ sym (λ i. tells (s, None) k.seq i || tells (s, suffix_if k.kind k.suffix) k.seq i)

is_set_is : (start end : List ℕ) (kind : RangeKind) (s v : List ℕ) → is_set (op_of start end kind s v) ≡ is_set_kind kind
is_set_is start end Set s v = refl
is_set_is start end Unset s v = refl
is_set_is start end Del s v = refl

stays_is : (span : Span) (stripes : List ℕ) (bottom : Bool) (newest : Place → ℕ) → TellsNewest stripes span.keys newest → (k : RangeKey) →
    stays newest stripes bottom k ≡ is_kept (map (entry_of span) span.keys) stripes bottom (entry_of span k)
stays_is span stripes bottom newest tells k =
    let shadowed = any_map (λ f. nat_lt k.seq f.seq && same_stripe stripes k.seq f.seq && shadows f.op (entry_of span k).op) (entry_of span) span.keys ∙ shadowed_is span stripes span.keys newest tells k in
    let set = is_set_is span.start span.end k.kind k.suffix k.value in
    λ i. not (sym shadowed i) && not (bottom && in_lowest stripes k.seq && not (sym set i))

pub kept_keys_is : (span : Span) (stripes : List ℕ) (bottom : Bool) (newest : Place → ℕ) → TellsNewest stripes span.keys newest →
    filter (stays newest stripes bottom) span.keys ≡ kept_keys span stripes bottom
kept_keys_is span stripes bottom newest tells = filter_same (stays newest stripes bottom) _ (stays_is span stripes bottom newest tells) span.keys
