-- The pairs of a cover, among the newest numbers of places in the one stripe up to n.
use Rattle.std.proofs.Common.{◌≡◌, ℕ, ◌+◌, ◌<◌, Bool, true, false, not, ◌&&◌, cond, List, [], ◌∷◌, ◌++◌, length, get_or, take, map, Option, Some, None, refl, ap, sym, ◌∙◌, arith}
use Rattle.std.specs.Prelude.{nat_lt, nat_le, ◌==◌}
use Rattle.std.specs.List.{list_any, filter_map, cons_option}
use Rattle.std.specs.Option.{option_map_or}
use Rattle.std.proofs.lemmas.Bool.Decides.{nat_tests}
use Rattle.std.proofs.lemmas.List.{take_more}
use Rattle.std.proofs.lemmas.List.Elements.{filter_map-append}
use Rattle.rk_model.specs.Lists.{first_of}
use Rattle.rk_model.specs.Covers.{upto, ends_set, standing, by_suffix, cover_of}
use Rattle.rk_model.specs.Kept.{same_stripe, shadows}
use Rattle.rk_model.specs.declared.op.Op.TheVariants.{RangeSet}
use Rattle.rk_model.specs.declared.op.Entry.{Entry}
use Rattle.rk_model.specs.declared.span.RangeKind.{RangeKind}
use Rattle.rk_model.specs.declared.span.RangeKind.TheVariants.{Set, Unset, Del}
use Rattle.rk_model.specs.declared.span.RangeKey.{RangeKey}
use Rattle.rk_model.specs.declared.span.Span.{Span}
use Rattle.rk_model.specs.declared.span.SuffixValue.{SuffixValue}
use Rattle.rk_model.proofs.Filters.{list_any-filter}
use Rattle.rk_coalesce.specs.SpanKeys.{op_of, entry_of, span_entries}
use Rattle.rk_coalesce.specs.Places.{Place, TellsNewest, is_shadowed, pair_of}
use Rattle.rk_coalesce.proofs.Shadows.{any_same, any_map, shadowed_by, shadowed_is}

same_number : (n : ℕ) → (n == n) ≡ true
same_number n = grind (arith, nat_tests)

-- up to n, all is of the one stripe
one_stripe : (n a b : ℕ) → nat_le a n ≡ true → same_stripe (n ∷ []) a b ≡ nat_le b n
one_stripe n a b h = rw h (go (nat_le b n))
  where
    go : (s : Bool) → option_map_or (λ t. n == t) (first_of (cond s (n ∷ []) [])) false ≡ s
    go true = same_number n
    go false = refl

-- what ends a set is what shadows it
ends_is : (start end : List ℕ) (kind : RangeKind) (s v t w : List ℕ) → ends_set t (op_of start end kind s v) ≡ shadows (op_of start end kind s v) (RangeSet start end t w)
ends_is start end Set s v t w = refl
ends_is start end Unset s v t w = refl
ends_is start end Del s v t w = refl

regroup : (a b e : Bool) → (a && (b && e)) ≡ ((b && a) && e)
regroup true true e = refl
regroup true false e = refl
regroup false true e = refl
regroup false false e = refl

abbrev set_key : ℕ → List ℕ → List ℕ → RangeKey
set_key seq suffix value = record { kind = Set; seq = seq; suffix = suffix; value = value }

ended_at : (span : Span) (n seq : ℕ) (suffix value : List ℕ) → nat_le seq n ≡ true → (f : RangeKey) →
    (nat_le f.seq n && (nat_lt seq f.seq && ends_set suffix (entry_of span f).op)) ≡ shadowed_by span (n ∷ []) (set_key seq suffix value) f
ended_at span n seq suffix value h f =
    regroup (nat_le f.seq n) (nat_lt seq f.seq) (ends_set suffix (entry_of span f).op)
    ∙ (λ i. (nat_lt seq f.seq && sym (one_stripe n seq f.seq h) i) && ends_is span.start span.end f.kind f.suffix f.value suffix value i)

ended_is : (span : Span) (n seq : ℕ) (suffix value : List ℕ) (newest : Place → ℕ) → TellsNewest (n ∷ []) span.keys newest → nat_le seq n ≡ true →
    list_any (λ f. nat_lt seq f.seq && ends_set suffix f.op) (upto n (span_entries span)) ≡ is_shadowed newest (n ∷ []) (set_key seq suffix value)
ended_is span n seq suffix value newest tells h =
    list_any-filter (λ (f : Entry). nat_lt seq f.seq && ends_set suffix f.op) (λ (f : Entry). nat_le f.seq n) (span_entries span)
    ∙ any_map (λ f. nat_le f.seq n && (nat_lt seq f.seq && ends_set suffix f.op)) (entry_of span) span.keys
    ∙ any_same _ (shadowed_by span (n ∷ []) (set_key seq suffix value)) (ended_at span n seq suffix value h) span.keys
    ∙ shadowed_is span (n ∷ []) span.keys newest tells (set_key seq suffix value)

-- one range key more
pub pairs_more : (g : RangeKey → Option SuffixValue) (keys : List RangeKey) (i : ℕ) (k : RangeKey) → i < length keys → k ≡ get_or keys i k →
    filter_map g (take (i + 1) keys) ≡ filter_map g (take i keys) ++ cons_option (g k) []
pairs_more g keys i k h is =
    ap (filter_map g) (take_more keys i k h ∙ ap (λ f. take i keys ++ f ∷ []) (sym is)) ∙ filter_map-append g (take i keys) (k ∷ [])

-- what a range key numbered at most n put, and where it stands
abbrev put_by : Span → ℕ → RangeKey → Option SuffixValue
put_by span n k = cond (nat_le k.seq n) (standing (upto n (span_entries span)) k.seq (entry_of span k).op) None

neither : (a b : Bool) (p : SuffixValue) → cond ((a && false) && b) (Some p) None ≡ cond a (let o : Option SuffixValue = None in o) None
neither true b p = refl
neither false b p = refl

pair_at : (span : Span) (n : ℕ) (newest : Place → ℕ) → TellsNewest (n ∷ []) span.keys newest → (kind : RangeKind) (seq : ℕ) (suffix value : List ℕ) →
    pair_of newest n (record { kind = kind; seq = seq; suffix = suffix; value = value }) ≡ put_by span n (record { kind = kind; seq = seq; suffix = suffix; value = value })
pair_at span n newest tells Set seq suffix value = go (nat_le seq n) refl
  where
    pair : Option SuffixValue
    pair = Some (record { suffix = suffix; value = value })

    turned : (b : Bool) → cond (not b) pair None ≡ cond b None pair
    turned true = refl
    turned false = refl

    go : (b : Bool) → nat_le seq n ≡ b →
        cond ((b && true) && not (is_shadowed newest (n ∷ []) (set_key seq suffix value))) pair None
        ≡ cond b (cond (list_any (λ f. nat_lt seq f.seq && ends_set suffix f.op) (upto n (span_entries span))) None pair) None
    go true e = turned (is_shadowed newest (n ∷ []) (set_key seq suffix value)) ∙ ap (λ b. cond b None pair) (sym (ended_is span n seq suffix value newest tells e))
    go false e = refl
pair_at span n newest tells Unset seq suffix value = neither (nat_le seq n) _ _
pair_at span n newest tells Del seq suffix value = neither (nat_le seq n) _ _

pairs_same : (g h : RangeKey → Option SuffixValue) → ((k : RangeKey) → g k ≡ h k) → (keys : List RangeKey) → filter_map g keys ≡ filter_map h keys
pairs_same g h e [] = refl
pairs_same g h e (k ∷ ks) = rw (e k, pairs_same g h e ks) refl

pairs_upto : (span : Span) (n : ℕ) (here : List Entry) (keys : List RangeKey) →
    filter_map (λ e. standing here e.seq e.op) (upto n (map (entry_of span) keys)) ≡ filter_map (λ k. cond (nat_le k.seq n) (standing here k.seq (entry_of span k).op) None) keys
pairs_upto span n here [] = refl
pairs_upto span n here (k ∷ ks) = go (nat_le k.seq n) (pairs_upto span n here ks)
  where
    go : (b : Bool) → filter_map (λ e. standing here e.seq e.op) (upto n (map (entry_of span) ks)) ≡ filter_map (λ k. cond (nat_le k.seq n) (standing here k.seq (entry_of span k).op) None) ks →
        filter_map (λ e. standing here e.seq e.op) (cond b (entry_of span k ∷ upto n (map (entry_of span) ks)) (upto n (map (entry_of span) ks)))
        ≡ cons_option (cond b (standing here k.seq (entry_of span k).op) None) (filter_map (λ k. cond (nat_le k.seq n) (standing here k.seq (entry_of span k).op) None) ks)
    go true ih = ap (cons_option (standing here k.seq (entry_of span k).op)) ih
    go false ih = ih

pub cover_is : (span : Span) (n : ℕ) (newest : Place → ℕ) → TellsNewest (n ∷ []) span.keys newest →
    by_suffix (filter_map (pair_of newest n) span.keys) ≡ cover_of (upto n (span_entries span))
cover_is span n newest tells =
    ap by_suffix (pairs_same (pair_of newest n) (put_by span n) (λ k. pair_at span n newest tells k.kind k.seq k.suffix k.value) span.keys
    ∙ sym (pairs_upto span n (upto n (span_entries span)) span.keys))
