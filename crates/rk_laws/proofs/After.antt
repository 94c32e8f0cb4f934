-- The cover and the point after one more entry.
use Rattle.std.proofs.Common.{◌≡◌, ℕ, ◌<◌, Bool, true, false, not, ◌&&◌, ◌||◌, cond, List, [], ◌∷◌, ◌++◌, filter, Some, None, refl, ap, sym, ◌∙◌, arith, nat_lt}
use Rattle.std.specs.Ordering.{is_eq}
use Rattle.std.specs.Option.{option_and_then}
use Rattle.rk_model.specs.Lists.{first_of}
use Rattle.std.specs.List.{AllByRecursion, list_any, filter_map}
use Rattle.std.proofs.lemmas.Bool.{lt-ltb, le-ltb, not-true}
use Rattle.std.proofs.lemmas.Cmp.{eq_by_cmp_equiv}
use Rattle.std.proofs.lemmas.List.{append-nil}
use Rattle.std.proofs.lemmas.List.Folds.{list_any-append}
use Rattle.std.proofs.lemmas.List.Elements.{recursion_from_All, filter-append, filter_map-append}
use Rattle.rk_key.specs.Keys.{suffix_cmp}
use Rattle.rk_model.specs.Operations.{is_over}
use Rattle.rk_model.specs.Covers.{over, is_point, point, cover, standing, ends_set, insert_pair, by_suffix, newest, put_value, cover_of}
use Rattle.rk_model.specs.declared.op.Op.{Op}
use Rattle.rk_model.specs.declared.op.Op.TheVariants.{Put, Del, RangeSet, RangeUnset, RangeDel}
use Rattle.rk_model.specs.declared.op.Entry.{Entry}
use Rattle.rk_model.specs.declared.span.SuffixValue.{SuffixValue}
use Rattle.rk_laws.specs.Newer.{with_entry, with_point, CoverAfterEntry, PointAfterEntry}
use Rattle.rk_model.proofs.Lists.{all_filter, all_pass, all_weaker, filter_none, any_none, kept_if, filter_map_kept, or_true}
use Rattle.rk_laws.proofs.Order.{suffix_total}
use Rattle.rk_laws.proofs.Pairs.{alike, by_suffix_last, by_suffix_filter}
use Rattle.rk_laws.proofs.Plain.{value_of}

-- a pair that an operation doesn't end
abbrev unended : Op → SuffixValue → Bool
unended op q = not (ends_set q.suffix op)

-- an older set stands after a newer operation where it stood before, and that one doesn't end it
stands_after : (here : List Entry) (e f : Entry) → f.seq < e.seq → standing (here ++ e ∷ []) f.seq f.op ≡ kept_if (unended e.op) (standing here f.seq f.op)
stands_after here e f below = go f.op
  where
    go : (op : Op) → standing (here ++ e ∷ []) f.seq op ≡ kept_if (unended e.op) (standing here f.seq op)
    go (Put key value) = refl
    go (Del key) = refl
    go (RangeSet start end s v) =
        ap (λ b. cond b None (Some (record { suffix = s; value = v }))) (list_any-append (λ g. nat_lt f.seq g.seq && ends_set s g.op) here (e ∷ []) ∙ rw (lt-ltb f.seq e.seq below) refl)
        ∙ either (list_any (λ g. nat_lt f.seq g.seq && ends_set s g.op) here) (ends_set s e.op) refl
      where
        either : (a b : Bool) → ends_set s e.op ≡ b → cond (a || (b || false)) None (Some (record { suffix = s; value = v })) ≡ kept_if (unended e.op) (cond a None (Some (record { suffix = s; value = v })))
        either true b h = refl
        either false true h = rw h refl
        either false false h = rw h refl
    go (RangeUnset start end s) = refl
    go (RangeDel start end) = refl

-- what the newest entry itself puts
abbrev own : Op → List SuffixValue
own (Put key value) = []
own (Del key) = []
own (RangeSet start end s v) = record { suffix = s; value = v } ∷ []
own (RangeUnset start end s) = []
own (RangeDel start end) = []

nothing_newer : (here : List Entry) (e : Entry) (s : List ℕ) → AllByRecursion (λ f. f.seq < e.seq) here → list_any (λ g. nat_lt e.seq g.seq && ends_set s g.op) (here ++ e ∷ []) ≡ false
nothing_newer here e s below = list_any-append (λ g. nat_lt e.seq g.seq && ends_set s g.op) here (e ∷ []) ∙ rw (any_none (λ g. nat_lt e.seq g.seq && ends_set s g.op) here (all_weaker (λ f. f.seq < e.seq) (λ f. (nat_lt e.seq f.seq && ends_set s f.op) ≡ false) (λ f h. rw (le-ltb e.seq f.seq (omega arith)) refl) here below), le-ltb e.seq e.seq (omega arith)) refl

own_stands : (here : List Entry) (e : Entry) → AllByRecursion (λ f. f.seq < e.seq) here → filter_map (λ f. standing (here ++ e ∷ []) f.seq f.op) (e ∷ []) ≡ own e.op
own_stands here e below = go e.op
  where
    go : (op : Op) → filter_map (λ (o : Op). standing (here ++ e ∷ []) e.seq o) (op ∷ []) ≡ own op
    go (Put key value) = refl
    go (Del key) = refl
    go (RangeSet start end s v) = rw (nothing_newer here e s below) refl
    go (RangeUnset start end s) = refl
    go (RangeDel start end) = refl

nothing_ended : (ps : List SuffixValue) → by_suffix (filter (λ (q : SuffixValue). true) ps ++ []) ≡ by_suffix ps
nothing_ended ps = ap by_suffix (append-nil (filter (λ (q : SuffixValue). true) ps) ∙ always ps)
  where
    always : (ps : List SuffixValue) → filter (λ (q : SuffixValue). true) ps ≡ ps
    always [] = refl
    always (p ∷ ps) = ap (λ l. p ∷ l) (always ps)

by_suffix_own : (op : Op) (ps : List SuffixValue) → by_suffix (filter (unended op) ps ++ own op) ≡ with_entry op (by_suffix ps)
by_suffix_own (Put key value) ps = nothing_ended ps
by_suffix_own (Del key) ps = nothing_ended ps
by_suffix_own (RangeSet start end s v) ps =
    let t : SuffixValue → Bool = λ q. not (is_eq (suffix_cmp s q.suffix)) in
    let p : SuffixValue = record { suffix = s; value = v } in
    by_suffix_last (filter t ps) p (all_weaker (λ q. t q ≡ true) (λ q. alike q p ≡ false) (λ q h. (eq_by_cmp_equiv suffix_total).symm q.suffix s ∙ not-true (is_eq (suffix_cmp s q.suffix)) h) (filter t ps) (all_pass t ps))
    ∙ ap (insert_pair p) (by_suffix_filter t ps)
by_suffix_own (RangeUnset start end s) ps =
    let t : SuffixValue → Bool = λ q. not (is_eq (suffix_cmp s q.suffix)) in
    ap by_suffix (append-nil (filter t ps)) ∙ by_suffix_filter t ps
by_suffix_own (RangeDel start end) ps = ap by_suffix (append-nil (filter (λ (q : SuffixValue). false) ps) ∙ never ps)
  where
    never : (ps : List SuffixValue) → filter (λ (q : SuffixValue). false) ps ≡ []
    never [] = refl
    never (p ∷ ps) = never ps

cover_of-push : (here : List Entry) (e : Entry) → AllByRecursion (λ f. f.seq < e.seq) here → cover_of (here ++ e ∷ []) ≡ with_entry e.op (cover_of here)
cover_of-push here e below =
    ap by_suffix (
    filter_map-append (λ f. standing (here ++ e ∷ []) f.seq f.op) here (e ∷ [])
    ∙ ap (λ l. l ++ filter_map (λ f. standing (here ++ e ∷ []) f.seq f.op) (e ∷ [])) (filter_map_kept (λ f. standing (here ++ e ∷ []) f.seq f.op) (λ f. standing here f.seq f.op) (unended e.op) (λ f. f.seq < e.seq) (stands_after here e) here below)
    ∙ ap (λ l. filter (unended e.op) (filter_map (λ f. standing here f.seq f.op) here) ++ l) (own_stands here e below))
    ∙ by_suffix_own e.op (filter_map (λ f. standing here f.seq f.op) here)

pub cover_after_entry : CoverAfterEntry
cover_after_entry es e x below = ap cover_of (filter-append (λ f. is_over x f.op) es (e ∷ [])) ∙ go (is_over x e.op) (recursion_from_All (λ f. f.seq < e.seq) (over x es) below)
  where
    go : (b : Bool) → AllByRecursion (λ f. f.seq < e.seq) (over x es) → cover_of (over x es ++ cond b (e ∷ []) []) ≡ cond b (with_entry e.op (cover es x)) (cover es x)
    go true below = cover_of-push (over x es) e below
    go false below = ap cover_of (append-nil (over x es))

-- the newest of points that are all older than one more
newest-push : (points : List Entry) (e : Entry) → AllByRecursion (λ f. f.seq < e.seq) points → newest (points ++ e ∷ []) ≡ Some e
newest-push points e below = ap first_of (
    filter-append t points (e ∷ [])
    ∙ ap (λ l. l ++ filter t (e ∷ [])) (filter_none t points (all_weaker (λ f. f.seq < e.seq) (λ f. t f ≡ false) older points below))
    ∙ newest_one)
  where
    t : Entry → Bool
    t f = not (list_any (λ g. nat_lt f.seq g.seq) (points ++ e ∷ []))

    older : (f : Entry) → f.seq < e.seq → t f ≡ false
    older f h = rw (list_any-append (λ g. nat_lt f.seq g.seq) points (e ∷ []), lt-ltb f.seq e.seq h, or_true (list_any (λ g. nat_lt f.seq g.seq) points)) refl

    newest_one : filter t (e ∷ []) ≡ e ∷ []
    newest_one = rw (list_any-append (λ g. nat_lt e.seq g.seq) points (e ∷ []), any_none (λ g. nat_lt e.seq g.seq) points (all_weaker (λ f. f.seq < e.seq) (λ f. nat_lt e.seq f.seq ≡ false) (λ f h. le-ltb e.seq f.seq (omega arith)) points below), le-ltb e.seq e.seq (omega arith)) refl

pub point_after_entry : PointAfterEntry
point_after_entry es e x below =
    ap (λ l. value_of (filter (λ f. is_point f.op) l)) (filter-append (λ f. is_over x f.op) es (e ∷ []))
    ∙ go (is_over x e.op) e.op refl (recursion_from_All (λ f. f.seq < e.seq) (over x es) below)
  where
    points : List Entry → List Entry
    points l = filter (λ f. is_point f.op) l

    same : (op : Op) → is_point op ≡ false → with_point op (point es x) ≡ point es x
    same (Put key value) h = cc
    same (Del key) h = cc
    same (RangeSet start end s v) h = refl
    same (RangeUnset start end s) h = refl
    same (RangeDel start end) h = refl

    given : (op : Op) → is_point op ≡ true → put_value op ≡ with_point op (point es x)
    given (Put key value) h = refl
    given (Del key) h = refl
    given (RangeSet start end s v) h = cc
    given (RangeUnset start end s) h = cc
    given (RangeDel start end) h = cc

    at : (k : Bool) → is_point e.op ≡ k → AllByRecursion (λ f. f.seq < e.seq) (over x es) → value_of (points (over x es) ++ cond k (e ∷ []) []) ≡ with_point e.op (point es x)
    at true h below = ap (option_and_then (λ f. put_value f.op)) (newest-push (points (over x es)) e (all_filter (λ f. is_point f.op) (λ f. f.seq < e.seq) (over x es) below)) ∙ given e.op h
    at false h below = ap value_of (append-nil (points (over x es))) ∙ sym (same e.op h)

    go : (b : Bool) (op : Op) → op ≡ e.op → AllByRecursion (λ f. f.seq < e.seq) (over x es) → value_of (points (over x es ++ cond b (e ∷ []) [])) ≡ cond b (with_point e.op (point es x)) (point es x)
    go true op h below = ap value_of (filter-append (λ f. is_point f.op) (over x es) (e ∷ [])) ∙ at (is_point e.op) refl below
    go false op h below = ap (λ l. value_of (points l)) (append-nil (over x es))
