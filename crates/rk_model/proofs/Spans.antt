-- Spans, as searches of the ends find them.
use Rattle.std.proofs.Common.{◌≡◌, ℕ, ◌≢◌, ◌∙◌, suc, sym, ap, List, [], ◌∷◌, ◌++◌, length, map, Bool, true, false, cond, Option, Some, None, refl, append_assoc}
use Rattle.std.specs.Prelude.{◌&&◌, ◌||◌, not, filter, if◌then◌else◌}
use Rattle.std.specs.List.{list_all, find}
use Rattle.std.specs.Option.{option_map, option_and_then}
use Rattle.std.specs.Ordering.{is_lt, ordering_reverse}
use Rattle.std.specs.declared.cmp.Ordering.{Ordering}
use Rattle.std.specs.declared.cmp.Ordering.TheVariants.{Less, Equal, Greater}
use Rattle.std.proofs.lemmas.List.Folds.{list_all-append, list_all-map}
use Rattle.rk_key.specs.Keys.{key_cmp}
use Rattle.rk_key.specs.Laws.{key_cmp-total}
use Rattle.rk_model.specs.Covers.{cover}
use Rattle.rk_model.specs.Lists.{first_of, none_of}
use Rattle.rk_model.specs.Spans.{below, same_bytes, same_cover, written_ends, WidestSpan, span_start, span_end, widest_span}
use Rattle.rk_model.specs.Plain.{covered_ends, start_among, end_among, span_among}
use Rattle.rk_model.specs.declared.op.Entry.{Entry}
use Rattle.rk_model.specs.declared.span.SuffixValue.{SuffixValue}
use Rattle.rk_model.specs.declared.options.IterOptions.{IterOptions}
use Rattle.rk_model.specs.declared.plain.ends.EndCover.{EndCover}
use Rattle.rk_model.proofs.Filters.{first_of-filter, find-filter, list_all-filter, filter-map}

pub uneven : (ps qs : List SuffixValue) → (length ps ≢ length qs) → false ≡ same_cover ps qs
uneven [] [] ne = absurd (ne refl)
uneven [] (q ∷ qs) ne = refl
uneven (p ∷ ps) [] ne = refl
uneven (p ∷ ps) (q ∷ qs) ne =
    uneven_rest (same_bytes p.suffix q.suffix && same_bytes p.value q.value) (same_cover ps qs) (uneven ps qs (λ e. ne (ap suc e)))
  where
    uneven_rest : (a b : Bool) → false ≡ b → false ≡ (a && b)
    uneven_rest true b e = e
    uneven_rest false b e = refl

not_below_itself : (o : Ordering) → o ≡ ordering_reverse o → is_lt o ≡ false
not_below_itself Less e = cc
not_below_itself Equal e = refl
not_below_itself Greater e = refl

pub irreflexive : (x : List ℕ) → is_lt (key_cmp x x) ≡ false
irreflexive x = not_below_itself (key_cmp x x) (key_cmp-total.antisymm x x)

both_true : (a b : Bool) → (a && b) ≡ true → (a ≡ true) × (b ≡ true)
both_true true b h = (refl, h)
both_true false b h = cc

and_false : (a : Bool) → (a && false) ≡ false
and_false true = refl
and_false false = refl

-- a test that each member that passes q passes too changes no search for q
module _ {A : Type 0} (all : List A) (r : A → A → Bool) (s : A → Bool) (itself : (a : A) → r a a ≡ true → s a ≡ true) where
  passes : (us vs : List A) (a : A) → all ≡ us ++ a ∷ vs → list_all (r a) all ≡ true → s a ≡ true
  passes us vs a is h =
      let parts = both_true (list_all (r a) us) (list_all (r a) (a ∷ vs)) (sym (list_all-append (r a) us (a ∷ vs)) ∙ rw is at h) in
      itself a (both_true (r a a) (list_all (r a) vs) parts.1).0

  same_on_rest : (us vs : List A) → all ≡ us ++ vs → find (λ a. list_all (r a) all) vs ≡ find (λ a. s a && list_all (r a) all) vs
  same_on_rest us [] is = refl
  same_on_rest us (a ∷ vs) is =
      let rest = same_on_rest (us ++ a ∷ []) vs (is ∙ sym (append_assoc us (a ∷ []) vs)) in
      by (list_all (r a) all) refl rest
    where
      by : (b : Bool) → b ≡ list_all (r a) all → find (λ a. list_all (r a) all) vs ≡ find (λ a. s a && list_all (r a) all) vs
          → cond b (Some a) (find (λ a. list_all (r a) all) vs) ≡ cond (s a && b) (Some a) (find (λ a. s a && list_all (r a) all) vs)
      by true e rest = rw (passes us vs a is (sym e)) refl
      by false e rest = rw (and_false (s a)) rest

  pub one_test_more : find (λ a. list_all (r a) all) all ≡ find (λ a. s a && list_all (r a) all) all
  one_test_more = same_on_rest [] all refl

abbrev is_low : List ℕ → EndCover → Bool
is_low x a = not (is_lt (key_cmp x a.key))

regroup : (p q r : Bool) → (not (not p) || (q || r)) ≡ ((p || q) || r)
regroup true q r = refl
regroup false q r = refl

regroup_and : (p q r : Bool) → (p && (q && r)) ≡ ((p && q) && r)
regroup_and true q r = refl
regroup_and false q r = refl

-- the tests of the searches
abbrev pub is_start : List EndCover → List ℕ → List SuffixValue → EndCover → Bool
is_start all x pairs a =
    not (is_lt (key_cmp x a.key)) && same_cover a.cover pairs
    && list_all (λ b. is_lt (key_cmp x b.key) || is_lt (key_cmp b.key a.key) || same_cover b.cover pairs) all

abbrev pub is_end : IterOptions → List ℕ → List SuffixValue → EndCover → Bool
is_end o x pairs a = is_lt (key_cmp x a.key) && (not (below o.upper a.key) || not (same_cover a.cover pairs))

pub start_is_found : (all : List EndCover) (x : List ℕ) (pairs : List SuffixValue) → start_among all x pairs ≡ find (is_start all x pairs) all
start_is_found all x pairs =
    let low = filter (is_low x) all in
    let r : EndCover → EndCover → Bool = λ a b. is_lt (key_cmp b.key a.key) || same_cover b.cover pairs in
    let s : EndCover → Bool = λ a. same_cover a.cover pairs in
    first_of-filter (λ a. list_all (r a) low) low
    ∙ one_test_more low r s (λ a h. rw (irreflexive a.key) at h)
    ∙ find-filter (λ a. s a && list_all (r a) low) (is_low x) all
    ∙ (λ i. find (λ a. regroup_and (is_low x a) (s a) (list_all-filter (r a) (is_low x) all i) i) all)
    ∙ (λ i. find (λ a. is_low x a && s a && list_all (λ b. regroup (is_lt (key_cmp x b.key)) (is_lt (key_cmp b.key a.key)) (same_cover b.cover pairs) i) all) all)

pub end_is_found : (o : IterOptions) (all : List EndCover) (x : List ℕ) (pairs : List SuffixValue) → end_among o all x pairs ≡ find (is_end o x pairs) all
end_is_found o all x pairs = first_of-filter (is_end o x pairs) all

abbrev covered : List Entry → List ℕ → EndCover
covered es a = record { key = a; cover = cover es a }

key_of_first : (es : List Entry) (xs : List (List ℕ)) → option_map (λ a. a.key) (first_of (map (covered es) xs)) ≡ first_of xs
key_of_first es [] = refl
key_of_first es (x ∷ xs) = refl

start_among_covered : (es : List Entry) (o : IterOptions) (x : List ℕ) → option_map (λ a. a.key) (start_among (covered_ends es o) x (cover es x)) ≡ span_start es o x
start_among_covered es o x =
    let f = covered es in
    let ends = written_ends es o in
    let low = filter (λ a. not (is_lt (key_cmp x a))) ends in
    let r : EndCover → EndCover → Bool = λ a b. is_lt (key_cmp b.key a.key) || same_cover b.cover (cover es x) in
    (λ i. option_map (λ a. a.key) (first_of (filter (λ a. list_all (r a) (filter-map f (is_low x) ends i)) (filter-map f (is_low x) ends i))))
    ∙ (λ i. option_map (λ a. a.key) (first_of (filter-map f (λ a. list_all (r a) (map f low)) low i)))
    ∙ (λ i. option_map (λ a. a.key) (first_of (map f (filter (λ a. list_all-map (r (f a)) f low i) low))))
    ∙ key_of_first es (filter (λ a. list_all (λ b. is_lt (key_cmp b a) || same_cover (cover es b) (cover es x)) low) low)

end_among_covered : (es : List Entry) (o : IterOptions) (x : List ℕ) → option_map (λ a. a.key) (end_among o (covered_ends es o) x (cover es x)) ≡ span_end es o x
end_among_covered es o x =
    let ends = written_ends es o in
    (λ i. option_map (λ a. a.key) (first_of (filter-map (covered es) (is_end o x (cover es x)) ends i)))
    ∙ key_of_first es (filter (λ a. is_lt (key_cmp x a) && (not (below o.upper a) || not (same_cover (cover es a) (cover es x)))) ends)

by_keys : (s e : Option EndCover) (pairs : List SuffixValue) →
    let both : List ℕ → List ℕ → WidestSpan = λ a b. record { start = a; end = b; cover = pairs } in
    option_and_then (λ a. option_map (λ b. both a.key b.key) e) s
    ≡ option_and_then (λ a. option_map (λ b. both a b) (option_map (λ b. b.key) e)) (option_map (λ a. a.key) s)
by_keys None e pairs = refl
by_keys (Some s) None pairs = refl
by_keys (Some s) (Some e) pairs = refl

-- the span that is found among the covered ends is the widest span
pub span_among_covered : (es : List Entry) (o : IterOptions) (x : List ℕ) → span_among o (covered_ends es o) x (cover es x) ≡ widest_span es o x
span_among_covered es o x =
    let pairs = cover es x in
    let both : List ℕ → List ℕ → WidestSpan = λ a b. record { start = a; end = b; cover = pairs } in
    (λ i. if none_of pairs then None else by_keys (start_among (covered_ends es o) x pairs) (end_among o (covered_ends es o) x pairs) pairs i)
    ∙ (λ i. if none_of pairs then None else option_and_then (λ a. option_map (λ b. both a b) (end_among_covered es o x i)) (start_among_covered es o x i))
