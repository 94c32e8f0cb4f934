-- The laws of kept entries.
use Rattle.std.proofs.Common.{◌≡◌, ℕ, ◌<◌, ◌≤◌, Bool, true, false, not, ◌&&◌, List, [], ◌++◌, filter, Option, Some, None, refl, ap, sym, ◌∙◌, ◌⊎◌, inl, inr, subst, arith, nat_lt, nat_le, option_and_then}
use Rattle.std.specs.List.{All, list_any}
use Rattle.std.proofs.lemmas.Bool.{lt-ltb, ltb-true, cases_order, and_parts, not-true}
use Rattle.std.proofs.lemmas.List.Elements.{filter-append, recursion_from_All}
use Rattle.rk_model.proofs.Numbers.{same_number}
use Rattle.rk_model.specs.Lists.{first_of, Among}
use Rattle.rk_model.specs.Operations.{is_over, NumbersDiffer}
use Rattle.rk_model.specs.Covers.{upto, over, is_point, newest, put_value, ends_set, cover_of}
use Rattle.rk_model.specs.Kept.{cells, in_lowest, shadows, is_set}
use Rattle.rk_model.specs.declared.op.Op.{Op}
use Rattle.rk_model.specs.declared.op.Op.TheVariants.{Put, Del, RangeSet, RangeUnset, RangeDel}
use Rattle.rk_model.specs.declared.op.Entry.{Entry}
use Rattle.rk_model.specs.declared.span.SuffixValue.{SuffixValue}
use Rattle.rk_laws.specs.KeptCells.{KeptGivesCells, Newer, KeptAtBottomGivesCells}
use Rattle.rk_model.proofs.Lists.{filter_twice, filter_swap, filter_none}
use Rattle.rk_model.proofs.Members.{among_contained, Ascending, among_all, all_among, among_append, among_left, among_right, filter_among, first_among, any_from, any_false}
use Rattle.rk_laws.proofs.Plain.{value_of}
use Rattle.rk_laws.proofs.Stripes.{stripes_ascend, lowest_below}
use Rattle.rk_laws.proofs.Dropped.{Latest, none, some, latest, ends_after, SetsUnder, whole, less, less_within, less_or_dropped}
use Rattle.rk_laws.proofs.Stays.{keeps, newest_in, newer_point, newest_of, stays, points_stay, ender_shadows, not_kept, point_shadows, why_dropped, Why, shadowed, lowest, shadow_seen, shadow_points}

-- the entries over a key that are numbered at most n
abbrev at : ℕ → List ℕ → List Entry → List Entry
at n x l = over x (upto n l)

at-append : (n : ℕ) (x : List ℕ) (l m : List Entry) → at n x (l ++ m) ≡ at n x l ++ at n x m
at-append n x l m = ap (over x) (filter-append (λ e. nat_le e.seq n) l m) ∙ filter-append (λ e. is_over x e.op) (upto n l) (upto n m)

at_three : (n : ℕ) (x : List ℕ) (l m r : List Entry) → at n x (l ++ m ++ r) ≡ at n x l ++ at n x m ++ at n x r
at_three n x l m r = at-append n x (l ++ m) r ∙ ap (λ t. t ++ at n x r) (at-append n x l m)

at_over : (n : ℕ) (x : List ℕ) (es : List Entry) → at n x es ≡ upto n (over x es)
at_over n x es = filter_swap (λ e. is_over x e.op) (λ e. nat_le e.seq n) es

at_kept : (n : ℕ) (x : List ℕ) (es : List Entry) (k : Entry → Bool) → at n x (filter k (over x es)) ≡ filter k (upto n (over x es))
at_kept n x es k =
    at_over n x (filter k (over x es))
    ∙ ap (upto n) (filter_swap (λ e. is_over x e.op) k (over x es) ∙ ap (filter k) (filter_twice (λ e. is_over x e.op) es))
    ∙ filter_swap (λ e. nat_le e.seq n) k (over x es)

-- what the entries over a key give
abbrev gives : List Entry → Option (List ℕ) × List SuffixValue
gives l = (value_of (filter (λ e. is_point e.op) l), cover_of l)

cells_of_whole : (older es newer : List Entry) (n : ℕ) (x : List ℕ) (k : Entry → Bool) → cells (older ++ es ++ newer) n x ≡ gives (whole (at n x older) (upto n (over x es)) (at n x newer) k)
cells_of_whole older es newer n x k = ap gives (at_three n x older es newer ∙ ap (λ l. at n x older ++ l ++ at n x newer) (at_over n x es))

cells_of_less : (older es newer : List Entry) (n : ℕ) (x : List ℕ) (k : Entry → Bool) → cells (older ++ filter k (over x es) ++ newer) n x ≡ gives (less (at n x older) (upto n (over x es)) (at n x newer) k)
cells_of_less older es newer n x k = ap gives (at_three n x older (filter k (over x es)) newer ∙ ap (λ l. at n x older ++ l ++ at n x newer) (at_kept n x es k))

pair_of : (p q : Option (List ℕ)) (s t : List SuffixValue) → p ≡ q → s ≡ t → ◌≡◌ {A = Option (List ℕ) × List SuffixValue} (p, s) (q, t)
pair_of p q s t e f = rw (e, f) refl

value_from : (l m : List Entry) → filter (newest_in l) l ≡ filter (newest_in m) m → value_of (filter (λ e. is_point e.op) l) ≡ value_of (filter (λ e. is_point e.op) m)
value_from l m h = ap (option_and_then (λ e. put_value e.op)) (newest_of l ∙ ap first_of h ∙ sym (newest_of m))

pub kept_gives_cells : KeptGivesCells
kept_gives_cells older es newer stripes n x up of =
    cells_of_whole older es newer n x k
    ∙ pair_of (value_of (filter (λ e. is_point e.op) all)) (value_of (filter (λ e. is_point e.op) rest)) (cover_of all) (cover_of rest)
    (value_from all rest (points_stay here a c stripes false n ups among (λ e m d l t b. absurd (false_true b)) (λ e g m i b h. absurd (false_true b))))
    (stays here a c stripes false n ups among (λ e g s m sets j d l t b ends. false_true b))
    ∙ sym (cells_of_less older es newer n x k)
  where
    here : List Entry
    here = over x es

    k : Entry → Bool
    k = keeps here stripes false

    a : List Entry
    a = at n x older

    c : List Entry
    c = at n x newer

    all : List Entry
    all = whole a (upto n here) c k

    rest : List Entry
    rest = less a (upto n here) c k

    ups : Ascending nat_lt stripes
    ups = stripes_ascend stripes up

    among : Among n stripes
    among = among_contained stripes n of

    false_true : false ≡ true → ⊥
    false_true h = cc

newer_gives : (l m : List Entry) (e f : Entry) → Newer l m → Among e l → Among f m → e.seq < f.seq
newer_gives l m e f h i j =
    let P : Entry → Type 0 = λ d. All (λ g. d.seq < g.seq) m in
    let all : P e = among_all P l e (recursion_from_All P l h) i in
    among_all (λ g. e.seq < g.seq) m f (recursion_from_All (λ g. e.seq < g.seq) m all) j

-- at the bottom: nothing older, and what is newer than all
module _ (here c : List Entry) (stripes : List ℕ) (n : ℕ) (up : Ascending nat_lt stripes) (of_stripe : Among n stripes) (apart : NumbersDiffer here) (above : (e f : Entry) → Among e here → Among f c → e.seq < f.seq) where
  abbrev k : Entry → Bool
  k = keeps here stripes true

  abbrev all : List Entry
  all = whole [] (upto n here) c k

  abbrev rest : List Entry
  rest = less [] (upto n here) c k

  was_here : (e : Entry) → Among e (upto n here) → Among e here
  was_here e m = (filter_among (λ e. nat_le e.seq n) here e m).0

  -- what stays is newer than all, or was kept
  rest_is : (e : Entry) → Among e rest → Among e c ⊎ (Among e here × (k e ≡ true))
  rest_is e m = go (among_append (filter k (upto n here)) c e m)
    where
      go : Among e (filter k (upto n here)) ⊎ Among e c → Among e c ⊎ (Among e here × (k e ≡ true))
      go (inl i) = let p = filter_among k (upto n here) e i in inr (was_here e p.0, p.1)
      go (inr i) = inl i

  -- an entry of the lowest stripe shadows an older one there
  low_shadow : (e g : Entry) → Among e here → Among g here → e.seq < g.seq → in_lowest stripes g.seq ≡ true → shadows g.op e.op ≡ true → k e ≡ true → ⊥
  low_shadow e g m j l low sh h =
      let q : e.seq ≤ g.seq = omega arith in
      let p : k e ≡ false = not_kept here stripes true e g j l (lowest_below stripes e.seq g.seq low q) sh in
      cc

  cover_at_bottom : cover_of all ≡ cover_of rest
  cover_at_bottom = stays here [] c stripes true n up of_stripe low
    where
      low : (e g : Entry) (s : List ℕ) → Among e rest → SetsUnder s e.op → Among g (upto n here) → k g ≡ false → in_lowest stripes g.seq ≡ true → is_set g.op ≡ false → true ≡ true → ends_after e.seq s g ≡ true → ⊥
      low e g s m sets j d l t b ends = go (rest_is e m) (and_parts (nat_lt e.seq g.seq) (ends_set s g.op) ends)
        where
          go : Among e c ⊎ (Among e here × (k e ≡ true)) → (nat_lt e.seq g.seq ≡ true) × (ends_set s g.op ≡ true) → ⊥
          go (inl i) p = let q : g.seq < e.seq = above g e (was_here g j) i in (let r : e.seq < g.seq = ltb-true e.seq g.seq p.0 in omega arith)
          go (inr i) p = low_shadow e g i.0 (was_here g j) (ltb-true e.seq g.seq p.0) l (ender_shadows g.op e.op s sets p.1 t) i.1

  abbrev points : List Entry → List Entry
  points l = filter (λ e. is_point e.op) l

  -- where the newest point stays
  stays_newest : (d : Entry) → Among d rest → is_point d.op ≡ true → ((f : Entry) → Among f all → is_point f.op ≡ true → f.seq ≤ d.seq) → filter (newest_in all) all ≡ filter (newest_in rest) rest
  stays_newest d md pd greatest = points_stay here [] c stripes true n up of_stripe low_dropped low_newer
    where
      low_dropped : (e : Entry) → Among e (upto n here) → k e ≡ false → in_lowest stripes e.seq ≡ true → is_set e.op ≡ false → true ≡ true → newest_in all e ≡ false
      low_dropped e m h l t b = go (is_point e.op) refl
        where
          older : is_point e.op ≡ true → e.seq < d.seq
          older p = place (rest_is d md) (cases_order e.seq d.seq)
            where
              most : e.seq ≤ d.seq
              most = greatest e (among_left (upto n here) c e m) p

              place : Among d c ⊎ (Among d here × (k d ≡ true)) → (e.seq ≡ d.seq) ⊎ ((e.seq < d.seq) ⊎ (d.seq < e.seq)) → e.seq < d.seq
              place (inl i) o = above e d (was_here e m) i
              place (inr i) (inl o) = let q : e ≡ d = same_number here e d apart (was_here e m) i.0 o in (let r : k e ≡ true = ap k q ∙ i.1 in absurd cc)
              place (inr i) (inr (inl o)) = o
              place (inr i) (inr (inr o)) = let w : e.seq ≤ d.seq = most in absurd (omega arith)

          go : (v : Bool) → is_point e.op ≡ v → (v && not (list_any (newer_point e) all)) ≡ false
          go false p = refl
          go true p = rw (any_from (newer_point e) all d (less_within [] (upto n here) c k d md) (rw (pd, lt-ltb e.seq d.seq (older p)) refl)) refl

      low_newer : (e g : Entry) → Among e rest → Among g all → true ≡ true → newer_point e g ≡ true → list_any (newer_point e) rest ≡ true
      low_newer e g m i b h =
          let p = and_parts (is_point g.op) (nat_lt e.seq g.seq) h in
          let q : g.seq ≤ d.seq = greatest g i p.0 in
          let r : e.seq < g.seq = ltb-true e.seq g.seq p.1 in
          let u : e.seq < d.seq = omega arith in
          any_from (newer_point e) rest d md (rw (pd, lt-ltb e.seq d.seq u) refl)

  -- where the newest point was dropped, it was a deletion, and no other point stays
  dropped_newest : (d : Entry) → Among d (upto n here) → is_point d.op ≡ true → is_set d.op ≡ false → in_lowest stripes d.seq ≡ true → k d ≡ false → ((f : Entry) → Among f all → is_point f.op ≡ true → f.seq ≤ d.seq) → value_of (points all) ≡ value_of (points rest)
  dropped_newest d md pd td ld kd greatest = none_before (newest (points all)) refl ∙ sym (ap value_of no_points)
    where
      not_newer : (e : Entry) → Among e c → is_point e.op ≡ true → ⊥
      not_newer e i p = let q : d.seq < e.seq = above d e (was_here d md) i in (let r : e.seq ≤ d.seq = greatest e (among_right (upto n here) c e i) p in omega arith)

      none_kept : (e : Entry) → is_point e.op ≡ true → Among e here → k e ≡ true → e.seq ≤ d.seq → (e.seq ≡ d.seq) ⊎ ((e.seq < d.seq) ⊎ (d.seq < e.seq)) → ⊥
      none_kept e p m h l (inl o) = let q : e ≡ d = same_number here e d apart m (was_here d md) o in (let r : k d ≡ true = sym (ap k q) ∙ h in cc)
      none_kept e p m h l (inr (inl o)) = low_shadow e d m (was_here d md) o ld (point_shadows d.op e.op pd p) h
      none_kept e p m h l (inr (inr o)) = omega arith

      no_point : (e : Entry) → Among e rest → is_point e.op ≡ false
      no_point e m = go (is_point e.op) refl (rest_is e m)
        where
          go : (v : Bool) → is_point e.op ≡ v → Among e c ⊎ (Among e here × (k e ≡ true)) → v ≡ false
          go false p i = refl
          go true p (inl i) = absurd (not_newer e i p)
          go true p (inr i) = absurd (none_kept e p i.0 i.1 (greatest e (less_within [] (upto n here) c k e m) p) (cases_order e.seq d.seq))

      no_points : points rest ≡ []
      no_points = filter_none (λ e. is_point e.op) rest (all_among (λ e. is_point e.op ≡ false) rest no_point)

      no_value : (op : Op) → is_set op ≡ false → put_value op ≡ None
      no_value (Put key value) h = cc
      no_value (Del key) h = refl
      no_value (RangeSet start end s v) h = refl
      no_value (RangeUnset start end s) h = refl
      no_value (RangeDel start end) h = refl

      is_d : (e : Entry) → Among e all → is_point e.op ≡ true → list_any (newer_point e) all ≡ false → e ≡ d
      is_d e m p h = go (among_append (upto n here) c e m) (cases_order e.seq d.seq)
        where
          go : Among e (upto n here) ⊎ Among e c → (e.seq ≡ d.seq) ⊎ ((e.seq < d.seq) ⊎ (d.seq < e.seq)) → e ≡ d
          go (inr i) o = absurd (not_newer e i p)
          go (inl i) (inl o) = same_number here e d apart (was_here e i) (was_here d md) o
          go (inl i) (inr (inl o)) =
              let q : newer_point e d ≡ false = any_false (newer_point e) all d h (among_left (upto n here) c d md) in
              let r : newer_point e d ≡ true = rw (pd, lt-ltb e.seq d.seq o) refl in
              absurd cc
          go (inl i) (inr (inr o)) = let q : e.seq ≤ d.seq = greatest e m p in absurd (omega arith)

      none_before : (e : Option Entry) → newest (points all) ≡ e → option_and_then (λ f. put_value f.op) (newest (points all)) ≡ None
      none_before None h = rw h refl
      none_before (Some e) h =
          let m = filter_among (newest_in all) all e (first_among (filter (newest_in all) all) e (sym (newest_of all) ∙ h)) in
          let p = and_parts (is_point e.op) (not (list_any (newer_point e) all)) m.1 in
          let q : e ≡ d = is_d e m.0 p.0 (not-true (list_any (newer_point e) all) p.1) in
          ap (option_and_then (λ f. put_value f.op)) (h ∙ ap Some q) ∙ no_value d.op td

  point_at_bottom : value_of (points all) ≡ value_of (points rest)
  point_at_bottom = go (latest (λ e. is_point e.op) all)
    where
      place : (d : Entry) → is_point d.op ≡ true → ((f : Entry) → Among f all → is_point f.op ≡ true → f.seq ≤ d.seq) → Among d rest ⊎ (Among d (upto n here) × (k d ≡ false)) → value_of (points all) ≡ value_of (points rest)
      place d p greatest (inl m) = value_from all rest (stays_newest d m p greatest)
      place d p greatest (inr m) = why (why_dropped here stripes true d m.1)
        where
          why : Why here stripes true d → value_of (points all) ≡ value_of (points rest)
          why (lowest b l t) = dropped_newest d m.0 p t l m.1 greatest
          why (shadowed f j l st sh) =
              let q : f.seq ≤ d.seq = greatest f (among_left (upto n here) c f (shadow_seen here [] c stripes true n up of_stripe d f m.0 j st)) (shadow_points f.op d.op p sh) in
              absurd (omega arith)

      go : Latest (λ e. is_point e.op) all → value_of (points all) ≡ value_of (points rest)
      go (none f) = ap value_of (filter_none (λ e. is_point e.op) all (all_among (λ e. is_point e.op ≡ false) all f) ∙ sym (filter_none (λ e. is_point e.op) rest (all_among (λ e. is_point e.op ≡ false) rest (λ e m. f e (less_within [] (upto n here) c k e m)))))
      go (some d m p greatest) = place d p greatest (less_or_dropped [] (upto n here) c k d m)

pub kept_at_bottom_gives_cells : KeptAtBottomGivesCells
kept_at_bottom_gives_cells older es newer stripes n x up of empty apart above =
    cells_of_whole older es newer n x k
    ∙ ap (λ a. gives (whole a (upto n here) c k)) none_older
    ∙ pair_of (value_of (points all)) (value_of (points rest)) (cover_of all) (cover_of rest)
    (point_at_bottom here c stripes n ups among apart over_c)
    (cover_at_bottom here c stripes n ups among apart over_c)
    ∙ ap (λ a. gives (less a (upto n here) c k)) (sym none_older)
    ∙ sym (cells_of_less older es newer n x k)
  where
    here : List Entry
    here = over x es

    k : Entry → Bool
    k = keeps here stripes true

    c : List Entry
    c = at n x newer

    all : List Entry
    all = whole [] (upto n here) c k

    rest : List Entry
    rest = less [] (upto n here) c k

    points : List Entry → List Entry
    points l = filter (λ e. is_point e.op) l

    ups : Ascending nat_lt stripes
    ups = stripes_ascend stripes up

    among : Among n stripes
    among = among_contained stripes n of

    none_older : at n x older ≡ []
    none_older = at_over n x older ∙ ap (upto n) empty

    over_c : (e f : Entry) → Among e here → Among f c → e.seq < f.seq
    over_c e f i j = newer_gives here (over x newer) e f above i (filter_among (λ e. nat_le e.seq n) (over x newer) f (subst (λ l. Among f l) (at_over n x newer) j)).0
