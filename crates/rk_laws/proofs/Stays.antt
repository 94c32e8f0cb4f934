-- Kept entries give what all of them give.
use Rattle.std.proofs.Common.{◌≡◌, ℕ, ◌<◌, ◌≤◌, Bool, true, false, not, ◌&&◌, ◌||◌, cond, List, [], ◌∷◌, ◌++◌, filter, None, refl, ap, sym, ◌∙◌, ◌⊎◌, inl, inr, arith, nat_lt, nat_le}
use Rattle.std.specs.Ordering.{is_eq}
use Rattle.std.specs.List.{list_any}
use Rattle.std.proofs.lemmas.Bool.{lt-ltb, ltb-true, leb-true, le-leb, and_parts, and_cases, not-true, not-false}
use Rattle.rk_key.specs.Keys.{suffix_cmp}
use Rattle.rk_model.specs.Lists.{first_of, Among}
use Rattle.rk_model.specs.Covers.{upto, is_point, standing, ends_set, newest, cover_of}
use Rattle.rk_model.specs.Kept.{same_stripe, in_lowest, shadows, is_set}
use Rattle.rk_model.specs.declared.op.Op.{Op}
use Rattle.rk_model.specs.declared.op.Op.TheVariants.{Put, Del, RangeSet, RangeUnset, RangeDel}
use Rattle.rk_model.specs.declared.op.Entry.{Entry}
use Rattle.rk_model.proofs.Members.{Ascending, among_left, among_right, among_filter, filter_among, any_from, any_gives}
use Rattle.rk_laws.proofs.Order.{suffix_total, eq_is}
use Rattle.rk_laws.proofs.Stripes.{together}
use Rattle.rk_laws.proofs.Dropped.{Latest, none, some, latest, any_less, ends_after, SetsUnder, standing_less, whole, less, less_within, less_or_dropped, cover_of_less, filter_less, filter_on}

-- an operation that shadows a set ends it, and what shadows an ender ends the same
shadow_ends : (f g : Op) (s : List ℕ) → SetsUnder s g → shadows f g ≡ true → ends_set s f ≡ true
shadow_ends f (Put key value) s m h = absurd m
shadow_ends f (Del key) s m h = absurd m
shadow_ends (Put k v) (RangeSet start end t value) s m h = cc
shadow_ends (Del k) (RangeSet start end t value) s m h = cc
shadow_ends (RangeSet a b u v) (RangeSet start end t value) s m h = rw m h
shadow_ends (RangeUnset a b u) (RangeSet start end t value) s m h = rw m h
shadow_ends (RangeDel a b) (RangeSet start end t value) s m h = refl
shadow_ends f (RangeUnset start end t) s m h = absurd m
shadow_ends f (RangeDel start end) s m h = absurd m

eq_through : (u t s : List ℕ) → is_eq (suffix_cmp u t) ≡ true → is_eq (suffix_cmp t s) ≡ true → is_eq (suffix_cmp u s) ≡ true
eq_through u t s h k = ap is_eq (suffix_total.congr u t s (eq_is suffix_total u t h)) ∙ k

shadow_passes : (f g : Op) (s : List ℕ) → ends_set s g ≡ true → shadows f g ≡ true → ends_set s f ≡ true
shadow_passes f (Put key value) s m h = cc
shadow_passes f (Del key) s m h = cc
shadow_passes (Put k v) (RangeSet start end t value) s m h = cc
shadow_passes (Del k) (RangeSet start end t value) s m h = cc
shadow_passes (RangeSet a b u v) (RangeSet start end t value) s m h = eq_through u t s h m
shadow_passes (RangeUnset a b u) (RangeSet start end t value) s m h = eq_through u t s h m
shadow_passes (RangeDel a b) (RangeSet start end t value) s m h = refl
shadow_passes (Put k v) (RangeUnset start end t) s m h = cc
shadow_passes (Del k) (RangeUnset start end t) s m h = cc
shadow_passes (RangeSet a b u v) (RangeUnset start end t) s m h = eq_through u t s h m
shadow_passes (RangeUnset a b u) (RangeUnset start end t) s m h = eq_through u t s h m
shadow_passes (RangeDel a b) (RangeUnset start end t) s m h = refl
shadow_passes (Put k v) (RangeDel start end) s m h = cc
shadow_passes (Del k) (RangeDel start end) s m h = cc
shadow_passes (RangeSet a b u v) (RangeDel start end) s m h = cc
shadow_passes (RangeUnset a b u) (RangeDel start end) s m h = cc
shadow_passes (RangeDel a b) (RangeDel start end) s m h = refl

-- what shadows a point is a point
pub shadow_points : (f g : Op) → is_point g ≡ true → shadows f g ≡ true → is_point f ≡ true
shadow_points (Put k v) g m h = refl
shadow_points (Del k) g m h = refl
shadow_points (RangeSet a b u v) (Put key value) m h = cc
shadow_points (RangeSet a b u v) (Del key) m h = cc
shadow_points (RangeSet a b u v) (RangeSet start end t value) m h = cc
shadow_points (RangeSet a b u v) (RangeUnset start end t) m h = cc
shadow_points (RangeSet a b u v) (RangeDel start end) m h = cc
shadow_points (RangeUnset a b u) (Put key value) m h = cc
shadow_points (RangeUnset a b u) (Del key) m h = cc
shadow_points (RangeUnset a b u) (RangeSet start end t value) m h = cc
shadow_points (RangeUnset a b u) (RangeUnset start end t) m h = cc
shadow_points (RangeUnset a b u) (RangeDel start end) m h = cc
shadow_points (RangeDel a b) (Put key value) m h = cc
shadow_points (RangeDel a b) (Del key) m h = cc
shadow_points (RangeDel a b) (RangeSet start end t value) m h = cc
shadow_points (RangeDel a b) (RangeUnset start end t) m h = cc
shadow_points (RangeDel a b) (RangeDel start end) m h = cc

-- points shadow points
pub point_shadows : (f g : Op) → is_point f ≡ true → is_point g ≡ true → shadows f g ≡ true
point_shadows f g h k = rw (h, k) refl

-- an ender that is no set shadows what it ends
pub ender_shadows : (f g : Op) (s : List ℕ) → SetsUnder s g → ends_set s f ≡ true → is_set f ≡ false → shadows f g ≡ true
ender_shadows f (Put key value) s m h k = absurd m
ender_shadows f (Del key) s m h k = absurd m
ender_shadows (Put a v) (RangeSet start end t value) s m h k = cc
ender_shadows (Del a) (RangeSet start end t value) s m h k = cc
ender_shadows (RangeSet a b u v) (RangeSet start end t value) s m h k = cc
ender_shadows (RangeUnset a b u) (RangeSet start end t value) s m h k = rw (← m) h
ender_shadows (RangeDel a b) (RangeSet start end t value) s m h k = refl
ender_shadows f (RangeUnset start end t) s m h k = absurd m
ender_shadows f (RangeDel start end) s m h k = absurd m

-- whether f is a newer entry of the stripe that shadows e
abbrev pub shadowing : List ℕ → Entry → Entry → Bool
shadowing stripes e f = nat_lt e.seq f.seq && same_stripe stripes e.seq f.seq && shadows f.op e.op

-- whether an entry is kept among those over the key
abbrev pub keeps : List Entry → List ℕ → Bool → Entry → Bool
keeps here stripes bottom e = not (list_any (shadowing stripes e) here) && not (bottom && in_lowest stripes e.seq && not (is_set e.op))

-- why an entry is dropped: a newer one of its stripe shadows it, or it is no set of the lowest stripe
pub data Why (here : List Entry) (stripes : List ℕ) (bottom : Bool) (e : Entry) : Type 0 where
  shadowed : (f : Entry) → Among f here → e.seq < f.seq → same_stripe stripes e.seq f.seq ≡ true → shadows f.op e.op ≡ true → Why here stripes bottom e
  lowest : bottom ≡ true → in_lowest stripes e.seq ≡ true → is_set e.op ≡ false → Why here stripes bottom e

pub why_dropped : (here : List Entry) (stripes : List ℕ) (bottom : Bool) (e : Entry) → keeps here stripes bottom e ≡ false → Why here stripes bottom e
why_dropped here stripes bottom e h = go (and_cases (not (list_any (shadowing stripes e) here)) (not (bottom && in_lowest stripes e.seq && not (is_set e.op))) h)
  where
    by_shadow : (f : Entry) → Among f here → shadowing stripes e f ≡ true → Why here stripes bottom e
    by_shadow f m k =
        let p = and_parts (nat_lt e.seq f.seq && same_stripe stripes e.seq f.seq) (shadows f.op e.op) k in
        let q = and_parts (nat_lt e.seq f.seq) (same_stripe stripes e.seq f.seq) p.0 in
        shadowed f m (ltb-true e.seq f.seq q.0) q.1 p.1

    at_lowest : (bottom && in_lowest stripes e.seq && not (is_set e.op)) ≡ true → Why here stripes bottom e
    at_lowest k =
        let p = and_parts (bottom && in_lowest stripes e.seq) (not (is_set e.op)) k in
        let q = and_parts bottom (in_lowest stripes e.seq) p.0 in
        lowest q.0 q.1 (not-true (is_set e.op) p.1)

    go : (not (list_any (shadowing stripes e) here) ≡ false) ⊎ (not (bottom && in_lowest stripes e.seq && not (is_set e.op)) ≡ false) → Why here stripes bottom e
    go (inl k) = let (f, m) = any_gives (shadowing stripes e) here (not-false (list_any (shadowing stripes e) here) k) in by_shadow f m.0 m.1
    go (inr k) = at_lowest (not-false (bottom && in_lowest stripes e.seq && not (is_set e.op)) k)

-- an entry that one shadows isn't kept
pub not_kept : (here : List Entry) (stripes : List ℕ) (bottom : Bool) (e f : Entry) → Among f here → e.seq < f.seq → same_stripe stripes e.seq f.seq ≡ true → shadows f.op e.op ≡ true → keeps here stripes bottom e ≡ false
not_kept here stripes bottom e f m h k g = rw (any_from (shadowing stripes e) here f m (rw (lt-ltb e.seq f.seq h, k, g) refl)) refl

-- whether f is a point newer than e
abbrev pub newer_point : Entry → Entry → Bool
newer_point e f = is_point f.op && nat_lt e.seq f.seq

-- whether an entry is a point that none of the others is newer than
abbrev pub newest_in : List Entry → Entry → Bool
newest_in l e = is_point e.op && not (list_any (newer_point e) l)

fused : {X : Type 0} (p q : X → Bool) (xs : List X) → filter p (filter q xs) ≡ filter (λ x. q x && p x) xs
fused p q [] = refl
fused {X} p q (x ∷ xs) = go (q x) (fused p q xs)
  where
    go : (b : Bool) → filter p (filter q xs) ≡ filter (λ x. q x && p x) xs → filter p (cond b (x ∷ filter q xs) (filter q xs)) ≡ cond (b && p x) (x ∷ filter (λ x. q x && p x) xs) (filter (λ x. q x && p x) xs)
    go true ih = ap (λ l. cond (p x) (x ∷ l) l) ih
    go false ih = ih

any_fused : {X : Type 0} (p q : X → Bool) (xs : List X) → list_any p (filter q xs) ≡ list_any (λ x. q x && p x) xs
any_fused p q [] = refl
any_fused {X} p q (x ∷ xs) = go (q x) (any_fused p q xs)
  where
    go : (b : Bool) → list_any p (filter q xs) ≡ list_any (λ x. q x && p x) xs → list_any p (cond b (x ∷ filter q xs) (filter q xs)) ≡ ((b && p x) || list_any (λ x. q x && p x) xs)
    go true ih = ap (λ t. p x || t) ih
    go false ih = ih

-- the newest of the points among some entries
pub newest_of : (l : List Entry) → newest (filter (λ e. is_point e.op) l) ≡ first_of (filter (newest_in l) l)
newest_of l = ap first_of (
    fused (λ e. not (list_any (λ f. nat_lt e.seq f.seq) (filter (λ f. is_point f.op) l))) (λ e. is_point e.op) l
    ∙ filter_on (λ e. is_point e.op && not (list_any (λ f. nat_lt e.seq f.seq) (filter (λ f. is_point f.op) l))) (newest_in l) l (λ e m. ap (λ b. is_point e.op && not b) (any_fused (λ f. nat_lt e.seq f.seq) (λ f. is_point f.op) l)))

module _ (here a c : List Entry) (stripes : List ℕ) (bottom : Bool) (n : ℕ) (up : Ascending nat_lt stripes) (of_stripe : Among n stripes) where
  -- the entries numbered at most n
  abbrev pub seen : List Entry
  seen = upto n here

  abbrev pub k : Entry → Bool
  k = keeps here stripes bottom

  abbrev pub all : List Entry
  all = whole a seen c k

  abbrev pub rest : List Entry
  rest = less a seen c k

  pub seen_is : (e : Entry) → Among e seen → Among e here × (e.seq ≤ n)
  seen_is e m = let p = filter_among (λ e. nat_le e.seq n) here e m in (p.0, leb-true e.seq n p.1)

  -- what shadows an entry that is seen is seen
  pub shadow_seen : (e f : Entry) → Among e seen → Among f here → same_stripe stripes e.seq f.seq ≡ true → Among f seen
  shadow_seen e f m i same = among_filter (λ e. nat_le e.seq n) here f i (le-leb f.seq n (together stripes e.seq f.seq n up of_stripe same (seen_is e m).1))

  in_all : (f : Entry) → Among f seen → Among f all
  in_all f m = among_left (a ++ seen) c f (among_right a seen f m)

  -- a dropped entry put nothing
  dropped_none : (e : Entry) → Among e seen → k e ≡ false → standing all e.seq e.op ≡ None
  dropped_none e m h = go e.op refl (why_dropped here stripes bottom e h)
    where
      go : (op : Op) → e.op ≡ op → Why here stripes bottom e → standing all e.seq op ≡ None
      go (Put key value) i w = refl
      go (Del key) i w = refl
      go (RangeSet start end s v) i (shadowed f j l same sh) =
          let p : shadows f.op (RangeSet start end s v) ≡ true = sym (ap (shadows f.op) i) ∙ sh in
          let q : ends_set s f.op ≡ true = shadow_ends f.op (RangeSet start end s v) s refl p in
          rw (any_from (ends_after e.seq s) all f (in_all f (shadow_seen e f m j same)) (rw (lt-ltb e.seq f.seq l, q) refl)) refl
      go (RangeSet start end s v) i (lowest b l t) = let p : is_set (RangeSet start end s v) ≡ false = sym (ap is_set i) ∙ t in cc
      go (RangeUnset start end s) i w = refl
      go (RangeDel start end) i w = refl

  -- what stays stands as it did, unless an entry of the lowest stripe that was dropped ended it
  pub stays : ((e g : Entry) (s : List ℕ) → Among e rest → SetsUnder s e.op → Among g seen → k g ≡ false → in_lowest stripes g.seq ≡ true → is_set g.op ≡ false → bottom ≡ true → ends_after e.seq s g ≡ true → ⊥) → cover_of all ≡ cover_of rest
  stays low = cover_of_less a seen c k dropped_none same
    where
      same : (e : Entry) → Among e rest → standing all e.seq e.op ≡ standing rest e.seq e.op
      same e m = standing_less all rest (less_within a seen c k) e.seq e.op back
        where
          back : (s : List ℕ) → SetsUnder s e.op → (f : Entry) → Among f all → ends_after e.seq s f ≡ true → list_any (ends_after e.seq s) rest ≡ true
          back s sets f i h = go (latest (ends_after e.seq s) all)
            where
              dropped : (g : Entry) → Among g seen → k g ≡ false → ends_after e.seq s g ≡ true → ((f : Entry) → Among f all → ends_after e.seq s f ≡ true → f.seq ≤ g.seq) → Why here stripes bottom g → ⊥
              dropped g j d ends greatest (lowest b l t) = low e g s m sets j d l t b ends
              dropped g j d ends greatest (shadowed f' j' l st sh) =
                  let p = and_parts (nat_lt e.seq g.seq) (ends_set s g.op) ends in
                  let q : ends_set s f'.op ≡ true = shadow_passes f'.op g.op s p.1 sh in
                  let r : e.seq < g.seq = ltb-true e.seq g.seq p.0 in
                  let u : e.seq < f'.seq = omega arith in
                  let v : f'.seq ≤ g.seq = greatest f' (in_all f' (shadow_seen g f' j j' st)) (rw (lt-ltb e.seq f'.seq u, q) refl) in
                  omega arith

              place : (g : Entry) → ends_after e.seq s g ≡ true → ((f : Entry) → Among f all → ends_after e.seq s f ≡ true → f.seq ≤ g.seq) → Among g rest ⊎ (Among g seen × (k g ≡ false)) → list_any (ends_after e.seq s) rest ≡ true
              place g ends greatest (inl j) = any_from (ends_after e.seq s) rest g j ends
              place g ends greatest (inr j) = absurd (dropped g j.0 j.1 ends greatest (why_dropped here stripes bottom g j.1))

              go : Latest (ends_after e.seq s) all → list_any (ends_after e.seq s) rest ≡ true
              go (none z) = let p : ends_after e.seq s f ≡ false = z f i in cc
              go (some g j ends greatest) = place g ends greatest (less_or_dropped a seen c k g j)

  dropped_point : (e : Entry) → Among e seen → (f : Entry) → Among f here → e.seq < f.seq → same_stripe stripes e.seq f.seq ≡ true → shadows f.op e.op ≡ true → newest_in all e ≡ false
  dropped_point e m f j l st sh = go (is_point e.op) refl
    where
      go : (b : Bool) → is_point e.op ≡ b → (b && not (list_any (newer_point e) all)) ≡ false
      go false i = refl
      go true i = rw (any_from (newer_point e) all f (in_all f (shadow_seen e f m j st)) (rw (shadow_points f.op e.op i sh, lt-ltb e.seq f.seq l) refl)) refl

  -- the newest points that stay are the newest points, unless one of the lowest stripe was dropped
  pub points_stay : ((e : Entry) → Among e seen → k e ≡ false → in_lowest stripes e.seq ≡ true → is_set e.op ≡ false → bottom ≡ true → newest_in all e ≡ false)
      → ((e g : Entry) → Among e rest → Among g all → bottom ≡ true → newer_point e g ≡ true → list_any (newer_point e) rest ≡ true)
      → filter (newest_in all) all ≡ filter (newest_in rest) rest
  points_stay low_dropped low_newer = filter_less a seen c k (newest_in all) (newest_in rest) dropped same
    where
      dropped : (e : Entry) → Among e seen → k e ≡ false → newest_in all e ≡ false
      dropped e m h = go (why_dropped here stripes bottom e h)
        where
          go : Why here stripes bottom e → newest_in all e ≡ false
          go (shadowed f j l st sh) = dropped_point e m f j l st sh
          go (lowest b l t) = low_dropped e m h l t b

      same : (e : Entry) → Among e rest → newest_in all e ≡ newest_in rest e
      same e m = ap (λ b. is_point e.op && not b) (any_less (newer_point e) all rest (less_within a seen c k) back)
        where
          back : (f : Entry) → Among f all → newer_point e f ≡ true → list_any (newer_point e) rest ≡ true
          back f i h = go (latest (newer_point e) all)
            where
              dropped' : (g : Entry) → Among g seen → newer_point e g ≡ true → ((f : Entry) → Among f all → newer_point e f ≡ true → f.seq ≤ g.seq) → Why here stripes bottom g → list_any (newer_point e) rest ≡ true
              dropped' g j newer greatest (lowest b l t) = low_newer e g m (in_all g j) b newer
              dropped' g j newer greatest (shadowed f' j' l st sh) =
                  let p = and_parts (is_point g.op) (nat_lt e.seq g.seq) newer in
                  let r : e.seq < g.seq = ltb-true e.seq g.seq p.1 in
                  let u : e.seq < f'.seq = omega arith in
                  let v : f'.seq ≤ g.seq = greatest f' (in_all f' (shadow_seen g f' j j' st)) (rw (shadow_points f'.op g.op p.0 sh, lt-ltb e.seq f'.seq u) refl) in
                  absurd (omega arith)

              place : (g : Entry) → newer_point e g ≡ true → ((f : Entry) → Among f all → newer_point e f ≡ true → f.seq ≤ g.seq) → Among g rest ⊎ (Among g seen × (k g ≡ false)) → list_any (newer_point e) rest ≡ true
              place g newer greatest (inl j) = any_from (newer_point e) rest g j newer
              place g newer greatest (inr j) = dropped' g j.0 newer greatest (why_dropped here stripes bottom g j.1)

              go : Latest (newer_point e) all → list_any (newer_point e) rest ≡ true
              go (none z) = let p : newer_point e f ≡ false = z f i in cc
              go (some g j newer greatest) = place g newer greatest (less_or_dropped a seen c k g j)
