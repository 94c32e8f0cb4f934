-- Of the entries over a key that are numbered at most n, in order, the first is the newest, and no other is visible.
use Rattle.std.proofs.Common.{◌≡◌, ℕ, ◌<◌, ◌≤◌, Bool, true, false, not, ◌&&◌, List, [], ◌∷◌, Some, refl, ap, sym, ◌∙◌, inl, inr, cond, arith, ltb-true, lt-ltb, nat_lt, nat_le, ◌==◌, Less, Equal, Greater}
use Rattle.std.specs.Prelude.{IsTrue, filter, MatchOption}
use Rattle.std.specs.List.{list_any}
use Rattle.std.specs.Option.{option_and_then}
use Rattle.std.specs.Ordering.{is_lt, is_eq, nat_cmp}
use Rattle.rk_key.specs.Keys.{key_cmp}
use Rattle.std.proofs.lemmas.Cmp.{alike_right}
use Rattle.rk_key.specs.Laws.{key_cmp-total}
use Rattle.rk_key.proofs.TotalOrders.{eq_is}
use Rattle.rk_model.proofs.Orders.{entry_total}
use Rattle.rk_model.specs.Lists.{Among}
use Rattle.rk_model.specs.Operations.{is_over}
use Rattle.rk_model.specs.Covers.{upto, over, newest, put_value, is_point}
use Rattle.rk_model.specs.Sources.{ascends, are_points, op_key, entry_cmp}
use Rattle.rk_model.specs.declared.op.Op.{Op}
use Rattle.rk_model.specs.declared.op.Op.TheVariants.{Put, Del, RangeSet, RangeUnset, RangeDel}
use Rattle.rk_model.specs.declared.op.Entry.{Entry}
use Rattle.rk_model.proofs.Members.{filter_among, any_from, none_any, every_gives}
use Rattle.rk_model.proofs.Filters.{filter-filter, list_any-filter}
use Rattle.rk_merge.proofs.Lists.{and_parts, filter_ascends, ascends_first, ascends_tail}
use Rattle.rk_pointmerge.specs.Visibles.{is_put, outdates, is_visible, visible}
use Rattle.rk_merge_laws.specs.PointValues.{VisibleIsThePoint}

-- no entry of a list is newer than one
abbrev pub is_newest : List Entry → Entry → Bool
is_newest es e = not (list_any (λ f. nat_lt e.seq f.seq) es)

-- each entry is newer than those behind it
abbrev pub NumbersFall : List Entry → Type 0
NumbersFall [] = Unit {0}
NumbersFall (e ∷ es) = ((f : Entry) → Among f es → f.seq < e.seq) × NumbersFall es

not_newer : (a b : ℕ) → b ≤ a → nat_lt a b ≡ false
not_newer a b le = go (nat_lt a b) refl
  where
    go : (t : Bool) → nat_lt a b ≡ t → t ≡ false
    go true e = absurd (omega (arith, le, ltb-true a b e))
    go false e = refl

-- of entries that fall the first alone has no newer one
no_newer : (e : Entry) (es : List Entry) → NumbersFall (e ∷ es) → is_newest (e ∷ es) e ≡ true
no_newer e es falls = ap not (none_any (λ f. nat_lt e.seq f.seq) (e ∷ es) at)
  where
    at : (f : Entry) → Among f (e ∷ es) → nat_lt e.seq f.seq ≡ false
    at f (inl is) = not_newer e.seq f.seq (rw is (omega arith))
    at f (inr m) = not_newer e.seq f.seq (omega (arith, falls.0 f m))

others_have : (e : Entry) (es : List Entry) → NumbersFall (e ∷ es) → (fs : List Entry) → ((f : Entry) → Among f fs → Among f es) → filter (is_newest (e ∷ es)) fs ≡ []
others_have e es falls [] all = refl
others_have e es falls (f ∷ fs) all =
    let hidden : is_newest (e ∷ es) f ≡ false = ap not (any_from (λ g. nat_lt f.seq g.seq) (e ∷ es) e (inl refl) (lt-ltb f.seq e.seq (falls.0 f (all f (inl refl))))) in
    rw hidden (others_have e es falls fs (λ g m. all g (inr m)))

pub newest_alone : (e : Entry) (es : List Entry) → NumbersFall (e ∷ es) → filter (is_newest (e ∷ es)) (e ∷ es) ≡ e ∷ []
newest_alone e es falls = rw (no_newer e es falls) (ap (λ xs. e ∷ xs) (others_have e es falls es (λ f m. m)))

any_alike : (s t : Entry → Bool) (es : List Entry) → ((e : Entry) → Among e es → s e ≡ t e) → list_any s es ≡ list_any t es
any_alike s t [] same = refl
any_alike s t (e ∷ es) same = rw (same e (inl refl), any_alike s t es (λ f m. same f (inr m))) refl

and_groups : (a b c : Bool) → (a && b && c) ≡ ((a && b) && c)
and_groups true b c = refl
and_groups false b c = refl

-- tests that agree on a list keep the same of it
filter_alike : (s t : Entry → Bool) (es : List Entry) → ((e : Entry) → Among e es → s e ≡ t e) → filter s es ≡ filter t es
filter_alike s t [] same = refl
filter_alike s t (e ∷ es) same = rw (same e (inl refl), filter_alike s t es (λ f m. same f (inr m))) refl

point_over : (x : List ℕ) (op : Op) → is_point op ≡ true → is_over x op ≡ is_eq (key_cmp (op_key op) x)
point_over x (Put key value) p = refl
point_over x (Del key) p = refl
point_over x (RangeSet start end suffix value) p = cc
point_over x (RangeUnset start end suffix) p = cc
point_over x (RangeDel start end) p = cc

pub nat_cmp_lt : (a b : ℕ) → is_lt (nat_cmp a b) ≡ true → a < b
nat_cmp_lt a b e = go (nat_lt a b) (a == b) refl e
  where
    go : (c d : Bool) → nat_lt a b ≡ c → is_lt (cond c Less (cond d Equal Greater)) ≡ true → a < b
    go true d p q = ltb-true a b p
    go false true p q = cc
    go false false p q = cc

-- of entries over one key, in order, each is newer than those behind it
pub falls_from : (x : List ℕ) (es : List Entry) → ((e : Entry) → Among e es → is_eq (key_cmp (op_key e.op) x) ≡ true) → ascends (λ e f. is_lt (entry_cmp e f)) es ≡ true → NumbersFall es
falls_from x [] same up = tt
falls_from x (e ∷ es) same up = (λ f m. nat_cmp_lt f.seq e.seq (newer f m), falls_from x es (λ f m. same f (inr m)) (ascends_tail _ e es up))
  where
    newer : (f : Entry) → Among f es → is_lt (nat_cmp f.seq e.seq) ≡ true
    newer f m =
        let one : key_cmp (op_key e.op) x ≡ Equal = eq_is key_cmp-total (op_key e.op) x (same e (inl refl)) in
        let other : key_cmp (op_key f.op) x ≡ Equal = eq_is key_cmp-total (op_key f.op) x (same f (inr m)) in
        let both : key_cmp (op_key e.op) (op_key f.op) ≡ Equal = alike_right key_cmp-total (op_key f.op) x (op_key e.op) other ∙ one in
        rw both at (ascends_first entry_total e es up f m)

swap : (a b : Bool) → ((a && b) && true) ≡ (b && a)
swap true true = refl
swap true false = refl
swap false true = refl
swap false false = refl

and_false : (a : Bool) → (a && false) ≡ false
and_false true = refl
and_false false = refl

-- what is visible and over a key is a set that is newest there
kept_here : (p l h o h' : Bool) → (o ≡ true → l ≡ true → h ≡ h') → ((p && l && h) && o) ≡ (((o && l) && h') && p)
kept_here p l h false h' same = and_false _
kept_here true false h true h' same = refl
kept_here false false h true h' same = refl
kept_here true true true true h' same = rw (sym (same refl refl)) refl
kept_here true true false true h' same = rw (sym (same refl refl)) refl
kept_here false true h true h' same = sym (and_false _)

module _ (n : ℕ) (es : List Entry) (x : List ℕ) (sorted : IsTrue (are_points es)) where
  points : (e : Entry) → Among e es → is_point e.op ≡ true
  points e m = every_gives (λ e. is_point e.op) es e (and_parts _ _ sorted).0 m

  abbrev is_here : Entry → Bool
  is_here e = is_over x e.op && nat_le e.seq n

  -- the entries over the key that are numbered at most n
  abbrev here : List Entry
  here = filter is_here es

  over_key : (e : Entry) → Among e es → is_over x e.op ≡ true → is_eq (key_cmp (op_key e.op) x) ≡ true
  over_key e m over = sym (point_over x e.op (points e m)) ∙ over

  falls : NumbersFall here
  falls = falls_from x here (λ e m. let found = filter_among is_here es e m in over_key e found.0 (and_parts (is_over x e.op) _ found.1).0)
      (filter_ascends entry_total is_here es (and_parts _ _ sorted).1)

  points_here : filter (λ e. is_point e.op) (over x (upto n es)) ≡ here
  points_here =
      ap (filter (λ e. is_point e.op)) (filter-filter (λ e. is_over x e.op) (λ e. nat_le e.seq n) es)
      ∙ filter-filter (λ e. is_point e.op) (λ e. nat_le e.seq n && is_over x e.op) es
      ∙ filter_alike _ is_here es (λ e m. rw (points e m) (swap (nat_le e.seq n) (is_over x e.op)))

  hidden_alike : (e : Entry) → is_eq (key_cmp (op_key e.op) x) ≡ true → list_any (λ f. outdates n f e) es ≡ list_any (λ f. nat_lt e.seq f.seq) here
  hidden_alike e same = any_alike _ _ es at ∙ sym (list_any-filter (λ f. nat_lt e.seq f.seq) is_here es)
    where
      at : (f : Entry) → Among f es → outdates n f e ≡ (is_here f && nat_lt e.seq f.seq)
      at f m =
          let one : is_eq (key_cmp (op_key f.op) (op_key e.op)) ≡ is_over x f.op = ap is_eq (alike_right key_cmp-total (op_key e.op) x (op_key f.op) (eq_is key_cmp-total (op_key e.op) x same)) ∙ sym (point_over x f.op (points f m)) in
          ap (λ b. b && nat_le f.seq n && nat_lt e.seq f.seq) one ∙ and_groups (is_over x f.op) (nat_le f.seq n) (nat_lt e.seq f.seq)

  visible_here : over x (visible n es) ≡ filter (λ e. is_put e.op) (filter (is_newest here) here)
  visible_here =
      filter-filter (λ e. is_over x e.op) (is_visible n es) es
      ∙ filter_alike _ _ es (λ e m. kept_here (is_put e.op) (nat_le e.seq n) _ (is_over x e.op) (is_newest here e) (λ over old. ap not (hidden_alike e (over_key e m over))))
      ∙ sym (ap (filter (λ e. is_put e.op)) (filter-filter (is_newest here) is_here es) ∙ filter-filter (λ e. is_put e.op) (λ e. is_here e && is_newest here e) es)

-- of entries that fall: the newest, and the sets among the newest ones
of_falling : (es : List Entry) → NumbersFall es → MatchOption (option_and_then (λ e. put_value e.op) (newest es)) (filter (λ e. is_put e.op) (filter (is_newest es) es) ≡ [])
    (λ v. (e : Entry) × (filter (λ e. is_put e.op) (filter (is_newest es) es) ≡ e ∷ []) × (put_value e.op ≡ Some v))
of_falling [] falls = refl
of_falling (e ∷ es) falls = rw (newest_alone e es falls) (value e.op refl)
  where
    value : (op : Op) → e.op ≡ op → MatchOption (put_value e.op) (filter (λ e. is_put e.op) (e ∷ []) ≡ []) (λ v. (f : Entry) × (filter (λ e. is_put e.op) (e ∷ []) ≡ f ∷ []) × (put_value f.op ≡ Some v))
    value (Put key v) is = rw is (e, rw is refl, rw is refl)
    value (Del key) is = rw is refl
    value (RangeSet start end suffix v) is = rw is refl
    value (RangeUnset start end suffix) is = rw is refl
    value (RangeDel start end) is = rw is refl

pub visible_is_the_point : VisibleIsThePoint
visible_is_the_point n es x sorted =
    rw (points_here n es x sorted, visible_here n es x sorted) (of_falling (here n es x sorted) (falls n es x sorted))
