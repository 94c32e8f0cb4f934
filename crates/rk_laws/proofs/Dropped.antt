-- Entries that may be dropped from among others over a key.
use Rattle.std.proofs.Common.{◌≡◌, ℕ, ◌<◌, ◌≤◌, Bool, true, false, ◌&&◌, cond, List, [], ◌∷◌, ◌++◌, filter, Option, Some, None, refl, ap, sym, ◌∙◌, ◌⊎◌, inl, inr, arith, nat_lt}
use Rattle.std.specs.List.{list_any, filter_map, cons_option}
use Rattle.std.proofs.lemmas.Bool.{ltb-true, ltb-false}
use Rattle.std.proofs.lemmas.List.Elements.{filter-append, filter_map-append}
use Rattle.rk_model.specs.Covers.{standing, ends_set, by_suffix, cover_of}
use Rattle.rk_model.specs.declared.op.Op.{Op}
use Rattle.rk_model.specs.declared.op.Op.TheVariants.{Put, Del, RangeSet, RangeUnset, RangeDel}
use Rattle.rk_model.specs.declared.op.Entry.{Entry}
use Rattle.rk_model.specs.declared.span.SuffixValue.{SuffixValue}
use Rattle.rk_model.specs.Lists.{Among}
use Rattle.rk_model.proofs.Members.{among_append, among_left, among_right, among_filter, filter_among, any_gives, any_false}

-- of the entries that pass a test, one with the greatest number, or that none passes
pub data Latest (t : Entry → Bool) (l : List Entry) : Type 0 where
  none : ((e : Entry) → Among e l → t e ≡ false) → Latest t l
  some : (e : Entry) → Among e l → t e ≡ true → ((f : Entry) → Among f l → t f ≡ true → f.seq ≤ e.seq) → Latest t l

pub latest : (t : Entry → Bool) (l : List Entry) → Latest t l
latest t [] = none (λ e m. absurd m)
latest t (x ∷ xs) = go (t x) refl (latest t xs)
  where
    go : (b : Bool) → t x ≡ b → Latest t xs → Latest t (x ∷ xs)
    go false e (none f) = none (λ w m. elim m [ inl k ↦ ap t k ∙ e | inr k ↦ f w k ])
    go false e (some a m h f) = some a (inr m) h (λ w n k. elim n [ inl g ↦ (let p : t x ≡ true = sym (ap t g) ∙ k in cc) | inr g ↦ f w g k ])
    go true e (none f) = some x (inl refl) e (λ w n k. elim n [ inl g ↦ (let p : w.seq ≡ x.seq = ap (λ (z : Entry). z.seq) g in omega arith) | inr g ↦ (let p : t w ≡ false = f w g in cc) ])
    go true e (some a m h f) = either (nat_lt a.seq x.seq) refl
      where
        either : (c : Bool) → nat_lt a.seq x.seq ≡ c → Latest t (x ∷ xs)
        either true p = some x (inl refl) e (λ w n k. elim n [ inl g ↦ (let q : w.seq ≡ x.seq = ap (λ (z : Entry). z.seq) g in omega arith) | inr g ↦ (let q : w.seq ≤ a.seq = f w g k in (let r : a.seq < x.seq = ltb-true a.seq x.seq p in omega arith)) ])
        either false p = some a (inr m) h (λ w n k. elim n [ inl g ↦ (let q : w.seq ≡ x.seq = ap (λ (z : Entry). z.seq) g in (let r : x.seq ≤ a.seq = ltb-false a.seq x.seq p in omega arith)) | inr g ↦ f w g k ])

-- a test passes some of the whole list where it passes some of the rest
pub any_less : (t : Entry → Bool) (l m : List Entry) → ((e : Entry) → Among e m → Among e l) → ((e : Entry) → Among e l → t e ≡ true → list_any t m ≡ true) → list_any t l ≡ list_any t m
any_less t l m within back = go (list_any t l) refl (list_any t m) refl
  where
    go : (a : Bool) → list_any t l ≡ a → (b : Bool) → list_any t m ≡ b → a ≡ b
    go true e true f = refl
    go false e false f = refl
    go true e false f = let (w, n) = any_gives t l e in (let p : list_any t m ≡ true = back w n.0 n.1 in cc)
    go false e true f = let (w, n) = any_gives t m f in (let p : t w ≡ false = any_false t l w e (within w n.0) in (let q : t w ≡ true = n.1 in cc))

pub filter_map_on : {X Y : Type 0} (g h : X → Option Y) (xs : List X) → ((x : X) → Among x xs → g x ≡ h x) → filter_map g xs ≡ filter_map h xs
filter_map_on g h [] e = refl
filter_map_on g h (x ∷ xs) e = rw (e x (inl refl), filter_map_on g h xs (λ a m. e a (inr m))) refl

-- a filter that drops what gives nothing, and keeps what gives the same
pub filter_map_drop : {X Y : Type 0} (g h : X → Option Y) (k : X → Bool) (xs : List X) → ((x : X) → Among x xs → k x ≡ false → g x ≡ None) → ((x : X) → Among x xs → k x ≡ true → g x ≡ h x) → filter_map g xs ≡ filter_map h (filter k xs)
filter_map_drop g h k [] a b = refl
filter_map_drop {X} {Y} g h k (x ∷ xs) a b = go (k x) refl (filter_map_drop g h k xs (λ y m. a y (inr m)) (λ y m. b y (inr m)))
  where
    go : (c : Bool) → k x ≡ c → filter_map g xs ≡ filter_map h (filter k xs) → filter_map g (x ∷ xs) ≡ filter_map h (cond c (x ∷ filter k xs) (filter k xs))
    go true e ih = rw (b x (inl refl) e) (ap (cons_option (h x)) ih)
    go false e ih = rw (a x (inl refl) e) ih

-- the same of a filter by two tests
pub filter_drop : {X : Type 0} (g h k : X → Bool) (xs : List X) → ((x : X) → Among x xs → k x ≡ false → g x ≡ false) → ((x : X) → Among x xs → k x ≡ true → g x ≡ h x) → filter g xs ≡ filter h (filter k xs)
filter_drop g h k [] a b = refl
filter_drop {X} g h k (x ∷ xs) a b = go (k x) refl (filter_drop g h k xs (λ y m. a y (inr m)) (λ y m. b y (inr m)))
  where
    go : (c : Bool) → k x ≡ c → filter g xs ≡ filter h (filter k xs) → filter g (x ∷ xs) ≡ filter h (cond c (x ∷ filter k xs) (filter k xs))
    go true e ih = rw (b x (inl refl) e) (ap (λ l. cond (h x) (x ∷ l) l) ih)
    go false e ih = rw (a x (inl refl) e) ih

pub filter_on : {X : Type 0} (g h : X → Bool) (xs : List X) → ((x : X) → Among x xs → g x ≡ h x) → filter g xs ≡ filter h xs
filter_on g h [] e = refl
filter_on g h (x ∷ xs) e = rw (e x (inl refl)) (ap (λ l. cond (h x) (x ∷ l) l) (filter_on g h xs (λ a m. e a (inr m))))

-- whether an entry is newer than n and ends what a set put under s
abbrev pub ends_after : ℕ → List ℕ → Entry → Bool
ends_after n s f = nat_lt n f.seq && ends_set s f.op

-- an operation that sets under s
abbrev pub SetsUnder : List ℕ → Op → Type 0
SetsUnder s (Put key value) = ⊥
SetsUnder s (Del key) = ⊥
SetsUnder s (RangeSet start end t value) = s ≡ t
SetsUnder s (RangeUnset start end t) = ⊥
SetsUnder s (RangeDel start end) = ⊥

-- a set whose enders are dropped together with newer enders stands as it did
pub standing_less : (l m : List Entry) → ((e : Entry) → Among e m → Among e l) → (n : ℕ) (op : Op)
    → ((s : List ℕ) → SetsUnder s op → (e : Entry) → Among e l → ends_after n s e ≡ true → list_any (ends_after n s) m ≡ true) → standing l n op ≡ standing m n op
standing_less l m within n (Put key value) back = refl
standing_less l m within n (Del key) back = refl
standing_less l m within n (RangeSet start end s v) back = ap (λ b. cond b None (Some (record { suffix = s; value = v }))) (any_less (ends_after n s) l m within (back s refl))
standing_less l m within n (RangeUnset start end s) back = refl
standing_less l m within n (RangeDel start end) back = refl

module _ (a b c : List Entry) (k : Entry → Bool) where
  -- all entries over the key, and those without the dropped ones
  abbrev pub whole : List Entry
  whole = a ++ b ++ c

  abbrev pub less : List Entry
  less = a ++ filter k b ++ c

  pub less_within : (e : Entry) → Among e less → Among e whole
  less_within e m = go (among_append (a ++ filter k b) c e m)
    where
      front : Among e a ⊎ Among e (filter k b) → Among e whole
      front (inl n) = among_left (a ++ b) c e (among_left a b e n)
      front (inr n) = among_left (a ++ b) c e (among_right a b e (filter_among k b e n).0)

      go : Among e (a ++ filter k b) ⊎ Among e c → Among e whole
      go (inl n) = front (among_append a (filter k b) e n)
      go (inr n) = among_right (a ++ b) c e n

  -- an entry of the whole is among the less, or was dropped
  pub less_or_dropped : (e : Entry) → Among e whole → Among e less ⊎ (Among e b × (k e ≡ false))
  less_or_dropped e m = go (among_append (a ++ b) c e m)
    where
      middle : Among e b → (t : Bool) → k e ≡ t → Among e less ⊎ (Among e b × (k e ≡ false))
      middle n true h = inl (among_left (a ++ filter k b) c e (among_right a (filter k b) e (among_filter k b e n h)))
      middle n false h = inr (n, h)

      front : Among e a ⊎ Among e b → Among e less ⊎ (Among e b × (k e ≡ false))
      front (inl n) = inl (among_left (a ++ filter k b) c e (among_left a (filter k b) e n))
      front (inr n) = middle n (k e) refl

      go : Among e (a ++ b) ⊎ Among e c → Among e less ⊎ (Among e b × (k e ≡ false))
      go (inl n) = front (among_append a b e n)
      go (inr n) = inl (among_right (a ++ filter k b) c e n)

  pub cover_of_less : ((e : Entry) → Among e b → k e ≡ false → standing whole e.seq e.op ≡ None) → ((e : Entry) → Among e less → standing whole e.seq e.op ≡ standing less e.seq e.op) → cover_of whole ≡ cover_of less
  cover_of_less dropped same = ap by_suffix (
      filter_map-append g (a ++ b) c ∙ ap (λ l. l ++ filter_map g c) (filter_map-append g a b)
      ∙ three (filter_map g a) (filter_map h a) (filter_map g b) (filter_map h (filter k b)) (filter_map g c) (filter_map h c)
      (filter_map_on g h a (λ e m. same e (among_left (a ++ filter k b) c e (among_left a (filter k b) e m))))
      (filter_map_drop g h k b dropped (λ e m t. same e (among_left (a ++ filter k b) c e (among_right a (filter k b) e (among_filter k b e m t)))))
      (filter_map_on g h c (λ e m. same e (among_right (a ++ filter k b) c e m)))
      ∙ sym (filter_map-append h (a ++ filter k b) c ∙ ap (λ l. l ++ filter_map h c) (filter_map-append h a (filter k b))))
    where
      g : Entry → Option SuffixValue
      g e = standing whole e.seq e.op

      h : Entry → Option SuffixValue
      h e = standing less e.seq e.op

      three : (p q r s u v : List SuffixValue) → p ≡ q → r ≡ s → u ≡ v → p ++ r ++ u ≡ q ++ s ++ v
      three p q r s u v e f i = rw (e, f, i) refl

  pub filter_less : (g h : Entry → Bool) → ((e : Entry) → Among e b → k e ≡ false → g e ≡ false) → ((e : Entry) → Among e less → g e ≡ h e) → filter g whole ≡ filter h less
  filter_less g h dropped same =
      filter-append g (a ++ b) c ∙ ap (λ l. l ++ filter g c) (filter-append g a b)
      ∙ three (filter g a) (filter h a) (filter g b) (filter h (filter k b)) (filter g c) (filter h c)
      (filter_on g h a (λ e m. same e (among_left (a ++ filter k b) c e (among_left a (filter k b) e m))))
      (filter_drop g h k b dropped (λ e m t. same e (among_left (a ++ filter k b) c e (among_right a (filter k b) e (among_filter k b e m t)))))
      (filter_on g h c (λ e m. same e (among_right (a ++ filter k b) c e m)))
      ∙ sym (filter-append h (a ++ filter k b) c ∙ ap (λ l. l ++ filter h c) (filter-append h a (filter k b)))
    where
      three : (p q r s u v : List Entry) → p ≡ q → r ≡ s → u ≡ v → p ++ r ++ u ≡ q ++ s ++ v
      three p q r s u v e f i = rw (e, f, i) refl
