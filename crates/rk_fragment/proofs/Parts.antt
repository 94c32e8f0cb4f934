-- What loops over intervals do.
use Rattle.std.proofs.Common.{◌≡◌, ℕ, zero, suc, ◌+◌, ◌-◌, ◌<◌, ◌≤◌, true, false, List, [], ◌∷◌, ◌++◌, length, get_or, take, drop, map, Option, Some, None, inl, inr, refl, ap, sym, ◌∙◌, arith}
use Rattle.std.specs.Prelude.{not}
use Rattle.std.specs.List.{AllByRecursion, filter_map, cons_option, slice_get}
use Rattle.std.specs.List.Sorted.{IsPartitionedBy, IsPartitionPoint}
use borrow.Rule.Slice.PartMut.{put_mid}
use Rattle.std.proofs.lemmas.Bool.{cases_lt}
use Rattle.std.specs.Option.{option_and_then, option_to_list}
use Rattle.std.proofs.lemmas.List.{append-nil}
use Rattle.rk_model.specs.Operations.{within, is_over}
use Rattle.rk_model.specs.Spans.{op_ends, KeysRise}
use Rattle.rk_model.specs.declared.op.Op.{Op}
use Rattle.rk_model.specs.declared.op.Op.TheVariants.{Put, Del, RangeSet, RangeUnset, RangeDel}
use Rattle.rk_model.specs.declared.op.Entry.{Entry}
use Rattle.rk_model.specs.declared.span.RangeKey.{RangeKey}
use Rattle.rk_fragment.specs.Fragments.{range_key, keys_at, span_with}
use Rattle.rk_fragment.specs.Intervals.{starts, key_over, with_key, with_entry, interval_at, Rank, key_at, keys_of, GiveKeys, spans_from, spans_of}
use Rattle.rk_fragment.specs.declared.intervals.Interval.{Interval}
use Rattle.rk_fragment.proofs.Order.{lt, lt_trans}
use Rattle.rk_fragment.proofs.Over.{never, and_false}
use Rattle.rk_fragment.proofs.Exact.{spans_along}

all_at : (P : List ℕ → Type 0) (is : List Interval) (k : ℕ) (d : Interval) → AllByRecursion P (starts is) → k < length is → P (get_or is k d).start
all_at P [] k d h l = absurd (omega arith)
all_at P (i ∷ is) zero d h l = h.0
all_at P (i ∷ is) (suc k) d h l = all_at P is k d h.1 (omega arith)

-- where starts rise, those below a key come first
pub partitioned : (key : List ℕ) (is : List Interval) → KeysRise (starts is) → IsPartitionedBy (λ i. lt i.start key) is
partitioned key [] h i j d le l p = absurd (omega arith)
partitioned key (x ∷ xs) h zero zero d le l p = p
partitioned key (x ∷ xs) h zero (suc j) d le l p = lt_trans x.start (get_or xs j d).start key (all_at (λ y. lt x.start y ≡ true) xs j d h.0 (omega arith)) p
partitioned key (x ∷ xs) h (suc i) zero d le l p = absurd (omega arith)
partitioned key (x ∷ xs) h (suc i) (suc j) d le l p = partitioned key xs h.1 i j d (omega arith) (omega arith) p

-- a map that changes a part of a list
module _ {X : Type 0} (f g : X → X) where
  pub same_map : (xs : List X) → ((k : ℕ) (d : X) → k < length xs → g (get_or xs k d) ≡ get_or xs k d) → map g xs ≡ xs
  same_map [] h = refl
  same_map (x ∷ xs) h = rw (h zero x (omega arith), same_map xs (λ k d l. h (suc k) d (omega arith))) refl

  front_map : (xs : List X) (m : ℕ) → ((k : ℕ) (d : X) → k < m → k < length xs → g (get_or xs k d) ≡ f (get_or xs k d)) → ((k : ℕ) (d : X) → m ≤ k → k < length xs → g (get_or xs k d) ≡ get_or xs k d)
      → map f (take m xs) ++ drop m xs ≡ map g xs
  front_map xs zero h t = sym (same_map xs (λ k d l. t k d (omega arith) l))
  front_map [] (suc m) h t = refl
  front_map (x ∷ xs) (suc m) h t = rw (h zero x (omega arith) (omega arith), front_map xs m (λ k d l n. h (suc k) d (omega arith) (omega arith)) (λ k d l n. t (suc k) d (omega arith) (omega arith))) refl

  pub part_map : (xs : List X) (n m : ℕ) → ((k : ℕ) (d : X) → k < n → k < length xs → g (get_or xs k d) ≡ get_or xs k d)
      → ((k : ℕ) (d : X) → n ≤ k → k < n + m → k < length xs → g (get_or xs k d) ≡ f (get_or xs k d))
      → ((k : ℕ) (d : X) → n + m ≤ k → k < length xs → g (get_or xs k d) ≡ get_or xs k d)
      → take n xs ++ (map f (take m (drop n xs)) ++ drop m (drop n xs)) ≡ map g xs
  part_map xs zero m b h t = front_map xs m (λ k d l n. h k d (omega arith) (omega arith) n) (λ k d l n. t k d (omega arith) n)
  part_map [] (suc n) zero b h t = refl
  part_map [] (suc n) (suc m) b h t = refl
  part_map (x ∷ xs) (suc n) m b h t =
      rw (b zero x (omega arith) (omega arith), part_map xs n m (λ k d l n. b (suc k) d (omega arith) (omega arith)) (λ k d l n o. h (suc k) d (omega arith) (omega arith) (omega arith)) (λ k d l n. t (suc k) d (omega arith) (omega arith))) refl

-- an interval to which no range key comes
same_none : (i : Interval) (o : Option RangeKey) → o ≡ None → record { start = i.start; keys = i.keys ++ option_to_list o } ≡ i
same_none i o h = rw h (ap (λ keys. let j : Interval = record { start = i.start; keys = keys } in j) (append-nil i.keys))

-- an entry that has no range key changes no interval
pub without_key : (e : Entry) (i : Interval) → range_key e.seq e.op ≡ None → with_entry e i ≡ i
without_key e i h = same_none i (key_over i.start e.seq e.op) (rw h (never (is_over i.start e.op)))

pub point_has_no_key : (n : ℕ) (op : Op) → op_ends op ≡ [] → range_key n op ≡ None
point_has_no_key n (Put key value) h = refl
point_has_no_key n (Del key) h = refl
point_has_no_key n (RangeSet start end suffix value) h = cc
point_has_no_key n (RangeUnset start end suffix) h = cc
point_has_no_key n (RangeDel start end) h = cc

over_is : (op : Op) (s t x : List ℕ) → op_ends op ≡ s ∷ t ∷ [] → is_over x op ≡ within s t x
over_is (Put key value) s t x h = cc
over_is (Del key) s t x h = cc
over_is (RangeSet start end suffix value) s t x h = let a : start ≡ s = cc in let b : end ≡ t = cc in rw (a, b) refl
over_is (RangeUnset start end suffix) s t x h = let a : start ≡ s = cc in let b : end ≡ t = cc in rw (a, b) refl
over_is (RangeDel start end) s t x h = let a : start ≡ s = cc in let b : end ≡ t = cc in rw (a, b) refl

-- an interval that begins outside of an entry, and one that begins within it
module _ (e : Entry) (s t : List ℕ) (is_span : op_ends e.op ≡ s ∷ t ∷ []) where
  pub before_start : (i : Interval) → lt i.start s ≡ true → with_entry e i ≡ i
  before_start i h = same_none i (key_over i.start e.seq e.op) (rw (over_is e.op s t i.start is_span) (rw h refl))

  pub from_end : (i : Interval) → lt i.start t ≡ false → with_entry e i ≡ i
  from_end i h = same_none i (key_over i.start e.seq e.op) (rw (over_is e.op s t i.start is_span) (rw (h, and_false (not (lt i.start s))) refl))

  pub inside : (i : Interval) (key : RangeKey) → range_key e.seq e.op ≡ Some key → lt i.start s ≡ false → lt i.start t ≡ true → with_entry e i ≡ with_key key i
  inside i key k h l = rw (over_is e.op s t i.start is_span) (rw (h, l, k) refl)

-- the parts of intervals before a place and from it on, by the order of their starts to a key
abbrev pub IsPlace : List ℕ → List Interval → ℕ → Type 0
IsPlace key is n = IsPartitionPoint (λ i. lt i.start key ≡ true) (λ i. lt i.start key ≡ false) is n

module _ (e : Entry) (s t : List ℕ) (is_span : op_ends e.op ≡ s ∷ t ∷ []) (all : List Interval) (from to : ℕ) (from_place : IsPlace s all from) (to_place : IsPlace t all to) where
  early : (k : ℕ) (d : Interval) → k < from → with_entry e (get_or all k d) ≡ get_or all k d
  early k d l = before_start e s t is_span (get_or all k d) (from_place.0 k d (omega arith) l)

  late : (k : ℕ) (d : Interval) → to ≤ k → k < length all → with_entry e (get_or all k d) ≡ get_or all k d
  late k d l n = from_end e s t is_span (get_or all k d) (to_place.1 k d l n)

  pub put_between : (key : RangeKey) (mid : List Interval) → range_key e.seq e.op ≡ Some key → from < to → mid ≡ map (with_key key) (take (to - from) (drop from all))
      → put_mid from (to - from) all mid ≡ map (with_entry e) all
  put_between key mid has order is =
      ap (λ m. take from all ++ (m ++ drop (to - from) (drop from all))) is
      ∙ part_map (with_key key) (with_entry e) all from (to - from) (λ k d l n. early k d l)
      (λ k d l n o. inside e s t is_span (get_or all k d) key has (from_place.1 k d l o) (to_place.0 k d (omega arith) (omega arith)))
      (λ k d l n. late k d (omega arith) n)

  pub put_nowhere : to ≤ from → map (with_entry e) all ≡ all
  put_nowhere order = same_map (with_entry e) (with_entry e) all each
    where
      each : (k : ℕ) (d : Interval) → k < length all → with_entry e (get_or all k d) ≡ get_or all k d
      each k d l = elim (cases_lt k from) [ inl h ↦ early k d h | inr h ↦ late k d (omega arith) l ]

-- the interval of a written end, with the range keys of the entries at the places of ranks
abbrev pub painted : List Entry → List Rank → List ℕ → Interval
painted es ranks a = record { start = a; keys = keys_of es ranks a }

push_key : {X Y : Type 0} (f : X → Option Y) (xs : List X) (x : X) → filter_map f (xs ++ x ∷ []) ≡ filter_map f xs ++ option_to_list (f x)
push_key {Y = Y} f [] x = one (f x)
  where
    one : (o : Option Y) → cons_option o [] ≡ option_to_list o
    one None = refl
    one (Some y) = refl
push_key {Y = Y} f (y ∷ ys) x = ap (cons_option (f y)) (push_key f ys x) ∙ one (f y)
  where
    one : (o : Option Y) → cons_option o (filter_map f ys ++ option_to_list (f x)) ≡ cons_option o (filter_map f ys) ++ option_to_list (f x)
    one None = refl
    one (Some z) = refl

-- with the entry at one place more
pub painted_more : (es : List Entry) (ranks : List Rank) (r : Rank) (e : Entry) (ends : List (List ℕ)) → slice_get es r.1 ≡ Some e
    → map (with_entry e) (map (painted es ranks) ends) ≡ map (painted es (ranks ++ r ∷ [])) ends
painted_more es ranks r e [] h = refl
painted_more es ranks r e (a ∷ ends) h =
    let here : keys_of es (ranks ++ r ∷ []) a ≡ keys_of es ranks a ++ option_to_list (key_over a e.seq e.op) =
    push_key (λ r. key_at es a r.1) ranks r ∙ ap (λ o. keys_of es ranks a ++ option_to_list (option_and_then (λ e. key_over a e.seq e.op) o)) h in
    rw (here, painted_more es ranks r e ends h) refl

pub painted_all : (es : List Entry) (ranks : List Rank) (ends : List (List ℕ)) → GiveKeys es ranks → map (painted es ranks) ends ≡ map (interval_at es) ends
painted_all es ranks [] h = refl
painted_all es ranks (a ∷ ends) h = rw (h a, painted_all es ranks ends h) refl

pub bare_starts : (ends : List (List ℕ)) → starts (map (λ a. record { start = a; keys = [] }) ends) ≡ ends
bare_starts [] = refl
bare_starts (x ∷ xs) = ap (λ l. x ∷ l) (bare_starts xs)

pub starts_of : (es : List Entry) (ranks : List Rank) (ends : List (List ℕ)) → starts (map (painted es ranks) ends) ≡ ends
starts_of es ranks [] = refl
starts_of es ranks (x ∷ xs) = ap (λ l. x ∷ l) (starts_of es ranks xs)

spans_from_ends : (es : List Entry) (a : List ℕ) (ends : List (List ℕ)) → spans_from (interval_at es a) (map (interval_at es) ends) ≡ spans_along es (a ∷ ends)
spans_from_ends es a [] = refl
spans_from_ends es a (b ∷ bs) = ap (cons_option (span_with a b (keys_at es a))) (spans_from_ends es b bs)

pub spans_of_ends : (es : List Entry) (ends : List (List ℕ)) → spans_of (map (interval_at es) ends) ≡ spans_along es ends
spans_of_ends es [] = refl
spans_of_ends es (a ∷ ends) = spans_from_ends es a ends
