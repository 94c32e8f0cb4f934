-- The ranks of entries, newest first, give over each key its range keys.
use Rattle.std.proofs.Common.{◌≡◌, ℕ, ◌-◌, ◌<◌, ◌≤◌, ◌==◌, Bool, true, false, cond, List, [], ◌∷◌, length, get_or, drop, Option, Some, None, refl, ap, sym, ◌∙◌, arith}
use Rattle.std.specs.Prelude.{nat_lt}
use Rattle.std.specs.List.{AllByRecursion, filter_map, cons_option}
use Rattle.std.specs.Option.{option_map_or, option_and_then}
use Rattle.std.specs.declared.cmp.Ordering.TheVariants.{Less, Equal, Greater}
use Rattle.std.specs.Ordering.{nat_cmp, ordering_then, match_ordering}
use Rattle.std.specs.BTreeSet.{insert_key}
use Rattle.std.proofs.lemmas.Bool.Decides.{nat_tests}
use Rattle.std.proofs.lemmas.Option.{slice_get_read}
use Rattle.rk_model.specs.Operations.{is_over}
use Rattle.rk_model.specs.Covers.{over}
use Rattle.rk_model.specs.declared.op.Op.{Op}
use Rattle.rk_model.specs.declared.op.Op.TheVariants.{Put, Del, RangeSet, RangeUnset, RangeDel}
use Rattle.rk_model.specs.declared.op.Entry.{Entry}
use Rattle.rk_model.specs.declared.span.RangeKey.{RangeKey}
use Rattle.rk_model.proofs.Lists.{all_weaker}
use Rattle.rk_model.proofs.Walks.{drop_before}
use Rattle.rk_fragment.specs.Fragments.{range_key, insert_newest, newest_first, keys_at}
use Rattle.rk_fragment.specs.Intervals.{key_over, Rank, rank, rank_cmp, ArePlaces, key_at, keys_of}
use Rattle.rk_fragment.proofs.Falling.{lt_is, ge_is, lt_says}

ge_says : (m n : ℕ) → n ≤ m → nat_lt m n ≡ false
ge_says m n h = grind (arith, nat_tests)

-- behind those with greater numbers
abbrev put : Rank → List Rank → List Rank
put r [] = r ∷ []
put r (s ∷ ss) = cond (nat_lt r.0.0 s.0.0) (s ∷ put r ss) (r ∷ s ∷ ss)

falling : (m n : ℕ) → ordering_then (nat_cmp n m) Less ≡ cond (nat_lt m n) Greater Less
falling m n = go (nat_lt n m) (n == m) (nat_lt m n) refl refl refl
  where
    go : (s t u : Bool) → nat_lt n m ≡ s → (n == m) ≡ t → nat_lt m n ≡ u → ordering_then (cond s Less (cond t Equal Greater)) Less ≡ cond u Greater Less
    go true t true e f g = absurd (let a = lt_is n m e in let b = lt_is m n g in omega arith)
    go true t false e f g = refl
    go false true true e f g = absurd (grind (arith, nat_tests))
    go false true false e f g = refl
    go false false true e f g = refl
    go false false false e f g = absurd (grind (arith, nat_tests))

-- an insert into a set of ranks, of one whose place is before theirs
put_is : (r : Rank) (ss : List Rank) → AllByRecursion (λ s. r.1 < s.1) ss → insert_key rank_cmp ss r ≡ put r ss
put_is r [] h = refl
put_is r (s ∷ ss) h =
    ap (λ l. match_ordering (rank_cmp r s) (r ∷ s ∷ ss) (s ∷ ss) (s ∷ l)) (put_is r ss h.1)
    ∙ ap (λ o. match_ordering o (r ∷ s ∷ ss) (s ∷ ss) (s ∷ put r ss)) (rw (lt_says r.1 s.1 h.0) (falling r.0.0 s.0.0))
    ∙ go (nat_lt r.0.0 s.0.0)
  where
    go : (b : Bool) → match_ordering (cond b Greater Less) (r ∷ s ∷ ss) (s ∷ ss) (s ∷ put r ss) ≡ cond b (s ∷ put r ss) (r ∷ s ∷ ss)
    go true = refl
    go false = refl

all_put : (P : Rank → Type 0) (r : Rank) (ss : List Rank) → P r → AllByRecursion P ss → AllByRecursion P (put r ss)
all_put P r [] p h = (p, tt)
all_put P r (s ∷ ss) p h = go (nat_lt r.0.0 s.0.0) (all_put P r ss p h.1)
  where
    go : (b : Bool) → AllByRecursion P (put r ss) → AllByRecursion P (cond b (s ∷ put r ss) (r ∷ s ∷ ss))
    go true ih = (h.0, ih)
    go false ih = (p, h)

-- the range key of an operation has its number
key_number : (x : List ℕ) (n : ℕ) (op : Op) (q : RangeKey) → key_over x n op ≡ Some q → q.seq ≡ n
key_number x n op q = go (is_over x op) op
  where
    go : (b : Bool) (op : Op) → cond b (range_key n op) None ≡ Some q → q.seq ≡ n
    go false op h = cc
    go true (Put key value) h = cc
    go true (Del key) h = cc
    go true (RangeSet start end suffix value) h = let e = ap (λ o. option_map_or (λ k. k.seq) o 0) h in sym e
    go true (RangeUnset start end suffix) h = let e = ap (λ o. option_map_or (λ k. k.seq) o 0) h in sym e
    go true (RangeDel start end) h = let e = ap (λ o. option_map_or (λ k. k.seq) o 0) h in sym e

in_front : (q : RangeKey) (ps : List RangeKey) → AllByRecursion (λ p. p.seq ≤ q.seq) ps → insert_newest q ps ≡ q ∷ ps
in_front q [] h = refl
in_front q (p ∷ ps) h = rw (ge_says q.seq p.seq h.0) refl

module _ (es : List Entry) where
  -- the range keys of the entry at a rank's place have its number
  abbrev IsNumbered : Rank → Type 0
  IsNumbered r = (x : List ℕ) (q : RangeKey) → key_at es x r.1 ≡ Some q → q.seq ≡ r.0.0

  -- numbered ranks of places from n on, none newer than one before it
  abbrev Ranked : ℕ → List Rank → Type 0
  Ranked n [] = Unit {0}
  Ranked n (s ∷ ss) = (n ≤ s.1) × IsNumbered s × AllByRecursion (λ t. t.0.0 ≤ s.0.0) ss × Ranked n ss

  ranked_put : (n : ℕ) (r : Rank) (ss : List Rank) → n ≤ r.1 → IsNumbered r → Ranked n ss → Ranked n (put r ss)
  ranked_put n r [] h k f = (h, k, tt, tt)
  ranked_put n r (s ∷ ss) h k f = go (nat_lt r.0.0 s.0.0) refl (ranked_put n r ss h k f.3)
    where
      go : (b : Bool) → nat_lt r.0.0 s.0.0 ≡ b → Ranked n (put r ss) → Ranked n (cond b (s ∷ put r ss) (r ∷ s ∷ ss))
      go true e ih = let less = lt_is r.0.0 s.0.0 e in (f.0, f.1, all_put (λ t. t.0.0 ≤ s.0.0) r ss (omega arith) f.2, ih)
      go false e ih = let le = ge_is r.0.0 s.0.0 e in (h, k, (le, all_weaker (λ t. t.0.0 ≤ s.0.0) (λ t. t.0.0 ≤ r.0.0) (λ t m. omega arith) ss f.2), f)

  from_lower : (m n : ℕ) (ss : List Rank) → m ≤ n → Ranked n ss → Ranked m ss
  from_lower m n [] h f = tt
  from_lower m n (s ∷ ss) h f = (omega (arith, f.0), f.1, f.2, from_lower m n ss h f.3)

  places_above : (i n : ℕ) (ss : List Rank) → i < n → Ranked n ss → AllByRecursion (λ s. i < s.1) ss
  places_above i n [] h f = tt
  places_above i n (s ∷ ss) h f = (omega (arith, f.0), places_above i n ss h f.3)

  module _ (x : List ℕ) where
    not_newer : (m n : ℕ) (ss : List Rank) → AllByRecursion (λ t. t.0.0 ≤ m) ss → Ranked n ss → AllByRecursion (λ p. p.seq ≤ m) (keys_of es ss x)
    not_newer m n [] h f = tt
    not_newer m n (s ∷ ss) h f = go (key_at es x s.1) refl (not_newer m n ss h.1 f.3)
      where
        go : (o : Option RangeKey) → key_at es x s.1 ≡ o → AllByRecursion (λ p. p.seq ≤ m) (keys_of es ss x) → AllByRecursion (λ p. p.seq ≤ m) (cons_option o (keys_of es ss x))
        go None e ih = ih
        go (Some p) e ih = let n = f.1 x p e in let le = h.0 in (omega arith, ih)

    keys_put : (n : ℕ) (r : Rank) (ss : List Rank) → IsNumbered r → Ranked n ss
        → keys_of es (put r ss) x ≡ option_map_or (λ q. insert_newest q (keys_of es ss x)) (key_at es x r.1) (keys_of es ss x)
    keys_put n r [] k f = one (key_at es x r.1)
      where
        one : (o : Option RangeKey) → cons_option o [] ≡ option_map_or (λ q. insert_newest q []) o []
        one None = refl
        one (Some q) = refl
    keys_put n r (s ∷ ss) k f = go (nat_lt r.0.0 s.0.0) refl (keys_put n r ss k f.3)
      where
        rest : List RangeKey
        rest = keys_of es ss x

        behind : nat_lt r.0.0 s.0.0 ≡ true → (o p : Option RangeKey) → key_at es x s.1 ≡ o → key_at es x r.1 ≡ p
            → cons_option o (option_map_or (λ q. insert_newest q (keys_of es ss x)) p (keys_of es ss x)) ≡ option_map_or (λ q. insert_newest q (cons_option o (keys_of es ss x))) p (cons_option o (keys_of es ss x))
        behind less o None e g = refl
        behind less None (Some q) e g = refl
        behind less (Some p) (Some q) e g =
            let a = f.1 x p e in
            let b = k x q g in
            let c = lt_is r.0.0 s.0.0 less in
            let d : q.seq < p.seq = omega arith in
            rw (lt_says q.seq p.seq d) refl

        ahead : s.0.0 ≤ r.0.0 → (o : Option RangeKey) → key_at es x r.1 ≡ o
            → cons_option o (keys_of es (s ∷ ss) x) ≡ option_map_or (λ q. insert_newest q (keys_of es (s ∷ ss) x)) o (keys_of es (s ∷ ss) x)
        ahead le None g = refl
        ahead le (Some q) g =
            let b = k x q g in
            let top : s.0.0 ≤ q.seq = omega arith in
            sym (in_front q (keys_of es (s ∷ ss) x) (not_newer q.seq n (s ∷ ss) (top, all_weaker (λ t. t.0.0 ≤ s.0.0) (λ t. t.0.0 ≤ q.seq) (λ t m. omega arith) ss f.2) f))

        go : (b : Bool) → nat_lt r.0.0 s.0.0 ≡ b → keys_of es (put r ss) x ≡ option_map_or (λ q. insert_newest q (keys_of es ss x)) (key_at es x r.1) (keys_of es ss x)
            → keys_of es (cond b (s ∷ put r ss) (r ∷ s ∷ ss)) x ≡ option_map_or (λ q. insert_newest q (keys_of es (s ∷ ss) x)) (key_at es x r.1) (keys_of es (s ∷ ss) x)
        go true e ih = ap (cons_option (key_at es x s.1)) ih ∙ behind e (key_at es x s.1) (key_at es x r.1) refl refl
        go false e ih = ahead (ge_is r.0.0 s.0.0 e) (key_at es x r.1) refl

-- the ranks of the entries from a place on
pub record AreRanks (es : List Entry) (i : ℕ) (ranks : List Rank) : Type 0 where
  pub ranked : Ranked es i ranks
  pub within : ArePlaces es ranks
  pub give : (x : List ℕ) → keys_of es ranks x ≡ keys_at (drop i es) x

pub none_yet : (es : List Entry) (n : ℕ) → drop n es ≡ [] → AreRanks es n []
none_yet es n h = record { ranked = tt; within = tt; give = λ x. rw h refl }

keys_cons : (e : Entry) (es : List Entry) (x : List ℕ) → keys_at (e ∷ es) x ≡ option_map_or (λ q. insert_newest q (keys_at es x)) (key_over x e.seq e.op) (keys_at es x)
keys_cons e es x =
    let keys_from : List Entry → List RangeKey = λ l. newest_first (filter_map (λ e. range_key e.seq e.op) l) in
    elim (is_over x e.op) as (λ b. keys_from (cond b (e ∷ over x es) (over x es)) ≡ option_map_or (λ q. insert_newest q (keys_at es x)) (cond b (range_key e.seq e.op) None) (keys_at es x)) [
      | true ↦ put_first (range_key e.seq e.op)
      | false ↦ refl
    ]
  where
    put_first : (o : Option RangeKey) → newest_first (cons_option o (filter_map (λ e. range_key e.seq e.op) (over x es))) ≡ option_map_or (λ q. insert_newest q (keys_at es x)) o (keys_at es x)
    put_first None = refl
    put_first (Some k) = refl

-- one entry more
pub ranks_more : (es : List Entry) (i : ℕ) (e : Entry) (ranks : List Rank) → 0 < i → i ≤ length es → e ≡ get_or es (i - 1) e → AreRanks es i ranks
    → AreRanks es (i - 1) (insert_key rank_cmp ranks (rank e.seq (i - 1)))
ranks_more es i e ranks some within here h =
    rw (put_is r ranks (places_above es (i - 1) i ranks (omega arith) h.ranked)) (record {
      ranked = ranked_put es (i - 1) r ranks (omega arith) numbered (from_lower es (i - 1) i ranks (omega arith) h.ranked);
      within = all_put (λ s. s.1 < length es) r ranks (omega arith) h.within;
      give = λ x.
          keys_put es x i r ranks numbered h.ranked
          ∙ rw (at_place x, h.give x) (sym (keys_cons e (drop i es) x))
          ∙ ap (λ l. keys_at l x) (sym (drop_before es i e some within here));
    })
  where
    r : Rank
    r = rank e.seq (i - 1)

    at_place : (x : List ℕ) → key_at es x (i - 1) ≡ key_over x e.seq e.op
    at_place x = ap (λ o. option_and_then (λ e. key_over x e.seq e.op) o) (slice_get_read es (length es) (i - 1) e refl (omega arith) here)

    numbered : IsNumbered es r
    numbered x q g = key_number x e.seq e.op q (sym (at_place x) ∙ g)
