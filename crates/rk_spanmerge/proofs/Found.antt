-- A merge that is told: what is read off its sources next to a key, the span of it there, and where they stand.
use Rattle.std.proofs.Common.{◌≡◌, ℕ, ◌<◌, length, get_or, map, Bool, true, false, not, cond, List, [], ◌∷◌, Option, Some, None, is_some, unwrap_or, IfSome, refl, ap, sym, ◌∙◌, ◌⊎◌, inl, inr, subst, ◌+◌, Result, Ok, Err, IfOk, arith}
use Rattle.std.specs.Prelude.{IsTrue, filter, nat_lt, if◌then◌else◌}
use Rattle.std.proofs.lemmas.Bool.{false_from_ne_true, not-true}
use Rattle.std.proofs.lemmas.List.{length-map}
use Rattle.std.proofs.lemmas.Option.{IfSome_then}
use Rattle.std.proofs.Math.ListN.{get_or-map}
use Rattle.rk_key.specs.Laws.{key_cmp-total}
use Rattle.rk_key.proofs.TotalOrders.{eq_from}
use Rattle.rk_model.specs.Lists.{none_of}
use Rattle.rk_model.specs.Operations.{within}
use Rattle.rk_model.specs.Cuts.{count_before, item_from}
use Rattle.rk_model.specs.Items.{keyed_extents, span_takes}
use Rattle.rk_model.specs.Spans.{sorted_keys}
use Rattle.rk_model.specs.Standings.{Listing, Standing, IsTold}
use Rattle.rk_model.specs.declared.span.RangeKey.{RangeKey}
use Rattle.rk_model.specs.declared.span.Span.{Span}
use Rattle.rk_model.proofs.Members.{among_filter, filter_among, among_flat_map, flat_map_among}
use Rattle.rk_model.proofs.SortedKeys.{sorted_among}
use Rattle.rk_fragment.specs.Fragments.{insert_newest, newest_first, keys_over}
use Rattle.rk_fragment.proofs.Rising.{sorted_rises}
use Rattle.rk_merge.specs.Unions.{Among}
use Rattle.rk_merge.specs.Cuts.{near_cut}
use Rattle.rk_merge.specs.Pools.{told_items}
use Rattle.rk_merge.proofs.Counts.{count_agree, from_cut}
use Rattle.rk_merge.proofs.Lists.{and_parts, any_default}
use Rattle.rk_merge.proofs.Nears.{first_agree, last_agree}
use Rattle.rk_spanmerge.specs.Merges.{left_end, span_ends, keys_at, pooled, united}
use Rattle.rk_spanmerge.specs.Moves.{takes, outside, is_past, first_end, StandsAt, AllFace, AllStand, SettlesOn, IsNearestEnd, IsOutermost, IsBare, IsBetween, IsSeenEnd, ReachesTo, Shows, Passed, IsFacing, is_end_nearer, end_seen, nearer_of, with_seen, with_end, counts_any, keys_met, NoneNearer, IsNearestOf}
use Rattle.rk_spanmerge.proofs.Chains.{true_false, past_itself, past_back, past_trans, upto_trans, past_upto, upto_past, proper_of, proper_in, Seen, seen, seen_outside, Both, serves, end_is, Chain, Follows, met_is}
use Rattle.rk_spanmerge.proofs.Cutting.{distinct_is, sorted_has, end_in, ends_from, IsCut, is_cut, each_key}
use Rattle.rk_spanmerge.proofs.Pools.{Unites, told_if, when_told, in_pool, if_told, told_at, all_pool, keys_over_append, chain_at}
use Rattle.rk_spanmerge.proofs.Gaps.{passed_stands}
use Prim.Native.Nat.{zero, suc}
use Rattle.std.specs.List.{flat_map}
use borrow.Author.Count.{below_more}
use Rattle.rk_model.specs.declared.cut.Cut.{Cut}
use Rattle.rk_model.specs.declared.cut.Cut.TheVariants.{Start, End}

none_newest : (ks : List RangeKey) → none_of (newest_first ks) ≡ none_of ks
none_newest [] = refl
none_newest (k ∷ ks) = go (newest_first ks)
  where
    go : (qs : List RangeKey) → none_of (insert_newest k qs) ≡ false
    go [] = refl
    go (q ∷ qs) = elim (nat_lt k.seq q.seq) as (λ b. none_of (cond b (q ∷ insert_newest k qs) (k ∷ q ∷ qs)) ≡ false) [ true ↦ refl | false ↦ refl ]

-- there are range keys over a key where some span that has some is, and only there
some_of : (ks : List RangeKey) (k : RangeKey) → Among k ks → none_of ks ≡ false
some_of [] k m = absurd m
some_of (q ∷ qs) k m = refl

one_of : (ks : List RangeKey) → none_of ks ≡ false → (k : RangeKey) × Among k ks
one_of [] e = cc
one_of (k ∷ ks) e = (k, inl refl)

over_some : (ss : List Span) (x : List ℕ) (t : Span) → Among t ss → none_of t.keys ≡ false → within t.start t.end x ≡ true → none_of (keys_over ss x) ≡ false
over_some ss x t m some w = let k = one_of t.keys some in some_of (keys_over ss x) k.0 (among_flat_map (λ s. s.keys) _ t k.0 (among_filter (λ s. within s.start s.end x) ss t m w) k.1)

over_from : (ss : List Span) (x : List ℕ) → none_of (keys_over ss x) ≡ false → (t : Span) × Among t ss × (within t.start t.end x ≡ true)
over_from ss x some =
    let k = one_of (keys_over ss x) some in
    let f = flat_map_among (λ s. s.keys) (filter (λ s. within s.start s.end x) ss) k.0 k.1 in
    let g = filter_among (λ s. within s.start s.end x) ss f.0 f.1.0 in
    (f.0, g.0, g.1)

-- no such span reaches over a key from which a stretch is bare
crosses : (forward : Bool) (x e : List ℕ) (ss : List Span) (t : Span) → Among t ss → none_of t.keys ≡ false → none_of (keys_over ss (first_end forward x e)) ≡ true → is_past forward x e ≡ true → Both forward (is_past forward x) (Some e) t
    → is_past forward x (left_end (not forward) t) ≡ false → is_past forward x (left_end forward t) ≡ true → ⊥
crosses forward x e ss t m keyed none past both p q = true_false _ none (over_some ss (first_end forward x e) t m keyed (serves forward x e t past both ∙ rw (p, q) refl))

span_same : (s t : Span) → s.start ≡ t.start → s.end ≡ t.end → s.keys ≡ t.keys → s ≡ t
span_same s t p q r = λ i. record { start = p i; end = q i; keys = r i }

past_turned : (forward : Bool) (x y : List ℕ) → is_past (not forward) x y ≡ is_past forward y x
past_turned true x y = refl
past_turned false x y = refl

takes_as : (forward : Bool) (x y : List ℕ) (t : Span) → is_past forward x (left_end forward t) ≡ is_past forward y (left_end forward t) → takes forward x t ≡ takes forward y t
takes_as true x y t e = ap not e
takes_as false x y t e = e

takes_outside : (forward : Bool) (x : List ℕ) (t : Span) → is_past forward x (left_end forward t) ≡ true → takes forward x t ≡ outside forward t
takes_outside true x t e = ap not e
takes_outside false x t e = e

near_agree : (forward : Bool) (t u : Span → Bool) (xs : List Span) → ((c : Span) → Among c xs → t c ≡ u c) → near_cut forward t xs ≡ near_cut forward u xs
near_agree true t u xs same = first_agree t u xs same
near_agree false t u xs same = last_agree t u xs same

module _ {S : Type 0} (listing : S → Listing Span) (sorted : (s : S) → IfSome (listing s).held (λ xs. IsTrue (keyed_extents xs))) (ss : List S) (spans : List Span) (u : Unites listing sorted ss spans) where
  abbrev pool : List Span
  pool = pooled (map listing ss)

  abbrev ends : List (List ℕ)
  ends = span_ends pool

  -- a span of the merge lies between two ends, and no other is between them
  cut : (c : Span) → Among c spans → IsCut (keys_at pool) (sorted_keys ends) c
  cut c m = is_cut (keys_at pool) (sorted_keys ends) (sorted_rises ends) c (subst (Among c) (sym u.whole.is) m)

  pub cut_end : (forward : Bool) (c : Span) → Among c spans → Among (left_end forward c) ends
  cut_end true c m = sorted_among ends c.end (cut c m).end
  cut_end false c m = sorted_among ends c.start (cut c m).start

  cut_proper : (forward : Bool) (c : Span) → Among c spans → is_past forward (left_end (not forward) c) (left_end forward c) ≡ true
  cut_proper forward c m = proper_in forward c (proper_of spans u.whole.chain c m).0

  inner : (forward : Bool) (c : Span) → Among c spans → (k : List ℕ) → Among k ends → is_past forward (left_end (not forward) c) k ≡ true → is_past forward k (left_end forward c) ≡ true → ⊥
  inner true c m k i p q = (cut c m).inner k (sorted_has ends u.distinct k i) p q
  inner false c m k i p q = (cut c m).inner k (sorted_has ends u.distinct k i) q p

  same : (a b : List ℕ) → Among a ends → Among b ends → is_past true a b ≡ false → is_past true b a ≡ false → a ≡ b
  same a b m n p q = distinct_is ends u.distinct a b m n (eq_from key_cmp-total a b p q)

  nearest_same : (forward : Bool) (x a b : List ℕ) → IsNearestEnd forward x ends (Some a) → IsNearestEnd forward x ends (Some b) → a ≡ b
  nearest_same true x a b n o = same a b n.among.0 o.among.0 (o.nearest a n.among.0 n.among.1) (n.nearest b o.among.0 o.among.1)
  nearest_same false x a b n o = same a b n.among.0 o.among.0 (n.nearest b o.among.0 o.among.1) (o.nearest a n.among.0 n.among.1)

  over_spans : (x : List ℕ) → keys_over spans x ≡ keys_at pool x
  over_spans x = subst (λ ts. keys_over ts x ≡ keys_at pool x) u.whole.is (each_key pool x u.distinct)

  -- what is shown at an end is a span of the merge
  facts : (forward : Bool) (c : Span) → Among (left_end (not forward) c) ends → IsBetween forward pool (left_end (not forward) c) c
      → Among c.start ends × Among c.end ends × (is_past true c.start c.end ≡ true) × ((k : List ℕ) → Among k ends → is_past true c.start k ≡ true → is_past true k c.end ≡ true → ⊥)
  facts true c m b = (m, b.nearest.among.0, b.nearest.among.1, λ k i p q. true_false _ q (b.nearest.nearest k i p))
  facts false c m b = (b.nearest.among.0, m, b.nearest.among.1, λ k i p q. true_false _ p (b.nearest.nearest k i q))

  there : (forward : Bool) (c : Span) → Among (left_end (not forward) c) ends → IsBetween forward pool (left_end (not forward) c) c → Among c spans
  there forward c m b =
      let own = facts forward c m b in
      let found = over_from spans c.start (ap none_of (over_spans c.start ∙ sym b.keys) ∙ b.some) in
      let t = found.0 in
      let in_t = and_parts (not (is_past true c.start t.start)) (is_past true c.start t.end) found.2 in
      let start = same c.start t.start own.0 (cut_end false t found.1) (not-true _ in_t.0) (false_from_ne_true _ (λ p. inner true t found.1 c.start own.0 p in_t.1)) in
      let within_t = false_from_ne_true _ (λ (p : is_past true c.end t.end ≡ true). inner true t found.1 c.end own.1 (ap (λ z. is_past true z c.end) (sym start) ∙ own.2) p) in
      let end = same c.end t.end own.1 (cut_end true t found.1) within_t (false_from_ne_true _ (λ p. own.3 t.end (cut_end true t found.1) in_t.1 p)) in
      subst (λ z. Among z spans) (sym (span_same c t start end (b.keys ∙ ap (keys_at pool) start ∙ sym (cut t found.1).holds))) found.1

  there_at : (forward : Bool) (x : List ℕ) (c : Span) → Among x ends → IsBetween forward pool x c → Among c spans
  there_at forward x c m b = subst (λ z. Among z ends → IsBetween forward pool z c → Among c spans) b.from (there forward c) m b

  -- it is the one that is seen where none before it is
  only : (forward : Bool) (x : List ℕ) (c : Span) → Among c spans → is_past forward x (left_end forward c) ≡ true
      → ((t : Span) → Among t spans → is_past forward x (left_end forward t) ≡ true → is_past forward (left_end (not forward) t) (left_end (not forward) c) ≡ true → ⊥) → Some c ≡ near_cut forward (takes forward x) spans
  only forward x c m live first = go (near_cut forward (takes forward x) spans) (seen forward x spans u.whole.chain)
    where
      go : (p : Option Span) → Seen forward (λ t. is_past forward x (left_end forward t)) spans p → Some c ≡ p
      go None w = absurd (true_false _ live (w c m))
      go (Some s) w = elim (w.2 c m live) [
        | inl e ↦ ap (λ z. Some z) e
        | inr f ↦ absurd (first s w.0 w.1 (past_upto forward (left_end (not forward) s) (left_end forward s) (left_end (not forward) c) (cut_proper forward s w.0) f))
      ]

  pub at_once : (forward : Bool) (x : List ℕ) (c : Span) → Among x ends → IsBetween forward pool x c → Some c ≡ near_cut forward (takes forward x) spans
  at_once forward x c m b = only forward x c (there_at forward x c m b) b.nearest.among.1 (λ t i live p. inner forward t i x m (subst (λ z. is_past forward (left_end (not forward) t) z ≡ true) b.from p) live)

  pub nowhere : (forward : Bool) (x : List ℕ) → IsNearestEnd forward x ends None → None ≡ near_cut forward (takes forward x) spans
  nowhere forward x n = go (near_cut forward (takes forward x) spans) (seen forward x spans u.whole.chain)
    where
      go : (p : Option Span) → Seen forward (λ t. is_past forward x (left_end forward t)) spans p → None ≡ p
      go None w = refl
      go (Some s) w = absurd (true_false _ w.1 (n.nearest (left_end forward s) (cut_end forward s w.0)))

  -- a stretch from a key up to the nearest end: which ends lie beyond it, and what reaches over it where it is bare
  before : (forward : Bool) (x e : List ℕ) → IsNearestEnd forward x ends (Some e) → (k : List ℕ) → Among k ends → is_past forward k e ≡ true → is_past forward x k ≡ false
  before forward x e n k m p = false_from_ne_true _ (λ q. true_false _ p (n.nearest k m q))

  abbrev Bare : Bool → List ℕ → List ℕ → Type 0
  Bare forward x e = IsNearestEnd forward x ends (Some e) × (none_of (keys_at pool (first_end forward x e)) ≡ true)

  pub bare_at : (forward : Bool) (x e : List ℕ) → IsNearestEnd forward x ends (Some e) → IsBare forward pool x → none_of (keys_at pool (first_end forward x e)) ≡ true
  bare_at forward x e n b = subst (λ z. none_of (keys_at pool (first_end forward x z)) ≡ true) (nearest_same forward x b.end e b.nearest n) b.bare

  none_reach : (forward : Bool) (x e : List ℕ) → Bare forward x e → (t : Span) → Among t pool → is_past forward x (left_end (not forward) t) ≡ false → is_past forward x (left_end forward t) ≡ true → ⊥
  none_reach forward x e b t m p q =
      crosses forward x e pool t m (u.proper t m).1 (sym (none_newest (keys_over pool (first_end forward x e))) ∙ b.1) b.0.among.1
      (b.0.nearest (left_end (not forward) t) (end_in (not forward) pool t m), b.0.nearest (left_end forward t) (end_in forward pool t m)) p q

  -- behind a bare stretch
  beyond_some : (forward : Bool) (x e : List ℕ) (c : Span) → Bare forward x e → IsBetween forward pool e c → Some c ≡ near_cut forward (takes forward x) spans
  beyond_some forward x e c b at =
      only forward x c (there_at forward e c b.0.among.0 at) (past_trans forward x e (left_end forward c) b.0.among.1 at.nearest.among.1) (λ t i live p.
      let start = cut_end (not forward) t i in
      let nearer = before forward x e b.0 (left_end (not forward) t) start (subst (λ z. is_past forward (left_end (not forward) t) z ≡ true) at.from p) in
      crosses forward x e spans t i (proper_of spans u.whole.chain t i).1 (ap none_of (over_spans (first_end forward x e)) ∙ b.1) b.0.among.1
      (b.0.nearest (left_end (not forward) t) start, b.0.nearest (left_end forward t) (cut_end forward t i)) nearer live)

  -- there is one
  something : (forward : Bool) (x e : List ℕ) → Bare forward x e → IsNearestEnd forward e ends None ⊎ IsBare forward pool e → ⊥
  something forward x e b none = let f = ends_from forward pool e b.0.among.0 in go f.0 f.1 (proper_in forward f.0 (u.proper f.0 f.1).0) f.2 none
    where
      go : (t : Span) → Among t pool → is_past forward (left_end (not forward) t) (left_end forward t) ≡ true → (e ≡ left_end (not forward) t) ⊎ (e ≡ left_end forward t) → IsNearestEnd forward e ends None ⊎ IsBare forward pool e → ⊥
      go t m ahead (inl q) (inl o) = true_false _ (ap (λ z. is_past forward z (left_end forward t)) q ∙ ahead) (o.nearest (left_end forward t) (end_in forward pool t m))
      go t m ahead (inl q) (inr o) = none_reach forward e o.end (o.nearest, o.bare) t m (ap (is_past forward e) (sym q) ∙ past_itself forward e) (ap (λ z. is_past forward z (left_end forward t)) q ∙ ahead)
      go t m ahead (inr q) none =
          let nearer = before forward x e b.0 (left_end (not forward) t) (end_in (not forward) pool t m) (ap (is_past forward (left_end (not forward) t)) q ∙ ahead) in
          none_reach forward x e b t m nearer (ap (is_past forward x) (sym q) ∙ b.0.among.1)

  pub beyond : (forward : Bool) (x e : List ℕ) (shown : Option Span) → Bare forward x e → Shows forward pool e shown → shown ≡ near_cut forward (takes forward x) spans
  beyond forward x e None b shows = absurd (something forward x e b shows)
  beyond forward x e (Some c) b shows = beyond_some forward x e c b shows

  -- what stands next to a key stands next to the end of the bare stretch there
  pub same_takes : (forward : Bool) (x e : List ℕ) → Bare forward x e → (t : Span) → Among t pool → is_past forward x (left_end forward t) ≡ is_past forward e (left_end forward t)
  same_takes forward x e b t m = go (is_past forward x (left_end forward t)) (is_past forward e (left_end forward t)) refl refl
    where
      go : (p q : Bool) → is_past forward x (left_end forward t) ≡ p → is_past forward e (left_end forward t) ≡ q → is_past forward x (left_end forward t) ≡ is_past forward e (left_end forward t)
      go true true p q = p ∙ sym q
      go true false p q =
          let ahead = past_upto forward (left_end (not forward) t) (left_end forward t) e (proper_in forward t (u.proper t m).0) q in
          absurd (none_reach forward x e b t m (before forward x e b.0 (left_end (not forward) t) (end_in (not forward) pool t m) ahead) p)
      go false q p r = p ∙ sym (upto_trans forward e x (left_end forward t) (past_back forward x e b.0.among.1) p)

  -- a seek goes to the first span behind the last end before the next one
  pub sought : (forward : Bool) (x n : List ℕ) (far : Option (List ℕ)) → IsNearestEnd forward x ends (Some n) → IsNearestEnd (not forward) n ends far → (c : Span) → Among c spans → is_past forward (unwrap_or far n) (left_end forward c) ≡ is_past forward x (left_end forward c)
  sought forward x n far one two c m = go far two (is_past forward x (left_end forward c)) (is_past forward n (left_end forward c)) refl refl
    where
      end : Among (left_end forward c) ends
      end = cut_end forward c m

      short : is_past forward x (left_end forward c) ≡ false → is_past (not forward) n (left_end forward c) ≡ true
      short p = past_turned forward n (left_end forward c) ∙ upto_past forward (left_end forward c) x n p one.among.1

      go : (far : Option (List ℕ)) → IsNearestEnd (not forward) n ends far → (p q : Bool) → is_past forward x (left_end forward c) ≡ p → is_past forward n (left_end forward c) ≡ q → is_past forward (unwrap_or far n) (left_end forward c) ≡ is_past forward x (left_end forward c)
      go (Some u) two true q p r = past_upto forward u n (left_end forward c) (sym (past_turned forward n u) ∙ two.among.1) (one.nearest (left_end forward c) end p) ∙ sym p
      go (Some u) two false q p r = sym (past_turned forward (left_end forward c) u) ∙ two.nearest (left_end forward c) end (short p) ∙ sym p
      go None two true true p r = r ∙ sym p
      go None two true false p r =
          let ahead = past_upto forward (left_end (not forward) c) (left_end forward c) n (cut_proper forward c m) r in
          absurd (true_false _ (past_turned forward n (left_end (not forward) c) ∙ ahead) (two.nearest (left_end (not forward) c) (cut_end (not forward) c m)))
      go None two false q p r = absurd (true_false _ (short p) (two.nearest (left_end forward c) end))

-- what is told of a merge
abbrev pub IsFound : List (Listing Span) → Bool → (Span → Bool) → Option Span → Type 0
IsFound ls forward test found = IfSome (united ls) (λ xs. found ≡ near_cut forward test xs)

abbrev pub IsEnd : List (Listing Span) → List ℕ → Type 0
IsEnd ls x = IfSome (united ls) (λ xs. Among x (span_ends (pooled ls)))

abbrev pub IsNear : List (Listing Span) → Bool → List ℕ → Option (List ℕ) → Type 0
IsNear ls forward x end = IfSome (united ls) (λ xs. IsNearestEnd forward x (span_ends (pooled ls)) end)

abbrev pub IsShown : List (Listing Span) → Bool → List ℕ → Option Span → Type 0
IsShown ls forward x shown = IfSome (united ls) (λ xs. Shows forward (pooled ls) x shown)

abbrev pub IsOuter : List (Listing Span) → Bool → Option (List ℕ) → Type 0
IsOuter ls forward end = IfSome (united ls) (λ xs. IsOutermost forward (span_ends (pooled ls)) end)

stands_on : (t u : Span → Bool) (l : Listing Span) (s : Standing Span) → ((c : Span) → Among c (told_items l) → t c ≡ u c) → StandsAt t l s → StandsAt u l s
stands_on t u l s same stands = go l.held same stands
  where
    go : (h : Option (List Span)) → ((c : Span) → Among c (unwrap_or h []) → t c ≡ u c) → IfSome h (λ ss. s.gap ≡ Some (count_before t ss)) → IfSome h (λ ss. s.gap ≡ Some (count_before u ss))
    go None same w = tt
    go (Some ss) same w = w ∙ ap (λ n. Some n) (count_agree t u ss same)

module _ {S : Type 0} (listing : S → Listing Span) (standing : S → Standing Span) (sorted : (s : S) → IfSome (listing s).held (λ xs. IsTrue (keyed_extents xs))) (ss : List S) where
  -- tests that agree on the spans of the sources, or on those of the merge
  stand_as : (t u : Span → Bool) → ((spans : List Span) → Unites listing sorted ss spans → (c : Span) → Among c (pooled (map listing ss)) → t c ≡ u c) → AllStand listing standing ss t → AllStand listing standing ss u
  stand_as t u same stands = when_told listing sorted ss (λ spans w k d h.
      stands_on t u (listing (get_or ss k d)) (standing (get_or ss k d)) (λ c m. same spans w c (in_pool listing ss k d c h m)) (told_if _ _ _ w.at stands k d h))

  found_by : (forward : Bool) (t u : Span → Bool) (found : Option Span) → ((spans : List Span) → Unites listing sorted ss spans → (c : Span) → Among c spans → t c ≡ u c) → IsFound (map listing ss) forward t found → IsFound (map listing ss) forward u found
  found_by forward t u found same is = when_told listing sorted ss (λ spans w. told_if _ _ _ w.at is ∙ near_agree forward t u spans (same spans w))

  pub found_once : (forward : Bool) (x : List ℕ) (shown : Option Span) → is_some shown ≡ true → IsEnd (map listing ss) x → IsShown (map listing ss) forward x shown → IsFound (map listing ss) forward (takes forward x) shown
  found_once forward x None some end shows = cc
  found_once forward x (Some c) some end shows = when_told listing sorted ss (λ spans w. at_once listing sorted ss spans w forward x c (told_if _ _ _ w.at end) (told_if _ _ _ w.at shows))

  pub found_nowhere : (forward : Bool) (x : List ℕ) (end : Option (List ℕ)) → end ≡ None → IsNear (map listing ss) forward x end → IsFound (map listing ss) forward (takes forward x) None
  found_nowhere forward x end e near = when_told listing sorted ss (λ spans w. nowhere listing sorted ss spans w forward x (told_if _ _ _ w.at (subst (IsNear (map listing ss) forward x) e near)))

  -- nothing up to the nearest end, and there is one
  bare_of : (spans : List Span) (w : Unites listing sorted ss spans) (forward : Bool) (x e : List ℕ) (end : Option (List ℕ)) (shown : Option Span) → end ≡ Some e → is_some shown ≡ false → IsNear (map listing ss) forward x end → IsShown (map listing ss) forward x shown → Bare listing sorted ss spans w forward x e
  bare_of spans w forward x e end shown is none near shows = let n = told_if _ _ _ w.at (subst (IsNear (map listing ss) forward x) is near) in (n, go shown none n (told_if _ _ _ w.at shows))
    where
      go : (shown : Option Span) → is_some shown ≡ false → IsNearestEnd forward x (span_ends (pooled (map listing ss))) (Some e) → Shows forward (pooled (map listing ss)) x shown → none_of (keys_at (pooled (map listing ss)) (first_end forward x e)) ≡ true
      go (Some c) none n b = cc
      go None none n (inl o) = absurd (true_false _ n.among.1 (o.nearest e n.among.0))
      go None none n (inr b) = bare_at listing sorted ss spans w forward x e n b

  pub found_beyond : (forward : Bool) (x e : List ℕ) (end : Option (List ℕ)) (shown found : Option Span) → end ≡ Some e → is_some shown ≡ false → IsNear (map listing ss) forward x end → IsShown (map listing ss) forward x shown → IsShown (map listing ss) forward e found → IsFound (map listing ss) forward (takes forward x) found
  found_beyond forward x e end shown found is none near shows next = when_told listing sorted ss (λ spans w. beyond listing sorted ss spans w forward x e found (bare_of spans w forward x e end shown is none near shows) (told_if _ _ _ w.at next))

  pub stand_beyond : (forward : Bool) (x e : List ℕ) (end : Option (List ℕ)) (shown : Option Span) → end ≡ Some e → is_some shown ≡ false → IsNear (map listing ss) forward x end → IsShown (map listing ss) forward x shown → AllStand listing standing ss (takes forward x) → AllStand listing standing ss (takes forward e)
  stand_beyond forward x e end shown is none near shows stands =
      stand_as (takes forward x) (takes forward e) (λ spans w c m. takes_as forward x e c (same_takes listing sorted ss spans w forward x e (bare_of spans w forward x e end shown is none near shows) c m)) stands

  -- a seek
  pub found_sought : (forward : Bool) (x n : List ℕ) (far : Option (List ℕ)) (found : Option Span) → IsNear (map listing ss) forward x (Some n) → IsNear (map listing ss) (not forward) n far → IsFound (map listing ss) forward (takes forward (unwrap_or far n)) found → IsFound (map listing ss) forward (takes forward x) found
  found_sought forward x n far found one two is =
      found_by forward (takes forward (unwrap_or far n)) (takes forward x) found (λ spans w c m. takes_as forward (unwrap_or far n) x c (sought listing sorted ss spans w forward x n far (told_if _ _ _ w.at one) (told_if _ _ _ w.at two) c m)) is

  pub sought_end : (forward : Bool) (x n : List ℕ) (far : Option (List ℕ)) → IsNear (map listing ss) forward x (Some n) → IsNear (map listing ss) (not forward) n far → IsEnd (map listing ss) (unwrap_or far n)
  sought_end forward x n None one two = IfSome_then (united (map listing ss)) one (λ xs o. o.among.0)
  sought_end forward x n (Some u) one two = IfSome_then (united (map listing ss)) two (λ xs o. o.among.0)

  -- an end of a span of the merge is one of a source
  pub left_is_end : (c : Span) (forward : Bool) → IfSome (united (map listing ss)) (λ xs. Among c xs) → IsEnd (map listing ss) (left_end forward c)
  left_is_end c forward m = when_told listing sorted ss (λ spans w. cut_end listing sorted ss spans w forward c (told_if _ _ _ w.at m))

  -- from the outermost end all is seen that is seen from outside
  pub outer_stands : (forward : Bool) (x : List ℕ) (end : Option (List ℕ)) → end ≡ Some x → IsOuter (map listing ss) forward end → AllStand listing standing ss (outside forward) → AllStand listing standing ss (takes forward x)
  outer_stands forward x end is outer stands = stand_as (outside forward) (takes forward x) (λ spans w c m.
      let o = (told_if _ _ _ w.at (subst (IsOuter (map listing ss) forward) is outer)).nearest (left_end (not forward) c) (end_in (not forward) (pooled (map listing ss)) c m) refl in
      sym (takes_outside forward x c (upto_past forward x (left_end (not forward) c) (left_end forward c) o (proper_in forward c (w.proper c m).0)))) stands

  pub outer_found : (forward : Bool) (x : List ℕ) (end : Option (List ℕ)) (found : Option Span) → end ≡ Some x → IsOuter (map listing ss) forward end → IsFound (map listing ss) forward (takes forward x) found → IsFound (map listing ss) forward (outside forward) found
  outer_found forward x end found at outer is = found_by forward (takes forward x) (outside forward) found (λ spans w c m.
      let o = (told_if _ _ _ w.at (subst (IsOuter (map listing ss) forward) at outer)).nearest (left_end (not forward) c) (cut_end listing sorted ss spans w (not forward) c m) refl in
      takes_outside forward x c (upto_past forward x (left_end (not forward) c) (left_end forward c) o (cut_proper listing sorted ss spans w forward c m))) is

  pub outer_nowhere : (forward : Bool) (end : Option (List ℕ)) → end ≡ None → IsOuter (map listing ss) forward end → IsFound (map listing ss) forward (outside forward) None
  outer_nowhere forward end is outer = when_told listing sorted ss (λ spans w. go spans w (told_if _ _ _ w.at (subst (IsOuter (map listing ss) forward) is outer)) (near_cut forward (outside forward) spans) (seen_outside forward spans w.whole.chain))
    where
      go : (spans : List Span) (w : Unites listing sorted ss spans) → IsOutermost forward (span_ends (pooled (map listing ss))) None → (p : Option Span) → Seen forward (λ t. true) spans p → None ≡ p
      go spans w o None q = refl
      go spans w o (Some c) q = absurd (true_false true refl (o.nearest c.start (cut_end listing sorted ss spans w false c q.0)))

pub same_length : {S : Type 0} (listing : S → Listing Span) (xs ys : List S) → map listing xs ≡ map listing ys → length xs ≡ length ys
same_length listing xs ys e = sym (length-map xs listing) ∙ ap length e ∙ length-map ys listing

-- sources that have gone past a key stand next to it
module _ {S : Type 0} (listing : S → Listing Span) (standing : S → Standing Span) (olds news : List S) (forward : Bool) (x : List ℕ) (same : map listing news ≡ map listing olds)
    (passed : (k : ℕ) (d : S) → k < length olds → Passed forward x (listing (get_or olds k d)) (standing (get_or olds k d)) (standing (get_or news k d))) where
  pub left_stands : (z : List ℕ) → is_past forward z x ≡ true → AllStand listing standing olds (takes forward z) → AllStand listing standing news (takes forward x)
  left_stands z past stands = rw same (IfSome_then (united (map listing olds)) stands (λ spans at k d h.
      let short : k < length olds = subst (λ n. k < n) (same_length listing news olds same) h in
      let one : listing (get_or news k d) ≡ listing (get_or olds k d) = sym (get_or-map listing news k d) ∙ ap (λ ls. get_or ls k (listing d)) same ∙ get_or-map listing olds k d in
      passed_stands forward z x (listing (get_or olds k d)) (listing (get_or news k d)) (standing (get_or olds k d)) (standing (get_or news k d)) one past (at k d short) (passed k d short)))

  pub all_face : AllFace standing news forward
  all_face k d h = (passed k d (subst (λ n. k < n) (same_length listing news olds same) h)).faces

module _ {S : Type 0} (listing : S → Listing Span) (standing : S → Standing Span) (ss : List S) (forward : Bool) (x : List ℕ) where
  pub stand_found : (found : Option Span) → IfSome found (λ c. left_end (not forward) c ≡ x) → AllStand listing standing ss (takes forward x) → IfSome found (λ c. AllStand listing standing ss (takes forward (left_end (not forward) c)))
  stand_found None e w = tt
  stand_found (Some c) e w = subst (λ (z : List ℕ). AllStand listing standing ss (takes forward z)) (sym e) w

  pub reaches_from : (y : List ℕ) (found : Option Span) → is_past forward y x ≡ false → IfSome found (λ c. left_end (not forward) c ≡ y) → IfSome found (λ c. IsSeenEnd standing ss forward y (left_end forward c)) → IfSome found (ReachesTo standing ss forward x)
  reaches_from y None before from seen = tt
  reaches_from y (Some c) before from seen = record { from = ap (λ z. is_past forward z x) from ∙ before; end = subst (λ (z : List ℕ). IsSeenEnd standing ss forward z (left_end forward c)) (sym from) seen }

  pub arrives_at : (found : Option Span) → AllFace standing ss forward → IfSome found (λ c. AllStand listing standing ss (takes forward (left_end (not forward) c))) → IfSome found (ReachesTo standing ss forward x) → IfSome found (SettlesOn listing standing ss forward)
  arrives_at None faces stands reaches = tt
  arrives_at (Some c) faces stands reaches = record { faces = faces; stands = stands; end = reaches.end }

-- what a source sees where it stands at the gap of a test
pub seen_at : (forward : Bool) (test : Span → Bool) (l : Listing Span) (s : Standing Span) → is_some l.held ≡ true → IsTold l s → IsFacing forward s → StandsAt test l s → s.here ≡ near_cut forward test (told_items l)
seen_at forward test l s some told faces stands = go l.held s.gap some told.shown stands
  where
    go : (h : Option (List Span)) (p : Option ℕ) → is_some h ≡ true → IfSome h (λ xs. IfSome p (λ g. s.here ≡ item_from s.forward xs g)) → IfSome h (λ ss. p ≡ Some (count_before test ss)) → s.here ≡ near_cut forward test (unwrap_or h [])
    go None p e w at = cc
    go (Some ss) None e w at = cc
    go (Some ss) (Some g) e w at =
        let q : g ≡ count_before test ss = cc in
        w ∙ ap (λ b. item_from b ss g) faces.faces ∙ ap (item_from forward ss) q ∙ from_cut forward test ss

-- the nearer one of what was found and an end that counts
none_counts : (forward : Bool) (counts : List ℕ → Bool) (found : Option (List ℕ)) (k : List ℕ) → counts k ≡ false → NoneNearer forward counts found k
none_counts forward counts None k p = p
none_counts forward counts (Some e) k p = λ q. absurd (true_false _ q p)

nearer_both : (forward : Bool) (counts : List ℕ → Bool) (found : Option (List ℕ)) (e k : List ℕ) → counts e ≡ true → NoneNearer forward counts found k ⊎ NoneNearer forward counts (Some e) k → NoneNearer forward counts (Some (nearer_of forward found e)) k
nearer_both forward counts None e k past (inl was) = λ p. absurd (true_false _ p was)
nearer_both forward counts None e k past (inr here) = here
nearer_both forward counts (Some f) e k past w = go (is_end_nearer forward e f) refl w
  where
    go : (b : Bool) → is_past forward e f ≡ b → NoneNearer forward counts (Some f) k ⊎ NoneNearer forward counts (Some e) k → counts k ≡ true → is_past forward k (cond b e f) ≡ false
    go true p (inl was) q = upto_trans forward k f e (was q) (past_back forward e f p)
    go true p (inr here) q = here q
    go false p (inl was) q = was q
    go false p (inr here) q = upto_trans forward k e f (here q) p

nearer_kept : (forward : Bool) (found : Option (List ℕ)) (e : List ℕ) (P : List ℕ → Type 0) → IfSome found P → P e → P (nearer_of forward found e)
nearer_kept forward None e P was here = here
nearer_kept forward (Some f) e P was here = elim (is_end_nearer forward e f) as (λ b. P (cond b e f)) [ true ↦ here | false ↦ was ]

-- what a source sees of a list has the nearest end of that that counts, or else none counts
abbrev Sees : Bool → (List ℕ → Bool) → (Span → List ℕ) → List Span → Option Span → Type 0
Sees forward counts end ss None = (t : Span) → Among t ss → Both forward counts None t
Sees forward counts end ss (Some s) = Among s ss × (counts (end s) ≡ true) × ((t : Span) → Among t ss → Both forward counts (Some (end s)) t)

pub record Looks (forward : Bool) (counts : List ℕ → Bool) (test : Span → Bool) (end : Span → List ℕ) : Type 0 where
  pub among : (pool : List Span) (s : Span) → Among s pool → Among (end s) (span_ends pool)
  pub sees : (xs : List Span) → Chain xs → Sees forward counts end xs (near_cut forward test xs)

-- an end of the span that is seen is no further than those of the spans behind it
none_behind : (forward : Bool) (counts : List ℕ → Bool) (s t : Span) (e : List ℕ) → is_past forward (left_end (not forward) t) (left_end forward t) ≡ true → (counts (left_end (not forward) t) ≡ true → counts (left_end forward t) ≡ true)
    → (counts (left_end (not forward) s) ≡ true → is_past forward (left_end (not forward) s) e ≡ false) → is_past forward (left_end forward s) e ≡ false → (counts (left_end forward t) ≡ true → (t ≡ s) ⊎ Follows forward s t) → Both forward counts (Some e) t
none_behind forward counts s t e ahead more one two live = (λ q. (go (live (more q))).0 q, λ q. (go (live q)).1)
  where
    go : (t ≡ s) ⊎ Follows forward s t → (counts (left_end (not forward) t) ≡ true → is_past forward (left_end (not forward) t) e ≡ false) × (is_past forward (left_end forward t) e ≡ false)
    go (inl q) = rw q (one, two)
    go (inr f) =
        let mid = upto_trans forward (left_end (not forward) t) (left_end forward s) e f two in
        (λ q. mid, upto_trans forward (left_end forward t) (left_end (not forward) t) e (past_back forward (left_end (not forward) t) (left_end forward t) ahead) mid)

-- next to a key
pub nearest_looks : (forward : Bool) (x : List ℕ) → Looks forward (is_past forward x) (takes forward x) (end_seen forward x)
nearest_looks forward x = record { among = among; sees = λ xs h. go xs h (near_cut forward (takes forward x) xs) (seen forward x xs h) }
  where
    among : (pool : List Span) (s : Span) → Among s pool → Among (end_seen forward x s) (span_ends pool)
    among pool s m = rw (end_is forward x s) (elim (is_past forward x (left_end (not forward) s)) as (λ b. Among (cond b (left_end (not forward) s) (left_end forward s)) (span_ends pool)) [ true ↦ end_in (not forward) pool s m | false ↦ end_in forward pool s m ])

    at : (s : Span) (b : Bool) → is_past forward (left_end (not forward) s) (left_end forward s) ≡ true → is_past forward x (left_end forward s) ≡ true → is_past forward x (left_end (not forward) s) ≡ b → let e = cond b (left_end (not forward) s) (left_end forward s) in
        (is_past forward x e ≡ true) × (is_past forward x (left_end (not forward) s) ≡ true → is_past forward (left_end (not forward) s) e ≡ false) × (is_past forward (left_end forward s) e ≡ false)
    at s true ahead live p = (p, λ q. past_itself forward (left_end (not forward) s), past_back forward (left_end (not forward) s) (left_end forward s) ahead)
    at s false ahead live p = (live, λ q. absurd (true_false _ q p), past_itself forward (left_end forward s))

    go : (xs : List Span) → Chain xs → (c : Option Span) → Seen forward (λ t. is_past forward x (left_end forward t)) xs c → Sees forward (is_past forward x) (end_seen forward x) xs c
    go xs h None w = λ t m. (upto_trans forward x (left_end forward t) (left_end (not forward) t) (w t m) (past_back forward (left_end (not forward) t) (left_end forward t) (proper_in forward t (proper_of xs h t m).0)), w t m)
    go xs h (Some s) w =
        let e = at s (is_past forward x (left_end (not forward) s)) (proper_in forward s (proper_of xs h s w.0).0) w.1 refl in
        rw (end_is forward x s) (w.0, e.0, λ t m. let ahead = proper_in forward t (proper_of xs h t m).0 in none_behind forward (is_past forward x) s t (cond (is_past forward x (left_end (not forward) s)) (left_end (not forward) s) (left_end forward s)) ahead (λ q. past_trans forward x (left_end (not forward) t) (left_end forward t) q ahead) e.1 e.2 (w.2 t m))

-- from outside the near end
pub outer_looks : (forward : Bool) → Looks forward counts_any (outside forward) (left_end (not forward))
outer_looks forward = record { among = end_in (not forward); sees = λ xs h. go xs h (near_cut forward (outside forward) xs) (seen_outside forward xs h) }
  where
    go : (xs : List Span) → Chain xs → (c : Option Span) → Seen forward (λ t. true) xs c → Sees forward counts_any (left_end (not forward)) xs c
    go xs h None w = λ t m. absurd (true_false true refl (w t m))
    go xs h (Some s) w = (
      w.0,
      refl,
      λ t m. none_behind forward counts_any s t (left_end (not forward) s) (proper_in forward t (proper_of xs h t m).0) (λ q. q)
          (λ q. past_itself forward (left_end (not forward) s)) (past_back forward (left_end (not forward) s) (left_end forward s) (proper_in forward s (proper_of xs h s w.0).0)) (w.2 t m),
    )

-- the nearest end of all sources, found at one source after another
module _ {S : Type 0} (listing : S → Listing Span) (ss : List S) (forward : Bool) (counts : List ℕ → Bool) where
  pub record SoFar (i : ℕ) (found : Option (List ℕ)) : Type 0 where
    pub among : IfSome found (λ e. Among e (span_ends (pooled (map listing ss))) × (counts e ≡ true))
    pub nearest : (k : ℕ) → k < i → (d : S) (t : Span) → Among t (told_items (listing (get_or ss k d))) → Both forward counts found t

  abbrev pub Found : ℕ → Option (List ℕ) → Type 0
  Found i found = IfSome (united (map listing ss)) (λ spans. SoFar i found)

  pub found_start : Found 0 None
  found_start = if_told (united (map listing ss)) (λ spans u. record { among = tt; nearest = λ k h. absurd (omega arith) })

  pub found_more : (standing : S → Standing Span) (sorted : (s : S) → IfSome (listing s).held (λ xs. IsTrue (keyed_extents xs))) (told : (s : S) → IsTold (listing s) (standing s)) (test : Span → Bool) (end : Span → List ℕ) → Looks forward counts test end
      → (i : ℕ) (e : S) (found now : Option (List ℕ)) → i < length ss → e ≡ get_or ss i e → now ≡ with_seen forward counts end found (standing e).here → AllFace standing ss forward → AllStand listing standing ss test → Found i found → Found (i + 1) now
  found_more standing sorted told test end looks i e found now h is put faces stands was = when_told listing sorted ss (λ spans u.
      let items = told_items (listing (get_or ss i e)) in
      let near = seen_at forward test (listing (get_or ss i e)) (standing (get_or ss i e)) (told_at listing ss u.whole.told i e h) (told (get_or ss i e)) (faces i e h) (told_if _ _ _ u.at stands i e h) in
      rw (put, ap (λ s. (standing s).here) is, near) (one (near_cut forward test items) (looks.sees items (chain_at listing sorted ss u.whole.told i e h)) (told_if _ _ _ u.at was)))
    where
      more : (found now : Option (List ℕ)) → IfSome now (λ z. Among z (span_ends (pooled (map listing ss))) × (counts z ≡ true)) → ((k : List ℕ) → NoneNearer forward counts found k → NoneNearer forward counts now k) → ((t : Span) → Among t (told_items (listing (get_or ss i e))) → Both forward counts now t) → SoFar i found → SoFar (i + 1) now
      more found now among old new was = record {
        among = among;
        nearest = below_more (λ k. (d : S) (t : Span) → Among t (told_items (listing (get_or ss k d))) → Both forward counts now t) i
            (λ k l d t m. let n = was.nearest k l d t m in (old (left_end (not forward) t) n.0, old (left_end forward t) n.1))
            (λ d t m. new t (subst (λ z. Among t (told_items (listing z))) (any_default ss i d e h) m));
      }

      one : (c : Option Span) → Sees forward counts end (told_items (listing (get_or ss i e))) c → SoFar i found → SoFar (i + 1) (with_seen forward counts end found c)
      one None none was = more found found was.among (λ k n. n) (λ t m. let n = none t m in (none_counts forward counts found (left_end (not forward) t) n.0, none_counts forward counts found (left_end forward t) n.1)) was
      one (Some s) new was = rw new.1 (more found (Some (nearer_of forward found (end s)))
          (nearer_kept forward found (end s) (λ z. Among z (span_ends (pooled (map listing ss))) × (counts z ≡ true)) was.among (looks.among (pooled (map listing ss)) s (in_pool listing ss i e s h new.0), new.1))
          (λ k n. nearer_both forward counts found (end s) k new.1 (inl n))
          (λ t m. let n = new.2 t m in (nearer_both forward counts found (end s) (left_end (not forward) t) new.1 (inr n.0), nearer_both forward counts found (end s) (left_end forward t) new.1 (inr n.1))) was)

  pub found_all : (i : ℕ) (found : Option (List ℕ)) → i ≡ length ss → Found i found → IfSome (united (map listing ss)) (λ spans. IsNearestOf forward counts (span_ends (pooled (map listing ss))) found)
  found_all i found e was = if_told (united (map listing ss)) (λ spans u.
      let w = told_if _ (united (map listing ss)) spans u was in
      let pool = all_pool listing (Both forward counts found) ss (λ k d h t m. w.nearest k (omega arith) d t m) in
      record {
        among = w.among;
        nearest = λ k m. let f = ends_from forward (pooled (map listing ss)) k m in let n = pool f.0 f.1 in elim f.2 [ inl e ↦ rw e n.0 | inr e ↦ rw e n.1 ];
      })

-- the nearest of the ends that sources see is one that some source sees
pub seen_more : {S : Type 0} (standing : S → Standing Span) (ss : List S) (forward : Bool) (x : List ℕ) (i : ℕ) (e : S) (found now : Option (List ℕ)) → i < length ss → e ≡ get_or ss i e → now ≡ with_end forward x found (standing e).here → IfSome found (IsSeenEnd standing ss forward x) → IfSome now (IsSeenEnd standing ss forward x)
seen_more {S} standing ss forward x i e found now h is put was = rw put (one (standing e).here refl)
  where
    new : (s : Span) (b : Bool) → (standing e).here ≡ Some s → is_past forward x (end_seen forward x s) ≡ b → IfSome (cond b (Some (nearer_of forward found (end_seen forward x s))) found) (IsSeenEnd standing ss forward x)
    new s false q p = was
    new s true q p = nearer_kept forward found (end_seen forward x s) (IsSeenEnd standing ss forward x) was
        (record { source = i; within = h; span = s; here = λ d. ap (λ z. (standing z).here) (any_default ss i d e h ∙ sym is) ∙ q; end = refl; past = p })

    one : (o : Option Span) → (standing e).here ≡ o → IfSome (with_end forward x found o) (IsSeenEnd standing ss forward x)
    one None q = was
    one (Some s) q = new s (is_past forward x (end_seen forward x s)) q refl

-- the range keys next to the key are those over the start of the span up to the nearest end
pool_keys : {S : Type 0} (listing : S → Listing Span) (f : S → List RangeKey) (z : List ℕ) (ss : List S) → ((k : ℕ) (d : S) → k < length ss → f (get_or ss k d) ≡ keys_over (told_items (listing (get_or ss k d))) z) → flat_map f ss ≡ keys_over (pooled (map listing ss)) z
pool_keys listing f z [] h = refl
pool_keys listing f z (s ∷ ss) h = rw (h zero s (omega arith), pool_keys listing f z ss (λ k d l. h (suc k) d (omega arith))) (sym (keys_over_append z (told_items (listing s)) (pooled (map listing ss))))

module _ {S : Type 0} (listing : S → Listing Span) (standing : S → Standing Span) (sorted : (s : S) → IfSome (listing s).held (λ xs. IsTrue (keyed_extents xs))) (told : (s : S) → IsTold (listing s) (standing s)) (ss : List S) (forward : Bool) (x e : List ℕ) (end : Option (List ℕ)) (keys : List RangeKey)
    (at : end ≡ Some e) (faces : AllFace standing ss forward) (stands : AllStand listing standing ss (takes forward x)) (found : IsNear (map listing ss) forward x end) (are : keys ≡ newest_first (flat_map (λ s. keys_met forward x (standing s).here) ss)) where
  near : IsNear (map listing ss) forward x (Some e)
  near = subst (IsNear (map listing ss) forward x) at found

  keys_there : (spans : List Span) → Unites listing sorted ss spans → keys ≡ keys_at (pooled (map listing ss)) (first_end forward x e)
  keys_there spans u =
      are ∙ ap newest_first (pool_keys listing (λ s. keys_met forward x (standing s).here) (first_end forward x e) ss (λ k d h.
      let s = get_or ss k d in
      let n = told_if _ _ _ u.at near in
      let here = seen_at forward (takes forward x) (listing s) (standing s) (told_at listing ss u.whole.told k d h) (told s) (faces k d h) (told_if _ _ _ u.at stands k d h) in
      ap (keys_met forward x) here ∙ sym (met_is forward x (first_end forward x e) (told_items (listing s)) (chain_at listing sorted ss u.whole.told k d h) (λ t m.
      let i = in_pool listing ss k d t h m in
      serves forward x e t n.among.1 (n.nearest (left_end (not forward) t) (end_in (not forward) _ t i), n.nearest (left_end forward t) (end_in forward _ t i))))))

  pub shows_bare : none_of keys ≡ true → IsShown (map listing ss) forward x None
  shows_bare none = when_told listing sorted ss (λ spans u. inr (record { end = e; nearest = told_if _ _ _ u.at near; bare = ap none_of (sym (keys_there spans u)) ∙ none }))

  pub shows_span : (c : Span) → none_of keys ≡ false → (left_end forward c ≡ e) × (left_end (not forward) c ≡ x) × (c.start ≡ first_end forward x e) × (c.keys ≡ keys) → IsShown (map listing ss) forward x (Some c)
  shows_span c some is = when_told listing sorted ss (λ spans u. record {
    from = is.1;
    nearest = subst (λ (z : List ℕ). IsNearestEnd forward x (span_ends (pooled (map listing ss))) (Some z)) (sym is.0) (told_if _ _ _ u.at near);
    keys = is.3 ∙ keys_there spans u ∙ ap (keys_at (pooled (map listing ss))) (sym is.2);
    some = ap none_of is.3 ∙ some;
  })

pub if_ok_map : {T E : Type 0} {P Q : T → Type 0} (r : Result T E) → IfOk r P → ((x : T) → P x → Q x) → IfOk r Q
if_ok_map (Ok x) w f = f x w
if_ok_map (Err e) w f = tt

pub if_ok_both : {T E : Type 0} {P Q W : T → Type 0} (r : Result T E) → IfOk r P → IfOk r Q → ((x : T) → P x → Q x → W x) → IfOk r W
if_ok_both (Ok x) v w f = f x v w
if_ok_both (Err e) v w f = tt

-- the cut at which a direction begins, and the one at which it ends
pub outer_is : (forward : Bool) (cut : Cut (List ℕ)) → cut ≡ (if forward then Start else End) → outside forward ≡ span_takes forward cut
outer_is true cut e = rw e refl
outer_is false cut e = rw e refl

pub none_beyond : (forward : Bool) (xs : List Span) → None ≡ near_cut forward (span_takes forward (if forward then End else Start)) xs
none_beyond true [] = refl
none_beyond true (x ∷ xs) = none_beyond true xs
none_beyond false [] = refl
none_beyond false (x ∷ xs) = refl
