-- Gaps of sorted lists of spans, a source that goes past a key, where a merge stands, and what is left of it.
use Prim.Native.Nat.{zero, suc}
use Rattle.std.proofs.Common.{◌≡◌, ℕ, ◌+◌, ◌<◌, ◌≤◌, length, Bool, true, false, not, cond, List, [], ◌∷◌, Option, Some, None, is_some, option_map, IfSome, Result, Ok, Err, OnOk, slice_get, refl, ap, sym, ◌∙◌, inl, inr, arith, add-one, map, ◌&&◌, IsTrue, subst, get_or, ◌⊎◌}
use Rattle.std.specs.Prelude.{IsTrue, ◌||◌}
use Rattle.std.specs.List.Sorted.{IsPartitionedBy}
use Rattle.std.proofs.lemmas.Bool.{not-true, not-false}
use Rattle.std.proofs.lemmas.Option.{IfSome_then, slice_get_past}
use Rattle.rk_key.specs.Laws.{key_cmp-total}
use Rattle.rk_key.proofs.TotalOrders.{lt_itself, lt_ge, ge_lt, lt_back, lt_trans, ge_trans}
use Rattle.rk_outside.specs.declared.error.SourceError.{SourceError}
use Rattle.rk_model.specs.Cuts.{count_before, item_from, gap_on, gap_past, is_passed}
use Rattle.rk_model.specs.Items.{keyed_extents}
use Rattle.rk_model.specs.Searches.{ended_partitioned, begun_partitioned}
use Rattle.rk_model.specs.Sources.{are_extents}
use Rattle.rk_model.specs.Standings.{Listing, Standing, IsTold, Leads, Costs, agree, can_step, step_gap, step_from, step_to, walked}
use Rattle.rk_model.specs.declared.span.Span.{Span}
use Rattle.rk_model.proofs.Gaps.{past_none, stays_beyond, stays_at_end, cut_within}
use Rattle.rk_merge.specs.Unions.{Among}
use Rattle.rk_model.proofs.Clips.{count_rises}
use Rattle.rk_merge.proofs.Counts.{slice_among, count_all, from_cut}
use Rattle.rk_merge.proofs.Lists.{and_parts, pick}
use Rattle.rk_spanmerge.specs.Merges.{left_end, gap_from, Merging, merged, merged_gap, merged_here, merged_standing, left_of, united, ends_left, begins_beyond}
use Rattle.rk_spanmerge.specs.Moves.{lt, takes, outlasts, is_past, Outlasts, IsFacing, StandsAt, Passed, outside, leaves, SettlesOn, IsMerging, end_seen, IsSeenEnd, ReachesTo}
use Rattle.rk_spanmerge.proofs.Chains.{Chain, proper_of, true_false, end_is, past_itself, past_trans, past_upto}
use Rattle.rk_spanmerge.proofs.Pools.{told_if, if_told, whole}
use Rattle.std.specs.Option.{option_map_or}
use Rattle.rk_outside.specs.Counts.{Counts}
use Rattle.rk_merge.specs.Cuts.{near_cut}
use Rattle.rk_model.proofs.Paying.{costs_handed}
use Rattle.std.specs.Result.{IsErrAnd}
use Rattle.rk_merge.specs.Pools.{total}
use Rattle.rk_merge.proofs.Nears.{near_is}
use Rattle.rk_model.proofs.Passing.{agree_same}
use Rattle.rk_spanmerge.proofs.Calls.{option_zero}
use Rattle.rk_merge.proofs.Totals.{total_le}

pub count_none : (t : Span → Bool) (xs : List Span) → ((x : Span) → Among x xs → t x ≡ false) → count_before t xs ≡ 0
count_none t [] none = refl
count_none t (x ∷ xs) none = rw (none x (inl refl)) refl

-- where nothing is seen there is no gap further on
last_gap : (forward : Bool) (xs : List Span) (g : ℕ) → g ≤ length xs → item_from forward xs g ≡ None → g ≡ cond forward (length xs) 0
last_gap true xs g le e = let h = past_none xs g e in omega arith
last_gap false xs zero le e = refl
last_gap false xs (suc g) le e = let h = past_none xs g e in absurd (omega arith)

-- a span of a list, and how many stand before its ends
pub record IsAt (ss : List Span) (c : Span) (i : ℕ) : Type 0 where
  pub ended_start : count_before (takes true c.start) ss ≡ i
  pub begun_start : count_before (takes false c.start) ss ≡ i
  pub ended_end : count_before (takes true c.end) ss ≡ i + 1
  pub begun_end : count_before (takes false c.end) ss ≡ i + 1

pub is_at : (ss : List Span) → Chain ss → (i : ℕ) (c : Span) → slice_get ss i ≡ Some c → IsAt ss c i
is_at [] h i c e = cc
is_at (s ∷ ss) h zero c e =
    let f : c ≡ s = cc in
    let later = count_none (takes false s.end) ss (λ t m. h.0.later t m) in
    let ends = count_none (takes true s.end) ss (λ t m. ap not (ge_lt key_cmp-total s.end t.start t.end (h.0.later t m) (proper_of ss h.1 t m).0)) in
    rw f (record {
      ended_start = rw h.0.proper refl;
      begun_start = rw (lt_itself key_cmp-total s.start) refl;
      ended_end = rw (lt_itself key_cmp-total s.end, ends) refl;
      begun_end = rw (h.0.proper, later) refl;
    })
is_at (s ∷ ss) h (suc i) c e =
    let m = slice_among ss i c e in
    let ih = is_at ss h.1 i c e in
    let behind = h.0.later c m in
    let start : lt s.start c.start ≡ true = lt_ge key_cmp-total s.start s.end c.start h.0.proper behind in
    let end : lt c.end s.end ≡ false = lt_back key_cmp-total s.end c.end (ge_lt key_cmp-total s.end c.start c.end behind (proper_of ss h.1 c m).0) in
    let over : lt s.start c.end ≡ true = lt_ge key_cmp-total s.start s.end c.end h.0.proper end in
    record {
      ended_start = rw (behind, ih.ended_start) (add-one i);
      begun_start = rw (start, ih.begun_start) (add-one i);
      ended_end = rw (end, ih.ended_end) (omega arith);
      begun_end = rw (over, ih.begun_end) (omega arith);
    }

-- the gap of a span that is seen, and the one where none is
pub gap_seen : (forward : Bool) (ss : List Span) → Chain ss → (g : ℕ) → g ≤ length ss → (c : Option Span) → item_from forward ss g ≡ c → gap_from forward ss c ≡ g
gap_seen forward ss h g le None e = sym (last_gap forward ss g le e)
gap_seen true ss h g le (Some c) e = (is_at ss h g c e).ended_start
gap_seen false ss h zero le (Some c) e = cc
gap_seen false ss h (suc g) le (Some c) e = (is_at ss h g c e).begun_end ∙ add-one g

-- one step on from it, and a turn there
pub gap_stepped : (forward : Bool) (ss : List Span) → Chain ss → (g : ℕ) (c : Span) → item_from forward ss g ≡ Some c → count_before (takes forward (left_end forward c)) ss ≡ gap_on forward g
gap_stepped true ss h g c e = (is_at ss h g c e).ended_end
gap_stepped false ss h zero c e = cc
gap_stepped false ss h (suc g) c e = let a = (is_at ss h g c e).begun_start in omega (arith, a)

pub gap_turned : (forward : Bool) (ss : List Span) → Chain ss → (g : ℕ) (c : Span) → item_from (not forward) ss g ≡ Some c → count_before (takes forward (left_end forward c)) ss ≡ g
gap_turned true ss h zero c e = cc
gap_turned true ss h (suc g) c e = (is_at ss h g c e).ended_end ∙ add-one g
gap_turned false ss h g c e = (is_at ss h g c e).begun_start

-- a source that isn't passed by the cut stays
passed_is : (forward : Bool) (x : List ℕ) (t : Span) → is_passed forward (takes forward x t) ≡ not (outlasts forward x t)
passed_is true x t = refl
passed_is false x t = refl

parted : (forward : Bool) (x : List ℕ) (ss : List Span) → IsTrue (are_extents ss) → IsPartitionedBy (takes forward x) ss
parted true x ss sorted = ended_partitioned x ss sorted
parted false x ss sorted = begun_partitioned x ss sorted

gap_stays : (forward : Bool) (x : List ℕ) (ss : List Span) → IsTrue (are_extents ss) → (g : ℕ) → g ≤ length ss → (here : Option Span) → item_from forward ss g ≡ here → Outlasts forward x here → gap_past forward (count_before (takes forward x) ss) g ≡ g
gap_stays forward x ss sorted g le None e out = stays_at_end forward (takes forward x) ss g le e
gap_stays forward x ss sorted g le (Some t) e out = stays_beyond forward (takes forward x) ss g t (parted forward x ss sorted) e (passed_is forward x t ∙ ap not out)

pub passed_stays : (forward : Bool) (x : List ℕ) (l : Listing Span) (s : Standing Span) → IfSome l.held (λ xs. IsTrue (keyed_extents xs)) → IsTold l s → IsFacing forward s → Outlasts forward x s.here → Passed forward x l s s
passed_stays forward x l s ordered told faces out = record { gap = gap l.held s.gap faces.known ordered told.within told.shown; faces = faces; beyond = out; moved = inl (refl, refl) }
  where
    gap : (h : Option (List Span)) (p : Option ℕ) → is_some p ≡ true → IfSome h (λ xs. IsTrue (keyed_extents xs)) → IfSome h (λ xs. IfSome p (λ g. g ≤ length xs)) → IfSome h (λ xs. IfSome p (λ g. s.here ≡ item_from s.forward xs g))
        → IfSome h (λ ss. p ≡ option_map (gap_past forward (count_before (takes forward x) ss)) p)
    gap None p k o w f = tt
    gap (Some ss) None k o w f = cc
    gap (Some ss) (Some g) k o w f = ap Some (sym (gap_stays forward x ss (and_parts _ _ o).0 g w s.here (sym (f ∙ ap (λ b. item_from b ss g) faces.faces)) out))

pub passed_goes : (forward : Bool) (x : List ℕ) (l l' : Listing Span) (s s' : Standing Span) (t : Span) (result : Result (Unit {0}) SourceError) → Leads l l' s' forward (λ ss. option_map (gap_past forward (count_before (takes forward x) ss)) s.gap) result
    → OnOk result (IfSome s'.here (λ t. is_passed forward (takes forward x t) ≡ false)) → OnOk result (IfSome s.here (λ t. IsTrue (is_passed forward (takes forward x t)) → s'.left < s.left)) → s.here ≡ Some t → outlasts forward x t ≡ false → OnOk result (Passed forward x l s s')
passed_goes forward x l l' s s' t (Err e) leads beyond fewer here out = tt
passed_goes forward x l l' s s' t (Ok v) leads beyond fewer here out = record {
  gap = leads.there;
  faces = record { known = leads.known; faces = leads.faces };
  beyond = IfSome_then s'.here beyond (λ t w. not-false _ (sym (passed_is forward x t) ∙ w));
  moved = inr (told_if _ s.here t here fewer (passed_is forward x t ∙ ap not out));
}

-- A source that stood next to a key, and has gone past another one that is beyond it, stands next to that.
pub passed_stands : (forward : Bool) (z x : List ℕ) (l l' : Listing Span) (s s' : Standing Span) → l' ≡ l → is_past forward z x ≡ true → StandsAt (takes forward z) l s → Passed forward x l s s' → StandsAt (takes forward x) l' s'
passed_stands forward z x l l' s s' e past at passed = rw e (go l.held at passed.gap)
  where
    further : (forward : Bool) → is_past forward z x ≡ true → (ss : List Span) → gap_past forward (count_before (takes forward x) ss) (count_before (takes forward z) ss) ≡ count_before (takes forward x) ss
    further true past ss = let le = count_rises (takes true z) (takes true x) ss (λ t w. ap not (ge_trans key_cmp-total x z t.end (lt_back key_cmp-total z x past) (not-true _ w))) in omega arith
    further false past ss = let le = count_rises (takes false x) (takes false z) ss (λ t w. lt_trans key_cmp-total t.start x z w past) in omega arith

    go : (h : Option (List Span)) → IfSome h (λ ss. s.gap ≡ Some (count_before (takes forward z) ss)) → IfSome h (λ ss. s'.gap ≡ option_map (gap_past forward (count_before (takes forward x) ss)) s.gap) → IfSome h (λ ss. s'.gap ≡ Some (count_before (takes forward x) ss))
    go None a b = tt
    go (Some ss) a b = b ∙ ap (option_map _) a ∙ ap (λ n. Some n) (further forward past ss)

pub among_get : {A : Type 0} (xs : List A) (x : A) → Among x xs → (i : ℕ) × (slice_get xs i ≡ Some x)
among_get [] x m = absurd m
among_get (y ∷ ys) x (inl e) = (zero, ap (λ z. Some z) (sym e))
among_get (y ∷ ys) x (inr m) = let f = among_get ys x m in (suc f.0, f.1)

-- what is seen from the gap of a span is that span
seen_back : (forward : Bool) (xs : List Span) → Chain xs → (c : Option Span) → IfSome c (λ s. Among s xs) → item_from forward xs (gap_from forward xs c) ≡ c
seen_back true xs h None m = slice_get_past xs (length xs) (omega arith)
seen_back false xs h None m = refl
seen_back true xs h (Some c) m =
    let f = among_get xs c m in
    ap (slice_get xs) (is_at xs h f.0 c f.1).ended_start ∙ f.1
seen_back false xs h (Some c) m =
    let f = among_get xs c m in
    ap (item_from false xs) ((is_at xs h f.0 c f.1).begun_end ∙ add-one f.0) ∙ f.1

-- and the gap of what is seen from one is that gap
gap_near : (forward : Bool) (t : Span → Bool) (xs : List Span) → Chain xs → (c : Option Span) → c ≡ near_cut forward t xs → gap_from forward xs c ≡ count_before t xs
gap_near forward t xs h c e = gap_seen forward xs h (count_before t xs) (cut_within t xs) c (from_cut forward t xs ∙ sym e)

-- where a step goes: on from a span, or to the other side of it, or of the end where no span is
gap_left : (was forward : Bool) (xs : List Span) → Chain xs → (c : Option Span) → IfSome c (λ s. Among s xs) → is_some c || not (agree forward was) ≡ true → count_before (leaves forward c) xs ≡ cond (agree forward was) (gap_on forward (gap_from was xs c)) (gap_from was xs c)
gap_left true true xs h None m can = cc
gap_left false false xs h None m can = cc
gap_left true false xs h None m can = count_all xs
gap_left false true xs h None m can = count_none (outside true) xs (λ x m. refl)
gap_left true true xs h (Some c) m can = gap_stepped true xs h (gap_from true xs (Some c)) c (seen_back true xs h (Some c) m)
gap_left false false xs h (Some c) m can = gap_stepped false xs h (gap_from false xs (Some c)) c (seen_back false xs h (Some c) m)
gap_left true false xs h (Some c) m can = gap_turned false xs h (gap_from true xs (Some c)) c (seen_back true xs h (Some c) m)
gap_left false true xs h (Some c) m can = gap_turned true xs h (gap_from false xs (Some c)) c (seen_back false xs h (Some c) m)

-- no step is priced
step_free : (ls : List (Listing Span)) (forward : Bool) (s : Standing Span) → (step_from (merged ls) forward s ≡ 0) × (step_to (merged ls) forward s ≡ 0)
step_free ls forward s = go (agree forward s.forward)
  where
    go : (b : Bool) → (cond b (walked (merged ls) forward s.gap) 0 ≡ 0) × (cond b (option_map_or (λ g. (merged ls).walk_price forward (gap_on forward g)) s.gap 0) (option_map_or ((merged ls).turn_price forward) s.gap 0) ≡ 0)
    go true = (option_zero _ s.gap (λ g. refl), option_zero _ s.gap (λ g. refl))
    go false = (refl, option_zero _ s.gap (λ g. refl))

module _ {S : Type 0} (listing : S → Listing Span) (standing : S → Standing Span) where
  chain_in : (ss : List S) (xs : List Span) → united (map listing ss) ≡ Some xs → Chain xs
  chain_in ss xs u = (whole (map listing ss) xs u).chain

  -- what is seen is the span that is lent
  pub here_is : (m : Merging S) → IsMerging listing standing m → (merged_standing listing standing m).here ≡ m.current
  here_is m is = go m.known refl m.current is.known (united (map listing m.sources)) refl is.among
    where
      told : (u : Option (List Span)) → united (map listing m.sources) ≡ u → (c : Option Span) → IfSome u (λ xs. IfSome c (λ s. Among s xs)) → merged_here u m.forward c ≡ c
      told None q c w = refl
      told (Some xs) q c w = seen_back m.forward xs (chain_in m.sources xs q) c w

      go : (b : Bool) → m.known ≡ b → (c : Option Span) → IfSome c (λ s. m.known ≡ true) → (u : Option (List Span)) → united (map listing m.sources) ≡ u → IfSome u (λ xs. IfSome c (λ s. Among s xs)) → cond b (merged_here u m.forward c) None ≡ c
      go true e c k u q w = told u q c w
      go false e None k u q w = refl
      go false e (Some c) k u q w = cc

  can_known : (m : Merging S) → IsMerging listing standing m → (forward : Bool) → IsTrue (can_step forward (merged_standing listing standing m)) → (m.known ≡ true) × (is_some m.current || not (agree forward m.forward) ≡ true)
  can_known m is forward can = go m.known refl (here_is m is) can
    where
      go : (b : Bool) → m.known ≡ b → (merged_standing listing standing m).here ≡ m.current → is_some (cond b (Some (merged_gap (united (map listing m.sources)) m.forward m.current)) None) && (is_some (merged_standing listing standing m).here || not (agree forward m.forward)) ≡ true → (m.known ≡ true) × (is_some m.current || not (agree forward m.forward) ≡ true)
      go true e q w = (e, rw q at w)
      go false e q w = cc

  -- the gap of a step
  pub stepped : (m : Merging S) → IsMerging listing standing m → (forward : Bool) (o : Option Span) → o ≡ m.current → IsTrue (can_step forward (merged_standing listing standing m))
      → IfSome (united (map listing m.sources)) (λ xs. Some (count_before (leaves forward o) xs) ≡ option_map (step_gap forward (merged_standing listing standing m)) (merged_standing listing standing m).gap)
  stepped m is forward o current can = let k = can_known m is forward can in if_told (united (map listing m.sources)) (λ xs u. rw (current, k.0)
      (ap Some (gap_left m.forward forward xs (chain_in m.sources xs u) m.current (told_if _ _ xs u is.among) k.1)
      ∙ ap (λ h. Some (cond (agree forward m.forward) (gap_on forward (merged_gap h m.forward m.current)) (merged_gap h m.forward m.current))) (sym u)))

-- the sources that a call is given, those that it leaves, and where they are put back
module _ {S : Type 0} (listing : S → Listing Span) (standing : S → Standing Span) (items olds news put : List S) (given : olds ≡ items) (back : put ≡ news) where
  pub found_merging : (c : Option Span) (forward : Bool) (t : Span → Bool) → map listing news ≡ map listing olds → IfSome (united (map listing olds)) (λ xs. c ≡ near_cut forward t xs) → IfSome c (SettlesOn listing standing news forward)
      → IsMerging listing standing (record { sources = put; current = c; forward = forward; known = true })
  found_merging c forward t same found arrives = rw back (record {
    among = rw same (IfSome_then (united (map listing olds)) found (λ xs w. if_told c (λ s e. (near_is forward t xs s (sym w ∙ e)).1)));
    known = if_told c (λ s e. refl);
    arrives = arrives;
  })

  pub found_leads : (c : Option Span) (forward : Bool) (t : Span → Bool) (to : List Span → Option ℕ) → map listing news ≡ map listing olds → IfSome (united (map listing olds)) (λ xs. c ≡ near_cut forward t xs) → IfSome (united (map listing items)) (λ xs. Some (count_before t xs) ≡ to xs)
      → Leads {T = Unit {0}} (merged (map listing items)) (merged (map listing put)) (merged_standing listing standing (record { sources = put; current = c; forward = forward; known = true })) forward to (Ok tt)
  found_leads c forward t to same found goes = record { same = ap merged all; there = rw all there; known = refl; faces = refl; lost = tt }
    where
      all : map listing put ≡ map listing items
      all = ap (map listing) back ∙ same ∙ ap (map listing) given

      there : IfSome (united (map listing items)) (λ xs. Some (merged_gap (united (map listing items)) forward c) ≡ to xs)
      there = if_told (united (map listing items)) (λ xs u.
          let is = told_if _ _ xs u (subst (λ ys. IfSome (united (map listing ys)) (λ xs. c ≡ near_cut forward t xs)) given found) in
          ap (λ o. Some (merged_gap o forward c)) u ∙ ap Some (gap_near forward t xs (chain_in listing standing items xs u) c is) ∙ told_if _ _ xs u goes)

  -- a step that is refused
  pub step_refused : {T U : Type 0} (forward : Bool) (s : Standing Span) (c c' : Counts) (e : SourceError) (r : Result U SourceError) → Costs {T = T} (merged (map listing olds)) (total (λ s. (standing s).owed) olds) (total (λ s. (standing s).owed) news) c c' 0 0 (Err e) → IsErrAnd r (λ d. d ≡ e)
      → Costs (merged (map listing items)) (total (λ s. (standing s).owed) items) (total (λ s. (standing s).owed) put) c c' (step_from (merged (map listing items)) forward s) (step_to (merged (map listing items)) forward s) r
  step_refused {T} forward s c c' e r costs handed =
      let free = step_free (map listing items) forward s in
      rw (free.0, free.1, ← given, back) (costs_handed {T = T} _ _ _ c c' 0 0 e r costs handed)

  -- a step in its own direction leaves fewer
  pub step_fewer : (m : Merging S) → IsMerging listing standing m → items ≡ m.sources → (forward : Bool) (o found : Option Span) → o ≡ m.current → IsTrue (can_step forward (merged_standing listing standing m)) → m.forward ≡ forward
      → IfSome o (λ c. total (λ s. left_of forward found (standing s)) news < total (λ s. left_of forward (Some c) (standing s)) olds) → total (λ s. left_of forward found (standing s)) put < (merged_standing listing standing m).left
  step_fewer m is whole forward o found current can e less = rw back (go m.current (can_known listing standing m is forward can).1
      (subst (λ o. IfSome o (λ c. total (λ s. left_of forward found (standing s)) news < total (λ s. left_of forward (Some c) (standing s)) m.sources)) current
      (subst (λ ys. IfSome o (λ c. total (λ s. left_of forward found (standing s)) news < total (λ s. left_of forward (Some c) (standing s)) ys)) (given ∙ whole) less)))
    where
      go : (c : Option Span) → is_some c || not (agree forward m.forward) ≡ true → IfSome c (λ c. total (λ s. left_of forward found (standing s)) news < total (λ s. left_of forward (Some c) (standing s)) m.sources) → total (λ s. left_of forward found (standing s)) news < total (λ s. left_of m.forward c (standing s)) m.sources
      go None w l = absurd (true_false _ (agree_same forward m.forward e) (not-true _ w))
      go (Some c) w l = rw e l

total_less : {S : Type 0} (f g : S → ℕ) (xs ys : List S) → length xs ≡ length ys → ((k : ℕ) (d : S) → k < length ys → f (get_or xs k d) ≤ g (get_or ys k d)) → (k : ℕ) (d : S) → k < length ys → f (get_or xs k d) < g (get_or ys k d) → total f xs < total g ys
total_less f g xs [] e all k d h less = absurd (omega arith)
total_less f g [] (y ∷ ys) e all k d h less = absurd (omega arith)
total_less f g (x ∷ xs) (y ∷ ys) e all zero d h less =
    let rest = total_le f g xs ys (omega arith) (λ k c l. all (suc k) c (omega arith)) in
    omega arith
total_less f g (x ∷ xs) (y ∷ ys) e all (suc k) d h less =
    let one = all 0 d (omega arith) in
    let rest = total_less f g xs ys (omega arith) (λ k c l. all (suc k) c (omega arith)) k d (omega arith) less in
    omega arith

beyond_is : (forward : Bool) (c t : Span) → begins_beyond forward c t ≡ is_past forward (left_end (not forward) c) (left_end (not forward) t)
beyond_is true c t = refl
beyond_is false c t = refl

outlasts_is : (forward : Bool) (x : List ℕ) (t : Span) → outlasts forward x t ≡ is_past forward x (left_end forward t)
outlasts_is true x t = refl
outlasts_is false x t = refl

still_most : (forward : Bool) (current here : Option Span) → ends_left forward current here ≤ 1
still_most forward None here = omega arith
still_most forward (Some c) None = omega arith
still_most forward (Some c) (Some t) = elim (begins_beyond forward c t) as (λ b. cond b 1 0 ≤ 1) [ true ↦ omega arith | false ↦ omega arith ]

-- the next span begins where this one ends, or beyond
module _ (forward : Bool) (c : Span) (past : is_past forward (left_end (not forward) c) (left_end forward c) ≡ true) (found : Option Span) (next : IfSome found (λ d. is_past forward (left_end (not forward) d) (left_end forward c) ≡ false)) where
  still_less : (here : Option Span) → ends_left forward found here + 0 ≤ ends_left forward (Some c) here
  still_less here = go found next here
    where
      go : (found : Option Span) → IfSome found (λ d. is_past forward (left_end (not forward) d) (left_end forward c) ≡ false) → (here : Option Span) → ends_left forward found here + 0 ≤ ends_left forward (Some c) here
      go None from here = omega arith
      go (Some d) from None = omega arith
      go (Some d) from (Some t) = rw (beyond_is forward d t, beyond_is forward c t) (both (is_past forward (left_end (not forward) d) (left_end (not forward) t)) (is_past forward (left_end (not forward) c) (left_end (not forward) t))
          (past_trans forward (left_end (not forward) c) (left_end (not forward) d) (left_end (not forward) t) (past_upto forward (left_end (not forward) c) (left_end forward c) (left_end (not forward) d) past from)))
        where
          both : (a b : Bool) → (a ≡ true → b ≡ true) → cond a 1 0 + 0 ≤ cond b 1 0
          both true b f = rw (f refl) (omega arith)
          both false b f = omega arith

  -- a source that stays, of whose span this one reaches to the near end
  still_falls : (t : Span) → end_seen forward (left_end (not forward) c) t ≡ left_end forward c → outlasts forward (left_end forward c) t ≡ true → ends_left forward found (Some t) + 1 ≤ ends_left forward (Some c) (Some t)
  still_falls t end out = come found next (met (is_past forward (left_end (not forward) c) (left_end (not forward) t)) refl (sym (end_is forward (left_end (not forward) c) t) ∙ end))
    where
      met : (b : Bool) → is_past forward (left_end (not forward) c) (left_end (not forward) t) ≡ b → cond b (left_end (not forward) t) (left_end forward t) ≡ left_end forward c → (begins_beyond forward c t ≡ true) × (left_end (not forward) t ≡ left_end forward c)
      met true q e = (beyond_is forward c t ∙ q, e)
      met false q e = absurd (true_false _ out (outlasts_is forward (left_end forward c) t ∙ ap (is_past forward (left_end forward c)) e ∙ past_itself forward (left_end forward c)))

      come : (found : Option Span) → IfSome found (λ d. is_past forward (left_end (not forward) d) (left_end forward c) ≡ false) → (begins_beyond forward c t ≡ true) × (left_end (not forward) t ≡ left_end forward c) → ends_left forward found (Some t) + 1 ≤ ends_left forward (Some c) (Some t)
      come None from m = rw m.0 (omega arith)
      come (Some d) from m = rw (m.0, beyond_is forward d t ∙ ap (is_past forward (left_end (not forward) d)) m.1 ∙ from) (omega arith)

  left_less : (s s' : Standing Span) (n : ℕ) → n ≤ 1 → (s'.here ≡ s.here → ends_left forward found s.here + n ≤ ends_left forward (Some c) s.here) → ((s'.here ≡ s.here) × (s'.left ≡ s.left)) ⊎ (s'.left < s.left) → left_of forward found s' + n ≤ left_of forward (Some c) s
  left_less s s' n le stays (inl e) =
      let a = e.1 in
      let b : ends_left forward found s'.here + n ≤ ends_left forward (Some c) s.here = rw e.0 (stays e.0) in
      omega (arith, a, b)
  left_less s s' n le stays (inr less) = let m = still_most forward found s'.here in omega (arith, less, m)

pub left_falls : {S : Type 0} (listing : S → Listing Span) (standing : S → Standing Span) (olds news : List S) (forward : Bool) (c : Span) (found : Option Span) → length news ≡ length olds → IsSeenEnd standing olds forward (left_end (not forward) c) (left_end forward c)
    → ((k : ℕ) (d : S) → k < length olds → Passed forward (left_end forward c) (listing (get_or olds k d)) (standing (get_or olds k d)) (standing (get_or news k d))) → IfSome found (ReachesTo standing news forward (left_end forward c))
    → total (λ s. left_of forward found (standing s)) news < total (λ s. left_of forward (Some c) (standing s)) olds
left_falls {S} listing standing olds news forward c found len seen passed reaches =
    let next = IfSome_then found reaches (λ d r. r.from) in
    let d = pick olds seen.source seen.within in
    let at = passed seen.source d seen.within in
    let all = λ (k : ℕ) (d : S) (h : k < length olds). left_less forward c seen.past found next (standing (get_or olds k d)) (standing (get_or news k d)) 0 (omega arith) (λ e. still_less forward c seen.past found next (standing (get_or olds k d)).here) (passed k d h).moved in
    let one = left_less forward c seen.past found next (standing (get_or olds seen.source d)) (standing (get_or news seen.source d)) 1 (omega arith) (λ e.
    rw (seen.here d) (still_falls forward c seen.past found next seen.span seen.end (subst (Outlasts forward (left_end forward c)) (e ∙ seen.here d) at.beyond))) at.moved in
    total_less (λ s. left_of forward found (standing s)) (λ s. left_of forward (Some c) (standing s)) news olds len (λ k d h. let a = all k d h in omega (arith, a)) seen.source d seen.within (omega (arith, one))
