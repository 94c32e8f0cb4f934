-- What is visible as a source: its gaps, what is seen there, and what it costs.
use Rattle.std.proofs.Common.{◌≡◌, ℕ, suc, ◌+◌, ◌≤◌, Bool, true, false, ◌||◌, not, List, Option, Some, None, is_some, IfSome, option_map, Result, Ok, Err, IsTrue, refl, ap, sym, subst, ◌∙◌, arith, add-one, slice_get}
use Rattle.std.specs.Prelude.{if◌then◌else◌}
use Rattle.std.specs.Option.{option_map_or}
use Rattle.std.proofs.Math.Bool.{or-false}
use Rattle.std.proofs.lemmas.Bool.{and_parts}
use mathlib.Core.Bool.{beq}
use Rattle.rk_outside.specs.Counts.{Counts}
use Rattle.rk_outside.specs.declared.error.SourceError.{SourceError}
use Rattle.rk_model.specs.Cuts.{count_before, item_from, gap_on}
use Rattle.rk_model.specs.Items.{keyed_points, point_takes}
use Rattle.rk_model.specs.ItemLaws.{points-first}
use Rattle.rk_model.specs.Standings.{Listing, Standing, Leads, Costs, IsTold, agree, can_step, step_gap, step_from, step_to, walked}
use Rattle.rk_model.specs.declared.cut.Cut.{Cut}
use Rattle.rk_model.specs.declared.op.Entry.{Entry}
use Rattle.rk_model.proofs.Paying.{paid_from, costs_after, costs_over, costs_told}
use Rattle.rk_pointmerge.specs.Visibles.{is_visible, visible, viewed, viewed_from, viewed_here, count_to, sees, stood_at, look_to, turn_to, left_gap, Looks, GoesToGap, IsViewing, IsShown, IsAtVisible, MaySkip}
use Rattle.rk_pointmerge.proofs.Places.{count_cut, count_passed, place_item}
use Rattle.rk_pointmerge.proofs.Sights.{cut_alike, skips_start}
use Rattle.rk_pointmerge.proofs.Ways.{Told, agree_same, held_if, if_held, the_some, here_is, stood_seen}

-- what is visible is told where the list of the source is
still_some : {A B : Type 0} (f : A → B) (o : Option A) → is_some (option_map f o) ≡ is_some o
still_some f None = refl
still_some f (Some x) = refl

viewed_costs : {T : Type 0} (n : ℕ) (l : Listing Entry) (o o' : ℕ) (c c' : Counts) (f t f' t' : ℕ) (result : Result T SourceError) → ((es : List Entry) → l.held ≡ Some es → f' + t ≤ f + t') → Costs l o o' c c' f t result → Costs (viewed n l) o o' c c' f' t' result
viewed_costs n l o o' c c' f t f' t' result le costs = costs_over l (viewed n l) o o' c c' f' t' result (λ file at w. rw (still_some (visible n) l.held) w) (λ w. rw (still_some (visible n) l.held) at w)
    (costs_told l o o' c c' f t f' t' result (λ held. let (es, e) = the_some l.held held in le es e) costs)

told_costs : {T : Type 0} (n : ℕ) (l : Listing Entry) (s : Standing Entry) → is_some s.gap ≡ true → (o' : ℕ) (c c' : Counts) (f t f' t' : ℕ) (result : Result T SourceError) → Told l s (λ es g. (f' ≡ f) × (t' ≡ t)) → Costs l s.owed o' c c' f t result → Costs (viewed n l) s.owed o' c c' f' t' result
told_costs n l s known o' c c' f t f' t' result prices costs = viewed_costs n l s.owed o' c c' f t f' t' result (λ es e.
    let (g, at) = the_some s.gap known in
    let (from, to) = prices es g e at in
    omega arith) costs

-- what is seen is what the source sees, or what is kept
module _ (forward : Bool) (n : ℕ) (kept : Option Entry) (l : Listing Entry) (s : Standing Entry) (is : IsTold l s) (stands : IsViewing forward n kept l s) where
  stood_here : Told l s (λ es g. IsShown forward n es kept g × (stood_at forward n es (sees forward n es kept g) ≡ g))
  stood_here es g e at = let shown = held_if s.gap _ g at (held_if l.held _ es e stands.told) in (shown, stood_seen forward n kept es g shown (here_is forward l s is stands.faces es g e at).1)

  pub viewed_shown : viewed_here forward n kept l s ≡ (if forward then s.here else kept)
  viewed_shown = go l.held refl
    where
      item : (es : List Entry) (g : ℕ) (d : Bool) (k : Option Entry) → item_from d es g ≡ s.here → IsShown d n es k g → stood_at d n es (sees d n es k g) ≡ g → item_from d (visible n es) (sees d n es k g) ≡ (if d then s.here else k)
      item es g true k q shown stood = place_item (is_visible n es) es (sees true n es k g) ∙ ap (slice_get es) stood ∙ q
      item es g false None q shown stood = rw shown refl
      item es g false (Some x) q shown stood = let more = count_passed (is_visible n es) es g x shown.0 shown.1 in rw more (place_item (is_visible n es) es (count_to (is_visible n es) es g) ∙ ap (slice_get es) (rw more at stood) ∙ shown.0)

      go : (h : Option (List Entry)) → l.held ≡ h → viewed_here forward n kept l s ≡ (if forward then s.here else kept)
      go None e = let (g, at) = the_some s.gap stands.known in rw (at, e) refl
      go (Some es) e =
          let (g, at) = the_some s.gap stands.known in
          let (shown, stood) = stood_here es g e at in
          rw (at, e) (item es g forward kept (sym (here_is forward l s is stands.faces es g e at).0) shown stood)

-- where a visible entry is seen forward, the source sees it
module _ (n : ℕ) (kept : Option Entry) (l : Listing Entry) (s : Standing Entry) (is : IsTold l s) (stands : IsViewing true n kept l s) (seen : is_some (viewed_here true n kept l s) ≡ true) where
  pub seen_here : is_some s.here ≡ true
  seen_here = sym (ap is_some (viewed_shown true n kept l s is stands)) ∙ seen

  pub seen_shown : IfSome l.held (λ es. IfSome s.gap (IsAtVisible n es))
  seen_shown = if_held l.held _ (λ es e. if_held s.gap _ (λ g at.
      let (x, here) = the_some s.here seen_here in
      let q = sym (here_is true l s is stands.faces es g e at).0 ∙ here in
      (x, q, rw q at (held_if s.gap _ g at (held_if l.held _ es e stands.told)))))

-- the visible entries before the gap behind it are one more, or one fewer
abbrev behind : Bool → ℕ → ℕ
behind forward g = if forward then suc g else g

left_counts : (forward : Bool) (n : ℕ) (kept : Option Entry) (l : Listing Entry) (s : Standing Entry) → IsTold l s → IsViewing forward n kept l s → is_some (viewed_here forward n kept l s) ≡ true
    → Told l s (λ es g. (left_gap forward s.gap ≡ Some (behind forward g)) × (count_to (is_visible n es) es (behind forward g) ≡ gap_on forward (sees forward n es kept g)))
left_counts true n kept l s is stands seen es g e at =
    let (x, p, v) = held_if s.gap _ g at (held_if l.held _ es e (seen_shown n kept l s is stands seen)) in
    (ap (left_gap true) at, count_passed (is_visible n es) es g x p v ∙ sym (add-one (count_to (is_visible n es) es g)))
left_counts false n None l s is stands seen es g e at = let no : false ≡ true = sym (ap is_some (viewed_shown false n None l s is stands)) ∙ seen in cc
left_counts false n (Some x) l s is stands seen es g e at =
    let (p, v) = held_if s.gap _ g at (held_if l.held _ es e stands.told) in
    let more = count_passed (is_visible n es) es g x p v in
    (at, omega arith)

-- a step on, which passes what is seen
module _ (forward : Bool) (n : ℕ) (kept : Option Entry) (l : Listing Entry) (s : Standing Entry) (is : IsTold l s) (stands : IsViewing forward n kept l s) (can : IsTrue (can_step forward (viewed_from n kept (Some forward) l s))) where
  seen : is_some (viewed_here forward n kept l s) ≡ true
  seen = let v = viewed_from n kept (Some forward) l s in rw (agree_same forward forward refl, or-false) at (and_parts (is_some v.gap) (is_some v.here || not (agree forward forward)) can).1

  leave_prices : Told l s (λ es g. (option_map (count_to (is_visible n es) es) (left_gap forward s.gap) ≡ option_map (step_gap forward (viewed_from n kept (Some forward) l s)) (option_map (sees forward n es kept) s.gap))
      × (step_from (viewed n l) forward (viewed_from n kept (Some forward) l s) ≡ walked l forward s.gap) × (step_to (viewed n l) forward (viewed_from n kept (Some forward) l s) ≡ look_to forward n l (left_gap forward s.gap)))
  leave_prices es g e at =
      let agrees = agree_same forward forward refl in
      let stood = (stood_here forward n kept l s is stands es g e at).1 in
      let (to, counts) = left_counts forward n kept l s is stands seen es g e at in
      (rw (to, at, agrees, counts) refl, rw (agrees, at, e, stood) refl, rw (agrees, to, at, e, counts) refl)

  pub leave_arrives : {T : Type 0} (kept' : Option Entry) (l' : Listing Entry) (s' : Standing Entry) (result : Result T SourceError) → Looks forward n kept' l l' (left_gap forward s.gap) s' result
      → GoesToGap forward n kept' l l' s' (λ es. option_map (step_gap forward (viewed_from n kept (Some forward) l s)) (option_map (sees forward n es kept) s.gap)) result
  leave_arrives kept' l' s' (Err r) looks = record { same = looks.same; stands = tt; there = tt }
  leave_arrives kept' l' s' (Ok v) looks = record {
    same = looks.same;
    stands = looks.stands;
    there = if_held l.held _ (λ es e. let (g, at) = the_some s.gap stands.known in held_if l.held _ es e looks.there ∙ (leave_prices es g e at).0);
  }

  pub leave_walks : {T : Type 0} (o' : ℕ) (c c' : Counts) (result : Result T SourceError) → Costs l s.owed o' c c' (walked l forward s.gap) (look_to forward n l (left_gap forward s.gap)) result
      → Costs (viewed n l) s.owed o' c c' (step_from (viewed n l) forward (viewed_from n kept (Some forward) l s)) (step_to (viewed n l) forward (viewed_from n kept (Some forward) l s)) result
  leave_walks o' c c' result costs = told_costs n l s stands.known o' c c' _ _ _ _ result (λ es g e at. let (there, from, to) = leave_prices es g e at in (from, to)) costs

-- a turn
agree_not : (a : Bool) → agree a (not a) ≡ false
agree_not true = refl
agree_not false = refl

module _ (forward : Bool) (n : ℕ) (kept : Option Entry) (l : Listing Entry) (s : Standing Entry) (is : IsTold l s) (stands : IsViewing (not forward) n kept l s) where
  pub turn_walks : {T : Type 0} (o' : ℕ) (c c' : Counts) (result : Result T SourceError) → Costs l s.owed o' c c' 0 (turn_to forward n kept l s.gap) result
      → Costs (viewed n l) s.owed o' c c' (step_from (viewed n l) forward (viewed_from n kept (Some (not forward)) l s)) (step_to (viewed n l) forward (viewed_from n kept (Some (not forward)) l s)) result
  turn_walks o' c c' result costs = told_costs n l s stands.known o' c c' _ _ _ _ result (λ es g e at. (rw (agree_not forward) refl, rw (agree_not forward, at, e, (stood_here (not forward) n kept l s is stands es g e at).1) refl)) costs

pub facing_is : (facing forward : Bool) → facing ≡ (if beq facing forward then forward else not forward)
facing_is true true = refl
facing_is true false = refl
facing_is false true = refl
facing_is false false = refl

-- a seek: that of the source, and a way on
module _ {forward : Bool} (n : ℕ) (cut : Cut (List ℕ)) {l l' : Listing Entry} {s' : Standing Entry} {U : Type 0} {u : U} (leads : Leads {T = U} l l' s' forward (λ es. Some (count_before (point_takes cut) es)) (Ok u)) (sorted : IfSome l.held (λ es. IsTrue (keyed_points es))) where
  pub seek_skips : (key : Option (List ℕ)) → key ≡ None → MaySkip n key l' s'
  seek_skips key none = rw (leads.same, none) (if_held l.held _ (λ es e. rw (held_if l.held _ es e leads.there) (skips_start n es (point_takes cut) (points-first cut es (held_if l.held _ es e sorted)) (cut_alike cut))))

  counts : (es : List Entry) → l.held ≡ Some es → count_to (is_visible n es) es (count_before (point_takes cut) es) ≡ count_before (point_takes cut) (visible n es)
  counts es e = sym (count_cut (is_visible n es) (point_takes cut) es (points-first cut es (held_if l.held _ es e sorted)))

  pub seek_leads : {T : Type 0} (kept : Option Entry) (l'' : Listing Entry) (s'' : Standing Entry) (v : T) → Looks {E = SourceError} forward n kept l' l'' s'.gap s'' (Ok v) → Leads {T = T} (viewed n l) (viewed n l'') (viewed_from n kept (Some forward) l'' s'') forward (λ vs. Some (count_before (point_takes cut) vs)) (Ok v)
  seek_leads {T} kept l'' s'' v looks = let looked = subst (λ (x : Listing Entry). Looks {T = T} {E = SourceError} forward n kept x l'' s'.gap s'' (Ok v)) leads.same looks in record {
    same = ap (viewed n) looked.same;
    there = rw looked.same (there l.held refl looked.there);
    known = still_some _ s''.gap ∙ looked.stands.known;
    faces = refl;
    lost = tt;
  }
    where
      there : (h : Option (List Entry)) → l.held ≡ h → IfSome h (λ es. option_map (sees forward n es kept) s''.gap ≡ option_map (count_to (is_visible n es) es) s'.gap)
          → IfSome (option_map (visible n) h) (λ vs. option_map (λ g. option_map_or (λ es. sees forward n es kept g) h g) s''.gap ≡ Some (count_before (point_takes cut) vs))
      there None e looked = tt
      there (Some es) e looked = looked ∙ ap (option_map (count_to (is_visible n es) es)) (held_if l.held _ es e leads.there) ∙ ap (λ k. Some k) (counts es e)

  pub seek_costs : {T : Type 0} (o o' o'' : ℕ) (c c' c'' : Counts) (result : Result T SourceError) → Costs {T = U} l o o' c c' 0 (l.seek_price forward cut) (Ok u) → Costs l' o' o'' c' c'' (walked l' forward s'.gap) (look_to forward n l' s'.gap) result
      → Costs (viewed n l) o o'' c c'' 0 ((viewed n l).seek_price forward cut) result
  seek_costs o o' o'' c c' c'' result first second = viewed_costs n l o o'' c c'' _ _ _ _ result (λ es e. rw (held_if l.held _ es e leads.there, e, counts es e) (omega arith))
      (costs_after l o o' o'' c c' c'' _ _ _ _ result (paid_from l o o' c c' _ _ u first) (subst (λ (x : Listing Entry). Costs x o' o'' c' c'' (walked x forward s'.gap) (look_to forward n x s'.gap) result) leads.same second))
