-- What is found on a way, forward and backward, and on the way from a visible entry.
use Rattle.std.proofs.Common.{◌≡◌, ℕ, zero, suc, ◌-◌, ◌<◌, ◌≤◌, length, true, false, ◌&&◌, List, Option, Some, None, is_some, IfSome, IsTrue, Result, Ok, Err, refl, ap, sym, ◌∙◌, arith, add-one, slice_get, nat_lt, nat_le, inl, inr}
use Rattle.std.specs.Result.{IsErrAnd}
use Rattle.std.proofs.lemmas.Bool.{cases_Bool, and_parts, ltb-true, ltb-false, leb-true, or_parts, or_cases, not-true, not-false, and_left}
use Rattle.std.proofs.lemmas.Option.{same_Some, slice_get_within}
use Rattle.std.proofs.Math.Bool.{and_comm}
use Rattle.rk_outside.specs.Counts.{Counts}
use Rattle.rk_outside.specs.declared.error.SourceError.{SourceError}
use Rattle.rk_outside.specs.declared.error.SourceError.TheVariants.{Memory}
use Rattle.rk_model.specs.Cuts.{item_from, gap_on}
use Rattle.rk_model.specs.Items.{keyed_points}
use Rattle.rk_model.specs.Sources.{op_key}
use Rattle.rk_model.specs.Standings.{Listing, Standing, Costs, IsTold, WalksRise, walked}
use Rattle.rk_model.specs.declared.op.Entry.{Entry}
use Rattle.rk_model.proofs.Gaps.{past_none}
use Rattle.rk_model.proofs.Paying.{paid_none, paid_ok, paid_told, paid_memory, costs_told, costs_handed}
use Rattle.rk_pointmerge.specs.Visibles.{is_put, is_visible, one_key, count_to, sees, look_to, left_gap, IsShown, IsAtVisible, Looks, Skips, MaySkip, LooksPast, kept_from, is_settled}
use Rattle.rk_pointmerge.proofs.Places.{count_failed}
use Rattle.rk_pointmerge.proofs.Sights.{Ascends, visible_parts, hidden_by, shown_first, shown_behind, skips_hidden, skips_shown, skips_on, skips_past}
use Rattle.rk_pointmerge.proofs.Ways.{Told, Way, Stepped, if_held, held_if, the_some, way_here, here_is, told_at, rises, step_prices}

-- a set that stands behind the gap, numbered at most n
abbrev pub Keeps : ℕ → Option Entry → List Entry → ℕ → Type 0
Keeps n None es g = Unit {0}
Keeps n (Some e) es g = (slice_get es g ≡ Some e) × (is_put e.op ≡ true) × (e.seq ≤ n)

pub told_ascends : (l : Listing Entry) → IfSome l.held (λ xs. IsTrue (keyed_points xs)) → (es : List Entry) → l.held ≡ Some es → Ascends es
told_ascends l sorted es e = (and_parts _ _ (and_parts _ _ (held_if l.held _ es e sorted)).0).1

module _ {n : ℕ} {l l' : Listing Entry} {b s : Standing Entry} {c c' : Counts} (sorted : IfSome l.held (λ xs. IsTrue (keyed_points xs))) where
  module _ {key : Option (List ℕ)} (way : Way true n (λ es g. Skips n es key g) None l l' b s c c') where
    pub next_ends : s.here ≡ None → Told l s (λ es g. IsShown true n es None g)
    next_ends here es g e at = rw (sym (way_here way es g e at).0 ∙ here) tt

    module _ (d : Entry) (here : s.here ≡ Some d) (key' : Option (List ℕ)) where
      pub next_more : LooksPast n d key key' true → Told l s (λ es g. (sees true n es None (gap_on true g) ≡ sees true n es None g) × Skips n es key' (gap_on true g))
      next_more passes es g e at =
          let q = sym (way_here way es g e at).0 ∙ here in
          let skips = way.here es g e at in
          rw (add-one g) (count_failed (is_visible n es) es g d q (skips_hidden n es (told_ascends l sorted es e) key key' g d skips q passes), skips_on n es (told_ascends l sorted es e) key key' g d skips q passes)

      pub next_shown : LooksPast n d key key' false → Told l s (λ es g. IsShown true n es None g)
      next_shown passes es g e at = let q = sym (way_here way es g e at).0 ∙ here in rw q (skips_shown n es (told_ascends l sorted es e) key key' g d (way.here es g e at) q passes)

  module _ {kept : Option Entry} (way : Way false n (Keeps n kept) kept l l' b s c c') where
    pub back_ends : s.here ≡ None → Told l s (λ es g. IsShown false n es kept g)
    back_ends here es g e at = go g kept (sym (way_here way es g e at).0 ∙ here) (way_here way es g e at).1 (way.here es g e at)
      where
        go : (g : ℕ) (k : Option Entry) → item_from false es g ≡ None → g ≤ length es → Keeps n k es g → IsShown false n es k g
        go zero None q le w = refl
        go zero (Some x) q le w = (w.0, shown_first n es (told_ascends l sorted es e) 0 x w.0 w.1 w.2 (λ j d h p o same. absurd (omega arith)))
        go (suc g) k q le w = let h = past_none es g q in absurd (omega arith)

    module _ (d : Entry) (here : s.here ≡ Some d) where
      kept_same : (es : List Entry) (k : ℕ) → slice_get es k ≡ Some d → (sees false n es (kept_from n d) k ≡ count_to (is_visible n es) es (suc k)) × Keeps n (kept_from n d) es k
      kept_same es k p = elim (cases_Bool (nat_le d.seq n && is_put d.op)) [
        | inl q ↦ let both = and_parts (nat_le d.seq n) _ q in rw q (refl, (p, both.1, leb-true d.seq n both.0))
        | inr q ↦ rw q (sym (count_failed (is_visible n es) es k d p (and_left (is_put d.op && nat_le d.seq n) _ (and_comm (is_put d.op) _ ∙ q))), tt)
      ]

      pub back_more : is_settled n kept d ≡ false → Told l s (λ es g. (sees false n es (kept_from n d) (gap_on false g) ≡ sees false n es kept g) × Keeps n (kept_from n d) es (gap_on false g))
      back_more other es zero e at = let no : None ≡ Some d = sym (way_here way es 0 e at).0 ∙ here in cc
      back_more other es (suc k) e at = let low : suc k - 1 ≡ k = omega arith in rw (hidden kept other (way.here es (suc k) e at), low) (kept_same es k p)
        where
          p : slice_get es k ≡ Some d
          p = sym (way_here way es (suc k) e at).0 ∙ here

          hidden : (o : Option Entry) → is_settled n o d ≡ false → Keeps n o es (suc k) → sees false n es o (suc k) ≡ count_to (is_visible n es) es (suc k)
          hidden None q w = refl
          hidden (Some x) q w =
              let (old, same) = or_parts (nat_lt n d.seq) _ q in
              count_failed (is_visible n es) es (suc k) x w.0 (hidden_by n es (told_ascends l sorted es e) k (suc k) d x (omega arith) p w.0 (ltb-false n d.seq old) (not-false _ same))

      pub back_shown : is_settled n kept d ≡ true → Told l s (λ es g. IsShown false n es kept g)
      back_shown settled es zero e at = let no : None ≡ Some d = sym (way_here way es 0 e at).0 ∙ here in cc
      back_shown settled es (suc k) e at = go kept settled (way.here es (suc k) e at)
        where
          not_by : (x : Entry) → is_settled n (Some x) d ≡ true → d.seq ≤ n → one_key d x ≡ true → ⊥
          not_by x q old same = elim (or_cases (nat_lt n d.seq) _ q) [ inl late ↦ let h = ltb-true n d.seq late in omega arith | inr other ↦ let no = not-true (one_key d x) other in cc ]

          go : (o : Option Entry) → is_settled n o d ≡ true → Keeps n o es (suc k) → IsShown false n es o (suc k)
          go None q w = cc
          go (Some x) q w = (w.0, shown_behind n es (told_ascends l sorted es e) k d x (sym (way_here way es (suc k) e at).0 ∙ here) w.0 w.1 w.2 (not_by x q))

-- from a visible entry on
module _ (n : ℕ) {l : Listing Entry} {s : Standing Entry} (is : IsTold l s) (known : is_some s.gap ≡ true) (faces : s.forward ≡ true) (shown : IfSome l.held (λ es. IfSome s.gap (IsAtVisible n es))) where
  seen_at : Told l s (λ es g. (x : Entry) × (s.here ≡ Some x) × (slice_get es g ≡ Some x) × (is_visible n es x ≡ true))
  seen_at es g e at = let (x, p, v) = held_if s.gap _ g at (held_if l.held _ es e shown) in (x, (here_is true l s is faces es g e at).0 ∙ p, p, v)

  -- nothing is seen, so the list isn't told
  untold : s.here ≡ None → (es : List Entry) → l.held ≡ Some es → ⊥
  untold here es e =
      let (g, at) = the_some s.gap known in
      let (x, q, p, v) = seen_at es g e at in
      cc

  pub leave_nothing : {T : Type 0} (c : Counts) (v : T) → s.here ≡ None → record {
    looks : Looks {E = SourceError} true n None l l (left_gap true s.gap) s (Ok v);
    left : is_some s.here ≡ true → s.left < s.left;
    costs : Costs l s.owed s.owed c c (walked l true s.gap) (look_to true n l (left_gap true s.gap)) (Ok v);
  }
  leave_nothing c v here = record {
    looks = record {
      same = refl;
      stands = record { known = known; faces = faces; told = if_held l.held _ (λ es e. absurd (untold here es e)) };
      there = if_held l.held _ (λ es e. absurd (untold here es e));
    };
    left = λ seen. let no : false ≡ true = sym (ap is_some here) ∙ seen in cc;
    costs = paid_ok l s.owed s.owed c c _ _ v (paid_told l s.owed s.owed c c 0 0 _ _ (λ held. let (es, e) = the_some l.held held in absurd (untold here es e)) (paid_none l s.owed c 0));
  }

  module _ (rise : WalksRise l) where
    leaves : Told l s (λ es g. (walked l true s.gap ≤ l.walk_price true (suc g)) × (l.walk_price true (suc g) ≤ look_to true n l (left_gap true s.gap)))
    leaves es g e at =
        let (x, q, p, v) = seen_at es g e at in
        let on = rises true n None l rise es e (suc g) (slice_get_within es g x p) in
        rw (e, at) (rise.forward (ap is_some e) g (suc g) (omega arith), on)

    pub leave_memory : {T : Type 0} (c : Counts) (r : SourceError) (given : Result T SourceError) → r ≡ Memory → IsErrAnd given (λ x. x ≡ r) → Costs l s.owed s.owed c c (walked l true s.gap) (look_to true n l (left_gap true s.gap)) given
    leave_memory {T} c r given memory q = costs_handed {T = T} l s.owed s.owed c c _ _ r given (rw memory (paid_memory {T = T} l s.owed s.owed c c _ _ (paid_told l s.owed s.owed c c 0 0 _ _ (λ held.
        let (es, g, e, at) = told_at l s known held in
        let (first, on) = leaves es g e at in
        omega arith) (paid_none l s.owed c 0)))) q

    pub leave_refused : {T U : Type 0} {l' : Listing Entry} {s' : Standing Entry} {c c' : Counts} (r : SourceError) (given : Result U SourceError) → Stepped {T = T} true l l' s s' c c' (Err r) → IsErrAnd given (λ x. x ≡ r) → Costs l s.owed s'.owed c c' (walked l true s.gap) (look_to true n l (left_gap true s.gap)) given
    leave_refused {T} {U} {l'} {s'} {c} {c'} r given one q = costs_handed l s.owed s'.owed c c' _ _ r given (costs_told {T = T} l s.owed s'.owed c c' _ _ _ _ (Err r) (λ held.
        let (es, g, e, at) = told_at l s known held in
        let (first, on) = leaves es g e at in
        let (gap, from, step) = step_prices true l s faces g at in
        let next = ap (l.walk_price true) (add-one g) in
        omega arith) one.costs) q

  pub leave_skips : {T : Type 0} {l' : Listing Entry} {s' : Standing Entry} {c c' : Counts} {v : T} → IfSome l.held (λ xs. IsTrue (keyed_points xs)) → Stepped true l l' s s' c c' (Ok v) → (d : Entry) → s.here ≡ Some d → (key : Option (List ℕ)) → key ≡ Some (op_key d.op) → MaySkip n key l' s'
  leave_skips sorted one d here key kept = rw (one.leads.same, kept) (if_held l.held _ (λ es e.
      let (g, at) = the_some s.gap known in
      let (x, q, p, seen) = seen_at es g e at in
      let same = same_Some x d (sym q ∙ here) in
      let next = held_if l.held _ es e one.leads.there ∙ (step_prices true l s faces g at).0 in
      rw (next, add-one g, ← same) (skips_past n es (told_ascends l sorted es e) g x p (visible_parts n es x seen).1)))
