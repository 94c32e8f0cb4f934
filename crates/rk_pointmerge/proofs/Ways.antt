-- Ways of a source from a gap on, in a direction.
use Rattle.std.proofs.Common.{◌≡◌, ℕ, zero, suc, ◌-◌, ◌<◌, ◌≤◌, length, Bool, true, false, List, Option, Some, None, is_some, IfSome, option_map, Result, Ok, Err, IsTrue, refl, ap, sym, subst, ◌∙◌, arith}
use Rattle.std.specs.Prelude.{OnOk}
use Rattle.std.specs.Result.{IsErrAnd}
use Rattle.std.proofs.lemmas.Option.{slice_get_within, same_Some}
use Rattle.rk_outside.specs.Counts.{Counts}
use Rattle.rk_outside.specs.declared.error.SourceError.{SourceError}
use Rattle.rk_outside.specs.declared.error.SourceError.TheVariants.{Memory}
use Rattle.rk_model.specs.Cuts.{item_from, gap_on}
use Rattle.rk_model.specs.Standings.{Listing, Standing, Leads, Costs, IsTold, WalksRise, agree, step_gap, step_from, step_to, walked}
use Rattle.rk_model.specs.declared.op.Entry.{Entry}
use Rattle.rk_model.proofs.Paying.{Paid, paid_from, paid_ok, paid_told, paid_paid, costs_told, costs_after, costs_handed, paid_memory}
use Rattle.rk_pointmerge.specs.Visibles.{is_visible, count_to, sees, stood_at, viewed_left, look_to, Looks, IsShown}
use Rattle.rk_pointmerge.proofs.Places.{count_passed, place_above, place_below, place_seen}

-- what is said of the list where it is told, and of a gap that is known
pub if_held : {A : Type 0} (o : Option A) (F : A → Type 0) → ((x : A) → o ≡ Some x → F x) → IfSome o F
if_held None F f = tt
if_held (Some x) F f = f x refl

pub held_if : {A : Type 0} (o : Option A) (F : A → Type 0) (x : A) → o ≡ Some x → IfSome o F → F x
held_if None F x e w = cc
held_if (Some y) F x e w = subst F (same_Some y x e) w

pub the_some : {A : Type 0} (o : Option A) → is_some o ≡ true → (x : A) × (o ≡ Some x)
the_some None e = cc
the_some (Some x) e = (x, refl)

pub told_at : (l : Listing Entry) (s : Standing Entry) → is_some s.gap ≡ true → IsTrue (is_some l.held) → (es : List Entry) × (g : ℕ) × (l.held ≡ Some es) × (s.gap ≡ Some g)
told_at l s known held =
    let (es, e) = the_some l.held held in
    let (g, at) = the_some s.gap known in
    (es, g, e, at)

abbrev pub Told : Listing Entry → Standing Entry → (List Entry → ℕ → Type 0) → Type 0
Told l s F = (es : List Entry) (g : ℕ) → l.held ≡ Some es → s.gap ≡ Some g → F es g

pub here_is : (forward : Bool) (l : Listing Entry) (s : Standing Entry) → IsTold l s → s.forward ≡ forward → Told l s (λ es g. (s.here ≡ item_from forward es g) × (g ≤ length es))
here_is forward l s told faces es g e at =
    (held_if s.gap _ g at (held_if l.held _ es e told.shown) ∙ ap (λ d. item_from d es g) faces, held_if s.gap _ g at (held_if l.held _ es e told.within))

-- a walk to where one stands for what is seen goes on from the gap
pub rises : (forward : Bool) (n : ℕ) (kept : Option Entry) (l : Listing Entry) → WalksRise l → (es : List Entry) → l.held ≡ Some es → (g : ℕ) → g ≤ length es → l.walk_price forward g ≤ l.walk_price forward (stood_at forward n es (sees forward n es kept g))
rises true n kept l rise es e g within = rise.forward (ap is_some e) g _ (place_above (is_visible n es) es g within)
rises false n kept l rise es e g within = rise.backward (ap is_some e) _ g (go kept)
  where
    low : (h v : ℕ) → count_to (is_visible n es) es h ≡ v → stood_at false n es v ≤ h - 1
    low h zero e = omega arith
    low h (suc v) e = let k = place_below (is_visible n es) es h v (omega arith) in omega arith

    go : (k : Option Entry) → stood_at false n es (sees false n es k g) ≤ g
    go None = let h = low g _ refl in omega arith
    go (Some d) = let h = low (suc g) _ refl in omega arith

-- what is seen stands where its place among all is
pub stood_seen : (forward : Bool) (n : ℕ) (kept : Option Entry) (es : List Entry) (g : ℕ) → IsShown forward n es kept g → g ≤ length es → stood_at forward n es (sees forward n es kept g) ≡ g
stood_seen true n kept es g shown within = place_seen (is_visible n es) es g within shown
stood_seen false n None es g shown within = rw shown refl
stood_seen false n (Some x) es g shown within = rw (count_passed (is_visible n es) es g x shown.0 shown.1) (place_seen (is_visible n es) es g within (rw shown.0 shown.1))

next_within : (forward : Bool) (es : List Entry) (g : ℕ) (d : Entry) → item_from forward es g ≡ Some d → g ≤ length es → gap_on forward g ≤ length es
next_within true es g d at within = let h = slice_get_within es g d at in omega arith
next_within false es g d at within = omega arith

-- what a step of the source ensures
abbrev pub Stepped : {T : Type 0} → Bool → Listing Entry → Listing Entry → Standing Entry → Standing Entry → Counts → Counts → Result T SourceError → Type 0
Stepped forward l l' s s' c c' result = record {
  leads : Leads l l' s' forward (λ xs. option_map (step_gap forward s) s.gap) result;
  costs : Costs l s.owed s'.owed c c' (step_from l forward s) (step_to l forward s) result;
  fewer : OnOk result (s.forward ≡ forward → s'.left < s.left);
}

pub agree_same : (a b : Bool) → b ≡ a → agree a b ≡ true
agree_same true b e = e
agree_same false b e = rw e refl

-- the gap and the prices of a step in the direction
pub step_prices : (forward : Bool) (l : Listing Entry) (s : Standing Entry) → s.forward ≡ forward → (g : ℕ) → s.gap ≡ Some g
    → (option_map (step_gap forward s) s.gap ≡ Some (gap_on forward g)) × (step_from l forward s ≡ walked l forward s.gap) × (step_to l forward s ≡ l.walk_price forward (gap_on forward g))
step_prices forward l s faces g at = let a = agree_same forward s.forward faces in (rw (at, a) refl, rw a refl, rw (a, at) refl)

-- on a way in a direction, from one standing to another, of whose gap something is known
pub record Way (forward : Bool) (n : ℕ) (knows : List Entry → ℕ → Type 0) (kept : Option Entry) (l l' : Listing Entry) (b s : Standing Entry) (c c' : Counts) : Type 0 where
  pub same : l' ≡ l
  pub is : IsTold l' s
  pub start : is_some b.gap ≡ true
  pub known : is_some s.gap ≡ true
  pub faces : s.forward ≡ forward
  pub told : (es : List Entry) → l.held ≡ Some es → option_map (sees forward n es kept) s.gap ≡ option_map (count_to (is_visible n es) es) b.gap
  pub here : Told l s knows
  pub paid : Paid l b.owed s.owed c c' (walked l forward b.gap) (walked l forward s.gap)
  pub left : s.left ≤ b.left
  pub fewer : viewed_left forward kept s ≤ b.left

module _ {forward : Bool} {n : ℕ} {knows : List Entry → ℕ → Type 0} {kept : Option Entry} {l l' : Listing Entry} {b s : Standing Entry} {c c' : Counts} (way : Way forward n knows kept l l' b s c c') where
  pub way_here : Told l s (λ es g. (s.here ≡ item_from forward es g) × (g ≤ length es))
  way_here = here_is forward l s (subst (λ (x : Listing Entry). IsTold x s) way.same way.is) way.faces

  -- where the way stands, and where it goes to
  aims : (es : List Entry) (h : ℕ) → l.held ≡ Some es → s.gap ≡ Some h → look_to forward n l b.gap ≡ l.walk_price forward (stood_at forward n es (sees forward n es kept h))
  aims es h e at =
      let (g, from) = the_some b.gap way.start in
      let one = same_Some _ _ (rw (at, from) at (way.told es e)) in
      rw (e, from, ← one) refl

  goes : IsTrue (is_some l.held) → (es : List Entry) × (h : ℕ) × (l.held ≡ Some es) × (s.gap ≡ Some h) × (look_to forward n l b.gap ≡ l.walk_price forward (stood_at forward n es (sees forward n es kept h)))
  goes held =
      let (es, h, e, at) = told_at l s way.known held in
      (es, h, e, at, aims es h e at)

  module _ {T : Type 0} {l'' : Listing Entry} {s' : Standing Entry} {c'' : Counts} where
    step_same : {r : Result T SourceError} → Stepped forward l' l'' s s' c' c'' r → Stepped forward l l'' s s' c' c'' r
    step_same {r} one = subst (λ (x : Listing Entry). Stepped forward x l'' s s' c' c'' r) way.same one

    step_there : {v : T} → Stepped forward l' l'' s s' c' c'' (Ok v) → Told l s (λ es g. s'.gap ≡ Some (gap_on forward g))
    step_there one es g e at = held_if l.held _ es e (step_same one).leads.there ∙ (step_prices forward l s way.faces g at).0

    pub way_on : {v : T} (kept' : Option Entry) (knows' : List Entry → ℕ → Type 0) → IsTold l'' s' → Stepped forward l' l'' s s' c' c'' (Ok v)
        → Told l s (λ es g. (sees forward n es kept' (gap_on forward g) ≡ sees forward n es kept g) × knows' es (gap_on forward g)) → Way forward n knows' kept' l l'' b s' c c''
    way_on {v} kept' knows' is one more = let step = step_same one in record {
      same = step.leads.same;
      is = is;
      start = way.start;
      known = step.leads.known;
      faces = step.leads.faces;
      told = λ es e.
          let (g, at) = the_some s.gap way.known in
          ap (option_map (sees forward n es kept')) (step_there one es g e at) ∙ ap (λ k. Some k) (more es g e at).0 ∙ sym (ap (option_map (sees forward n es kept)) at) ∙ way.told es e;
      here = λ es h e at'.
          let (g, at) = the_some s.gap way.known in
          subst (knows' es) (same_Some (gap_on forward g) h (sym (step_there one es g e at) ∙ at')) (more es g e at).1;
      paid = paid_told l b.owed s'.owed c c'' _ _ _ _ (λ held.
          let (es, g, e, at, to) = goes held in
          let (gap, from, on) = step_prices forward l s way.faces g at in
          let there = ap (walked l forward) (step_there one es g e at) in
          omega arith) (paid_paid l b.owed s.owed s'.owed c c' c'' _ _ _ _ way.paid (paid_from l s.owed s'.owed c' c'' _ _ v step.costs));
      left = let h = step.fewer way.faces in let k = way.left in omega arith;
      fewer = few forward kept' (step.fewer way.faces) way.left;
    }
      where
        few : (d : Bool) (k : Option Entry) → s'.left < s.left → s.left ≤ b.left → viewed_left d k s' ≤ b.left
        few true k h i = omega arith
        few false None h i = omega arith
        few false (Some e) h i = omega arith

    -- what a refusal on the way may have read
    pub way_refused : {U : Type 0} (r : SourceError) (given : Result U SourceError) (kept' : Option Entry) (knows' : List Entry → ℕ → Type 0) → WalksRise l → Stepped {T = T} forward l' l'' s s' c' c'' (Err r)
        → Told l s (λ es g. (sees forward n es kept' (gap_on forward g) ≡ sees forward n es kept g) × knows' es (gap_on forward g)) → (d : Entry) → s.here ≡ Some d → IsErrAnd given (λ d. d ≡ r)
        → Costs l b.owed s'.owed c c'' (walked l forward b.gap) (look_to forward n l b.gap) given
    way_refused r given kept' knows' rise one more d here q =
        costs_handed l b.owed s'.owed c c'' _ _ r given (costs_told {T = T} l b.owed s'.owed c c'' _ _ _ _ (Err r) (λ held.
        let (es, g, e, at, to) = goes held in
        let (gap, from, on) = step_prices forward l s way.faces g at in
        let (is, within) = way_here es g e at in
        let le = rises forward n kept' l rise es e (gap_on forward g) (next_within forward es g d (sym is ∙ here) within) in
        let same = ap (λ v. l.walk_price forward (stood_at forward n es v)) (more es g e at).0 in
        omega arith) (costs_after l b.owed s.owed s'.owed c c' c'' _ _ _ _ (Err r) way.paid (step_same one).costs)) q

  pub way_memory : {T : Type 0} (r : SourceError) (given : Result T SourceError) → WalksRise l → r ≡ Memory → IsErrAnd given (λ d. d ≡ r) → Costs l b.owed s.owed c c' (walked l forward b.gap) (look_to forward n l b.gap) given
  way_memory {T} r given rise is q = costs_handed {T = T} l b.owed s.owed c c' _ _ r given (rw is (paid_memory {T = T} l b.owed s.owed c c' _ _ (paid_told l b.owed s.owed c c' _ _ _ _ (λ held.
      let (es, g, e, at, to) = goes held in
      let le = rises forward n kept l rise es e g (way_here es g e at).1 in
      let here = ap (walked l forward) at in
      omega arith) way.paid))) q

  pub way_ends : {T : Type 0} (v : T) → Told l s (λ es g. IsShown forward n es kept g) → record {
    looks : Looks {E = SourceError} forward n kept l l' b.gap s (Ok v);
    left : viewed_left forward kept s ≤ b.left;
    costs : Costs l b.owed s.owed c c' (walked l forward b.gap) (look_to forward n l b.gap) (Ok v);
  }
  way_ends v shown = record {
    looks = record {
      same = way.same;
      stands = record { known = way.known; faces = way.faces; told = if_held l.held _ (λ es e. if_held s.gap _ (λ g at. shown es g e at)) };
      there = if_held l.held _ way.told;
    };
    left = way.fewer;
    costs = paid_ok l b.owed s.owed c c' _ _ v (paid_told l b.owed s.owed c c' _ _ _ _ (λ held.
        let (es, g, e, at, to) = goes held in
        let stood = ap (l.walk_price forward) (stood_seen forward n kept es g (shown es g e at) (way_here es g e at).1) in
        let here = ap (walked l forward) at in
        omega arith) way.paid);
  }
