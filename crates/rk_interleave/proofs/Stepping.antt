-- Steps over points, and what they read.
use Rattle.std.proofs.Common.{◌≡◌, ℕ, zero, suc, ◌<◌, ◌≤◌, Bool, true, false, not, List, Option, Some, None, Result, Ok, Err, refl, sym, ap, ◌∙◌, subst, ◌⊎◌, inl, inr, arith}
use Rattle.std.specs.Prelude.{◌&&◌, IsTrue, IfSome, is_some, IsErrAnd}
use Rattle.std.specs.List.{slice_get}
use Rattle.std.specs.Option.{option_map}
use Rattle.std.proofs.lemmas.Bool.{cases_lt}
use Rattle.std.proofs.lemmas.Option.{same_Some}
use Rattle.rk_outside.specs.Causes.{HasSourceCause, IsSourceRefusal}
use Rattle.rk_outside.specs.Counts.{Counts}
use Rattle.rk_outside.specs.declared.error.SourceError.{SourceError}
use Rattle.rk_outside.specs.declared.error.SourceError.TheVariants.{Memory, ReadFault, BadTable}
use Rattle.rk_model.specs.Cuts.{item_from, gap_on}
use Rattle.rk_model.specs.Items.{point_takes}
use Rattle.rk_model.specs.declared.op.Entry.{Entry}
use Rattle.rk_model.specs.Standings.{Listing, Standing, IsTold, Costs, Leads, names, can_step, step_gap}
use Rattle.rk_model.proofs.Passing.{step_on}
use Rattle.rk_sources.specs.Bounds.{Takes, between, bounded, Bounding, Keeps}
use Rattle.rk_sources.specs.BoundLaws.{bounded-told}
use Rattle.rk_interleave.specs.Settling.{inner_listing, inner_standing, IsAhead, IsBehind, SteppedOver, GoesOver, IsRead}

-- no fault, and no read taken back
pub record HasRead (before now : Counts) : Type 0 where
  pub faults : now.faults ≡ before.faults
  pub later : before.reads ≤ now.reads

pub read_none : (c : Counts) → HasRead c c
read_none c = record { faults = refl; later = omega arith }

pub read_read : {T : Type 0} (may : ℕ → ℕ → Bool) (a b c : Counts) (result : Result T SourceError) → HasRead a b → IsRead may b c result → IsRead may a c result
read_read may a b c result first then = record {
  cause = subst (λ f. HasSourceCause may f c.faults result) first.faults then.cause;
  later = let x = first.later in let y = then.later in omega arith;
}

pub read_ok : {T : Type 0} (may : ℕ → ℕ → Bool) (a b : Counts) (v : T) → HasRead a b → IsRead may a b (Ok v)
read_ok may a b v read = record { cause = record { later = let e = read.faults in omega arith; failed = tt; kept = read.faults }; later = read.later }

pub has_read : {T : Type 0} (may : ℕ → ℕ → Bool) (a b : Counts) (v : T) → IsRead may a b (Ok v) → HasRead a b
has_read may a b v read = record { faults = read.cause.kept; later = read.later }

pub has_read_on : (a b c : Counts) → HasRead a b → HasRead b c → HasRead a c
has_read_on a b c f t = record { faults = t.faults ∙ f.faults; later = let x = f.later in let y = t.later in omega arith }

-- who names more may name as much
refusal_over : (h h' : ℕ → ℕ → Bool) (f f' : ℕ) (e : SourceError) → ((file at : ℕ) → IsTrue (h file at) → IsTrue (h' file at)) → IsSourceRefusal h f f' e → IsSourceRefusal h' f f' e
refusal_over h h' f f' Memory more refused = refused
refusal_over h h' f f' (ReadFault n) more refused = refused
refusal_over h h' f f' (BadTable file at) more refused = (more file at refused.0, refused.1)

pub read_more : {T : Type 0} (h h' : ℕ → ℕ → Bool) (a b : Counts) (result : Result T SourceError) → ((file at : ℕ) → IsTrue (h file at) → IsTrue (h' file at)) → IsRead h a b result → IsRead h' a b result
read_more h h' a b (Ok v) more read = record { cause = record { later = read.cause.later; failed = tt; kept = read.cause.kept }; later = read.later }
read_more h h' a b (Err e) more read = record { cause = record { later = read.cause.later; failed = refusal_over h h' _ _ e more read.cause.failed; kept = tt }; later = read.later }

pub read_handed : {T U : Type 0} (h : ℕ → ℕ → Bool) (a b : Counts) (e : SourceError) (given : Result U SourceError) → IsRead {T = T} h a b (Err e) → IsErrAnd given (λ d. d ≡ e) → IsRead h a b given
read_handed h a b e (Ok v) read is = absurd is
read_handed h a b e (Err d) read is = record { cause = record { later = read.cause.later; failed = rw is read.cause.failed; kept = tt }; later = read.later }

-- what a call cost it read
pub costs_read : {A T : Type 0} (l : Listing A) (o o' : ℕ) (c c' : Counts) (f t : ℕ) (result : Result T SourceError) → Costs l o o' c c' f t result → IsRead (names l) c c' result
costs_read l o o' c c' f t result costs = record { cause = costs.cause; later = costs.later }

-- a source cut at bounds names what the one below names
pub names_inner : {A : Type 0} (takes : Takes A) (lower upper : Option (List ℕ)) (l : Listing A) (file at : ℕ) → IsTrue (names (bounded takes lower upper l) file at) → IsTrue (names l file at)
names_inner takes lower upper l file at named = go l.held named
  where
    go : (h : Option (List _)) → not (is_some (option_map (between takes lower upper) h)) && l.bad file at ≡ true → not (is_some h) && l.bad file at ≡ true
    go None named = named
    go (Some xs) named = named

-- how far it has stepped
pub record Way {A : Type 0} (forward : Bool) (over : A → Bool) (l : Listing A) (s s' : Standing A) : Type 0 where
  pub known : is_some s'.gap ≡ true
  pub faces : s'.forward ≡ forward
  pub between : SteppedOver forward over l.held s.gap s'.gap

apart : (forward : Bool) (g i : ℕ) → IsAhead forward g i → IsBehind forward g i → ⊥
apart true g i a b = omega arith
apart false g i a b = omega arith

pub way_none : {A : Type 0} (forward : Bool) (over : A → Bool) (l : Listing A) (s : Standing A) → is_some s.gap ≡ true → s.forward ≡ forward → Way forward over l s s
way_none {A} forward over l s known faces = record { known = known; faces = faces; between = go l.held s.gap }
  where
    go : (h : Option (List A)) (p : Option ℕ) → SteppedOver forward over h p p
    go None p = tt
    go (Some xs) None = tt
    go (Some xs) (Some g) = λ i x is a b. absurd (apart forward g i a b)

-- the item that a step passes is the one that was seen
one_more : {A : Type 0} (forward : Bool) (over : A → Bool) (xs : List A) (g g1 : ℕ) (d : A) → item_from forward xs g1 ≡ Some d → over d ≡ true
    → ((i : ℕ) (x : A) → slice_get xs i ≡ Some x → IsAhead forward g i → IsBehind forward g1 i → over x ≡ true)
    → (i : ℕ) (x : A) → slice_get xs i ≡ Some x → IsAhead forward g i → IsBehind forward (gap_on forward g1) i → over x ≡ true
one_more true over xs g g1 d seen is been i x at a b = go (cases_lt i g1)
  where
    go : (i < g1) ⊎ (g1 ≤ i) → over x ≡ true
    go (inl lt) = been i x at a lt
    go (inr ge) = let e : i ≡ g1 = omega arith in let same : Some x ≡ Some d = sym at ∙ ap (slice_get xs) e ∙ seen in ap over (same_Some _ _ same) ∙ is
one_more false over xs g zero d seen is been i x at a b = cc
one_more false over xs g (suc g1) d seen is been i x at a b = go (cases_lt i (suc g1))
  where
    go : (i < suc g1) ⊎ (suc g1 ≤ i) → over x ≡ true
    go (inl lt) = let e : i ≡ g1 = omega arith in let same : Some x ≡ Some d = sym at ∙ ap (slice_get xs) e ∙ seen in ap over (same_Some _ _ same) ∙ is
    go (inr ge) = been i x at a ge

pub way_on : {A : Type 0} (forward : Bool) (over : A → Bool) (l : Listing A) (s s' s'' : Standing A) (d : A) → IsTold l s' → s'.here ≡ Some d → over d ≡ true → Way forward over l s s'
    → IfSome l.held (λ xs. s''.gap ≡ option_map (step_gap forward s') s'.gap) → is_some s''.gap ≡ true → s''.forward ≡ forward → Way forward over l s s''
way_on {A} forward over l s s' s'' d told here is way there known faces = record {
  known = known;
  faces = faces;
  between = go l.held s.gap s'.gap s''.gap way.between (subst (λ b. IfSome l.held (λ xs. IfSome s'.gap (λ g. s'.here ≡ item_from b xs g))) way.faces told.shown) (step_on l s' s'' forward way.faces there);
}
  where
    go : (h : Option (List A)) (p q r : Option ℕ) → SteppedOver forward over h p q → IfSome h (λ xs. IfSome q (λ g. s'.here ≡ item_from forward xs g)) → IfSome h (λ xs. r ≡ option_map (gap_on forward) q) → SteppedOver forward over h p r
    go None p q r been shown at = tt
    go (Some xs) None q r been shown at = tt
    go (Some xs) (Some g) q None been shown at = tt
    go (Some xs) (Some g) None (Some g2) been shown at = cc
    go (Some xs) (Some g) (Some g1) (Some g2) been shown at = let e : g2 ≡ gap_on forward g1 = same_Some _ _ at in rw e (one_more forward over xs g g1 d (sym shown ∙ here) is been)

pub way_ends : {A T : Type 0} (forward : Bool) (over : A → Bool) (l : Listing A) (s s' : Standing A) (v : T) → Way forward over l s s' → IfSome s'.here (λ x. over x ≡ false) → GoesOver forward over l s s' (Ok v)
way_ends forward over l s s' v way seen = record { known = way.known; faces = way.faces; between = way.between; seen = seen }

pub can_go : {A : Type 0} (forward : Bool) (s : Standing A) (d : A) → is_some s.gap ≡ true → s.here ≡ Some d → IsTrue (can_step forward s)
can_go forward s d known here = rw (known, here) refl

-- what a source cut at bounds keeps
pub kept_listing : {P : Type 0} (listing : P → Listing Entry) (b b' : Bounding P) → Keeps listing b b' → inner_listing listing b' ≡ inner_listing listing b
kept_listing listing b b' kept = rw (kept.same, kept.lower, kept.upper) refl

pub kept_on : {P : Type 0} (listing : P → Listing Entry) (b b' b'' : Bounding P) → Keeps listing b b' → Keeps listing b' b'' → Keeps listing b b''
kept_on listing b b' b'' one two = record { same = two.same ∙ one.same; lower = two.lower ∙ one.lower; upper = two.upper ∙ one.upper }

pub inner_told : {P : Type 0} (listing : P → Listing Entry) (standing : P → Standing Entry) (b b' : Bounding P) → ((p : P) → IsTold (listing p) (standing p)) → Keeps listing b b' → IsTold (inner_listing listing b) (inner_standing listing standing b')
inner_told listing standing b b' told kept = subst (λ l. IsTold l (inner_standing listing standing b')) (kept_listing listing b b' kept) (bounded-told (λ forward cut e. point_takes cut e) b'.lower b'.upper b'.facing (listing b'.source) (standing b'.source) (told b'.source))

-- one more step over a point
pub inner_way : {P T : Type 0} (listing : P → Listing Entry) (standing : P → Standing Entry) (told : (p : P) → IsTold (listing p) (standing p)) (forward : Bool) (over : Entry → Bool) (b b' b'' : Bounding P) (d : Entry) (v : T)
    → Keeps listing b b' → (inner_standing listing standing b').here ≡ Some d → over d ≡ true → Way forward over (inner_listing listing b) (inner_standing listing standing b) (inner_standing listing standing b')
    → Leads {T = T} (inner_listing listing b') (inner_listing listing b'') (inner_standing listing standing b'') forward (λ xs. option_map (step_gap forward (inner_standing listing standing b')) (inner_standing listing standing b').gap) (Ok v)
    → Way forward over (inner_listing listing b) (inner_standing listing standing b) (inner_standing listing standing b'')
inner_way listing standing told forward over b b' b'' d v kept here is way leads =
    way_on forward over (inner_listing listing b) _ _ _ d (inner_told listing standing b b' told kept) here is way
    (subst (λ l. IfSome l.held (λ xs. (inner_standing listing standing b'').gap ≡ option_map (step_gap forward (inner_standing listing standing b')) (inner_standing listing standing b').gap)) (kept_listing listing b b' kept) leads.there)
    leads.known leads.faces
