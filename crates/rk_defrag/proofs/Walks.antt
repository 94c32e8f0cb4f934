-- Walks of a source within bounds: what its steps and seeks do together.
use Rattle.std.proofs.Common.{◌≡◌, ℕ, ◌<◌, ◌≤◌, Bool, true, false, List, length, Option, Some, None, is_some, Result, Ok, Err, refl, sym, ◌∙◌, subst, arith, if◌then◌else◌}
use Rattle.std.specs.Prelude.{IfSome}
use Rattle.std.specs.Option.{option_map, option_map_or}
use Rattle.std.specs.Result.{IsErrAnd}
use Rattle.rk_outside.specs.Counts.{Counts}
use Rattle.rk_outside.specs.declared.error.SourceError.{SourceError}
use Rattle.rk_outside.specs.declared.error.SourceError.TheVariants.{Memory}
use Rattle.rk_model.specs.Cuts.{item_from, gap_on}
use Rattle.rk_model.specs.Items.{span_takes}
use Rattle.rk_model.specs.Standings.{Listing, Standing, Costs, Leads, IsTold, IsFree, agree, step_gap, step_from, step_to, walked}
use Rattle.rk_model.specs.declared.span.Span.{Span}
use Rattle.rk_model.proofs.Paying.{Paid, paid_none, paid_from, paid_ok, paid_paid, paid_memory, costs_after, costs_handed}
use Rattle.rk_model.proofs.Passing.{Seen, seen, step_on}
use Rattle.rk_sources.specs.Bounds.{Bounding, Keeps}
use Rattle.rk_sources.specs.BoundLaws.{bounded-told, bounded-free}
use Rattle.std.proofs.lemmas.Bool.{true≢false}
use Rattle.rk_model.specs.Spans.{WidestSpan}
use Rattle.rk_defrag.specs.Moves.{is_bare, run_of, end_of, Passed, IsFacing, AllBareOver, Upto, Goes, Pays, part, place}
use Rattle.rk_defrag.proofs.Runs.{run_one, bare_on, upto_on, last_gap}

-- past spans without a cover
pub record PassesBare (forward : Bool) (n : ℕ) (xs : List Span) (from at : ℕ) : Type 0 where
  pub beyond : Upto forward from at
  pub bare : AllBareOver forward n xs from at

module _ {S : Type 0} (listing : S → Listing Span) (standing : S → Standing Span) where
  pub keeps_part : (b b' : Bounding S) → Keeps listing b b' → part listing b' ≡ part listing b
  keeps_part b b' kept = rw (kept.same, kept.lower, kept.upper) refl

  pub keeps_keeps : (b b' b'' : Bounding S) → Keeps listing b b' → Keeps listing b' b'' → Keeps listing b b''
  keeps_keeps b b' b'' one two = record { same = two.same ∙ one.same; lower = two.lower ∙ one.lower; upper = two.upper ∙ one.upper }

-- calls of a source within bounds, none of which was refused, that went from one gap to another
pub record Walks {S : Type 0} (forward : Bool) (listing : S → Listing Span) (standing : S → Standing Span) (b b' : Bounding S) (c c' : Counts) (P : List Span → ℕ → ℕ → Type 0) : Type 0 where
  pub kept : Keeps listing b b'
  pub faces : IsFacing forward (place listing standing b')
  pub goes : Goes (part listing b).held (place listing standing b).gap (place listing standing b').gap P
  pub left : (standing b'.source).left ≤ (standing b.source).left
  pub paid : Paid (part listing b) (standing b.source).owed (standing b'.source).owed c c' 0 0

option_zero : {A : Type 0} (f : A → ℕ) (o : Option A) → ((x : A) → f x ≡ 0) → option_map_or f o 0 ≡ 0
option_zero f None e = refl
option_zero f (Some x) e = e x

-- where nothing has a price no step has one
pub step_free : {A : Type 0} (l : Listing A) (forward : Bool) (s : Standing A) → IsFree l → (step_from l forward s ≡ 0) × (step_to l forward s ≡ 0)
step_free l forward s free = go (agree forward s.forward)
  where
    go : (b : Bool) → ((if b then walked l forward s.gap else 0) ≡ 0) × ((if b then option_map_or (λ g. l.walk_price forward (gap_on forward g)) s.gap 0 else option_map_or (l.turn_price forward) s.gap 0) ≡ 0)
    go true = (option_zero _ s.gap (λ g. free.walk forward _), option_zero _ s.gap (λ g. free.walk forward _))
    go false = (refl, option_zero _ s.gap (λ g. free.turn forward _))

pub goes_map : (h : Option (List Span)) (p q : Option ℕ) (P Q : List Span → ℕ → ℕ → Type 0) → Goes h p q P → ((xs : List Span) (from at : ℕ) → h ≡ Some xs → q ≡ Some at → P xs from at → Q xs from at) → Goes h p q Q
goes_map h p q P Q goes f = go h refl p q refl goes
  where
    go : (k : Option (List Span)) → h ≡ k → (r t : Option ℕ) → q ≡ t → Goes k r t P → Goes k r t Q
    go None e r t m goes = tt
    go (Some xs) e None t m goes = tt
    go (Some xs) e (Some from) None m goes = tt
    go (Some xs) e (Some from) (Some at) m goes = f xs from at e m goes

pub goes_here : (forward : Bool) (h : Option (List Span)) (p q : Option ℕ) (here : Option Span) (P Q : List Span → ℕ → ℕ → Type 0) → Goes h p q P → Seen forward h q here
    → ((xs : List Span) (from at : ℕ) → h ≡ Some xs → P xs from at → at ≤ length xs → item_from forward xs at ≡ here → Q xs from at) → Goes h p q Q
goes_here forward h p q here P Q goes shown f = go h refl p q goes shown
  where
    go : (k : Option (List Span)) → h ≡ k → (r t : Option ℕ) → Goes k r t P → Seen forward k t here → Goes k r t Q
    go None e r t goes shown = tt
    go (Some xs) e None t goes shown = tt
    go (Some xs) e (Some from) None goes shown = tt
    go (Some xs) e (Some from) (Some at) goes shown = f xs from at e goes shown.0 (sym shown.1)

pub goes_on : (forward : Bool) (h : Option (List Span)) (p q q' : Option ℕ) (here : Option Span) (P Q : List Span → ℕ → ℕ → Type 0) → Goes h p q P → Seen forward h q here → IfSome h (λ xs. q' ≡ option_map (gap_on forward) q)
    → ((xs : List Span) (from at : ℕ) → P xs from at → item_from forward xs at ≡ here → Q xs from (gap_on forward at)) → Goes h p q' Q
goes_on forward h p q q' here P Q goes shown there f = go h p q goes shown there
  where
    go : (k : Option (List Span)) (r t : Option ℕ) → Goes k r t P → Seen forward k t here → IfSome k (λ xs. q' ≡ option_map (gap_on forward) t) → Goes k r q' Q
    go None r t goes shown there = tt
    go (Some xs) None t goes shown there = tt
    go (Some xs) (Some from) None goes shown there = rw there tt
    go (Some xs) (Some from) (Some at) goes shown there = rw there (f xs from at goes (sym shown.1))

pub goes_none : (h : Option (List Span)) (p : Option ℕ) (P : List Span → ℕ → ℕ → Type 0) → ((xs : List Span) (g : ℕ) → P xs g g) → Goes h p p P
goes_none None p P f = tt
goes_none (Some xs) None P f = tt
goes_none (Some xs) (Some g) P f = f xs g

-- from a gap that is known by the list alone
pub goes_from : (h : Option (List Span)) (p q : Option ℕ) (to : List Span → ℕ) (P : List Span → ℕ → ℕ → Type 0) → IfSome h (λ xs. p ≡ Some (to xs)) → Goes h p q P → IfSome h (λ xs. IfSome q (P xs (to xs)))
goes_from None p q to P there goes = tt
goes_from (Some xs) p q to P there goes = (rw there at goes)

module _ {S : Type 0} (listing : S → Listing Span) (standing : S → Standing Span) where
  abbrev lists_of : Bounding S → Listing Span
  lists_of b = part listing b

  abbrev stands_of : Bounding S → Standing Span
  stands_of b = place listing standing b

  pub told_part : (b : Bounding S) → IsTold (listing b.source) (standing b.source) → IsTold (lists_of b) (stands_of b)
  told_part b told = bounded-told span_takes b.lower b.upper b.facing (listing b.source) (standing b.source) told

  pub free_part : (b : Bounding S) → IsFree (listing b.source) → IsFree (lists_of b)
  free_part b free = bounded-free span_takes b.lower b.upper (listing b.source) free

  pub walk_none : (forward : Bool) (b : Bounding S) (c : Counts) (P : List Span → ℕ → ℕ → Type 0) → IsFacing forward (stands_of b) → ((xs : List Span) (g : ℕ) → P xs g g) → Walks forward listing standing b b c c P
  walk_none forward b c P faces f = record {
    kept = record { same = refl; lower = refl; upper = refl };
    faces = faces;
    goes = goes_none (lists_of b).held (stands_of b).gap P f;
    left = omega arith;
    paid = paid_none (lists_of b) (standing b.source).owed c 0;
  }

  seen_of : (forward : Bool) (b b' : Bounding S) → Keeps listing b b' → IsFacing forward (stands_of b') → IsTold (listing b'.source) (standing b'.source) → Seen forward (lists_of b).held (stands_of b').gap (stands_of b').here
  seen_of forward b b' kept faces told = subst (λ l. Seen forward l.held (stands_of b').gap (stands_of b').here) (keeps_part listing standing b b' kept) (seen (lists_of b') (stands_of b') forward faces.faces (told_part b' told))

  module _ (forward : Bool) (b b' : Bounding S) (c c' : Counts) (P : List Span → ℕ → ℕ → Type 0) (w : Walks forward listing standing b b' c c' P) where
    -- what is seen where it has come to
    pub walk_here : (Q : List Span → ℕ → ℕ → Type 0) (here : Option Span) → IsTold (listing b'.source) (standing b'.source) → (stands_of b').here ≡ here
        → ((xs : List Span) (from at : ℕ) → (lists_of b).held ≡ Some xs → P xs from at → at ≤ length xs → item_from forward xs at ≡ here → Q xs from at) → Goes (lists_of b).held (stands_of b).gap (stands_of b').gap Q
    walk_here Q here told is f = goes_here forward (lists_of b).held (stands_of b).gap (stands_of b').gap here P Q w.goes (subst (Seen forward (lists_of b).held (stands_of b').gap) is (seen_of forward b b' w.kept w.faces told)) f

    -- one step on
    pub walk_on : (b'' : Bounding S) (c'' : Counts) (Q : List Span → ℕ → ℕ → Type 0) (t : Span) (v : Unit {0}) → IsTold (listing b'.source) (standing b'.source) → IsFree (listing b'.source) → (stands_of b').here ≡ Some t
        → Leads (lists_of b') (lists_of b'') (stands_of b'') forward (λ xs. option_map (step_gap forward (stands_of b')) (stands_of b').gap) (Ok v)
        → Costs {T = Unit {0}} (lists_of b') (stands_of b').owed (stands_of b'').owed c' c'' (step_from (lists_of b') forward (stands_of b')) (step_to (lists_of b') forward (stands_of b')) (Ok v)
        → ((stands_of b').forward ≡ forward → (stands_of b'').left < (stands_of b').left) → Keeps listing b' b''
        → ((xs : List Span) (from at : ℕ) → P xs from at → item_from forward xs at ≡ Some t → Q xs from (gap_on forward at)) → Walks forward listing standing b b'' c c'' Q
    walk_on b'' c'' Q t v told free is leads costs fewer kept f =
        let same = keeps_part listing standing b b' w.kept in
        let less : (standing b''.source).left < (standing b'.source).left = fewer w.faces.faces in
        let le = w.left in
        let price = step_free (lists_of b') forward (stands_of b') (free_part b' free) in
        record {
          kept = keeps_keeps listing standing b b' b'' w.kept kept;
          faces = record { known = leads.known; faces = leads.faces };
          goes = goes_on forward (lists_of b).held (stands_of b).gap (stands_of b').gap (stands_of b'').gap (Some t) P Q w.goes (subst (Seen forward (lists_of b).held (stands_of b').gap) is (seen_of forward b b' w.kept w.faces told))
              (subst (λ l. IfSome l.held (λ xs. (stands_of b'').gap ≡ option_map (gap_on forward) (stands_of b').gap)) same (step_on (lists_of b') (stands_of b') (stands_of b'') forward w.faces.faces leads.there)) f;
          left = omega (arith, less, le);
          paid = paid_paid (lists_of b) (standing b.source).owed (standing b'.source).owed (standing b''.source).owed c c' c'' 0 0 0 0 w.paid
              (subst (λ l. Paid l (standing b'.source).owed (standing b''.source).owed c' c'' 0 0) same (paid_from (lists_of b') (standing b'.source).owed (standing b''.source).owed c' c'' 0 0 v (rw (price.0, price.1) at costs)));
        }

    -- a call that is refused, and want of memory
    pub walk_pays : {T U : Type 0} (b'' : Bounding S) (c'' : Counts) (e : SourceError) (given : Result U SourceError) → Costs {T = T} (lists_of b') (stands_of b').owed (stands_of b'').owed c' c'' 0 0 (Err e) → IsErrAnd given (λ d. d ≡ e) → Pays listing standing b b'' c c'' given
    walk_pays {T} b'' c'' e given costs handed =
        costs_handed {T = T} (lists_of b) (standing b.source).owed (standing b''.source).owed c c'' 0 0 e given
        (costs_after {T = T} (lists_of b) (standing b.source).owed (standing b'.source).owed (standing b''.source).owed c c' c'' 0 0 0 0 (Err e) w.paid
        (subst (λ l. Costs {T = T} l (standing b'.source).owed (standing b''.source).owed c' c'' 0 0 (Err e)) (keeps_part listing standing b b' w.kept) costs)) handed

    pub walk_refused : {T U : Type 0} (b'' : Bounding S) (c'' : Counts) (e : SourceError) (given : Result U SourceError) → IsFree (listing b'.source)
        → Costs {T = T} (lists_of b') (stands_of b').owed (stands_of b'').owed c' c'' (step_from (lists_of b') forward (stands_of b')) (step_to (lists_of b') forward (stands_of b')) (Err e) → IsErrAnd given (λ d. d ≡ e) → Pays listing standing b b'' c c'' given
    walk_refused {T} b'' c'' e given free costs handed = let price = step_free (lists_of b') forward (stands_of b') (free_part b' free) in walk_pays {T = T} b'' c'' e given (rw (price.0, price.1) at costs) handed

    pub walk_memory : {U : Type 0} (given : Result U SourceError) → IsErrAnd given (λ d. d ≡ Memory) → Pays listing standing b b' c c' given
    walk_memory given handed = costs_handed {T = Unit {0}} (lists_of b) (standing b.source).owed (standing b'.source).owed c c' 0 0 Memory given (paid_memory {T = Unit {0}} (lists_of b) (standing b.source).owed (standing b'.source).owed c c' 0 0 w.paid) handed

    pub walk_done : {T : Type 0} (v : T) → Pays listing standing b b' c c' (Ok v)
    walk_done {T} v = paid_ok {T = T} (lists_of b) (standing b.source).owed (standing b'.source).owed c c' 0 0 v w.paid

-- The run of a span that is seen behind spans without a cover, or one more of those.
one_passed : (b : Bool) (run : Option WidestSpan) (w : WidestSpan) → run ≡ (if b then None else Some w) → is_some run ≡ true → (b ≡ false) × (run ≡ Some w)
one_passed true run w e some = let f : is_some run ≡ false = rw e refl in absurd (true≢false (sym some ∙ f))
one_passed false run w e some = (refl, e)

pub passed_run : (forward : Bool) (n : ℕ) (xs : List Span) (from at : ℕ) (t : Span) (run : Option WidestSpan) → run ≡ (if is_bare n t then None else Some (run_of n t)) → is_some run ≡ true
    → PassesBare forward n xs from at → item_from forward xs at ≡ Some t → Passed forward n xs from (gap_on forward at) run
passed_run forward n xs from at t run e some p is =
    let q = one_passed (is_bare n t) run (run_of n t) e some in
    rw (q.1) (record { near = at; beyond = p.beyond; bare = p.bare; run = run_one forward n xs at t is q.0 })

pub passed_one : (forward : Bool) (n : ℕ) (xs : List Span) (from at : ℕ) (t : Span) (run : Option WidestSpan) → run ≡ (if is_bare n t then None else Some (run_of n t)) → is_some run ≡ false
    → PassesBare forward n xs from at → item_from forward xs at ≡ Some t → PassesBare forward n xs from (gap_on forward at)
passed_one forward n xs from at t run e none p is = record { beyond = upto_on forward from at p.beyond; bare = bare_on forward n xs from at t p.bare is (go (is_bare n t) refl) }
  where
    go : (b : Bool) → is_bare n t ≡ b → b ≡ true
    go true f = refl
    go false f = let h : is_some run ≡ true = rw (e, f) refl in absurd (true≢false (sym h ∙ none))

pub passed_all : (forward : Bool) (n : ℕ) (xs : List Span) (from at : ℕ) → PassesBare forward n xs from at → at ≤ length xs → item_from forward xs at ≡ None → AllBareOver forward n xs from (end_of forward xs)
passed_all forward n xs from at p le is = subst (AllBareOver forward n xs from) (last_gap forward xs at le is) p.bare
