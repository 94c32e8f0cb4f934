-- A pass: steps towards a cut, and what they cost.
use Rattle.std.proofs.Common.{◌≡◌, ℕ, ◌+◌, ◌<◌, ◌≤◌, Bool, true, false, not, List, length, Option, Some, None, Result, Ok, refl, sym, ap, ◌∙◌, subst, ◌⊎◌, inl, inr, arith}
use Rattle.std.specs.Prelude.{IsTrue, IfSome, is_some, if◌then◌else◌}
use Rattle.std.specs.Bool.{beq}
use Rattle.std.specs.Option.{option_map, option_map_or}
use Rattle.std.specs.List.Sorted.{IsPartitionedBy}
use Rattle.std.proofs.lemmas.Bool.{true≢false}
use Rattle.rk_outside.specs.Counts.{Counts}
use Rattle.rk_outside.specs.declared.error.SourceError.{SourceError}
use Rattle.rk_model.specs.Cuts.{count_before, item_from, gap_on, gap_past, is_passed}
use Rattle.rk_model.specs.Standings.{Listing, Standing, Costs, Leads, IsTold, WalksRise, agree, step_gap, step_from, step_to, walked, pass_to}
use Rattle.rk_model.proofs.Gaps.{step_within, stays_beyond, stays_at_end}
use Rattle.rk_model.proofs.Paying.{Paid, paid_ok, paid_paid, paid_told, costs_after, costs_told}

pub agree_same : (a b : Bool) → b ≡ a → agree a b ≡ true
agree_same true b e = e
agree_same false b e = ap not e

-- a step in its own direction
pub step_on : {A : Type 0} (l : Listing A) (s s' : Standing A) (forward : Bool) → s.forward ≡ forward → IfSome l.held (λ xs. s'.gap ≡ option_map (step_gap forward s) s.gap) → IfSome l.held (λ xs. s'.gap ≡ option_map (gap_on forward) s.gap)
step_on l s s' forward faces there = subst (λ b. IfSome l.held (λ xs. s'.gap ≡ option_map (λ g. if b then gap_on forward g else g) s.gap)) (agree_same forward s.forward faces) there

pub step_costs : {A T : Type 0} (l : Listing A) (s : Standing A) (forward : Bool) (o' : ℕ) (c c' : Counts) (result : Result T SourceError) → s.forward ≡ forward → Costs l s.owed o' c c' (step_from l forward s) (step_to l forward s) result → Costs l s.owed o' c c' (walked l forward s.gap) (option_map_or (λ g. l.walk_price forward (gap_on forward g)) s.gap 0) result
step_costs l s forward o' c c' result faces costs =
    subst (λ b. Costs l s.owed o' c c' (if b then walked l forward s.gap else 0) (if b then option_map_or (λ g. l.walk_price forward (gap_on forward g)) s.gap 0 else option_map_or (l.turn_price forward) s.gap 0) result) (agree_same forward s.forward faces) costs

-- where a pass from a gap leads
abbrev pub Bound : {A : Type 0} → Bool → (A → Bool) → Option (List A) → Option ℕ → Option ℕ → Type 0
Bound forward takes held p q = IfSome held (λ xs. option_map (gap_past forward (count_before takes xs)) p ≡ option_map (gap_past forward (count_before takes xs)) q)

-- how far a pass has come from where it began
pub record IsPassing {A : Type 0} (l : Listing A) (s s' : Standing A) (forward : Bool) (takes : A → Bool) : Type 0 where
  pub known : is_some s'.gap ≡ true
  pub faces : s'.forward ≡ forward
  pub bound : Bound forward takes l.held s'.gap s.gap
  pub left : (s'.left < s.left) ⊎ ((s'.here ≡ s.here) × (s'.left ≡ s.left))

-- what is seen, and where it stands
abbrev pub Seen : {A : Type 0} → Bool → Option (List A) → Option ℕ → Option A → Type 0
Seen forward held gap here = IfSome held (λ xs. IfSome gap (λ g. (g ≤ length xs) × (here ≡ item_from forward xs g)))

pub seen : {A : Type 0} (l : Listing A) (s : Standing A) (forward : Bool) → s.forward ≡ forward → IsTold l s → Seen forward l.held s.gap s.here
seen {A} l s forward faces told = go l.held s.gap told.within (subst (λ d. IfSome l.held (λ xs. IfSome s.gap (λ g. s.here ≡ item_from d xs g))) faces told.shown)
  where
    go : (h : Option (List A)) (p : Option ℕ) → IfSome h (λ xs. IfSome p (λ g. g ≤ length xs)) → IfSome h (λ xs. IfSome p (λ g. s.here ≡ item_from forward xs g)) → Seen forward h p s.here
    go None p within shown = tt
    go (Some xs) None within shown = tt
    go (Some xs) (Some g) within shown = (within, shown)

-- one step over an item that is passed
step_bound : {A : Type 0} (forward : Bool) (takes : A → Bool) (x : A) (h : Option (List A)) (p p' q : Option ℕ) (here : Option A)
    → IfSome h (IsPartitionedBy takes) → Seen forward h p here → here ≡ Some x → is_passed forward (takes x) ≡ true
    → Bound forward takes h p q → IfSome h (λ xs. p' ≡ option_map (gap_on forward) p) → Bound forward takes h p' q
step_bound forward takes x None p p' q here parted shown is passed bound there = tt
step_bound forward takes x (Some xs) None p' q here parted shown is passed bound there = rw there bound
step_bound forward takes x (Some xs) (Some g) p' q here parted shown is passed bound there =
    rw there (ap Some (step_within forward takes xs g x parted (sym shown.1 ∙ is) passed) ∙ bound)

pub goes_on : {A : Type 0} (l : Listing A) (s s' s'' : Standing A) (forward : Bool) (takes : A → Bool) (x : A)
    → IfSome l.held (IsPartitionedBy takes) → IsTold l s' → s'.here ≡ Some x → is_passed forward (takes x) ≡ true
    → IfSome l.held (λ xs. s''.gap ≡ option_map (step_gap forward s') s'.gap) → is_some s''.gap ≡ true → s''.forward ≡ forward → (s'.forward ≡ forward → s''.left < s'.left)
    → IsPassing l s s' forward takes → IsPassing l s s'' forward takes
goes_on l s s' s'' forward takes x parted told is passed there known faces fewer passing = record {
  known = known;
  faces = faces;
  bound = step_bound forward takes x l.held s'.gap s''.gap s.gap s'.here parted (seen l s' forward passing.faces told) is passed passing.bound (step_on l s' s'' forward passing.faces there);
  left = inl (less passing.left (fewer passing.faces));
}
  where
    less : (s'.left < s.left) ⊎ ((s'.here ≡ s.here) × (s'.left ≡ s.left)) → s''.left < s'.left → s''.left < s.left
    less (inl low) lt = omega arith
    less (inr same) lt = let e = same.1 in omega arith

-- a step comes no further than the pass goes
step_reach : {A : Type 0} (forward : Bool) (takes : A → Bool) (x : A) (walk : ℕ → ℕ) (h : Option (List A)) (p q : Option ℕ) (here : Option A)
    → ((xs : List A) (g : ℕ) → walk (gap_on forward g) ≤ walk (gap_past forward (count_before takes xs) (gap_on forward g)))
    → IfSome h (IsPartitionedBy takes) → Seen forward h p here → here ≡ Some x → is_passed forward (takes x) ≡ true
    → Bound forward takes h p q → IsTrue (is_some h)
    → option_map_or (λ g. walk (gap_on forward g)) p 0 ≤ option_map_or (λ xs. option_map_or (λ g. walk (gap_past forward (count_before takes xs) g)) q 0) h 0
step_reach forward takes x walk None p q here rise parted shown is passed bound told = cc
step_reach forward takes x walk (Some xs) None q here rise parted shown is passed bound told = omega arith
step_reach forward takes x walk (Some xs) (Some g) None here rise parted shown is passed bound told = cc
step_reach forward takes x walk (Some xs) (Some g) (Some k) here rise parted shown is passed bound told =
    let past = step_within forward takes xs g x parted (sym shown.1 ∙ is) passed in
    let same : gap_past forward (count_before takes xs) g ≡ gap_past forward (count_before takes xs) k = cc in
    subst (λ n. walk (gap_on forward g) ≤ walk n) (past ∙ same) (rise xs g)

rises : {A : Type 0} (l : Listing A) (forward : Bool) (n g : ℕ) → WalksRise l → IsTrue (is_some l.held) → l.walk_price forward g ≤ l.walk_price forward (gap_past forward n g)
rises l true n g rise told = rise.forward told _ _ (omega arith)
rises l false n g rise told = rise.backward told _ _ (omega arith)

pub reach : {A : Type 0} (l : Listing A) (s s' : Standing A) (forward : Bool) (takes : A → Bool) (x : A)
    → WalksRise l → IfSome l.held (IsPartitionedBy takes) → IsTold l s' → s'.here ≡ Some x → is_passed forward (takes x) ≡ true
    → IsPassing l s s' forward takes → IsTrue (is_some l.held) → option_map_or (λ g. l.walk_price forward (gap_on forward g)) s'.gap 0 ≤ pass_to l forward takes s
reach l s s' forward takes x rise parted told is passed passing known =
    step_reach forward takes x (l.walk_price forward) l.held s'.gap s.gap s'.here (λ xs g. rises l forward (count_before takes xs) (gap_on forward g) rise known) parted (seen l s' forward passing.faces told) is passed passing.bound known

-- the end of a pass: no item is seen, or one that isn't passed
stays : {A : Type 0} (forward : Bool) (takes : A → Bool) (xs : List A) (g : ℕ) (here : Option A) → IsPartitionedBy takes xs → IfSome here (λ x. is_passed forward (takes x) ≡ false) → g ≤ length xs → here ≡ item_from forward xs g → gap_past forward (count_before takes xs) g ≡ g
stays forward takes xs g None parted beyond within is = stays_at_end forward takes xs g within (sym is)
stays forward takes xs g (Some x) parted beyond within is = stays_beyond forward takes xs g x parted (sym is) beyond

end_there : {A : Type 0} (forward : Bool) (takes : A → Bool) (h : Option (List A)) (p q : Option ℕ) (here : Option A)
    → IfSome h (IsPartitionedBy takes) → Seen forward h p here → IfSome here (λ x. is_passed forward (takes x) ≡ false)
    → Bound forward takes h p q → IfSome h (λ xs. p ≡ option_map (gap_past forward (count_before takes xs)) q)
end_there forward takes None p q here parted shown beyond bound = tt
end_there forward takes (Some xs) None q here parted shown beyond bound = bound
end_there forward takes (Some xs) (Some g) q here parted shown beyond bound = ap Some (sym (stays forward takes xs g here parted beyond shown.0 shown.1)) ∙ bound

walk_there : {A : Type 0} (forward : Bool) (takes : A → Bool) (walk : ℕ → ℕ) (h : Option (List A)) (p q : Option ℕ)
    → IfSome h (λ xs. p ≡ option_map (gap_past forward (count_before takes xs)) q) → IsTrue (is_some h)
    → option_map_or walk p 0 ≡ option_map_or (λ xs. option_map_or (λ g. walk (gap_past forward (count_before takes xs) g)) q 0) h 0
walk_there forward takes walk None p q there told = cc
walk_there forward takes walk (Some xs) p None there told = ap (λ o. option_map_or walk o 0) there
walk_there forward takes walk (Some xs) p (Some g) there told = ap (λ o. option_map_or walk o 0) there

end_fewer : {A : Type 0} (forward : Bool) (takes : A → Bool) (here here' : Option A) (n n' : ℕ) → IfSome here' (λ x. is_passed forward (takes x) ≡ false) → (n' < n) ⊎ ((here' ≡ here) × (n' ≡ n)) → IfSome here (λ x. IsTrue (is_passed forward (takes x)) → n' < n)
end_fewer forward takes None here' n n' beyond left = tt
end_fewer forward takes (Some x) here' n n' beyond (inl low) = λ passed. low
end_fewer forward takes (Some x) here' n n' beyond (inr same) = λ passed.
    let untaken : IfSome (Some x) (λ x. is_passed forward (takes x) ≡ false) = subst (λ o. IfSome o (λ x. is_passed forward (takes x) ≡ false)) same.0 beyond in
    absurd (true≢false (sym passed ∙ untaken))

pub cut_parts : {A : Type 0} (l : Listing A) (in_order : List A → Bool) (takes : A → Bool) → IfSome l.held (λ xs. IsTrue (in_order xs)) → ((xs : List A) → IsTrue (in_order xs) → IsPartitionedBy takes xs) → IfSome l.held (IsPartitionedBy takes)
cut_parts {A} l in_order takes ordered first = go l.held ordered
  where
    go : (h : Option (List A)) → IfSome h (λ xs. IsTrue (in_order xs)) → IfSome h (IsPartitionedBy takes)
    go None ordered = tt
    go (Some xs) ordered = first xs ordered

-- what the test of a loop says
pub is_passed_now : (forward taken found : Bool) → found ≡ taken → not (beq found forward) ≡ false → is_passed forward taken ≡ true
is_passed_now forward taken found is test = go forward taken (subst (λ b. not (beq b forward) ≡ false) is test)
  where
    go : (f t : Bool) → not (beq t f) ≡ false → is_passed f t ≡ true
    go true true test = refl
    go true false test = sym test
    go false true test = sym test
    go false false test = refl

pub is_passed_not : (forward taken found : Bool) → found ≡ taken → not (beq found forward) ≡ true → is_passed forward taken ≡ false
is_passed_not forward taken found is test = go forward taken (subst (λ b. not (beq b forward) ≡ true) is test)
  where
    go : (f t : Bool) → not (beq t f) ≡ true → is_passed f t ≡ false
    go true true test = sym test
    go true false test = refl
    go false true test = refl
    go false false test = sym test

-- one step more
pub pays_on : {A : Type 0} (l : Listing A) (o f k : ℕ) (s s' : Standing A) (forward : Bool) (c c' c'' : Counts) → IfSome l.held (λ xs. s'.gap ≡ option_map (gap_on forward) s.gap)
    → Paid l o s.owed c c' f (k + walked l forward s.gap) → Paid l s.owed s'.owed c' c'' (walked l forward s.gap) (option_map_or (λ g. l.walk_price forward (gap_on forward g)) s.gap 0)
    → Paid l o s'.owed c c'' f (k + walked l forward s'.gap)
pays_on {A} l o f k s s' forward c c' c'' there one two =
    paid_told l o s'.owed c c'' _ _ _ _ (λ told. let e = go l.held s.gap s'.gap there told in omega arith) (paid_paid l o s.owed s'.owed c c' c'' _ _ _ _ one two)
  where
    go : (h : Option (List A)) (p q : Option ℕ) → IfSome h (λ xs. q ≡ option_map (gap_on forward) p) → IsTrue (is_some h) → option_map_or (λ g. l.walk_price forward (gap_on forward g)) p 0 ≡ option_map_or (l.walk_price forward) q 0
    go None p q there told = cc
    go (Some xs) None q there told = rw there refl
    go (Some xs) (Some g) q there told = rw there refl

-- a step that is refused
pub pays_refused : {A T : Type 0} (l : Listing A) (o f k : ℕ) (s : Standing A) (o' to : ℕ) (forward : Bool) (c c' c'' : Counts) (result : Result T SourceError) → (IsTrue (is_some l.held) → option_map_or (λ g. l.walk_price forward (gap_on forward g)) s.gap 0 ≤ to)
    → Paid l o s.owed c c' f (k + walked l forward s.gap) → Costs l s.owed o' c' c'' (walked l forward s.gap) (option_map_or (λ g. l.walk_price forward (gap_on forward g)) s.gap 0) result
    → Costs l o o' c c'' f (k + to) result
pays_refused l o f k s o' to forward c c' c'' result within one two =
    costs_told l o o' c c'' _ _ _ _ result (λ told. let e = within told in omega arith) (costs_after l o s.owed o' c c' c'' _ _ _ _ result one two)

-- what a pass that has ended did
pub record HasPassed {A : Type 0} (l l' : Listing A) (s s' : Standing A) (forward : Bool) (takes : A → Bool) (c c' : Counts) : Type 0 where
  pub leads : Leads {T = Unit {0}} l l' s' forward (λ xs. option_map (gap_past forward (count_before takes xs)) s.gap) (Ok tt)
  pub costs : Costs {T = Unit {0}} l s.owed s'.owed c c' (walked l forward s.gap) (pass_to l forward takes s) (Ok tt)
  pub beyond : IfSome s'.here (λ x. is_passed forward (takes x) ≡ false)
  pub left : s'.left ≤ s.left
  pub fewer : IfSome s.here (λ x. IsTrue (is_passed forward (takes x)) → s'.left < s.left)

pub ends : {A : Type 0} (l l' : Listing A) (s s' : Standing A) (forward : Bool) (takes : A → Bool) (c c' : Counts)
    → l' ≡ l → IfSome l.held (IsPartitionedBy takes) → IsTold l' s' → IfSome s'.here (λ x. is_passed forward (takes x) ≡ false) → IsPassing l s s' forward takes → Paid l s.owed s'.owed c c' (walked l forward s.gap) (walked l forward s'.gap)
    → HasPassed l l' s s' forward takes c c'
ends l l' s s' forward takes c c' same parted told beyond passing paid =
    let there = end_there forward takes l.held s'.gap s.gap s'.here parted (seen l s' forward passing.faces (subst (λ k. IsTold k s') same told)) beyond passing.bound in
    record {
      leads = record { same = same; there = there; known = passing.known; faces = passing.faces; lost = tt };
      costs = paid_ok l s.owed s'.owed c c' _ _ tt (paid_told l s.owed s'.owed c c' _ _ _ _ (λ known. let e = walk_there forward takes (l.walk_price forward) l.held s'.gap s.gap there known in omega arith) paid);
      beyond = beyond;
      left = low passing.left;
      fewer = end_fewer forward takes s.here s'.here s.left s'.left beyond passing.left;
    }
  where
    low : (s'.left < s.left) ⊎ ((s'.here ≡ s.here) × (s'.left ≡ s.left)) → s'.left ≤ s.left
    low (inl lt) = omega arith
    low (inr same) = let e = same.1 in omega arith

pub beyond_seen : {A : Type 0} (forward : Bool) (takes : A → Bool) (here seen : Option A) → here ≡ seen → IfSome seen (λ x. is_passed forward (takes x) ≡ false) → IfSome here (λ x. is_passed forward (takes x) ≡ false)
beyond_seen forward takes here seen is beyond = subst (λ o. IfSome o (λ x. is_passed forward (takes x) ≡ false)) (sym is) beyond
