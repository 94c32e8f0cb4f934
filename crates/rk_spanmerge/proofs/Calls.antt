-- Calls of the sources of a merge as calls of the merge.
use Rattle.std.proofs.Common.{◌≡◌, ℕ, ◌+◌, ◌<◌, ◌≤◌, length, get_or, set, Bool, not, List, Option, Some, None, is_some, map, Result, Ok, Err, refl, ap, ◌∙◌, inl, inr, subst, arith}
use Rattle.std.specs.Prelude.{IsTrue, ◌-◌}
use Rattle.std.proofs.Math.Seq.{map-set_same}
use Rattle.std.specs.Result.{IsErrAnd}
use Rattle.std.specs.Option.{option_map_or}
use Rattle.rk_outside.specs.Counts.{Counts}
use Rattle.rk_outside.specs.declared.error.SourceError.{SourceError}
use Rattle.rk_model.specs.Standings.{Listing, Standing, Costs, IsFree, Leads, names, pass_to}
use Rattle.rk_model.specs.Cuts.{count_before}
use Rattle.rk_model.specs.declared.span.Span.{Span}
use Rattle.rk_model.proofs.Paying.{Paid, paid_from, paid_paid, costs_shift, costs_after, costs_over, costs_handed}
use Rattle.rk_merge.specs.Pools.{total, all_told}
use Rattle.rk_model.proofs.Members.{any_from, among_map}
use Rattle.std.proofs.lemmas.Bool.{and_from, and_parts, cases_Bool, not-true}
use Rattle.rk_merge.proofs.Lists.{at_among, done_more, left_more}
use Rattle.rk_merge.proofs.Totals.{total_at, total_set}
use Rattle.rk_spanmerge.specs.Merges.{united, merged}
use Rattle.rk_spanmerge.specs.Moves.{IsFacing, StandsAt, Pays}
use Rattle.rk_spanmerge.proofs.Chains.{true_false}
use Rattle.rk_spanmerge.proofs.Pools.{told_at}

-- what others owe beside it
costs_beside : {A T : Type 0} (l : Listing A) (n o o' : ℕ) (c c' : Counts) (f t : ℕ) (result : Result T SourceError) → Costs l o o' c c' f t result → Costs l (n + o) (n + o') c c' f t result
costs_beside l n o o' c c' f t (Ok v) costs =
    let a = costs.fewer in
    record { cause = costs.cause; later = costs.later; fewer = omega arith; paid = λ told. let b = costs.paid told in omega arith; spent = λ told. tt }
costs_beside l n o o' c c' f t (Err e) costs =
    let a = costs.fewer in
    record { cause = costs.cause; later = costs.later; fewer = omega arith; paid = λ told. tt; spent = λ told. let b = costs.spent told in omega arith }

-- a call whose price is nothing
pub costs_free : {A T : Type 0} (l : Listing A) (o o' : ℕ) (c c' : Counts) (f t : ℕ) (result : Result T SourceError) → t ≡ 0 → Costs l o o' c c' f t result → Costs l o o' c c' 0 0 result
costs_free l o o' c c' f t result e costs = costs_shift l o o' c c' f t 0 0 result (omega arith) costs

pub option_zero : {A : Type 0} (f : A → ℕ) (o : Option A) → ((x : A) → f x ≡ 0) → option_map_or f o 0 ≡ 0
option_zero f None e = refl
option_zero f (Some x) e = e x

pub pass_free : {A : Type 0} (l : Listing A) (forward : Bool) (takes : A → Bool) (s : Standing A) → IsFree l → pass_to l forward takes s ≡ 0
pass_free l forward takes s free = option_zero _ l.held (λ xs. option_zero _ s.gap (λ g. free.walk forward _))

pub sought : (forward : Bool) (test : Span → Bool) (l l' : Listing Span) (s' : Standing Span) (v : Unit {0}) → Leads l l' s' forward (λ ss. Some (count_before test ss)) (Ok v) → IsFacing forward s' × StandsAt test l' s'
sought forward test l l' s' v leads = (record { known = leads.known; faces = leads.faces }, rw leads.same leads.there)

module _ {S : Type 0} (listing : S → Listing Span) (standing : S → Standing Span) where
  abbrev owed : S → ℕ
  owed s = (standing s).owed

  told_source : (ss : List S) (k : ℕ) (d : S) → k < length ss → IsTrue (is_some (united (map listing ss))) → IsTrue (is_some (listing (get_or ss k d)).held)
  told_source ss k d h told = elim (cases_Bool (all_told (map listing ss))) [ inl e ↦ told_at listing ss e k d h | inr e ↦ absurd (true_false _ told (rw e refl)) ]

  names_source : (ss : List S) (k : ℕ) (d : S) → k < length ss → (file at : ℕ) → IsTrue (names (listing (get_or ss k d)) file at) → IsTrue (names (merged (map listing ss)) file at)
  names_source ss k d h file at w = and_from _ _
      (elim (cases_Bool (is_some (united (map listing ss)))) [ inl e ↦ absurd (true_false _ (told_source ss k d h e) (not-true _ (and_parts _ _ w).0)) | inr e ↦ ap not e ])
      (any_from (λ l. names l file at) (map listing ss) (listing (get_or ss k d)) (among_map listing ss (get_or ss k d) (at_among ss k d h)) w)

  -- a call of one source
  one_pays : {T : Type 0} (ss : List S) (k : ℕ) (v d : S) (c c' : Counts) (result : Result T SourceError) → k < length ss → Costs (listing (get_or ss k d)) (owed (get_or ss k d)) (owed v) c c' 0 0 result → Pays listing standing ss (set ss k v) c c' result
  one_pays ss k v d c c' result h costs =
      let at = total_at owed ss k d h in
      let put = total_set owed ss k v d h in
      let n : ℕ = total owed ss - owed (get_or ss k d) in
      let before : n + owed (get_or ss k d) ≡ total owed ss = omega arith in
      let after : n + owed v ≡ total owed (set ss k v) = omega arith in
      rw (← before, ← after) (costs_beside (merged (map listing ss)) n _ _ c c' 0 0 result (costs_over (listing (get_or ss k d)) (merged (map listing ss)) _ _ c c' 0 0 result (names_source ss k d h) (told_source ss k d h) costs))

  -- The first of them have made their calls, and the others are as they were.
  pub record Passes (P : S → S → Type 0) (olds nows : List S) (i : ℕ) (c c' : Counts) : Type 0 where
    pub done : (k : ℕ) (d : S) → k < i → P (get_or olds k d) (get_or nows k d)
    pub left : (k : ℕ) (d : S) → i ≤ k → get_or nows k d ≡ get_or olds k d
    pub same : map listing nows ≡ map listing olds
    pub paid : Paid (merged (map listing olds)) (total owed olds) (total owed nows) c c' 0 0

  pub one_passed : {T : Type 0} (P : S → S → Type 0) (olds nows : List S) (i : ℕ) (v e : S) (c c' c'' : Counts) (x : T) → i < length nows → Passes P olds nows i c c' → P (get_or nows i e) v → listing v ≡ listing (get_or nows i e)
      → Costs (listing (get_or nows i e)) (owed (get_or nows i e)) (owed v) c' c'' 0 0 (Ok x) → Passes P olds (set nows i v) (i + 1) c c''
  one_passed P olds nows i v e c c' c'' x within was now same costs = record {
    done = done_more P olds nows i v e within was.done was.left now;
    left = left_more olds nows i v was.left;
    same = map-set_same listing nows i v e same ∙ was.same;
    paid = paid_paid _ _ _ _ c c' c'' 0 0 0 0 was.paid (paid_from _ _ _ _ _ _ _ _ (subst (λ ls. Costs (merged ls) (total owed nows) (total owed (set nows i v)) c' c'' 0 0 (Ok x)) was.same (one_pays nows i v e c' c'' (Ok x) within costs)));
  }

  pub same_set : (P : S → S → Type 0) (olds nows : List S) (i : ℕ) (v e : S) (c c' : Counts) → Passes P olds nows i c c' → listing v ≡ listing (get_or nows i e) → map listing (set nows i v) ≡ map listing olds
  same_set P olds nows i v e c c' was same = map-set_same listing nows i v e same ∙ was.same

  pub one_refused : {T U : Type 0} (P : S → S → Type 0) (olds nows : List S) (i : ℕ) (v e : S) (c c' c'' : Counts) (error : SourceError) (given : Result U SourceError) → i < length nows → Passes P olds nows i c c'
      → Costs {T = T} (listing (get_or nows i e)) (owed (get_or nows i e)) (owed v) c' c'' 0 0 (Err error) → IsErrAnd given (λ d. d ≡ error) → Pays listing standing olds (set nows i v) c c'' given
  one_refused {T} P olds nows i v e c c' c'' error given within was costs q =
      costs_handed {T = T} _ _ _ c c'' 0 0 error given
      (costs_after {T = T} _ _ _ _ c c' c'' 0 0 0 0 (Err error) was.paid (subst (λ ls. Costs {T = T} (merged ls) (total owed nows) (total owed (set nows i v)) c' c'' 0 0 (Err error)) was.same (one_pays {T = T} nows i v e c' c'' (Err error) within costs))) q
