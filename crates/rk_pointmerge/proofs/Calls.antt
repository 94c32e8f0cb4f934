-- A loop in which each source makes one call.
use Rattle.std.proofs.Common.{◌≡◌, ℕ, ◌+◌, ◌<◌, ◌≤◌, length, get_or, set, take, map, Bool, true, false, not, List, Option, Some, None, is_some, Result, Ok, Err, refl, ap, sym, ◌∙◌, subst, arith, take_all, get_or-set_same, get_or-set_other, IsTrue, IsSome, OnOk, IsErrAnd}
use Rattle.std.proofs.Math.ListN.{get_or-map}
use Rattle.std.proofs.Math.Seq.{map-set_same}
use Rattle.std.proofs.lemmas.Bool.{and_parts, and_from as and_true, false_from_ne_true, true≢false}
use Rattle.std.proofs.lemmas.List.{length-map}
use Rattle.std.proofs.lemmas.Option.{IfSome_then}
use Rattle.std.proofs.lemmas.Result.{err_from_is_err_and, on_ok_weaker, on_err_weaker}
use Rattle.std.specs.Option.{option_map, option_map_or}
use Rattle.rk_outside.specs.Counts.{Counts}
use Rattle.rk_outside.specs.declared.error.SourceError.{SourceError}
use Rattle.rk_model.specs.Cuts.{gap_on, gap_past, count_before}
use Rattle.rk_model.specs.Searches.{not_false}
use Rattle.rk_model.specs.Standings.{Listing, Standing, Costs, Leads, WalksRise, names, walked, pass_to, step_gap, step_from, step_to}
use Rattle.rk_model.specs.declared.op.Entry.{Entry}
use Rattle.rk_model.proofs.Members.{among_map, any_from}
use Rattle.rk_model.proofs.Paying.{Paid, paid_ok, paid_from, paid_paid, costs_told, costs_over, costs_after, costs_handed}
use Rattle.rk_merge.specs.Pools.{total}
use Rattle.rk_merge.proofs.Lists.{any_default, at_among, done_more, left_more}
use Rattle.rk_merge.proofs.Totals.{total_step, total_set, total_at, total_room}
use Rattle.rk_pointmerge.specs.Merges.{united, merged, owes}
use Rattle.rk_pointmerge.specs.MergeLaws.{told_at, united_told}
use Rattle.rk_pointmerge.specs.Moves.{Reaches, AllMove, OneMoves}

pub some_gives : {A : Type 0} (p : Option A) → IsSome p → (x : A) × (p ≡ Some x)
some_gives None e = cc
some_gives (Some x) e = (x, refl)

module _ {S : Type 0} (listing : S → Listing Entry) where
  -- what one of the sources may name, they may
  pub names_over : (ss : List S) (k : ℕ) (d : S) → k < length ss → (file at : ℕ) → IsTrue (names (listing (get_or ss k d)) file at) → IsTrue (names (merged (map listing ss)) file at)
  names_over ss k d h file at e =
      let untold = not_false (is_some (listing (get_or ss k d)).held) (and_parts _ _ e).0 in
      let one = among_map listing ss _ (at_among ss k d h) in
      and_true _ _ (ap not (false_from_ne_true _ (λ q. true≢false (sym (told_at listing ss k d h (united_told (map listing ss) q)) ∙ untold))))
      (any_from (λ l. names l file at) (map listing ss) _ one e)

  pub map_length : (xs ys : List S) → map listing xs ≡ map listing ys → length xs ≡ length ys
  map_length xs ys e = sym (length-map xs listing) ∙ ap length e ∙ length-map ys listing

  pub map_at : (xs ys : List S) → map listing xs ≡ map listing ys → (k : ℕ) (d : S) → listing (get_or xs k d) ≡ listing (get_or ys k d)
  map_at xs ys e k d = sym (get_or-map listing xs k d) ∙ ap (λ ls. get_or ls k (listing d)) e ∙ get_or-map listing ys k d

module _ {S : Type 0} (listing : S → Listing Entry) (standing : S → Standing Entry) where
  -- the call of one source, seen from all
  pub costs_at : {T : Type 0} (olds nows : List S) (k : ℕ) (v d : S) (c c' : Counts) (f t : ℕ) (result : Result T SourceError) → map listing nows ≡ map listing olds → k < length nows
      → Costs (listing (get_or nows k d)) (standing (get_or nows k d)).owed (standing v).owed c c' f t result → Costs (merged (map listing olds)) (owes standing nows) (owes standing (set nows k v)) c c' f t result
  costs_at {T} olds nows k v d c c' f t result same h one =
      let owed = total_set (λ s. (standing s).owed) nows k v d h in
      let within = total_at (λ s. (standing s).owed) nows k d h in
      let fewer = one.fewer in
      let over = costs_over (listing (get_or nows k d)) (merged (map listing nows)) _ _ c c' f t result (names_over listing nows k d h) (λ told. told_at listing nows k d h (united_told (map listing nows) told)) one in
      subst (λ (ls : List (Listing Entry)). Costs {T = T} (merged ls) (owes standing nows) (owes standing (set nows k v)) c c' f t result) same (record {
        cause = over.cause;
        later = over.later;
        fewer = omega arith;
        paid = λ told. on_ok_weaker result (λ (a : c'.reads + (standing v).owed + f ≤ c.reads + (standing (get_or nows k d)).owed + t). omega arith) (over.paid told);
        spent = λ told. on_err_weaker result (λ (a : c'.reads + f ≤ c.reads + (standing (get_or nows k d)).owed + t). omega arith) (over.spent told);
      })

  -- The first of the sources have made their calls, and the others are as they were.
  pub record Called (Moves : S → S → Type 0) (from to : S → ℕ) (olds nows : List S) (i : ℕ) (c c' : Counts) : Type 0 where
    pub done : (k : ℕ) (d : S) → k < i → Moves (get_or olds k d) (get_or nows k d)
    pub left : (k : ℕ) (d : S) → i ≤ k → get_or nows k d ≡ get_or olds k d
    pub same : map listing nows ≡ map listing olds
    pub paid : Paid (merged (map listing olds)) (owes standing olds) (owes standing nows) c c' (total from (take i olds)) (total to (take i olds))

module _ {S : Type 0} {listing : S → Listing Entry} {standing : S → Standing Entry} {Moves : S → S → Type 0} {from to : S → ℕ} {olds nows : List S} {i : ℕ} where
  pub one_called : {T : Type 0} {c c' c'' : Counts} (v e : S) (x : T) → Called listing standing Moves from to olds nows i c c' → i < length nows → Moves (get_or nows i e) v → listing v ≡ listing (get_or nows i e)
      → Costs (listing (get_or nows i e)) (standing (get_or nows i e)).owed (standing v).owed c' c'' (from (get_or nows i e)) (to (get_or nows i e)) (Ok x) → Called listing standing Moves from to olds (set nows i v) (i + 1) c c''
  one_called v e x was within now same one =
      let len = map_length listing nows olds was.same in
      let mine = paid_from _ _ _ _ _ _ _ x (costs_at listing standing olds nows i v e _ _ _ _ (Ok x) was.same within one) in
      record {
        done = done_more Moves olds nows i v e within was.done was.left now;
        left = left_more olds nows i v was.left;
        same = map-set_same listing nows i v e same ∙ was.same;
        paid = rw (total_step from olds i e (omega arith), total_step to olds i e (omega arith)) (paid_paid _ _ _ _ _ _ _ _ _ _ _ was.paid (rw (was.left i e (omega arith)) at mine));
      }

  pub one_refused : {T U : Type 0} {c c' c'' : Counts} (v e : S) (error : SourceError) (given : Result U SourceError) → Called listing standing Moves from to olds nows i c c' → i < length nows → listing v ≡ listing (get_or nows i e)
      → (IsTrue (is_some (united (map listing olds))) → (k : ℕ) (d : S) → k < length olds → from (get_or olds k d) ≤ to (get_or olds k d))
      → Costs {T = T} (listing (get_or nows i e)) (standing (get_or nows i e)).owed (standing v).owed c' c'' (from (get_or nows i e)) (to (get_or nows i e)) (Err error) → IsErrAnd given (λ d. d ≡ error)
      → AllMove listing standing Moves from to olds (set nows i v) c c'' given
  one_refused {T} v e error given was within same rise one q =
      let found = err_from_is_err_and given q in
      let len = map_length listing nows olds was.same in
      let mine = costs_at listing standing {T = T} olds nows i v e _ _ _ _ (Err error) was.same within one in
      record {
        ok = rw found.1 tt;
        same = map-set_same listing nows i v e same ∙ was.same;
        costs = costs_handed {T = T} _ _ _ _ _ _ _ error given
            (costs_told {T = T} _ _ _ _ _ _ _ _ _ (Err error) (λ told. rw (was.left i e (omega arith)) (total_room from to olds i e (rise told) (omega arith)))
            (costs_after {T = T} _ _ _ _ _ _ _ _ _ _ _ (Err error) was.paid mine)) q;
      }

  pub all_called : {T : Type 0} {c c' : Counts} (x : T) → Called listing standing Moves from to olds nows i c c' → i ≡ length nows → AllMove listing standing Moves from to olds nows c c' (Ok x)
  all_called x was e =
      let len = map_length listing nows olds was.same in
      let p = was.paid in
      record { ok = λ k d h. was.done k d (omega arith); same = was.same; costs = paid_ok _ _ _ _ _ _ _ x (rw (take_all i olds (omega arith)) at p) }

pub reaches_if : {T : Type 0} {l l' : Listing Entry} {s' : Standing Entry} {forward : Bool} {to : List Entry → Option ℕ} (result : Result T SourceError) → Leads l l' s' forward to result → OnOk result (Reaches l s' forward to)
reaches_if (Ok v) leads = record { there = leads.there; known = leads.known; faces = leads.faces }
reaches_if (Err x) leads = tt

-- a walk on reads no less
pub walk_on : (l : Listing Entry) (forward : Bool) (takes : Entry → Bool) (s : Standing Entry) → WalksRise l → is_some l.held ≡ true → walked l forward s.gap ≤ pass_to l forward takes s
walk_on l forward takes s rise told = let h = some_gives l.held told in rw h.1 (on h.0 s.gap forward)
  where
    on : (xs : List Entry) (p : Option ℕ) (b : Bool) → walked l b p ≤ option_map_or (λ g. l.walk_price b (gap_past b (count_before takes xs) g)) p 0
    on xs None b = omega arith
    on xs (Some g) true = rise.forward told g (gap_past true (count_before takes xs) g) (omega arith)
    on xs (Some g) false = rise.backward told (gap_past false (count_before takes xs) g) g (omega arith)

pub step_nothing : (l : Listing Entry) (forward : Bool) (s : Standing Entry) → s.forward ≡ not forward → step_from l forward s ≡ 0
step_nothing l true s e = rw e refl
step_nothing l false s e = rw e refl

own_step : (l : Listing Entry) (forward : Bool) (s : Standing Entry) → s.forward ≡ forward
    → (step_from l forward s ≡ walked l forward s.gap) × (step_to l forward s ≡ option_map_or (λ g. l.walk_price forward (gap_on forward g)) s.gap 0) × (option_map (step_gap forward s) s.gap ≡ option_map (gap_on forward) s.gap)
own_step l true s e = rw e (refl, refl, refl)
own_step l false s e = rw e (refl, refl, refl)

-- the step of one source, seen from all
pub one_moves : {S T : Type 0} (listing : S → Listing Entry) (standing : S → Standing Entry) (olds : List S) (i : ℕ) (v e : S) (forward : Bool) (c c' : Counts) (result : Result T SourceError) → i < length olds → (standing (get_or olds i e)).forward ≡ forward
    → Leads (listing (get_or olds i e)) (listing v) (standing v) forward (λ xs. option_map (step_gap forward (standing (get_or olds i e))) (standing (get_or olds i e)).gap) result → OnOk result ((standing (get_or olds i e)).forward ≡ forward → (standing v).left < (standing (get_or olds i e)).left)
    → Costs (listing (get_or olds i e)) (standing (get_or olds i e)).owed (standing v).owed c c' (step_from (listing (get_or olds i e)) forward (standing (get_or olds i e))) (step_to (listing (get_or olds i e)) forward (standing (get_or olds i e))) result
    → OneMoves listing standing olds (set olds i v) i forward c c' result
one_moves {S} listing standing olds i v e forward c c' result h faces leads fewer costs =
    let own = own_step (listing (get_or olds i e)) forward (standing (get_or olds i e)) faces in
    record {
      ok = on_ok_weaker result (λ (r : Reaches (listing (get_or olds i e)) (standing v) forward (λ xs. option_map (step_gap forward (standing (get_or olds i e))) (standing (get_or olds i e)).gap)) (d : S). rw (any_default olds i d e h, get_or-set_same olds i v d h) (record { there = IfSome_then (listing (get_or olds i e)).held r.there (λ xs w. w ∙ own.2); known = r.known; faces = r.faces })) (reaches_if result leads);
      fewer = on_ok_weaker result (λ f d. rw (any_default olds i d e h, get_or-set_same olds i v d h) (f faces)) fewer;
      others = λ k d n. get_or-set_other olds i k v d n;
      same = map-set_same listing olds i v e leads.same;
      costs = λ d. rw (any_default olds i d e h) (costs_at listing standing olds olds i v e c c' _ _ result refl h (rw (own.0, own.1) at costs));
    }
