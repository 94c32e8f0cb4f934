-- The sources of a merge have moved: where they stand, and what it cost.
use Rattle.std.proofs.Common.{◌≡◌, ◌≢◌, ℕ, ◌+◌, ◌<◌, ◌≤◌, length, get_or, map, Bool, true, false, not, ◌||◌, List, Option, Some, None, is_some, Result, Ok, Err, refl, ap, sym, ◌∙◌, subst, ◌⊎◌, inl, inr, arith, IsTrue, IsSome, IfSome, IsErrAnd}
use Rattle.std.proofs.lemmas.Bool.{cases_eq}
use Rattle.std.proofs.lemmas.Result.{err_from_is_err_and}
use Rattle.std.specs.Option.{option_map, option_map_or}
use Rattle.rk_outside.specs.Counts.{Counts}
use Rattle.rk_outside.specs.declared.error.SourceError.{SourceError}
use Rattle.rk_model.specs.Cuts.{count_before, item_from, gap_on, gap_past, is_passed}
use Rattle.rk_model.specs.Items.{keyed_points, point_takes}
use Rattle.rk_model.specs.Standings.{Listing, Standing, Costs, IsTold, agree, can_step, step_gap, step_from, step_to, walked, pass_to}
use Rattle.rk_model.specs.declared.cut.Cut.{Cut}
use Rattle.rk_model.specs.declared.op.Entry.{Entry}
use Rattle.rk_model.proofs.Gaps.{cut_within}
use Rattle.rk_model.proofs.Paying.{paid_from, paid_ok, costs_handed, costs_told}
use Rattle.rk_merge.specs.Pools.{total, told_items}
use Rattle.rk_merge.proofs.Lists.{pick}
use Rattle.rk_merge.proofs.Totals.{total_le, total_less, total_map, total_each, total_rest}
use Rattle.rk_pointmerge.specs.Merges.{whole, united, merged, share, come, owes, still, shown, Faces, IsNearest, InShares, StandTogether, merged_standing}
use Rattle.rk_pointmerge.specs.MergeLaws.{items, Unites, unites, told_at, share_rise, come_within}
use Rattle.rk_pointmerge.specs.Moves.{Reaches, PassesCut, AllMove, OneMoves, Arrives}
use Rattle.rk_pointmerge.proofs.Calls.{some_gives, map_at, map_length}
use Rattle.rk_pointmerge.proofs.Keys.{takes_falls}
use Rattle.rk_pointmerge.proofs.Shares.{AtShares, if_some, shown_each, come_is, count_share, past_share, nearest_seen, here_is, shown_in, step_shares, told_shows}

there_is : (l : Listing Entry) (s : Standing Entry) (forward : Bool) (to : List Entry → Option ℕ) → Reaches l s forward to → is_some l.held ≡ true → s.gap ≡ to (told_items l)
there_is l s forward to r t = let h = some_gives l.held t in rw h.1 (rw h.1 at r.there)

pass_is : (forward : Bool) (takes : Entry → Bool) (l : Listing Entry) (s : Standing Entry) → is_some l.held ≡ true → pass_to l forward takes s ≡ walked l forward (option_map (gap_past forward (count_before takes (told_items l))) s.gap)
pass_is forward takes l s t = let h = some_gives l.held t in rw h.1 (go h.0 s.gap)
  where
    go : (xs : List Entry) (p : Option ℕ) → option_map_or (λ g. l.walk_price forward (gap_past forward (count_before takes xs) g)) p 0 ≡ walked l forward (option_map (gap_past forward (count_before takes xs)) p)
    go xs None = refl
    go xs (Some g) = refl

turned : (forward : Bool) (l : Listing Entry) (s : Standing Entry) → s.forward ≡ not forward → (step_to l forward s ≡ option_map_or (l.turn_price forward) s.gap 0) × ((g : ℕ) → s.gap ≡ Some g → option_map (step_gap forward s) s.gap ≡ Some g)
turned true l s f = rw f (refl, λ g e. rw e refl)
turned false l s f = rw f (refl, λ g e. rw e refl)

module _ {S : Type 0} (listing : S → Listing Entry) (standing : S → Standing Entry) where
  -- a price of the merge is that of each source, at its share
  price_total : (price : Listing Entry → ℕ → ℕ) (ss : List S) (us : List Entry) → Unites listing ss us → (g : ℕ) → total (λ l. price l (share (whole (map listing ss)) g (told_items l))) (map listing ss) ≡ total (λ s. price (listing s) (share us g (items listing s))) ss
  price_total price ss us u g = ap (λ vs. total (λ l. price l (share vs g (told_items l))) (map listing ss)) (sym u.whole) ∙ total_map (λ l. price l (share us g (told_items l))) listing ss

  prices : (price : Listing Entry → ℕ → ℕ) (ss : List S) (us : List Entry) → Unites listing ss us → (gaps : S → Option ℕ) (g : ℕ) → ((k : ℕ) (d : S) → k < length ss → gaps (get_or ss k d) ≡ Some (share us g (items listing (get_or ss k d))))
      → total (λ s. option_map_or (price (listing s)) (gaps s) 0) ss ≡ total (λ l. price l (share (whole (map listing ss)) g (told_items l))) (map listing ss)
  prices price ss us u gaps g at =
      total_each (λ s. option_map_or (price (listing s)) (gaps s) 0) (λ s. price (listing s) (share us g (items listing s))) ss (λ k d h. ap (λ p. option_map_or (price (listing (get_or ss k d))) p 0) (at k d h))
      ∙ sym (price_total price ss us u g)

  -- each goes to its share of a gap, and all prices together are one of the merge
  pub record Going (olds : List S) (each : S → List Entry → Option ℕ) (gap : List Entry → ℕ) (from to : S → ℕ) (f t : ℕ) : Type 0 where
    pub there : (us : List Entry) → united (map listing olds) ≡ Some us → (gap us ≤ length us) × ((k : ℕ) (d : S) → k < length olds → each (get_or olds k d) (items listing (get_or olds k d)) ≡ Some (share us (gap us) (items listing (get_or olds k d))))
    pub price : IsTrue (is_some (united (map listing olds))) → f + total to olds ≤ total from olds + t

  module _ (ordered : (s : S) → IfSome (listing s).held (λ xs. IsTrue (keyed_points xs))) (olds : List S) where
    pub seek_goes : (forward : Bool) (cut : Cut (List ℕ)) → Going olds (λ s xs. Some (count_before (point_takes cut) xs)) (count_before (point_takes cut)) (λ s. 0) (λ s. (listing s).seek_price forward cut) 0 ((merged (map listing olds)).seek_price forward cut)
    seek_goes forward cut = record {
      there = λ us e. (cut_within (point_takes cut) us, λ k d h. ap Some (count_share listing standing ordered (point_takes cut) (takes_falls cut) olds us (unites listing olds us e) k d h));
      price = λ t. let e = total_map (λ l. l.seek_price forward cut) listing olds in omega arith;
    }

    module _ (told : (s : S) → IsTold (listing s) (standing s)) (shares : InShares listing standing olds) where
      pub pass_goes : (forward : Bool) (cut : Cut (List ℕ)) → Going olds (λ s xs. option_map (gap_past forward (count_before (point_takes cut) xs)) (standing s).gap) (λ us. gap_past forward (count_before (point_takes cut) us) (come standing olds))
          (λ s. walked (listing s) forward (standing s).gap) (λ s. pass_to (listing s) forward (point_takes cut) (standing s))
          ((merged (map listing olds)).walk_price forward (come standing olds)) (option_map_or (λ us. (merged (map listing olds)).walk_price forward (gap_past forward (count_before (point_takes cut) us) (come standing olds))) (united (map listing olds)) 0)
      pass_goes forward cut = record {
        there = there;
        price = λ t.
            let found = some_gives (united (map listing olds)) t in
            let us = found.0 in
            let u = unites listing olds us found.1 in
            let passed = λ (s : S). option_map (gap_past forward (count_before (point_takes cut) (items listing s))) (standing s).gap in
            let from = prices (λ l. l.walk_price forward) olds us u (λ s. (standing s).gap) (come standing olds) (rw found.1 at shares) in
            let each = total_each (λ s. pass_to (listing s) forward (point_takes cut) (standing s)) (λ s. walked (listing s) forward (passed s)) olds (λ k d h. pass_is forward (point_takes cut) (listing (get_or olds k d)) (standing (get_or olds k d)) (told_at listing olds k d h u.all)) in
            let to = prices (λ l. l.walk_price forward) olds us u passed (gap_past forward (count_before (point_takes cut) us) (come standing olds)) (there us found.1).1 in
            rw found.1 (omega (arith, from, each, to));
      }
        where
          there : (us : List Entry) → united (map listing olds) ≡ Some us → (gap_past forward (count_before (point_takes cut) us) (come standing olds) ≤ length us)
              × ((k : ℕ) (d : S) → k < length olds → option_map (gap_past forward (count_before (point_takes cut) (items listing (get_or olds k d)))) (standing (get_or olds k d)).gap ≡ Some (share us (gap_past forward (count_before (point_takes cut) us) (come standing olds)) (items listing (get_or olds k d))))
          there us e =
              let u = unites listing olds us e in
              let cut_le = cut_within (point_takes cut) us in
              let come_le = come_within listing ordered standing told olds us u in (
                elim forward as (λ b. gap_past b (count_before (point_takes cut) us) (come standing olds) ≤ length us) [ true ↦ omega arith | false ↦ omega arith ],
                λ k d h.
                    let xs = items listing (get_or olds k d) in
                    ap (option_map (gap_past forward (count_before (point_takes cut) xs))) ((rw e at shares) k d h)
                    ∙ ap (λ n. Some (gap_past forward n (share us (come standing olds) xs))) (count_share listing standing ordered (point_takes cut) (takes_falls cut) olds us u k d h)
                    ∙ ap Some (past_share us forward (count_before (point_takes cut) us) (come standing olds) xs (λ g h le. share_rise us u.up g h le xs)),
              )

      pub turn_goes : (forward : Bool) → Faces standing (not forward) olds → Going olds (λ s xs. option_map (step_gap forward (standing s)) (standing s).gap) (λ us. come standing olds)
          (λ s. step_from (listing s) forward (standing s)) (λ s. step_to (listing s) forward (standing s)) 0 ((merged (map listing olds)).turn_price forward (come standing olds))
      turn_goes forward faces = let turns = λ (k : ℕ) (d : S) (h : k < length olds). turned forward (listing (get_or olds k d)) (standing (get_or olds k d)) (faces k d h).1 in record {
        there = λ us e. (come_within listing ordered standing told olds us (unites listing olds us e), λ k d h. (turns k d h).1 _ ((rw e at shares) k d h));
        price = λ t.
            let found = some_gives (united (map listing olds)) t in
            let each = total_each (λ s. step_to (listing s) forward (standing s)) (λ s. option_map_or ((listing s).turn_price forward) (standing s).gap 0) olds (λ k d h. (turns k d h).0) in
            let to = prices (λ l. l.turn_price forward) olds found.0 (unites listing olds found.0 found.1) (λ s. (standing s).gap) (come standing olds) (rw found.1 at shares) in
            omega (arith, each, to);
      }

  -- the sources have come, each to its share of a gap
  arrives : {T : Type 0} (ordered : (s : S) → IfSome (listing s).held (λ xs. IsTrue (keyed_points xs))) {olds news : List S} {forward : Bool} {gap : List Entry → ℕ} {c c' : Counts} {f t : ℕ} (at : Option ℕ) (v : T) → map listing news ≡ map listing olds
      → ((us : List Entry) → united (map listing olds) ≡ Some us → gap us ≤ length us)
      → ((k : ℕ) (d : S) → k < length olds → (is_some (standing (get_or news k d)).gap ≡ true) × ((standing (get_or news k d)).forward ≡ forward) × ((us : List Entry) → united (map listing olds) ≡ Some us → (standing (get_or news k d)).gap ≡ Some (share us (gap us) (items listing (get_or olds k d)))))
      → IsNearest standing forward news at
      → Costs {T = T} (merged (map listing olds)) (owes standing olds) (owes standing news) c c' f t (Ok v) → Arrives listing standing olds news forward gap c c' f t (Ok at)
  arrives ordered {olds = olds} {news = news} {forward = forward} {gap = gap} at v same within each nearest costs =
      let len = map_length listing news olds same in
      let at_its = λ (us : List Entry) (e : united (map listing news) ≡ Some us) (k : ℕ) (d : S) (h : k < length news). (each k d (omega arith)).2 us (ap united (sym same) ∙ e) ∙ ap (λ l. Some (share us (gap us) (told_items l))) (sym (map_at listing news olds same k d)) in
      let come_to = λ (us : List Entry) (e : united (map listing news) ≡ Some us). come_is listing standing ordered news us (unites listing news us e) (gap us) (within us (ap united (sym same) ∙ e)) (at_its us e) in
      record {
        stands = record { faces = λ k d h. let now = each k d (omega arith) in (now.0, now.1); nearest = nearest; shares = if_some (united (map listing news)) {P = λ us. AtShares listing standing ordered news us (come standing news)} (λ us e k d h. at_its us e k d h ∙ ap (λ g. Some (share us g (items listing (get_or news k d)))) (sym (come_to us e))) };
        there = if_some (united (map listing olds)) {P = λ us. come standing news ≡ gap us} (λ us e. come_to us (ap united same ∙ e));
        same = same;
        costs = paid_ok _ _ _ _ _ _ _ at (paid_from _ _ _ _ _ _ _ v costs);
      }

  pub all_arrive : {T : Type 0} (ordered : (s : S) → IfSome (listing s).held (λ xs. IsTrue (keyed_points xs))) {Moves : S → S → Type 0} {from to : S → ℕ} {olds news : List S} {at : Option ℕ} {forward : Bool} {each : S → List Entry → Option ℕ} {gap : List Entry → ℕ} {c c' : Counts} {f t : ℕ} (v : T)
      → AllMove {T = T} listing standing Moves from to olds news c c' (Ok v) → ((s r : S) → Moves s r → Reaches (listing s) (standing r) forward (each s)) → IsNearest standing forward news at → Going olds each gap from to f t
      → Arrives listing standing olds news forward gap c c' f t (Ok at)
  all_arrive ordered {olds = olds} {news = news} {at = at} {forward = forward} {each = each} v moved reach nearest going =
      arrives ordered at v moved.same (λ us e. (going.there us e).0) (λ k d h.
      let r = reach _ _ (moved.ok k d h) in (
        r.known,
        r.faces,
        λ us e. there_is (listing (get_or olds k d)) (standing (get_or news k d)) forward (each (get_or olds k d)) r (told_at listing olds k d h (unites listing olds us e).all) ∙ (going.there us e).1 k d h,
      )) nearest (costs_told _ _ _ _ _ _ _ _ _ (Ok v) going.price moved.costs)

  -- or one has been refused
  pub refuses : {T : Type 0} {olds news : List S} {forward : Bool} {gap : List Entry → ℕ} {c c' : Counts} {f t f' t' : ℕ} (error : SourceError) (given : Result (Option ℕ) SourceError) → map listing news ≡ map listing olds
      → (IsTrue (is_some (united (map listing olds))) → f + t' ≤ f' + t) → Costs {T = T} (merged (map listing olds)) (owes standing olds) (owes standing news) c c' f' t' (Err error) → IsErrAnd given (λ d. d ≡ error)
      → Arrives listing standing olds news forward gap c c' f t given
  refuses {T} error given same price costs q =
      let found = err_from_is_err_and given q in
      record {
        stands = rw found.1 tt;
        there = rw found.1 tt;
        same = same;
        costs = costs_handed {T = T} _ _ _ _ _ _ _ error given (costs_told {T = T} _ _ _ _ _ _ _ _ _ (Err error) price costs) q;
      }

  -- the measure of a pass
  module _ (olds news : List S) (same : map listing news ≡ map listing olds) {forward : Bool} {takes : Entry → Bool}
      (moved : (k : ℕ) (d : S) → k < length olds → PassesCut (listing (get_or olds k d)) (standing (get_or olds k d)) (standing (get_or news k d)) forward takes) where
    pub pass_beyond : (at : Option ℕ) → IfSome (shown standing news at) (λ x. is_passed forward (takes x) ≡ false)
    pass_beyond at = let len = map_length listing news olds same in shown_each standing news at (λ k d x h e. rw e at (moved k d (omega arith)).beyond)

    pub pass_left : still standing news ≤ still standing olds
    pass_left = let len = map_length listing news olds same in total_le (λ s. (standing s).left) (λ s. (standing s).left) news olds len (λ k d h. (moved k d (omega arith)).left)

    pub pass_fewer : (at : Option ℕ) → IfSome (shown standing olds at) (λ x. IsTrue (is_passed forward (takes x)) → still standing news < still standing olds)
    pass_fewer at =
        let len = map_length listing news olds same in
        shown_each standing olds at {P = λ x. IsTrue (is_passed forward (takes x)) → still standing news < still standing olds} (λ k d x h e past.
        let less = rw e at (moved k d h).fewer in
        total_less (λ s. (standing s).left) news olds k d len (λ j c l. (moved j c (omega arith)).left) (omega arith) (less past))

  -- one has stepped
  module _ (ordered : (s : S) → IfSome (listing s).held (λ xs. IsTrue (keyed_points xs))) (told : (s : S) → IsTold (listing s) (standing s)) {olds : List S} {i : ℕ} {forward : Bool}
      (stands : StandTogether listing standing olds (Some i) forward) (shows : IsSome (shown standing olds (Some i))) where
    in_range : i < length olds
    in_range = (shown_in standing olds i _ (some_gives _ shows).1).0

    stepped : (us : List Entry) → united (map listing olds) ≡ Some us → (d : S) → (gap_on forward (come standing olds) ≤ length us)
        × (share us (gap_on forward (come standing olds)) (items listing (get_or olds i d)) ≡ gap_on forward (share us (come standing olds) (items listing (get_or olds i d))))
        × ((j : ℕ) (c : S) → j < length olds → j ≢ i → share us (gap_on forward (come standing olds)) (items listing (get_or olds j c)) ≡ share us (come standing olds) (items listing (get_or olds j c)))
    stepped us e d =
        let u = unites listing olds us e in
        let g = come standing olds in
        let le = come_within listing ordered standing told olds us u in
        let at = rw e at stands.shares in
        let (x, seen) = some_gives (shown standing olds (Some i)) shows in
        let found = shown_in standing olds i x seen in
        let s = get_or olds i d in
        let own = ap (λ b. item_from b (items listing s) (share us g (items listing s))) (sym (stands.faces i d found.0).1) ∙ sym (told_shows (listing s) (standing s) _ (told s) (told_at listing olds i d found.0 u.all) (at i d found.0)) ∙ found.1 d in
        step_shares listing standing ordered forward olds us u g x (nearest_seen listing standing ordered told olds (Some i) forward us g u le at stands.faces stands.nearest ∙ seen) le i d found.0 own

    step_price : (d : S) → IsTrue (is_some (united (map listing olds)))
        → (merged (map listing olds)).walk_price forward (come standing olds) + option_map_or (λ g. (listing (get_or olds i d)).walk_price forward (gap_on forward g)) (standing (get_or olds i d)).gap 0
        ≤ walked (listing (get_or olds i d)) forward (standing (get_or olds i d)).gap + (merged (map listing olds)).walk_price forward (gap_on forward (come standing olds))
    step_price d t =
        let found = some_gives (united (map listing olds)) t in
        let us = found.0 in
        let u = unites listing olds us found.1 in
        let g = come standing olds in
        let walk = λ (g : ℕ) (s : S). (listing s).walk_price forward (share us g (items listing s)) in
        let step = stepped us found.1 d in
        let rest = total_rest (walk g) (walk (gap_on forward g)) olds olds i d refl in_range (λ j c short n. let e = ap ((listing (get_or olds j c)).walk_price forward) (step.2 j c short n) in omega arith) in
        let now = price_total (λ l. l.walk_price forward) olds us u g in
        let next = price_total (λ l. l.walk_price forward) olds us u (gap_on forward g) in
        let to = ap ((listing (get_or olds i d)).walk_price forward) step.1 in
        rw ((rw found.1 at stands.shares) i d in_range) (omega (arith, rest, now, next, to))

    pub one_arrives : {T : Type 0} {news : List S} {at : Option ℕ} {c c' : Counts} (v : T) → OneMoves {T = T} listing standing olds news i forward c c' (Ok v) → IsNearest standing forward news at
        → Arrives listing standing olds news forward (λ us. gap_on forward (come standing olds)) c c' ((merged (map listing olds)).walk_price forward (come standing olds)) ((merged (map listing olds)).walk_price forward (gap_on forward (come standing olds))) (Ok at)
    one_arrives {news = news} {at = at} v moved nearest =
        let d = pick olds i in_range in
        arrives ordered at v moved.same (λ us e. (stepped us e d).0) (λ k d h. each k d h (cases_eq k i)) nearest (costs_told _ _ _ _ _ _ _ _ _ (Ok v) (step_price d) (moved.costs d))
      where
        each : (k : ℕ) (d : S) → k < length olds → (k ≡ i) ⊎ (k ≡ i → ⊥) → (is_some (standing (get_or news k d)).gap ≡ true) × ((standing (get_or news k d)).forward ≡ forward)
            × ((us : List Entry) → united (map listing olds) ≡ Some us → (standing (get_or news k d)).gap ≡ Some (share us (gap_on forward (come standing olds)) (items listing (get_or olds k d))))
        each k d h (inl q) = let r = moved.ok d in rw q (
          r.known,
          r.faces,
          λ us e. there_is (listing (get_or olds i d)) (standing (get_or news i d)) forward (λ xs. option_map (gap_on forward) (standing (get_or olds i d)).gap) r (told_at listing olds i d in_range (unites listing olds us e).all)
              ∙ ap (option_map (gap_on forward)) ((rw e at stands.shares) i d in_range) ∙ ap Some (sym (stepped us e d).1),
        )
        each k d h (inr q) = let now = stands.faces k d h in rw (moved.others k d q) (now.0, now.1, λ us e. (rw e at stands.shares) k d h ∙ ap Some (sym ((stepped us e d).2 k d h q)))

    pub one_refuses : {T : Type 0} {news : List S} {c c' : Counts} (error : SourceError) (given : Result (Option ℕ) SourceError) → OneMoves {T = T} listing standing olds news i forward c c' (Err error) → IsErrAnd given (λ d. d ≡ error)
        → Arrives listing standing olds news forward (λ us. gap_on forward (come standing olds)) c c' ((merged (map listing olds)).walk_price forward (come standing olds)) ((merged (map listing olds)).walk_price forward (gap_on forward (come standing olds))) given
    one_refuses {T} error given moved q =
        let d = pick olds i in_range in
        refuses {T = T} error given moved.same (step_price d) (moved.costs d) q

    pub one_fewer : {T : Type 0} {news : List S} {c c' : Counts} (v : T) → OneMoves {T = T} listing standing olds news i forward c c' (Ok v) → still standing news < still standing olds
    one_fewer {news = news} v moved =
        let len = map_length listing news olds moved.same in
        let d = pick olds i in_range in
        let less = moved.fewer d in
        let rest = total_rest (λ s. (standing s).left) (λ s. (standing s).left) news olds i d len (omega (arith, in_range)) (λ j c l n. rw (moved.others j c n) (omega arith)) in
        omega (arith, less, rest)

  -- a step that goes on has an entry to pass
  pub step_shows : (ordered : (s : S) → IfSome (listing s).held (λ xs. IsTrue (keyed_points xs))) (told : (s : S) → IsTold (listing s) (standing s)) (ss : List S) (at : Option ℕ) (forward : Bool) → StandTogether listing standing ss at forward
      → IsTrue (can_step forward (merged_standing listing standing ss at forward true)) → IsSome (shown standing ss at)
  step_shows ordered told ss at forward stands can = subst IsSome (here_is listing standing ordered told ss at forward stands) (seen forward _ can)
    where
      seen : (f : Bool) (p : Option Entry) → is_some p || not (agree f f) ≡ true → IsSome p
      seen f (Some x) h = refl
      seen true None h = cc
      seen false None h = cc
