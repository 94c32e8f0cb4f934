-- What the sources did, as what the merge over them did.
use Rattle.std.proofs.Common.{◌≡◌, ◌∙◌, ℕ, Vec, length, map, Bool, true, false, List, Option, Some, None, is_some, Result, Ok, refl, ap, sym, subst, IsTrue, IfSome, if◌then◌else◌, option_map}
use Rattle.std.proofs.lemmas.List.{with_items_is}
use Rattle.std.proofs.lemmas.Option.{IfSome_then}
use Rattle.std.specs.Vec.{with_items}
use Rattle.rk_outside.specs.Counts.{Counts}
use Rattle.rk_outside.specs.declared.error.SourceError.{SourceError}
use Rattle.rk_model.specs.Items.{keyed_points}
use Rattle.rk_model.specs.Standings.{Listing, Standing, Costs, Leads, IsTold, step_gap, step_from, step_to}
use Rattle.rk_model.specs.declared.op.Entry.{Entry}
use Rattle.rk_pointmerge.specs.Merges.{united, merged, come, owes, shown, seen_from, StandTogether, Rests, Merging, merging, merged_standing}
use Rattle.rk_pointmerge.specs.Moves.{Arrives}
use Rattle.rk_pointmerge.proofs.Calls.{map_length}
use Rattle.rk_pointmerge.proofs.Shares.{here_is}

gap_known : (b : Bool) (g : ℕ) → is_some (if b then Some g else None) ≡ true → b ≡ true
gap_known true g e = refl
gap_known false g e = cc

-- a merge that stands at a gap, as it is before a call
pub record Before {S : Type 0} (v : Merging S) (olds : List S) (was : Bool) : Type 0 where
  pub known : v.known ≡ true
  pub sources : v.sources ≡ olds
  pub forward : v.forward ≡ was

module _ {S : Type 0} (listing : S → Listing Entry) (standing : S → Standing Entry) where
  pub before : {v u : Merging S} {olds : List S} → u ≡ v → olds ≡ u.sources → is_some (merging listing standing v).gap ≡ true → Before v olds u.forward
  before {v} e es known = record {
    known = gap_known v.known (come standing v.sources) known;
    sources = ap (λ (w : Merging S). w.sources) (sym e) ∙ sym es;
    forward = ap (λ (w : Merging S). w.forward) (sym e);
  }

  pub new_is : {Z : Type 0} (vec : Vec S Z) (olds news : List S) → map listing news ≡ map listing olds → length olds ≡ vec.len → (with_items vec news).items ≡ news
  new_is vec olds news same len = with_items_is vec news (map_length listing news olds same ∙ len)

  pub step_leads : (v : Merging S) {olds news ys : List S} {at : Option ℕ} {was forward : Bool} {c c' : Counts} {f t : ℕ} → Before v olds was → ys ≡ news
      → Arrives listing standing olds news forward (λ us. step_gap forward (merged_standing listing standing olds None was true) (come standing olds)) c c' f t (Ok at)
      → Leads {T = Unit {0}} (merged (map listing v.sources)) (merged (map listing ys)) (merged_standing listing standing ys at forward true) forward (λ xs. option_map (step_gap forward (merging listing standing v)) (merging listing standing v).gap) (Ok tt)
  step_leads v {olds = olds} b ey arrives =
      rw (b.known, b.sources, b.forward, ey) (record { same = ap merged arrives.same; there = IfSome_then (united (map listing olds)) arrives.there (λ us e. ap Some e); known = refl; faces = refl; lost = tt })

  pub step_costs : {T : Type 0} (v : Merging S) {olds news ys : List S} {was : Bool} (forward : Bool) {c c' : Counts} {result : Result T SourceError} → Before v olds was → ys ≡ news
      → Costs (merged (map listing olds)) (owes standing olds) (owes standing news) c c' (step_from (merged (map listing olds)) forward (merged_standing listing standing olds None was true)) (step_to (merged (map listing olds)) forward (merged_standing listing standing olds None was true)) result
      → Costs (merged (map listing v.sources)) (owes standing v.sources) (owes standing ys) c c' (step_from (merged (map listing v.sources)) forward (merging listing standing v)) (step_to (merged (map listing v.sources)) forward (merging listing standing v)) result
  step_costs v forward b ey costs = rw (b.known, b.sources, b.forward, ey) costs

  module _ (ordered : (s : S) → IfSome (listing s).held (λ xs. IsTrue (keyed_points xs))) (told : (s : S) → IsTold (listing s) (standing s)) where
    -- what is seen of a merge is what the nearest source shows
    pub merge_here : {v u : Merging S} → u ≡ v → Rests listing standing u → (merging listing standing v).here ≡ shown standing v.sources v.at
    merge_here {u = u} is rests = subst (λ (w : Merging S). (merging listing standing w).here ≡ shown standing w.sources w.at) is (go u.known refl)
      where
        go : (b : Bool) → u.known ≡ b → (merging listing standing u).here ≡ shown standing u.sources u.at
        go true e = rw e (here_is listing standing ordered told u.sources u.at u.forward (rests.stands e))
        go false e = let lost = rests.lost e in rw (e, lost) refl

    pub seen_over : {news ys : List S} {at : Option ℕ} {was forward : Bool} (P : Entry → Type 0) → ys ≡ news → was ≡ forward → StandTogether listing standing news at forward → IfSome (shown standing news at) P → IfSome (seen_from (united (map listing ys)) was (come standing ys) (shown standing ys at)) P
    seen_over {news = news} {at = at} {forward = forward} P ey ef stands h = rw (ey, ef) (subst (λ (p : Option Entry). IfSome p P) (sym (here_is listing standing ordered told news at forward stands)) h)
