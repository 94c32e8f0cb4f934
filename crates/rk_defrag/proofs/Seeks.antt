-- A run that was gathered from a cut on, made whole.
use Rattle.std.proofs.Common.{◌≡◌, ℕ, Bool, true, false, not, List, Option, Some, None, is_some, option_map, Result, Ok, Err, sym, ◌∙◌, subst}
use Rattle.std.specs.Prelude.{IsTrue, IfSome, IfOk}
use Rattle.rk_model.specs.Spans.{WidestSpan}
use Rattle.rk_model.specs.Cuts.{count_before}
use Rattle.rk_model.specs.Items.{span_beside, span_takes, keyed_extents}
use Rattle.rk_model.specs.ItemLaws.{spans-part}
use Rattle.rk_model.specs.Standings.{Listing}
use Rattle.rk_model.specs.declared.cut.Cut.{Cut}
use Rattle.rk_model.specs.declared.span.Span.{Span}
use Rattle.rk_model.specs.declared.options.IterOptions.{IterOptions}
use Rattle.rk_span_laws.specs.Joined.{as_span}
use Rattle.rk_sources.specs.Bounds.{Bounding}
use Rattle.rk_sources.specs.BoundLaws.{bounded-ordered}
use Rattle.rk_defrag.specs.Moves.{begins_by, clipped, far_end, crosses, inner_cut, FoundAt, RunOver, Upto, Gathered, Found, ExtendsTo, Widens, Completes, Goes, part}
use Rattle.rk_defrag.proofs.Runs.{run_turned, run_back, gathered_found, widened, completed}
use Rattle.rk_defrag.proofs.Places.{run_gap}

pub if_ok_map : {T E : Type 0} {P Q : T → Type 0} (r : Result T E) → IfOk r P → ((v : T) → P v → Q v) → IfOk r Q
if_ok_map (Ok v) p f = f v p
if_ok_map (Err e) p f = tt

-- the part of a list within bounds is in order
pub part_ordered : {S : Type 0} (listing : S → Listing Span) (b : Bounding S) → IfSome (listing b.source).held (λ xs. IsTrue (keyed_extents xs)) → IfSome (part listing b).held (λ xs. IsTrue (keyed_extents xs))
part_ordered listing b ordered = bounded-ordered span_takes b.lower b.upper keyed_extents (listing b.source).held spans-part ordered

upto_back : (forward : Bool) (g h : ℕ) → Upto (not forward) g h → Upto forward h g
upto_back true g h u = u
upto_back false g h u = u

-- From the near end of a run on in the other direction, and back to its far end.
pub widens : (xs : List Span) → IsTrue (keyed_extents xs) → (forward : Bool) (n : ℕ) (w w' : WidestSpan) (g h k : ℕ) → g ≡ count_before (span_beside (not forward) (far_end (not forward) w)) xs → ExtendsTo (not forward) n xs w w' g h
    → k ≡ count_before (span_beside forward (far_end forward w')) xs → Widens forward n xs w w' k
widens xs sorted forward n w w' g h k from e to near far run =
    let other : RunOver (not forward) n xs far near w = run_turned forward n xs near far w run in
    let is : near ≡ g = sym (from ∙ run_gap xs sorted (not forward) n far near w other) in
    let at : RunOver (not forward) n xs far g w = subst (λ p. RunOver (not forward) n xs far p w) is other in
    let wide : RunOver forward n xs h far w' = run_back forward n xs h far w' (e.goes.run far at) in
    (record { first = h; on = upto_back forward near h (subst (λ p. Upto (not forward) p h) (sym is) e.goes.on); run = wide; alone = e.ends far at }, to ∙ run_gap xs sorted forward n h far w' wide)

same_some : (x y : ℕ) → ◌≡◌ {A = Option ℕ} (Some x) (Some y) → x ≡ y
same_some x y e = cc

pub widens_if : (h : Option (List Span)) → IfSome h (λ xs. IsTrue (keyed_extents xs)) → (forward : Bool) (n : ℕ) (w w' : WidestSpan) (p q r : Option ℕ)
    → IfSome h (λ xs. p ≡ Some (count_before (span_beside (not forward) (far_end (not forward) w)) xs)) → Goes h p q (λ xs at at'. ExtendsTo (not forward) n xs w w' at at') → is_some q ≡ true
    → IfSome h (λ xs. r ≡ Some (count_before (span_beside forward (far_end forward w')) xs)) → IfSome h (λ xs. IfSome r (Widens forward n xs w w'))
widens_if None sorted forward n w w' p q r from e known to = tt
widens_if (Some xs) sorted forward n w w' p q None from e known to = tt
widens_if (Some xs) sorted forward n w w' None q (Some k) from e known to = cc
widens_if (Some xs) sorted forward n w w' (Some g) None (Some k) from e known to = cc
widens_if (Some xs) sorted forward n w w' (Some g) (Some h) (Some k) from e known to = widens xs sorted forward n w w' g h k (same_some _ _ from) e (same_some _ _ to)

pub completes_wide : (h : Option (List Span)) (forward : Bool) (n : ℕ) (to : List Span → ℕ) (w w' : WidestSpan) (p q : Option ℕ) → IfSome h (λ xs. IfSome q (Widens forward n xs w w')) → Goes h p q (λ xs at at'. Completes forward n xs (to xs) w w' at at')
completes_wide None forward n to w w' p q wide = tt
completes_wide (Some xs) forward n to w w' None q wide = tt
completes_wide (Some xs) forward n to w w' (Some g) None wide = tt
completes_wide (Some xs) forward n to w w' (Some g) (Some k) wide = widened forward n xs (to xs) g k w w' wide

pub completes_same : (h : Option (List Span)) → IfSome h (λ xs. IsTrue (keyed_extents xs)) → (forward : Bool) (n : ℕ) (cut : Cut (List ℕ)) (w : WidestSpan) (p : Option ℕ) → begins_by forward cut w ≡ false
    → Goes h p p (λ xs at at'. Completes forward n xs (count_before (span_takes forward cut) xs) w w at at')
completes_same None sorted forward n cut w p b = tt
completes_same (Some xs) sorted forward n cut w None b = tt
completes_same (Some xs) sorted forward n cut w (Some g) b = completed n xs sorted forward cut g w b

-- what was found from a gap on
pub found_none : (h : Option (List Span)) (forward : Bool) (n : ℕ) (to : List Span → ℕ) (p q : Option ℕ) → IfSome h (λ xs. p ≡ Some (to xs)) → Goes h p q (λ xs from at. Gathered forward n xs from at None) → IfSome h (λ xs. IfSome q (λ at. Found forward n xs (to xs) at None))
found_none None forward n to p q there g = tt
found_none (Some xs) forward n to None q there g = cc
found_none (Some xs) forward n to (Some from) None there g = tt
found_none (Some xs) forward n to (Some from) (Some at) there g = subst (λ k. Found forward n xs k at None) (same_some _ _ there) g

pub found_whole : (h : Option (List Span)) (forward : Bool) (n : ℕ) (to : List Span → ℕ) (w w' : WidestSpan) (p q r : Option ℕ) → IfSome h (λ xs. p ≡ Some (to xs)) → Goes h p q (λ xs from at. Gathered forward n xs from at (Some w)) → is_some q ≡ true
    → Goes h q r (λ xs at at'. Completes forward n xs (to xs) w w' at at') → IfSome h (λ xs. IfSome r (λ at. Found forward n xs (to xs) at (Some w')))
found_whole None forward n to w w' p q r there g known whole = tt
found_whole (Some xs) forward n to w w' None q r there g known whole = cc
found_whole (Some xs) forward n to w w' (Some from) None r there g known whole = cc
found_whole (Some xs) forward n to w w' (Some from) (Some at) None there g known whole = tt
found_whole (Some xs) forward n to w w' (Some from) (Some at) (Some at') there g known whole =
    let here = subst (λ k. Gathered forward n xs k at (Some w)) (same_some _ _ there) g in
    whole here.0 here.1

-- and from one where no run goes on
pub found_alone : (h : Option (List Span)) (forward : Bool) (n : ℕ) (to : List Span → ℕ) (found : Option WidestSpan) (p q : Option ℕ) → IfSome h (λ xs. p ≡ Some (to xs)) → IfSome h (λ xs. crosses n xs (to xs) ≡ false)
    → Goes h p q (λ xs from at. Gathered forward n xs from at found) → IfSome h (λ xs. IfSome q (λ at. Found forward n xs (to xs) at found))
found_alone None forward n to found p q there alone g = tt
found_alone (Some xs) forward n to found None q there alone g = cc
found_alone (Some xs) forward n to found (Some from) None there alone g = tt
found_alone (Some xs) forward n to found (Some from) (Some at) there alone g = gathered_found forward n xs (to xs) at found (subst (λ k. Gathered forward n xs k at found) (same_some _ _ there) g) alone

-- the span of a run that was found
pub found_at : (h : Option (List Span)) (forward : Bool) (n : ℕ) (o : IterOptions) (cut used : Cut (List ℕ)) (run : Option WidestSpan) (found : Option Span) (q : Option ℕ) → used ≡ inner_cut o forward cut → found ≡ option_map (λ w. as_span n (clipped o w)) run
    → IfSome h (λ xs. IfSome q (λ at. Found forward n xs (count_before (span_takes forward used) xs) at run)) → IfSome h (λ xs. IfSome q (λ at. FoundAt forward n o cut xs at found))
found_at None forward n o cut used run found q e is there = tt
found_at (Some xs) forward n o cut used run found None e is there = tt
found_at (Some xs) forward n o cut used run found (Some at) e is there = record { run = run; is = is; there = subst (λ (k : Cut (List ℕ)). Found forward n xs (count_before (span_takes forward k) xs) at run) e there }
