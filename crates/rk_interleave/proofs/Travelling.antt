-- From where the sources are placed to where the nearest position is seen.
use Rattle.std.proofs.Common.{◌≡◌, ℕ, Bool, true, false, not, ◌&&◌, List, Option, Some, None, Result, Ok, Err, refl, subst, if◌then◌else◌}
use Rattle.std.specs.Prelude.{IfOk}
use Rattle.std.specs.Option.{option_map}
use Rattle.rk_outside.specs.declared.error.SourceError.{SourceError}
use Rattle.rk_laws.proofs.Order.{key_total, lt_back}
use Rattle.rk_model.specs.Cuts.{gap_on}
use Rattle.rk_model.specs.Items.{point_takes, span_takes}
use Rattle.rk_model.specs.Standings.{Listing, Standing, IsTold}
use Rattle.rk_model.specs.declared.op.Entry.{Entry}
use Rattle.rk_model.specs.declared.span.Span.{Span}
use Rattle.rk_model.specs.declared.options.IterOptions.{IterOptions}
use Rattle.rk_model.specs.declared.cut.Cut.{Cut}
use Rattle.rk_model.specs.declared.cut.Cut.TheVariants.{Below, Past}
use Rattle.rk_interleave.specs.Settling.{Arrives, GoesOver, point_gap, cut_gap, is_stepped_over, open_span, has_begun, is_left}
use Rattle.rk_interleave.proofs.Cutting.{not_is}
use Rattle.rk_interleave.specs.Standing.{Travels, IsAtKey}

module _ (forward passes : Bool) (cut : Cut (List ℕ)) (o : IterOptions) (l l' l'' : Listing Entry) (k k' k'' : Listing Span) (s at s' : Standing Entry) (t on t' : Standing Span)
    (placed : Arrives {T = Unit {0}} l l' at forward (point_gap passes (point_takes cut) s) (Ok tt)) (spread : Arrives {T = Unit {0}} k k' on forward (cut_gap passes forward (span_takes forward cut) t) (Ok tt)) (told : IsTold k' on) where
  abbrev pub travelled : (v : Bool)
      → GoesOver forward (is_stepped_over forward cut o (open_span forward cut on.here)) l' at s' (Ok v)
      → Arrives k' k'' t' forward (λ ss. option_map (λ g. if is_left forward cut on.here s'.here then gap_on true g else g) on.gap) (Ok v)
      → v ≡ (has_begun forward cut on.here && not (is_left forward cut on.here s'.here))
      → Travels forward passes cut o l k s s' t t' v
  travelled v over moved begins = record {
    at = at;
    on = on;
    told = subst (λ m. IsTold m on) spread.same told;
    faces = spread.faces;
    points_placed = placed.there;
    spans_placed = spread.there;
    between = rw placed.same at over.between;
    seen = over.seen;
    moved = rw spread.same at moved.there;
    begins = begins;
  }

  pub travels_of : (result : Result Bool SourceError)
      → GoesOver forward (is_stepped_over forward cut o (open_span forward cut on.here)) l' at s' result
      → Arrives k' k'' t' forward (λ ss. option_map (λ g. if is_left forward cut on.here s'.here then gap_on true g else g) on.gap) result
      → IfOk result (λ begun. begun ≡ (has_begun forward cut on.here && not (is_left forward cut on.here s'.here)))
      → IfOk result (λ begun. Travels forward passes cut o l k s s' t t' begun)
  travels_of (Err e) over moved begins = tt
  travels_of (Ok v) over moved begins = travelled v over moved begins

-- where no span is over the key, none has begun below it
pub not_begun : (key : List ℕ) (here : Option Span) → has_begun true (Past key) here ≡ false → has_begun true (Below key) here ≡ false
not_begun key None e = refl
not_begun key (Some s) e = lt_back key_total key s.start (not_is _ false e)

pub at_key : (key : List ℕ) (l l' : Listing Entry) (k k' : Listing Span) (s at : Standing Entry) (t on : Standing Span) → Arrives {T = Unit {0}} l l' at true (point_gap false (point_takes (Below key)) s) (Ok tt) → Arrives {T = Unit {0}} k k' on true (cut_gap false true (span_takes true (Below key)) t) (Ok tt)
    → has_begun true (Past key) on.here ≡ true → IsAtKey key l k at on
at_key key l l' k k' s at t on placed spread over = record { points = placed.there; spans = spread.there; over = over }
