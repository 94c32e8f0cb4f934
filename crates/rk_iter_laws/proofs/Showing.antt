-- An iterator over chunks stays where the machine's iterator is.
use Rattle.std.proofs.Common.{◌≡◌, ℕ, Bool, List, Ok, refl, ap, sym, subst, ◌∙◌}
use Rattle.std.specs.Prelude.{option_and_then}
use Rattle.rk_model.specs.Covers.{upto}
use Rattle.rk_model.specs.Moves.{Move, View, after_move, reported}
use Rattle.rk_model.specs.declared.op.Entry.{Entry}
use Rattle.rk_model.specs.declared.options.IterOptions.{IterOptions}
use Rattle.rk_laws.specs.SameCells.{GiveSameCells, AtKeyWithin, SeeksKey}
use Rattle.rk_laws.proofs.Moved.{views_of_cells, moves_to_keys}
use Rattle.rk_merge_laws.specs.Chunks.{all_of, NumbersDifferOver}
use Rattle.rk_machine.specs.State.{Open}
use Rattle.rk_machine.specs.Iterators.{moved_on}
use Rattle.rk_iter.specs.Iterating.{Iterating, view_of, Moves}
use Rattle.rk_iter_laws.specs.Showing.{IsAt, OpensAlike, MovesAlike}

pub opens_alike : OpensAlike
opens_alike pins es o differ cells = record {
  number = refl;
  options = refl;
  cursor = refl;
  changed = refl;
  differ = differ;
  cells = cells;
  within = tt;
  value = refl;
  span = refl;
}

-- what is seen, by iterators of the same options
abbrev AlikeOver : IterOptions → List Entry → ℕ → List (List Entry) → Type 0
AlikeOver o es n chunks = GiveSameCells (upto n (all_of chunks)) es o

module _ (it it' : Iterating) (at : Open) (move : Move) (there : Bool) (a : IsAt it at) (seeks : SeeksKey move) (m : Moves it it' move (Ok there)) where
  abbrev es : List Entry
  es = upto it.number (all_of it.chunks)

  -- the other iterator, as this one has its options and its cursor
  abbrev beside : View
  beside = record { sees = at.view.sees; options = it.options; cursor = it.cursor; changed = it.changed }

  is_beside : beside ≡ at.view
  is_beside = λ i. record { sees = at.view.sees; options = a.options i; cursor = a.cursor i; changed = a.changed i }

  moved : view_of it' ≡ after_move (view_of it) move
  moved = m.moved a.differ

  alike : let v = after_move (view_of it) move in let w = after_move beside move in (v.cursor ≡ w.cursor) × (v.changed ≡ w.changed) × (reported v ≡ reported w)
  alike = views_of_cells es at.view.sees it.options a.cells it.cursor it.changed a.within move seeks

  other : after_move beside move ≡ after_move at.view move
  other = ap (λ v. after_move v move) is_beside

  shown : reported (view_of it') ≡ reported (after_move at.view move)
  shown = ap reported moved ∙ alike.2 ∙ ap reported other

  cells : AlikeOver it'.options at.view.sees it'.number it'.chunks
  cells =
      subst (λ o. AlikeOver o at.view.sees it'.number it'.chunks) (sym m.options)
      (subst (λ n. AlikeOver it.options at.view.sees n it'.chunks) (sym m.number)
      (subst (λ chunks. AlikeOver it.options at.view.sees it.number chunks) (sym m.entries) a.cells))

  within : AtKeyWithin it'.options it'.cursor
  within =
      subst (λ o. AtKeyWithin o it'.cursor) (sym m.options)
      (subst (λ c. AtKeyWithin it.options c) (sym (ap (λ v. v.cursor) moved))
      (moves_to_keys es it.options a.cells.covered.first a.cells.covered.bounds it.cursor move seeks))

  after : IsAt it' (moved_on at move)
  after = record {
    number = m.number ∙ a.number;
    options = m.options ∙ a.options;
    cursor = ap (λ v. v.cursor) moved ∙ alike.0 ∙ ap (λ v. v.cursor) other;
    changed = ap (λ v. v.changed) moved ∙ alike.1 ∙ ap (λ v. v.changed) other;
    differ = subst (λ chunks. NumbersDifferOver chunks) (sym m.entries) a.differ;
    cells = cells;
    within = within;
    value = (m.reports a.differ).0 ∙ ap (option_and_then (λ r. r.value)) shown;
    span = (m.reports a.differ).1 ∙ ap (option_and_then (λ r. r.span)) shown;
  }

pub moves_alike : MovesAlike
moves_alike it it' at move result there is a seeks m = after it it' at move there a seeks (subst (λ r. Moves it it' move r) is m)
