-- A move of what an iterator over chunks has inside is a move of the iterator.
use Rattle.std.proofs.Common.{◌≡◌, ℕ, Bool, false, List, Ok, Err, refl, ap, sym, subst, ◌∙◌, arith}
use Rattle.std.specs.Prelude.{Result, option_and_then}
use Rattle.rk_outside.specs.Causes.{HasSourceCause, IsSourceRefusal}
use Rattle.rk_outside.specs.declared.error.SourceError.{SourceError}
use Rattle.rk_outside.specs.declared.error.SourceError.TheVariants.{Memory, ReadFault, BadTable}
use Rattle.rk_model.specs.Covers.{upto}
use Rattle.rk_model.specs.Moves.{Move, View, after_move, reported, reported_value, reported_span}
use Rattle.rk_model.specs.Standings.{Listing}
use Rattle.rk_model.specs.declared.op.Entry.{Entry}
use Rattle.rk_model.specs.declared.span.Span.{Span}
use Rattle.rk_model.specs.declared.options.IterOptions.{IterOptions}
use Rattle.rk_model.specs.declared.cursor.Cursor.{Cursor}
use Rattle.rk_laws.specs.SameCells.{SeeksKey, AtKeyWithin}
use Rattle.rk_laws.proofs.Moved.{views_of_cells, moves_to_keys}
use Rattle.rk_span_laws.specs.Given.{given}
use Rattle.rk_merge_laws.specs.Chunks.{all_of, NumbersDifferOver}
use Rattle.rk_merge_laws.specs.Cells.{visible_within, joined_within, SourcesGive}
use Rattle.rk_interleave.specs.Interleaving.{Interleaving, IsOver, view_of as view_over, some_name, Moves as Interleaves}
use Rattle.rk_iter.specs.Iterating.{Iterating, view_of, Moves}
use Rattle.rk_iter.specs.Inside.{IsInside}
use Rattle.rk_iter.proofs.Over.{is_over, none_named}
use Rattle.rk_merge_laws.proofs.Cells.{given_has_the_cells}

-- where nothing is read and nothing named, memory alone is refused
memory_alone : (may_name : ℕ → ℕ → Bool) → ((file at : ℕ) → may_name file at ≡ false) → (e : SourceError) → IsSourceRefusal may_name 0 0 e → e ≡ Memory
memory_alone may_name none Memory h = refl
memory_alone may_name none (ReadFault faults) h = absurd (let rose = h.1 in omega (arith, rose))
memory_alone may_name none (BadTable file at) h = absurd (let named = h.0 in let not_named = none file at in cc)

abbrev view : List Entry → IterOptions → Cursor → Bool → View
view es o c b = record { sees = es; options = o; cursor = c; changed = b }

same_view : (es : List Entry) (o o' : IterOptions) (c c' : Cursor) (b b' : Bool) → o' ≡ o → c' ≡ c → b' ≡ b
    → view es o' c' b' ≡ view es o c b
same_view es o o' c c' b b' p q r = λ i. record { sees = es; options = p i; cursor = q i; changed = r i }

-- what two iterators show is the same
abbrev ShowSame : View → View → Type 0
ShowSame v w = (v.cursor ≡ w.cursor) × (v.changed ≡ w.changed) × (reported v ≡ reported w)

-- an iterator over chunks with something inside
abbrev pub over : {P S : Type 0} → List (List Entry) → ℕ → Interleaving P S → Iterating
over chunks n m = record { chunks = chunks; number = n; options = m.options; cursor = m.cursor; value = m.value; span = m.span; changed = m.changed }

module _ {P S : Type 0} (listing : P → Listing Entry) (spread : S → Listing Span) (chunks : List (List Entry)) (n : ℕ) (m m' : Interleaving P S) where
  abbrev pub Holds : Interleaving P S → Type 0
  Holds k = IsInside chunks n k.options (listing k.points) (spread k.spans) k.cursor

  module _ (move : Move) (inside : Holds m) (seeks : SeeksKey move) where
    module _ (there : Bool) (h : Interleaves listing spread m m' move (Ok there)) (differ : NumbersDifferOver chunks) where
      gives : SourcesGive n m.options chunks
      gives = given_has_the_cells n m.options chunks inside.bounds inside.told differ

      abbrev es : List Entry
      es = given (visible_within n m.options chunks) (joined_within n m.options chunks)

      abbrev fs : List Entry
      fs = upto n (all_of chunks)

      abbrev before : View
      before = view fs m.options m.cursor m.changed

      shows : IsOver m.options (listing m.points) (spread m.spans) es
      shows = is_over n m.options chunks (listing m.points) (spread m.spans) inside.points inside.spans gives

      same : ShowSame (after_move (view_over es m) move) (after_move before move)
      same = views_of_cells es fs m.options gives.cells m.cursor m.changed (inside.within differ) move seeks

      cursor_is : m'.cursor ≡ (after_move before move).cursor
      cursor_is = ap (λ (v : View). v.cursor) (h.moved es shows) ∙ same.0

      goes_there : view_of (over chunks n m') ≡ after_move (view_of (over chunks n m)) move
      goes_there = same_view fs m.options m'.options _ m'.cursor _ m'.changed h.options cursor_is (ap (λ (v : View). v.changed) (h.moved es shows) ∙ same.1)

      one_report : reported (view_over es m') ≡ reported (view_of (over chunks n m'))
      one_report = ap (λ (v : View). reported v) (h.moved es shows) ∙ same.2 ∙ ap (λ (v : View). reported v) (sym goes_there)

      lends_them : (m'.value ≡ reported_value (view_of (over chunks n m'))) × (m'.span ≡ reported_span (view_of (over chunks n m')))
      lends_them =
          let lends = h.lends es shows in
          (lends.value ∙ ap (λ r. option_and_then (λ x. x.value) r) one_report, lends.span ∙ ap (λ r. option_and_then (λ x. x.span) r) one_report)

      stays_within : AtKeyWithin m.options m'.cursor
      stays_within = subst (λ c. AtKeyWithin m.options c) (sym cursor_is) (moves_to_keys fs m.options gives.cells.covered.second inside.bounds m.cursor move seeks)

    holds_with : {result : Result Bool SourceError} → Interleaves listing spread m m' move result → (NumbersDifferOver chunks → AtKeyWithin m.options m'.cursor) → Holds m'
    holds_with h within =
        subst (λ o. IsInside chunks n o (listing m'.points) (spread m'.spans) m'.cursor) (sym h.options) (record {
          told = inside.told;
          bounds = inside.bounds;
          points = h.points ∙ inside.points;
          spans = h.spans ∙ inside.spans;
          within = within;
        })

    -- what is inside still holds
    pub holds_on : (result : Result Bool SourceError) → Interleaves listing spread m m' move result → Holds m'
    holds_on (Ok there) h = holds_with h (λ differ. stays_within there h differ)
    holds_on (Err e) h = holds_with h (λ differ. subst (λ c. AtKeyWithin m.options c) (sym (ap (λ t. t.0) h.stays)) (inside.within differ))

    -- and the iterator has moved so
    pub moves_on : (result : Result Bool SourceError) → Interleaves listing spread m m' move result → HasSourceCause (some_name (listing m.points) (spread m.spans)) 0 0 result
        → Moves (over chunks n m) (over chunks n m') move result
    moves_on (Ok there) h cause = record {
      entries = refl;
      number = refl;
      options = h.options;
      moved = goes_there there h;
      reports = lends_them there h;
      answer = h.answer;
      stays = tt;
      memory = tt;
    }
    moves_on (Err e) h cause = record {
      entries = refl;
      number = refl;
      options = h.options;
      moved = tt;
      reports = tt;
      answer = tt;
      stays = λ i. record { chunks = chunks; number = n; options = h.options i; cursor = (h.stays i).0; value = (h.stays i).1; span = (h.stays i).2; changed = (h.stays i).3 };
      memory = memory_alone (some_name (listing m.points) (spread m.spans)) (none_named n m.options chunks (listing m.points) (spread m.spans) inside.points inside.spans) e cause.failed;
    }
