-- What an iterator over pinned chunks shows.
use Rattle.std.specs.Prelude.{◌≡◌, ℕ, Bool, List, Option, is_some, Result, OnOk, OnErr, IfOk, IfErr}
use Rattle.rk_outside.specs.declared.error.SourceError.{SourceError}
use Rattle.rk_outside.specs.declared.error.SourceError.TheVariants.{Memory}
use Rattle.rk_model.specs.Covers.{upto}
use Rattle.rk_model.specs.Spans.{WidestSpan}
use Rattle.rk_model.specs.Moves.{Move, View, after_move, key_at, reported_value, reported_span}
use Rattle.rk_model.specs.declared.op.Entry.{Entry}
use Rattle.rk_model.specs.declared.options.IterOptions.{IterOptions}
use Rattle.rk_model.specs.declared.cursor.Cursor.{Cursor}
use Rattle.rk_merge_laws.specs.Chunks.{all_of, NumbersDifferOver}

-- The entries of each chunk, the number up to which they are read, the options, and what is lent: the cursor, the
-- value of the point there, the span there, and whether the last move changed it.
pub record Iterating : Type 0 where
  pub chunks : List (List Entry)
  pub number : ℕ
  pub options : IterOptions
  pub cursor : Cursor
  pub value : Option (List ℕ)
  pub span : Option WidestSpan
  pub changed : Bool

-- it sees the entries of all chunks up to its number
abbrev pub view_of : Iterating → View
view_of it = record { sees = upto it.number (all_of it.chunks); options = it.options; cursor = it.cursor; changed = it.changed }

-- A move. Where it is well it leads to where the definition says, and what is lent is what is reported there, if over
-- each key no two entries have one number. Where it is refused, all stays, and memory was wanting.
pub record Moves (it it' : Iterating) (move : Move) (result : Result Bool SourceError) : Type 0 where
  pub entries : it'.chunks ≡ it.chunks
  pub number : it'.number ≡ it.number
  pub options : it'.options ≡ it.options
  pub moved : OnOk result (NumbersDifferOver it.chunks → view_of it' ≡ after_move (view_of it) move)
  pub reports : OnOk result (NumbersDifferOver it.chunks → (it'.value ≡ reported_value (view_of it')) × (it'.span ≡ reported_span (view_of it')))
  pub answer : IfOk result (λ there. there ≡ is_some (key_at it'.cursor))
  pub stays : OnErr result (it' ≡ it)
  pub memory : IfErr result (λ e. e ≡ Memory)
