-- What is done, and what is answered.
use Rattle.std.specs.Prelude.{ℕ, Bool, List, Option}
use Rattle.rk_model.specs.Moves.{Move}
use Rattle.rk_model.specs.declared.op.Op.{Op}
use Rattle.rk_model.specs.declared.options.IterOptions.{IterOptions}
use Rattle.rk_outside.specs.declared.error.StoreError.{StoreError}
use Rattle.rk_outside.specs.declared.error.SourceError.{SourceError}
use Rattle.rk_machine.specs.State.{Open}

-- One call, with the names that the caller gives to iterators
pub data Event : Type 0 where
  Commit : (ops : List Op) (sync : Bool) → Event
  Sync : Event
  Snap : Event
  Release : (number : ℕ) → Event
  OpenAt : (name : List ℕ) (at : Option ℕ) (options : IterOptions) → Event
  Moves : (name : List ℕ) (move : Move) → Event
  Close : (name : List ℕ) → Event
  CloseCore : Event

-- A call of the store is refused with the store's error, and a move with that of a source.
pub data Reply : Type 0 where
  Committed : (first last : ℕ) → Reply
  Synced : (number : ℕ) → Reply
  Number : (number : ℕ) → Reply
  Released : Reply
  Opened : (number : ℕ) → Reply
  Stands : (at : Open) → Reply
  Closed : Reply
  CoreClosed : Reply
  Refused : (error : StoreError) → Reply
  Unmoved : (error : SourceError) → Reply
