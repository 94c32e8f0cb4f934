-- What the lines of a command file do, one after the other, and what is written for them.
use Rattle.std.specs.Prelude.{◌≡◌, ℕ, ◌⊎◌, false, List, [], ◌∷◌, ◌++◌, map, unwrap_or, Option, Some, None, IsSome, IsTrue}
use Rattle.rk_model.specs.Moves.{Move}
use Rattle.rk_model.specs.Moves as move
use Rattle.rk_model.specs.Named.{named, with_named}
use Rattle.rk_model.specs.Operations.{last}
use Rattle.rk_model.specs.declared.op.Op.{Op}
use Rattle.rk_model.specs.declared.op.Op.TheVariants as op
use Rattle.rk_model.specs.declared.options.IterOptions.{IterOptions}
use Rattle.rk_batch.specs.Checks.{AllPass, IsFirst, checks}
use Rattle.rk_batch.specs.declared.error.BatchError.{BatchError}
use Rattle.rk_machine.specs.State.{State, start, shape_of}
use Rattle.rk_machine.specs.Events.{Event, Commit as commits, Snap as snaps, Release as releases, OpenAt, Moves, Close as closes, Reply, Committed}
use Rattle.rk_machine.specs.Iterators.{without_named}
use Rattle.rk_machine.specs.Machine.{Step}
use Rattle.rk_script.specs.Script.{Names, is_accepted, names_after}
use Rattle.rk_script.specs.declared.line.Event.{Event as LineEvent}
use Rattle.rk_script.specs.declared.line.Event.TheVariants.{Put, Del, RangeSet, RangeUnset, RangeDel, Commit, Snap, Release, Iter, First, Last, Next, Prev, SeekGe, SeekLt, Close, Shape}
use Rattle.rk_script.specs.declared.line.Line.{Line}
use Rattle.rk_program.specs.Replies.{refused_text, reply_text, shape_text}

-- The state of the machine, the batch of each writer, and the number of each snapshot
pub record SessionState : Type 0 where
  pub state : State
  pub batches : List (List ℕ × List Op)
  pub snapshots : List (List ℕ × ℕ)

abbrev pub begin : SessionState
begin = record { state = start; batches = []; snapshots = [] }

-- a writer's batch is empty at its first use
abbrev pub batch_of : List ℕ → SessionState → List Op
batch_of writer s = unwrap_or (named writer s.batches) []

-- a writer's batch is this from now on, and its name is in use
abbrev pub with_batch : List ℕ → List Op → SessionState → SessionState
with_batch writer ops s = record s { batches = with_named writer ops s.batches }

-- Where all checks pass, the operation is added and nothing is written. Else the first check that fails is told, and
-- the batch stays.
abbrev pub DoesOp : SessionState → List ℕ → Op → List ℕ → SessionState → Type 0
DoesOp s writer op text s' =
    let ops = batch_of writer s in
    (AllPass (checks ops op) × (text ≡ []) × (s' ≡ with_batch writer (ops ++ op ∷ []) s))
    ⊎ ((error : BatchError) × IsFirst (checks ops op) error × (text ≡ refused_text writer error) × (s' ≡ with_batch writer ops s))

-- An event of the machine, whose reply is written under a name; the batches and the snapshots are these afterwards. A
-- reply without a text is no line's: it ends the run.
abbrev pub DoesEvent : SessionState → List ℕ → Event → List (List ℕ × List Op) → List (List ℕ × ℕ) → List ℕ → SessionState → Type 0
DoesEvent s name event batches snapshots text s' = (reply : Reply)
    × Step s.state event reply s'.state
    × (reply_text name reply ≡ Some text)
    × (s'.batches ≡ batches)
    × (s'.snapshots ≡ snapshots)

-- a commit clears its batch, and one that is refused leaves it
abbrev pub left_by : Reply → List Op → List Op
left_by (Committed first last) ops = []
left_by other ops = ops

abbrev pub DoesCommit : SessionState → List ℕ → List ℕ → SessionState → Type 0
DoesCommit s writer text s' =
    let ops = batch_of writer s in
    (reply : Reply)
    × Step s.state (commits ops false) reply s'.state
    × (reply_text writer reply ≡ Some text)
    × (s'.batches ≡ with_named writer (left_by reply ops) s.batches)
    × (s'.snapshots ≡ s.snapshots)

-- the number of the snapshot that an opening names, or none
abbrev pub IsTime : SessionState → Option (List ℕ) → Option ℕ → Type 0
IsTime s None number = number ≡ None
IsTime s (Some name) number = (named name s.snapshots ≡ number) × IsSome number

abbrev pub DoesOpening : SessionState → List ℕ → Option (List ℕ) → IterOptions → List ℕ → SessionState → Type 0
DoesOpening s name at options text s' = (number : Option ℕ)
    × IsTime s at number
    × DoesEvent s name (OpenAt name number options) s.batches s.snapshots text s'

abbrev pub DoesMove : SessionState → List ℕ → Move → List ℕ → SessionState → Type 0
DoesMove s iter step text s' = DoesEvent s iter (Moves iter step) s.batches s.snapshots text s'

-- What a line does. All but the lines on batches are each one event of the machine, or tell of its state.
abbrev pub Does : SessionState → LineEvent → List ℕ → SessionState → Type 0
Does s (Put writer key value) text s' = DoesOp s writer (op.Put key value) text s'
Does s (Del writer key) text s' = DoesOp s writer (op.Del key) text s'
Does s (RangeSet writer start end suffix value) text s' = DoesOp s writer (op.RangeSet start end suffix value) text s'
Does s (RangeUnset writer start end suffix) text s' = DoesOp s writer (op.RangeUnset start end suffix) text s'
Does s (RangeDel writer start end) text s' = DoesOp s writer (op.RangeDel start end) text s'
Does s (Commit writer) text s' = DoesCommit s writer text s'
Does s (Snap name) text s' = DoesEvent s name snaps s.batches (s.snapshots ++ (name, last s.state.history) ∷ []) text s'
Does s (Release name) text s' = (number : ℕ)
    × (named name s.snapshots ≡ Some number)
    × DoesEvent s name (releases number) s.batches (without_named name s.snapshots) text s'
Does s (Iter name at lower upper mask) text s' = DoesOpening s name at (record { lower = lower; upper = upper; mask = mask }) text s'
Does s (First iter) text s' = DoesMove s iter move.First text s'
Does s (Last iter) text s' = DoesMove s iter move.Last text s'
Does s (Next iter) text s' = DoesMove s iter move.Next text s'
Does s (Prev iter) text s' = DoesMove s iter move.Prev text s'
Does s (SeekGe iter key) text s' = DoesMove s iter (move.SeekGe key) text s'
Does s (SeekLt iter key) text s' = DoesMove s iter (move.SeekLt key) text s'
Does s (Close iter) text s' = DoesEvent s iter (closes iter) s.batches s.snapshots text s'
Does s Shape text s' = (text ≡ shape_text (shape_of s.state)) × (s' ≡ s)

-- what is written for lines, one after the other
abbrev pub IsTranscript : SessionState → List Line → List ℕ → SessionState → Type 0
IsTranscript s [] text s' = (text ≡ []) × (s' ≡ s)
IsTranscript s (line ∷ lines) text s' = (first : List ℕ) × (rest : List ℕ) × (between : SessionState)
    × Does s line.event first between
    × IsTranscript between lines rest s'
    × (text ≡ first ++ rest)

-- the names that are in use
abbrev pub names_of : SessionState → Names
names_of s = record {
  writers = map (λ b. b.0) s.batches;
  snapshots = map (λ x. x.0) s.snapshots;
  iterators = map (λ i. i.0) s.state.iterators;
}

-- each line is one that the names before it let stand
abbrev pub AreAccepted : Names → List Line → Type 0
AreAccepted names [] = Unit {0}
AreAccepted names (line ∷ lines) = IsTrue (is_accepted names line.event) × AreAccepted (names_after names line.event) lines
