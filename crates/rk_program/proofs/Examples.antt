-- Worked examples: steps of the machine, and small files with what is written for them and the states between.
use Rattle.std.proofs.Common.{◌≡◌, ℕ, ◌≤◌, false, List, [], ◌∷◌, Some, None, Ok, length, ◌*◌, refl, arith, inl, inr, codes}
use Rattle.std.specs.Fmt.{digits}
use Rattle.rk_key.specs.Keys.{IsKey}
use Rattle.rk_model.specs.Moves.{opened_over, after_move}
use Rattle.rk_model.specs.Moves as move
use Rattle.rk_model.specs.declared.op.Op.{Op}
use Rattle.rk_model.specs.declared.op.Op.TheVariants as op
use Rattle.rk_model.specs.declared.options.IterOptions.{IterOptions}
use Rattle.rk_batch.specs.declared.error.BatchError.TheVariants.{EmptySpan}
use Rattle.rk_outside.specs.declared.error.StoreError.TheVariants.{EmptyBatch, MemFull}
use Rattle.rk_machine.specs.State.{State, start, Open, shape_of}
use Rattle.rk_machine.specs.Events.{Event as MachineEvent, Commit as Commits, Release as Releases, Reply, Committed, Number, Released, Opened, Stands, Closed, Refused}
use Rattle.rk_machine.specs.Faults.{is_fault, RoseIf}
use Rattle.rk_machine.specs.Machine.{IsAllowed, Answers, Step, counted}
use Rattle.rk_program.specs.Replies.{reply_text, shape_text}
use Rattle.rk_script.specs.Script.{script}
use Rattle.rk_script.specs.declared.line.Event.TheVariants.{Put, RangeSet, Commit, Snap, Release, Iter, First, Close}
use Rattle.rk_script.specs.declared.line.Line.{Line}
use Rattle.rk_program.specs.Transcript.{SessionState, begin, IsTranscript}

-- no fault
none : 0 ≤ 0
none = omega arith

step : {m : State} {event : MachineEvent} {reply : Reply} {m' : State} → IsAllowed m event → m.faults ≤ m'.faults → RoseIf (is_fault reply) m.faults m'.faults
    → Answers (counted m'.faults m) event reply m' → Step m event reply m'
step allowed later told answer = record { allowed = allowed; count = record { later = later; told = told }; answer = answer }

a_commit_of_nothing_is_refused : Step start (Commits [] false) (Refused EmptyBatch) start
a_commit_of_nothing_is_refused = step tt none tt (refl, refl)

-- two snapshots may have one number, and one of them is given up at a time
a_release_takes_one_of_two : Step (record start { live = 0 ∷ 0 ∷ [] }) (Releases 0) Released (record start { live = 0 ∷ [] })
a_release_takes_one_of_two = step tt none tt (inl (refl, (([], 0 ∷ [], refl, refl), refl)))

abbrev no_options : IterOptions
no_options = record { lower = None; upper = None; mask = None }

-- Snapshots and an iterator of a store without operations.

abbrev snapshots : List Line
snapshots =
    record { number = 1; event = Commit (codes "w") } ∷ record { number = 2; event = Snap (codes "s") }
    ∷ record { number = 3; event = Snap (codes "t") } ∷ record { number = 4; event = Release (codes "s") }
    ∷ record { number = 5; event = Iter (codes "i") (Some (codes "t")) None None None }
    ∷ record { number = 6; event = First (codes "i") } ∷ record { number = 7; event = Close (codes "i") } ∷ []

snapshots_are_read : script (codes "commit w\nsnap s\nsnap t\nrelease s\niter i at t\nfirst i\nclose i") ≡ Ok snapshots
snapshots_are_read = refl

abbrev fresh : Open
fresh = record { number = 0; view = opened_over [] no_options }

abbrev moved : Open
moved = record { number = 0; view = after_move (opened_over [] no_options) move.First }

-- the state with these snapshots and iterators, where no commit was done
abbrev with_these : List (List ℕ × ℕ) → List ℕ → List (List ℕ × Open) → SessionState
with_these snapshots live iterators = record {
  state = record start { live = live; iterators = iterators };
  batches = (codes "w", []) ∷ [];
  snapshots = snapshots;
}

snapshots_are_told : IsTranscript begin snapshots (codes "w refused EmptyBatch\ns at 0\nt at 0\ns released\ni open at 0\ni end\ni closed\n")
    (with_these ((codes "t", 0) ∷ []) (0 ∷ []) [])
unfolding digits
snapshots_are_told = (
  _,
  _,
  with_these [] [] [],
  (Refused EmptyBatch, step tt none tt (refl, refl), refl, refl, refl),
  (
    _,
    _,
    with_these ((codes "s", 0) ∷ []) (0 ∷ []) [],
    (Number 0, step tt none tt (inl (refl, refl)), refl, refl, refl),
    (
      _,
      _,
      with_these ((codes "s", 0) ∷ (codes "t", 0) ∷ []) (0 ∷ 0 ∷ []) [],
      (Number 0, step tt none tt (inl (refl, refl)), refl, refl, refl),
      (
        _,
        _,
        with_these ((codes "t", 0) ∷ []) (0 ∷ []) [],
        (0, refl, (Released, step tt none tt (inl (refl, (([], 0 ∷ [], refl, refl), refl))), refl, refl, refl)),
        (
          _,
          _,
          with_these ((codes "t", 0) ∷ []) (0 ∷ []) ((codes "i", fresh) ∷ []),
          (Some 0, (refl, refl), (Opened 0, step refl none tt (inl (refl, refl)), refl, refl, refl)),
          (
            _,
            _,
            with_these ((codes "t", 0) ∷ []) (0 ∷ []) ((codes "i", moved) ∷ []),
            (Stands moved, step refl none tt (inl (fresh, refl, refl, refl)), refl, refl, refl),
            (_, _, with_these ((codes "t", 0) ∷ []) (0 ∷ []) [], (Closed, step refl none tt (inl (refl, refl)), refl, refl, refl), (refl, refl), refl),
            refl,
          ),
          refl,
        ),
        refl,
      ),
      refl,
    ),
    refl,
  ),
  refl,
)

-- A refused line, and a point.

abbrev point : List Line
point =
    record { number = 1; event = RangeSet (codes "w") (codes "b") (codes "b") (codes "@1") (codes "x") }
    ∷ record { number = 2; event = Put (codes "w") (codes "a") (codes "p") } ∷ record { number = 3; event = Commit (codes "w") }
    ∷ record { number = 4; event = Iter (codes "i") None None None None } ∷ record { number = 5; event = First (codes "i") } ∷ []

point_is_read : script (codes "rset w b b @1 x\nput w a p\ncommit w\niter i\nfirst i") ≡ Ok point
point_is_read = refl

abbrev put : Op
put = op.Put (codes "a") (codes "p")

abbrev fresh_at_1 : Open
fresh_at_1 = record { number = 1; view = opened_over (record { op = put; seq = 1 } ∷ []) no_options }

abbrev moved_at_1 : Open
moved_at_1 = record { number = 1; view = after_move (opened_over (record { op = put; seq = 1 } ∷ []) no_options) move.First }

-- the state with this history, batch of w, and iterators
abbrev with_batch_of : List (List Op) → List Op → List (List ℕ × Open) → SessionState
with_batch_of history batch iterators = record {
  state = record start {
    history = history;
    iterators = iterators;
    memory = record { active = length history * 9; frozen = 0 };
    log = record { synced = 0; pending = length history * 9; lost = None };
  };
  batches = (codes "w", batch) ∷ [];
  snapshots = [];
}

a_is_key : IsKey (codes "a")
a_is_key = record { some = omega arith; few = omega arith; suffix = tt }

b_is_key : IsKey (codes "b")
b_is_key = record { some = omega arith; few = omega arith; suffix = tt }

point_is_told : IsTranscript begin point (codes "w refused EmptySpan\nw committed 1 to 1\ni open at 1\ni at a point p\n")
    (with_batch_of ((put ∷ []) ∷ []) [] ((codes "i", moved_at_1) ∷ []))
unfolding digits
point_is_told = (
  _,
  _,
  with_batch_of [] [] [],
  inr (EmptySpan, inr (b_is_key, inr (refl, inr (b_is_key, inr (refl, inl (refl, λ h. cc))))), refl, refl),
  (
    _,
    _,
    with_batch_of [] (put ∷ []) [],
    inl ((a_is_key, (omega arith, (omega arith, (omega arith, tt)))), refl, refl),
    (
      _,
      _,
      with_batch_of ((put ∷ []) ∷ []) [] [],
      (Committed 1 1, step tt none tt (inl (refl, refl)), refl, refl, refl),
      (
        _,
        _,
        with_batch_of ((put ∷ []) ∷ []) [] ((codes "i", fresh_at_1) ∷ []),
        (None, refl, (Opened 1, step refl none tt (inl (refl, refl)), refl, refl, refl)),
        (_, _, with_batch_of ((put ∷ []) ∷ []) [] ((codes "i", moved_at_1) ∷ []), (Stands moved_at_1, step refl none tt (inl (fresh_at_1, refl, refl, refl)), refl, refl, refl), (refl, refl), refl),
        refl,
      ),
      refl,
    ),
    refl,
  ),
  refl,
)

-- Sizes, and a memtable without room.

sizes_are_told : shape_text (shape_of (record start { memory = record { active = 9; frozen = 0 } })) ≡ codes "shape active 9 frozen 0 l0 0 l1 0 l2 0 l3 0\n"
unfolding digits
sizes_are_told = refl

no_room_is_told : reply_text (codes "w") (Refused (MemFull 4162552 31753)) ≡ Some (codes "w refused MemFull 4162552 31753\n")
unfolding digits
no_room_is_told = refl
