-- A worked example: a run of the machine, in which an iterator goes on seeing what its snapshot does. Each step is
-- computed.
use Rattle.std.proofs.Common.{◌≡◌, ℕ, ◌≤◌, true, false, List, [], ◌∷◌, Some, None, refl, arith, inl, inr}
use Rattle.std.specs.Prelude.{codes}
use Rattle.rk_model.specs.Moves.{First, Next}
use Rattle.rk_model.specs.declared.cursor.Cursor.TheVariants.{At, End}
use Rattle.rk_model.specs.declared.op.Op.{Op}
use Rattle.rk_model.specs.declared.op.Op.TheVariants.{Put}
use Rattle.rk_model.specs.declared.options.IterOptions.{IterOptions}
use Rattle.rk_outside.specs.declared.error.StoreError.TheVariants.{EmptyBatch, NoSnap, MemFull, Halted, WriteFault}
use Rattle.rk_machine.specs.State.{Open, Log, State, start}
use Rattle.rk_machine.specs.Events.{Event, Commit, Sync, Snap, Release, OpenAt, Moves, Close, Reply, Committed, Synced, Number, Released, Opened, Stands, Closed, Refused}
use Rattle.rk_machine.specs.Commits.{after_commit, commit_due, written}
use Rattle.rk_machine.specs.Snapshots.{if_not_live}
use Rattle.rk_machine.specs.Iterators.{opened, moved_on}
use Rattle.rk_machine.specs.Faults.{is_fault, RoseIf, lost_now}
use Rattle.rk_machine.specs.Machine.{IsAllowed, Answers, Step, counted}
use Rattle.rk_machine.specs.Runs.{Happened, IsRun, last_state}

abbrev put_a : Op
put_a = Put (codes "a") (codes "x")

abbrev put_b : Op
put_b = Put (codes "b") (codes "y")

abbrev everything : IterOptions
everything = record { lower = None; upper = None; mask = None }

-- nothing is synced, and so many bytes wait
abbrev waiting : ℕ → Log
waiting bytes = record { synced = 0; pending = bytes; lost = None }

abbrev one_commit : State
one_commit = record start { history = (put_a ∷ []) ∷ []; memory = record { active = 9; frozen = 0 }; log = waiting 9 }

abbrev one_snapshot : State
one_snapshot = record one_commit { live = 1 ∷ [] }

-- the iterator `i` as it is opened, and after each of its moves
abbrev fresh : Open
fresh = opened one_snapshot (Some 1) everything

abbrev first : Open
first = moved_on fresh First

abbrev next : Open
next = moved_on first Next

abbrev with_iterator : Open → State
with_iterator it = record one_snapshot { iterators = (codes "i", it) ∷ [] }

abbrev two_commits : Open → State
two_commits it = record (with_iterator it) { history = (put_a ∷ []) ∷ (put_b ∷ []) ∷ []; memory = record { active = 18; frozen = 0 }; log = waiting 18 }

abbrev done : Event → Reply → State → Happened
done event reply after = record { event = event; reply = reply; after = after }

abbrev steps : List Happened
steps =
    done (Commit (put_a ∷ []) false) (Committed 1 1) one_commit
    ∷ done (Commit [] false) (Refused EmptyBatch) one_commit
    ∷ done Snap (Number 1) one_snapshot
    ∷ done (OpenAt (codes "i") (Some 1) everything) (Opened 1) (with_iterator fresh)
    ∷ done (Commit (put_b ∷ []) false) (Committed 2 2) (two_commits fresh)
    ∷ done (Moves (codes "i") First) (Stands first) (two_commits first)
    ∷ done (Release 1) Released (record (two_commits first) { live = [] })
    ∷ done (Moves (codes "i") Next) (Stands next) (record (two_commits next) { live = [] })
    ∷ done (Close (codes "i")) Closed (record (two_commits next) { live = []; iterators = [] })
    ∷ []

-- each step is allowed, and done or due
step : {m : State} {event : Event} {reply : Reply} {m' : State} → IsAllowed m event → m.faults ≤ m'.faults → RoseIf (is_fault reply) m.faults m'.faults
    → Answers (counted m'.faults m) event reply m' → Step m event reply m'
step allowed later told answer = record { allowed = allowed; count = record { later = later; told = told }; answer = answer }

-- no fault
none : 0 ≤ 0
none = omega arith

the_steps_are_a_run : IsRun start steps
the_steps_are_a_run = (step tt none tt (inl (refl, refl)), (step tt none tt (refl, refl), (step tt none tt (inl (refl, refl)), (step refl none tt (inl (refl, refl)), (step tt none tt (inl (refl, refl)), (step refl none tt (inl (fresh, refl, refl, refl)), (step tt none tt (inl (refl, (([], [], refl, refl), refl))), (step refl none tt (inl (first, refl, refl, refl)), (step refl none tt (inl (refl, refl)), tt)))))))))

the_iterator_sees_what_its_snapshot_saw : (first.view.cursor ≡ At (codes "a")) × (next.view.cursor ≡ End)
the_iterator_sees_what_its_snapshot_saw = (refl, refl)

both_commits_stay : (last_state start steps).history ≡ (put_a ∷ []) ∷ (put_b ∷ []) ∷ []
both_commits_stay = refl

-- a memtable with little room, and a batch of nine bytes
abbrev nearly_full : State
nearly_full = record start { memory = record { active = 4194300; frozen = 0 } }

the_memtable_is_frozen : (after_commit (put_a ∷ []) false nearly_full).memory ≡ record { active = 9; frozen = 4194300 }
the_memtable_is_frozen = refl

-- where one is frozen, none is frozen again
abbrev full : State
full = record start { memory = record { active = 4194300; frozen = 9 } }

a_full_memtable_is_told : commit_due full (put_a ∷ []) ≡ Some (Refused (MemFull 4194300 9))
a_full_memtable_is_told = refl

a_commit_may_fill_it : commit_due (record start { memory = record { active = 4194295; frozen = 9 } }) (put_a ∷ []) ≡ None
a_commit_may_fill_it = refl

no_snapshot_is_there : if_not_live start 5 ≡ Some (Refused (NoSnap 5))
no_snapshot_is_there = refl

-- a commit with sync waits for nothing, and a memtable that is frozen has no commit that waits
a_synced_commit_is_written : (after_commit (put_b ∷ []) true one_commit).log ≡ record { synced = 2; pending = 0; lost = None }
a_synced_commit_is_written = refl

what_is_frozen_is_written : (after_commit (put_b ∷ []) false (record one_commit { memory = record { active = 4194300; frozen = 0 } })).log ≡ record { synced = 1; pending = 9; lost = None }
what_is_frozen_is_written = refl

-- where a batch has no room among those that wait, these are written before it
what_waits_is_written_first : (after_commit (put_b ∷ []) false (record one_commit { log = waiting 1048568 })).log ≡ record { synced = 1; pending = 9; lost = None }
what_waits_is_written_first = refl

a_batch_may_fill_what_waits : (after_commit (put_b ∷ []) false (record one_commit { log = waiting 1048567 })).log ≡ waiting 1048576
a_batch_may_fill_what_waits = refl

a_sync_writes : Step one_commit Sync (Synced 1) (written one_commit)
a_sync_writes = step tt none tt (inl (refl, refl))

-- a failed write loses the commit and halts the store
abbrev lost : State
lost = record one_commit { halted = Some 1; faults = 1; log = record { synced = 0; pending = 9; lost = Some (put_b ∷ []) } }

a_fault_loses_the_commit : Step one_commit (Commit (put_b ∷ []) true) (Refused (WriteFault 1)) lost
a_fault_loses_the_commit = step tt (omega arith) (omega arith) (inr (inr (refl, refl)))

a_halted_store_tells_so : commit_due lost (put_b ∷ []) ≡ Some (Refused (Halted 1))
a_halted_store_tells_so = refl

but_an_empty_batch_comes_first : commit_due lost [] ≡ Some (Refused EmptyBatch)
but_an_empty_batch_comes_first = refl
