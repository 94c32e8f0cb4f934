-- What the session keeps, and the state that it stands for.
use Rattle.std.specs.Prelude.{◌≡◌, ℕ, ◌<◌, slice_index_or, slice_set, List, ◌++◌, ◌∷◌, [], map, length, unwrap_or, None, IsSome, IsPermutation, Result, OnOk, OnErr, IfErr}
use Rattle.rk_model.specs.Named.{named, with_named}
use Rattle.rk_model.specs.declared.op.Op.{Op}
use Rattle.rk_batch.specs.Checks.{AllPass, IsRefusal, checks}
use Rattle.rk_batch.specs.declared.error.BatchError.{BatchError}
use Rattle.rk_machine.specs.State.{Open}
use Rattle.rk_memstore.specs.Standing.{StandsInMemory}
use Rattle.rk_iter_laws.specs.Showing.{IsAt}
use Rattle.rk_script.specs.Script.{Names}
use Rattle.rk_script.specs.declared.line.Event.{Event}
use Rattle.rk_program.specs.Transcript.{SessionState, Does}
use Rattle.rk_program.specs.declared.session.Writer.{Writer}
use Rattle.rk_program.specs.declared.session.Snapshot.{Snapshot}
use Rattle.rk_program.specs.declared.session.OpenIterator.{OpenIterator}
use Rattle.rk_program.specs.declared.session.Session.{Session}

-- the batch of each writer
abbrev pub batches : List Writer → List (List ℕ × List Op)
batches writers = map (λ w. (w.name, w.batch)) writers

-- the number of each snapshot
abbrev pub numbers : List Snapshot → List (List ℕ × ℕ)
numbers snapshots = map (λ x. (x.name, x.number)) snapshots

-- each open iterator has the name of one of the machine, and is where that one is
abbrev pub AreAt : List OpenIterator → List (List ℕ × Open) → Type 0
AreAt [] [] = Unit {0}
AreAt [] (o ∷ os) = ⊥
AreAt (i ∷ is) [] = ⊥
AreAt (i ∷ is) (o ∷ os) = (i.name ≡ o.0) × IsAt i.iter o.1 × AreAt is os

-- a thing of the name is there
abbrev pub IsLive : {A : Type 0} → List ℕ → List (List ℕ × A) → Type 0
IsLive name things = IsSome (named name things)

-- the names that a session has in use
abbrev pub names_in : {V : Type 0} → Session V → Names
names_in session = record {
  writers = map (λ w. w.name) session.writers.items;
  snapshots = map (λ x. x.name) session.snapshots.items;
  iterators = map (λ i. i.name) session.iterators.items;
}

-- A session stands for a state: its store for that of the machine, which is not halted, with the batches, the snapshots
-- and the iterators of the state. The live numbers are those of the snapshots.
pub record StandsFor {V : Type 0} (session : Session V) (s : SessionState) : Type 0 where
  pub mem : StandsInMemory session.mem s.state
  pub running : s.state.halted ≡ None
  pub batches : batches session.writers.items ≡ s.batches
  pub snapshots : numbers session.snapshots.items ≡ s.snapshots
  pub live : IsPermutation (map (λ x. x.1) s.snapshots) s.state.live
  pub iterators : AreAt session.iterators.items s.state.iterators

-- something was done whose text was added, and the session stands for the state after it
abbrev pub DidSo : {V : Type 0} → (List ℕ → SessionState → Type 0) → List ℕ → List ℕ → Session V → Type 0
DidSo does before now session = (text : List ℕ) × (s' : SessionState) × does text s' × StandsFor session s' × (now ≡ before ++ text)

-- a line was done
abbrev pub Did : {V : Type 0} → SessionState → Event → List ℕ → List ℕ → Session V → Type 0
Did s event before now session = DidSo (Does s event) before now session

-- a batch that was given an operation: it has it, or the batch is as before and the refusal is of a check that fails
pub record IsGiven {T : Type 0} (old new : List Op) (op : Op) (result : Result T BatchError) : Type 0 where
  pub added : OnOk result (new ≡ old ++ op ∷ [])
  pub passes : OnOk result (AllPass (checks old op))
  pub refusal : IfErr result (IsRefusal (checks old op))
  pub same : OnErr result (new ≡ old)

-- The place of a writer in the list that it was looked for or put into: the batch there is that of its name, and what
-- is put in its place is.
pub record IsPlaceOf (old new : List Writer) (name : List ℕ) (i : ℕ) : Type 0 where
  pub within : i < length new
  pub called : (d : Writer) → (slice_index_or new i d).name ≡ name
  pub batch : (d : Writer) → (slice_index_or new i d).batch ≡ unwrap_or (named name (batches old)) []
  pub put : (w : Writer) → w.name ≡ name → batches (slice_set new i w) ≡ with_named name w.batch (batches old)
