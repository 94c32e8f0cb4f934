-- A step whose reply has a text.
use Rattle.std.proofs.Common.{◌≡◌, ℕ, ◌⊎◌, Bool, true, false, not, List, length, Option, Some, None, sym, ◌∙◌, refl, subst, inl, inr, nat_le}
use Rattle.std.specs.Option.{option_map}
use Rattle.rk_model.specs.declared.op.Op.{Op}
use Rattle.rk_outside.specs.declared.error.StoreError.TheVariants.{Memory, WriteFault, Halted, NoSnap, TooManySnaps}
use Rattle.rk_machine.specs.State.{State}
use Rattle.rk_machine.specs.Events.{Event, Commit, Sync, Snap, Release, OpenAt, Moves, Close, CloseCore, Reply, CoreClosed, Refused, Unmoved}
use Rattle.rk_machine.specs.Due.{answer_if, Unless}
use Rattle.rk_machine.specs.Snapshots.{is_live}
use Rattle.rk_machine.specs.Machine.{Done, Answers, Step, counted}
use Rattle.rk_machine.specs.Faults.{Fails}
use Rattle.rk_machine.specs.declared.limits.TheConstants.{MOST_SNAPSHOTS}
use Rattle.rk_machine.proofs.Steps.{LeavesHistory, leaves_or_done, live_of_commit, iterators_of_commit}
use Rattle.rk_program.specs.Replies.{reply_text}

-- a reply that is told is none without a text
no_text : (name text : List ℕ) (reply silent : Reply) → reply_text name silent ≡ None → reply_text name reply ≡ Some text → reply ≡ silent → ⊥
no_text name text reply silent none told is =
    let here : reply_text name silent ≡ Some text = subst (λ r. reply_text name r ≡ Some text) is told in
    let wrong : None ≡ Some text = sym none ∙ here in cc

-- neither want of memory nor a failed write has a text
pub no_failure : (name text : List ℕ) (reply : Reply) (faults : ℕ) (X Y : Type 0) → reply_text name reply ≡ Some text
    → ((reply ≡ Refused Memory) × X) ⊎ ((reply ≡ Refused (WriteFault faults)) × Y) → ⊥
no_failure name text reply faults X Y told (inl f) = no_text name text reply (Refused Memory) refl told f.0
no_failure name text reply faults X Y told (inr f) = no_text name text reply (Refused (WriteFault faults)) refl told f.0

-- an answer that is not given is not due
past : (b : Bool) (answer : Reply) (m : State) (reply : Reply) (m' : State) (G : Type 0) → (reply ≡ answer → ⊥) → Unless (answer_if b answer) m reply m' G → G
past true answer m reply m' G other u = absurd (other u.0)
past false answer m reply m' G other u = u

-- nor is one of a halted store
past_halted : (halted : Option ℕ) (answer : ℕ → Reply) (m : State) (reply : Reply) (m' : State) (G : Type 0) → ((faults : ℕ) → reply ≡ answer faults → ⊥)
    → Unless (option_map answer halted) m reply m' G → G
past_halted (Some faults) answer m reply m' G other u = absurd (other faults u.0)
past_halted None answer m reply m' G other u = u

-- what didn't fail is done
well : (D F : Type 0) → (F → ⊥) → D ⊎ F → D
well D F not_failed (inl done) = done
well D F not_failed (inr failed) = absurd (not_failed failed)

abbrev pub IsNoCommit : Event → Type 0
IsNoCommit (Commit ops sync) = ⊥
IsNoCommit other = Unit {0}

-- such a step is done, unless it is a commit
pub done_if_told : (m : State) (event : Event) (reply : Reply) (m' : State) (name text : List ℕ) → IsNoCommit event → Step m event reply m' → reply_text name reply ≡ Some text
    → Done (counted m'.faults m) event reply m'
done_if_told m event reply m' name text no_commit s told = of event no_commit s.answer where
  now : State
  now = counted m'.faults m

  silent : (r : Reply) → reply_text name r ≡ None → reply ≡ r → ⊥
  silent r none = no_text name text reply r none told

  of : (e : Event) → IsNoCommit e → Answers now e reply m' → Done now e reply m'
  of (Commit ops sync) no_commit answer = absurd no_commit
  of Sync no_commit answer =
      well _ (Fails now Sync reply m') (λ f. no_failure name text reply now.faults _ _ told f.1)
      (past_halted m.halted (λ faults. Refused (Halted faults)) now reply m' _ (λ faults. silent (Refused (Halted faults)) refl) answer)
  of Snap no_commit answer =
      well _ (Fails now Snap reply m') (λ f. silent (Refused Memory) refl f.0)
      (past (nat_le MOST_SNAPSHOTS (length m.live)) (Refused (TooManySnaps (length m.live))) now reply m' _ (silent (Refused (TooManySnaps (length m.live))) refl) answer)
  of (Release number) no_commit answer =
      well _ (Fails now (Release number) reply m') (λ f. f)
      (past (not (is_live m number)) (Refused (NoSnap number)) now reply m' _ (silent (Refused (NoSnap number)) refl) answer)
  of (OpenAt called None options) no_commit answer =
      well _ (Fails now (OpenAt called None options) reply m') (λ f. silent (Refused Memory) refl f.0) answer
  of (OpenAt called (Some number) options) no_commit answer =
      well _ (Fails now (OpenAt called (Some number) options) reply m') (λ f. silent (Refused Memory) refl f.0)
      (past (not (is_live m number)) (Refused (NoSnap number)) now reply m' _ (silent (Refused (NoSnap number)) refl) answer)
  of (Moves called move) no_commit answer =
      well _ (Fails now (Moves called move) reply m') (λ f. silent (Unmoved f.0) refl f.1) answer
  of (Close called) no_commit answer = well _ (Fails now (Close called) reply m') (λ f. f) answer
  of CloseCore no_commit answer =
      well _ (Fails now CloseCore reply m') (no_failure name text reply now.faults _ _ told)
      (past_halted m.halted (λ faults. CoreClosed) now reply m' _ (λ faults. silent CoreClosed refl) answer)

-- a commit leaves the live numbers and the iterators, whatever the reply
pub commit_live : (m : State) (ops : List Op) (sync : Bool) (reply : Reply) (m' : State) → Step m (Commit ops sync) reply m' → m'.live ≡ m.live
commit_live m ops sync reply m' s = of (leaves_or_done m (Commit ops sync) reply m' s) where
  of : LeavesHistory m m' ⊎ Done (counted m'.faults m) (Commit ops sync) reply m' → m'.live ≡ m.live
  of (inl leaves) = leaves.live
  of (inr done) = live_of_commit (counted m'.faults m) ops sync m' done.1

pub commit_iterators : (m : State) (ops : List Op) (sync : Bool) (reply : Reply) (m' : State) → Step m (Commit ops sync) reply m' → m'.iterators ≡ m.iterators
commit_iterators m ops sync reply m' s = of (leaves_or_done m (Commit ops sync) reply m' s) where
  of : LeavesHistory m m' ⊎ Done (counted m'.faults m) (Commit ops sync) reply m' → m'.iterators ≡ m.iterators
  of (inl leaves) = leaves.iterators
  of (inr done) = iterators_of_commit (counted m'.faults m) ops sync m' done.1
