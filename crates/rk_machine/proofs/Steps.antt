-- What a step leaves as it is.
use Rattle.std.specs.Prelude.{if◌then◌else◌}
use Rattle.std.proofs.Common.{◌≡◌, ℕ, ◌+◌, ◌⊎◌, Bool, true, false, not, ◌&&◌, List, [], ◌∷◌, ◌++◌, length, Option, Some, None, refl, ap, sym, ◌∙◌, subst, inl, inr}
use Rattle.rk_model.specs.Moves.{Move}
use Rattle.rk_model.specs.declared.op.Op.{Op}
use Rattle.rk_model.specs.declared.options.IterOptions.{IterOptions}
use Rattle.rk_machine.specs.State.{State}
use Rattle.rk_machine.specs.Events.{Event, Commit, Sync, Snap, Release, OpenAt, Moves, Close, CloseCore, Reply}
use Rattle.rk_machine.specs.Sizes.{batch_size}
use Rattle.rk_machine.specs.Due.{Unless}
use Rattle.rk_machine.specs.Commits.{with_memtable_room, with_room, joined, after_commit, is_frozen, passes_memtable, passes_pending, froze, written}
use Rattle.rk_machine.specs.Machine.{due, Done, Step, counted}
use Rattle.rk_machine.specs.Faults.{Fails}

-- the history, the live numbers and the iterators are as they were
pub record LeavesHistory (m n : State) : Type 0 where
  pub history : n.history ≡ m.history
  pub live : n.live ≡ m.live
  pub iterators : n.iterators ≡ m.iterators

pub leaves_as : (m n k : State) → n ≡ k → LeavesHistory m k → LeavesHistory m n
leaves_as m n k is leaves = subst (LeavesHistory m) (sym is) leaves

leaves_all : (m : State) → LeavesHistory m m
leaves_all m = record { history = refl; live = refl; iterators = refl }

leaves_further : (m n k : State) → LeavesHistory m n → LeavesHistory n k → LeavesHistory m k
leaves_further m n k one two = record { history = two.history ∙ one.history; live = two.live ∙ one.live; iterators = two.iterators ∙ one.iterators }

leaves_if : (b : Bool) (m n : State) → LeavesHistory m n → LeavesHistory m (if b then n else m)
leaves_if true m n leaves = leaves
leaves_if false m n leaves = leaves_all m

-- an answer that is due leaves all, or the call goes on
unless : (d : Option Reply) (m : State) (reply : Reply) (m' : State) (G : Type 0) → Unless d m reply m' G → (m' ≡ m) ⊎ G
unless (Some due) m reply m' G u = inl u.1
unless None m reply m' G u = inr u

-- a call that fails leaves the history, the live numbers and the iterators
failed_leaves : (m : State) (event : Event) (reply : Reply) (m' : State) → Fails m event reply m' → LeavesHistory m m'
failed_leaves m (Commit ops sync) reply m' (inl f) = leaves_as m m' m f.1 (leaves_all m)
failed_leaves m (Commit ops sync) reply m' (inr f) = leaves_as m m' _ f.1 (record { history = refl; live = refl; iterators = refl })
failed_leaves m Sync reply m' (waits, inl f) = leaves_as m m' m f.1 (leaves_all m)
failed_leaves m Sync reply m' (waits, inr f) = leaves_as m m' _ f.1 (record { history = refl; live = refl; iterators = refl })
failed_leaves m Snap reply m' f = leaves_as m m' m f.1 (leaves_all m)
failed_leaves m (Release number) reply m' f = absurd f
failed_leaves m (OpenAt name at options) reply m' f = leaves_as m m' m f.1 (leaves_all m)
failed_leaves m (Moves name move) reply m' f = leaves_as m m' m f.3 (leaves_all m)
failed_leaves m (Close name) reply m' f = absurd f
failed_leaves m CloseCore reply m' (inl f) = leaves_as m m' m f.1 (leaves_all m)
failed_leaves m CloseCore reply m' (inr f) = leaves_as m m' _ f.1 (record { history = refl; live = refl; iterators = refl })

-- a step leaves these, or is done
pub leaves_or_done : (m : State) (event : Event) (reply : Reply) (m' : State) → Step m event reply m' → LeavesHistory m m' ⊎ Done (counted m'.faults m) event reply m'
leaves_or_done m event reply m' s = of (unless (due (counted m'.faults m) event) (counted m'.faults m) reply m' _ s.answer) where
  of : (m' ≡ counted m'.faults m) ⊎ (Done (counted m'.faults m) event reply m' ⊎ Fails (counted m'.faults m) event reply m') → LeavesHistory m m' ⊎ Done (counted m'.faults m) event reply m'
  of (inl same) = inl (leaves_as m m' (counted m'.faults m) same (record { history = refl; live = refl; iterators = refl }))
  of (inr (inl done)) = inr done
  of (inr (inr fails)) =
      let leaves = failed_leaves (counted m'.faults m) event reply m' fails in
      inl (record { history = leaves.history; live = leaves.live; iterators = leaves.iterators })

-- room for a commit, and what is synced with it, leave these
pub room_leaves : (m : State) (size : ℕ) → LeavesHistory m (with_room size m)
room_leaves m size =
    let n = with_memtable_room size m in
    leaves_further m n (with_room size m)
    (leaves_if (not (is_frozen m) && passes_memtable m size) m (froze m) (record { history = refl; live = refl; iterators = refl }))
    (leaves_if (passes_pending n size) n (written n) (record { history = refl; live = refl; iterators = refl }))

sync_leaves : (sync : Bool) (m : State) → LeavesHistory m (if sync then written m else m)
sync_leaves sync m = leaves_if sync m (written m) (record { history = refl; live = refl; iterators = refl })

-- the history behind a commit that is done
pub history_of_commit : (m : State) (ops : List Op) (sync : Bool) (m' : State) → m' ≡ after_commit ops sync m → m'.history ≡ m.history ++ ops ∷ []
history_of_commit m ops sync m' is =
    ap (λ n. n.history) is ∙ (sync_leaves sync (joined ops (with_room (batch_size ops) m))).history ∙ ap (λ h. h ++ ops ∷ []) (room_leaves m (batch_size ops)).history

pub live_of_commit : (m : State) (ops : List Op) (sync : Bool) (m' : State) → m' ≡ after_commit ops sync m → m'.live ≡ m.live
live_of_commit m ops sync m' is =
    ap (λ n. n.live) is ∙ (sync_leaves sync (joined ops (with_room (batch_size ops) m))).live ∙ (room_leaves m (batch_size ops)).live

pub iterators_of_commit : (m : State) (ops : List Op) (sync : Bool) (m' : State) → m' ≡ after_commit ops sync m → m'.iterators ≡ m.iterators
iterators_of_commit m ops sync m' is =
    ap (λ n. n.iterators) is ∙ (sync_leaves sync (joined ops (with_room (batch_size ops) m))).iterators ∙ (room_leaves m (batch_size ops)).iterators
