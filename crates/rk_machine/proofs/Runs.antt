-- Along a run the history goes on.
use Rattle.std.proofs.Common.{◌≡◌, ◌⊎◌, Bool, List, [], ◌∷◌, ◌++◌, refl, ap, sym, ◌∙◌, subst, arith, append-nil, append_assoc, inl, inr, ⊎_elim}
use Rattle.rk_model.specs.Operations.{History}
use Rattle.rk_model.specs.Histories.{AreCommits}
use Rattle.rk_model.specs.declared.op.Op.{Op}
use Rattle.rk_machine.specs.State.{State}
use Rattle.rk_machine.specs.Events.{Event, Commit, Sync, Snap, Release, OpenAt, Moves, Close, CloseCore, Reply}
use Rattle.rk_machine.specs.Commits.{after_commit}
use Rattle.rk_machine.specs.Machine.{Done, Step, counted}
use Rattle.rk_machine.specs.Runs.{last_state, GoesOn, HistoriesGoOn}
use Rattle.rk_machine.proofs.Steps.{LeavesHistory, leaves_or_done, history_of_commit}

stays : (h : History) → GoesOn h h
stays h = record { more = ([], sym (append-nil h)); commits = λ all. all }

joined : (a b : History) → AreCommits a → AreCommits b → AreCommits (a ++ b)
joined [] b p q = q
joined (c ∷ cs) b p q = (p.0, joined cs b p.1 q)

commits : (h : History) (op : Op) (ops : List Op) → GoesOn h (h ++ (op ∷ ops) ∷ [])
commits h op ops = record { more = ((op ∷ ops) ∷ [], refl); commits = λ all. joined h ((op ∷ ops) ∷ []) all (omega arith, tt) }

further : (a b c : History) → GoesOn a b → GoesOn b c → GoesOn a c
further a b c one two = record {
  more = (one.more.0 ++ two.more.0, two.more.1 ∙ ap (λ h. h ++ two.more.0) one.more.1 ∙ append_assoc a one.more.0 two.more.0);
  commits = λ all. two.commits (one.commits all);
}

-- a state with the history of another goes on from where that one does
keeps : (m n : State) → n.history ≡ m.history → GoesOn m.history n.history
keeps m n is = subst (λ h. GoesOn m.history h) (sym is) (stays m.history)

-- what is done by a commit of some operations, and by any other event
committed : (m : State) (op : Op) (ops : List Op) (sync : Bool) (m' : State) → m' ≡ after_commit (op ∷ ops) sync m → GoesOn m.history m'.history
committed m op ops sync m' done = subst (λ h. GoesOn m.history h) (sym (history_of_commit m (op ∷ ops) sync m' done)) (commits m.history op ops)

others : (m n : State) → LeavesHistory m n ⊎ (n.history ≡ m.history) → GoesOn m.history n.history
others m n (inl leaves) = keeps m n leaves.history
others m n (inr is) = keeps m n is

-- a commit without operations is refused, and leaves all
step_on : (m : State) (event : Event) (reply : Reply) (m' : State) → Step m event reply m' → GoesOn m.history m'.history
step_on m (Commit [] sync) reply m' s = keeps m m' (ap (λ n. n.history) s.answer.1)
step_on m (Commit (op ∷ ops) sync) reply m' s = elim (leaves_or_done m (Commit (op ∷ ops) sync) reply m' s) [
  | inl leaves ↦ keeps m m' leaves.history
  | inr done ↦ committed (counted m'.faults m) op ops sync m' done.1
]
step_on m Sync reply m' s = others m m' (⊎_elim (λ leaves. inl leaves) (λ done. inr (ap (λ n. n.history) done.1)) (leaves_or_done m Sync reply m' s))
step_on m Snap reply m' s = others m m' (⊎_elim (λ leaves. inl leaves) (λ done. inr (ap (λ n. n.history) done.1)) (leaves_or_done m Snap reply m' s))
step_on m (Release number) reply m' s = others m m' (⊎_elim (λ leaves. inl leaves) (λ done. inr (ap (λ n. n.history) done.1.1)) (leaves_or_done m (Release number) reply m' s))
step_on m (OpenAt name at options) reply m' s = others m m' (⊎_elim (λ leaves. inl leaves) (λ done. inr (ap (λ n. n.history) done.1)) (leaves_or_done m (OpenAt name at options) reply m' s))
step_on m (Moves name move) reply m' s = others m m' (⊎_elim (λ leaves. inl leaves) (λ done. inr (ap (λ n. n.history) done.3)) (leaves_or_done m (Moves name move) reply m' s))
step_on m (Close name) reply m' s = others m m' (⊎_elim (λ leaves. inl leaves) (λ done. inr (ap (λ n. n.history) done.1)) (leaves_or_done m (Close name) reply m' s))
step_on m CloseCore reply m' s = others m m' (⊎_elim (λ leaves. inl leaves) (λ done. inr (ap (λ n. n.history) done.1)) (leaves_or_done m CloseCore reply m' s))

pub goes_on : HistoriesGoOn
goes_on m [] run = stays m.history
goes_on m (d ∷ ds) run = further m.history d.after.history (last_state d.after ds).history (step_on m d.event d.reply d.after run.0) (goes_on d.after ds run.1)
