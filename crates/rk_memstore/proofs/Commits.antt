-- The step of a commit.
use Rattle.std.specs.Prelude.{if◌then◌else◌}
use Rattle.std.proofs.Common.{◌≡◌, ◌⊎◌, ℕ, ◌+◌, ◌≤◌, Bool, true, false, not, ◌&&◌, ◌==◌, List, length, None, refl, ap, sym, subst, ◌∙◌, inl, inr, nat_lt}
use Rattle.std.proofs.lemmas.Bool.{not-true}
use Rattle.rk_model.specs.declared.op.Op.{Op}
use Rattle.rk_model.specs.declared.op.Entry.{Entry}
use Rattle.rk_machine.specs.State.{State, Memtables}
use Rattle.rk_machine.specs.Events.{Commit, Committed}
use Rattle.rk_machine.specs.Sizes.{batch_size}
use Rattle.rk_machine.specs.Commits.{is_frozen, passes_memtable, passes_pending, with_memtable_room, with_room, written, froze, joined, after_commit, commit_due}
use Rattle.rk_machine.specs.declared.limits.TheConstants.{MOST_MEMTABLE_BYTES}
use Rattle.rk_machine.proofs.Steps.{history_of_commit, live_of_commit}
use Rattle.rk_mem.specs.Memory.{Memory, nothing, IsGrown}
use Rattle.rk_memstore.specs.Standing.{MemSeen, IsMemStore, StandsInMemory}
use Rattle.rk_memstore.specs.Joining.{has_room, HasJoined}
use Rattle.rk_memstore.specs.Answers.{StepsFrom}
use Rattle.rk_memstore.proofs.Joined.{MayJoin, joined_stands}
use Rattle.rk_memstore.proofs.Steps.{step_goes_on}

-- What a commit does to the log, and to the memtables.

stays_if : {A : Type 0} (f : State → A) (b : Bool) (m n : State) → f n ≡ f m → f (if b then n else m) ≡ f m
stays_if f true m n same = same
stays_if f false m n same = refl

pub halted_of_commit : (m : State) (ops : List Op) (sync : Bool) → (after_commit ops sync m).halted ≡ m.halted
halted_of_commit m ops sync =
    let n = with_memtable_room (batch_size ops) m in
    let k = joined ops (with_room (batch_size ops) m) in
    stays_if (λ s. s.halted) sync k (written k) refl
    ∙ stays_if (λ s. s.halted) (passes_pending n (batch_size ops)) n (written n) refl
    ∙ stays_if (λ s. s.halted) (not (is_frozen m) && passes_memtable m (batch_size ops)) m (froze m) refl

pub faults_of_commit : (m : State) (ops : List Op) (sync : Bool) → (after_commit ops sync m).faults ≡ m.faults
faults_of_commit m ops sync =
    let n = with_memtable_room (batch_size ops) m in
    let k = joined ops (with_room (batch_size ops) m) in
    stays_if (λ s. s.faults) sync k (written k) refl
    ∙ stays_if (λ s. s.faults) (passes_pending n (batch_size ops)) n (written n) refl
    ∙ stays_if (λ s. s.faults) (not (is_frozen m) && passes_memtable m (batch_size ops)) m (froze m) refl

-- what is written does not change the memtables
memory_of_commit : (m : State) (ops : List Op) (sync : Bool) → (after_commit ops sync m).memory ≡ (joined ops (with_memtable_room (batch_size ops) m)).memory
memory_of_commit m ops sync =
    let n = with_memtable_room (batch_size ops) m in
    let k = joined ops (with_room (batch_size ops) m) in
    stays_if (λ s. s.memory) sync k (written k) refl
    ∙ ap (λ (t : Memtables). record t { active = t.active + batch_size ops }) (stays_if (λ s. s.memory) (passes_pending n (batch_size ops)) n (written n) refl)

-- the memtables have these sizes
record HasSizes (memory : Memtables) (active frozen : ℕ) : Type 0 where
  of_active : active ≡ memory.active
  of_frozen : frozen ≡ memory.frozen

stays_open : (m : State) (size : ℕ) → passes_memtable m size ≡ false → with_memtable_room size m ≡ m
stays_open m size fits = ap (λ p. if not (is_frozen m) && p then froze m else m) fits ∙ either (not (is_frozen m))
  where
    either : (b : Bool) → (if b && false then froze m else m) ≡ m
    either true = refl
    either false = refl

is_frozen_now : (m : State) (size : ℕ) → passes_memtable m size ≡ true → m.memory.frozen ≡ 0 → with_memtable_room size m ≡ froze m
is_frozen_now m size full none =
    ap (λ p. if not (is_frozen m) && p then froze m else m) full
    ∙ ap (λ k. if not (not (k == 0)) && true then froze m else m) none

sizes_by : (b : Bool) (m : State) (ops : List Op) (active frozen active' frozen' : Memory) (es : List Entry) →
    active.bytes ≡ m.memory.active → frozen.bytes ≡ m.memory.frozen →
    not (passes_memtable m (batch_size ops)) ≡ b → (frozen.bytes ≡ 0) ⊎ (b ≡ true) →
    IsGrown (if b then active else nothing) es (batch_size ops) active' → frozen' ≡ (if b then frozen else active) →
    HasSizes (joined ops (with_memtable_room (batch_size ops) m)).memory active'.bytes frozen'.bytes
sizes_by true m ops active frozen active' frozen' es of_active of_frozen room may grown now_frozen =
    subst (λ s. HasSizes (joined ops s).memory active'.bytes frozen'.bytes) (sym (stays_open m (batch_size ops) (not-true (passes_memtable m (batch_size ops)) room))) (record {
      of_active = grown.added ∙ ap (λ k. k + batch_size ops) of_active;
      of_frozen = ap (λ (t : Memory). t.bytes) now_frozen ∙ of_frozen;
    })
sizes_by false m ops active frozen active' frozen' es of_active of_frozen room (inr other) grown now_frozen = cc
sizes_by false m ops active frozen active' frozen' es of_active of_frozen room (inl none) grown now_frozen =
    subst (λ s. HasSizes (joined ops s).memory active'.bytes frozen'.bytes) (sym (is_frozen_now m (batch_size ops) (passes (passes_memtable m (batch_size ops)) room) (sym of_frozen ∙ none))) (record {
      of_active = grown.added;
      of_frozen = ap (λ (t : Memory). t.bytes) now_frozen ∙ of_active;
    })
  where
    passes : (p : Bool) → not p ≡ false → p ≡ true
    passes true h = refl
    passes false h = cc

-- the sizes behind a commit, with a sync or without
pub sizes_of_commit : (old new : MemSeen) (ops : List Op) (sync : Bool) (m : State) → HasJoined old new ops → MayJoin old (batch_size ops) → StandsInMemory old m →
    (new.active.bytes ≡ (after_commit ops sync m).memory.active) × (new.frozen.bytes ≡ (after_commit ops sync m).memory.frozen)
sizes_of_commit old new ops sync m has_joined may stands =
    let room : not (passes_memtable m (batch_size ops)) ≡ has_room old (batch_size ops) = ap (λ k. not (nat_lt MOST_MEMTABLE_BYTES (k + batch_size ops))) (sym stands.active) in
    let sizes : HasSizes (after_commit ops sync m).memory new.active.bytes new.frozen.bytes =
    subst (λ memory. HasSizes memory new.active.bytes new.frozen.bytes) (sym (memory_of_commit m ops sync))
    (sizes_by (has_room old (batch_size ops)) m ops old.active old.frozen new.active new.frozen _ stands.active stands.frozen room may has_joined.active has_joined.frozen) in
    (sizes.of_active, sizes.of_frozen)

-- what a store stands for behind a commit, with a sync or without
pub stands_after_commit : (old new : MemSeen) (ops : List Op) (sync : Bool) (m : State) → IsMemStore old → HasJoined old new ops → MayJoin old (batch_size ops) → 1 ≤ length ops → StandsInMemory old m →
    (m' : State) → m' ≡ after_commit ops sync m → StandsInMemory new m'
stands_after_commit old new ops sync m keeps has_joined may some stands m' is =
    let (active, frozen) = sizes_of_commit old new ops sync m has_joined may stands in
    joined_stands old new ops keeps has_joined may m stands m' some (history_of_commit m ops sync m' is) (live_of_commit m ops sync m' is)
    (active ∙ ap (λ s. s.memory.active) (sym is)) (frozen ∙ ap (λ s. s.memory.frozen) (sym is))

-- a commit whose operations have joined the memtables
pub commit_done : (old new : MemSeen) (ops : List Op) (m : State) → IsMemStore old → HasJoined old new ops → MayJoin old (batch_size ops) → 1 ≤ length ops →
    StandsInMemory old m → commit_due m ops ≡ None → StepsFrom m new (Commit ops false) (Committed (old.last + 1) (old.last + length ops))
commit_done old new ops m keeps has_joined may some stands none_due = (
  after_commit ops false m,
  step_goes_on m (Commit ops false) (Committed (old.last + 1) (old.last + length ops)) (after_commit ops false m) (faults_of_commit m ops false) refl tt none_due (inl (ap (λ n. Committed (n + 1) (n + length ops)) stands.last, refl)),
  stands_after_commit old new ops false m keeps has_joined may some stands (after_commit ops false m) refl,
  halted_of_commit m ops false,
)
