-- Two runs over the same lines write the same. Their states may differ in the order of the live numbers, since a release
-- may take any copy of its number, in the log and in the count of faults.
use Rattle.std.proofs.Common.{◌≡◌, ℕ, ◌+◌, ◌⊎◌, Bool, true, false, not, ◌&&◌, IsPermutation, List, [], ◌∷◌, ◌++◌, length, Option, Some, None, ap, sym, ◌∙◌, refl, subst, inl, inr}
use Rattle.std.proofs.lemmas.List.Sorted.{IsPermutation-append_left, IsPermutation-refl}
use Rattle.std.specs.Prelude.{if◌then◌else◌, unwrap_or}
use Rattle.rk_model.specs.Moves.{Move}
use Rattle.rk_model.specs.Moves as move
use Rattle.rk_model.specs.Named.{named, with_named}
use Rattle.rk_model.specs.Operations.{History, last}
use Rattle.rk_model.specs.declared.op.Op.{Op}
use Rattle.rk_model.specs.declared.op.Op.TheVariants as op
use Rattle.rk_model.specs.declared.options.IterOptions.{IterOptions}
use Rattle.rk_batch.specs.Checks.{Check, AllPass, IsFirst, checks}
use Rattle.rk_batch.specs.declared.error.BatchError.{BatchError}
use Rattle.rk_batch.proofs.Firsts.{one_first}
use Rattle.rk_batch.proofs.Refusing.{first_fails}
use Rattle.rk_machine.specs.Sizes.{batch_size}
use Rattle.rk_machine.specs.State.{State, Open, Memtables, Log, shape_of}
use Rattle.rk_machine.specs.Events.{Event, Commit as commits, Sync, Snap as snaps, Release as releases, OpenAt, Moves, Close as closes, CloseCore, Reply, Stands, Committed, Synced, Number, Opened}
use Rattle.rk_machine.specs.Due.{Unless}
use Rattle.rk_machine.specs.Commits.{commit_due, after_commit, joined, with_room, with_memtable_room, froze, written, is_frozen, passes_memtable, passes_pending}
use Rattle.rk_machine.specs.Iterators.{opened, moved_on, without_named}
use Rattle.rk_machine.specs.Faults.{Fails}
use Rattle.rk_machine.specs.Machine.{Done, Answers, Step, counted}
use Rattle.rk_memstore.proofs.Copies.{still_same}
use Rattle.rk_script.specs.declared.line.Event.{Event as LineEvent}
use Rattle.rk_script.specs.declared.line.Event.TheVariants.{Put, Del, RangeSet, RangeUnset, RangeDel, Commit, Snap, Release, Iter, First, Last, Next, Prev, SeekGe, SeekLt, Close, Shape}
use Rattle.rk_script.specs.declared.line.Line.{Line}
use Rattle.rk_program.specs.Replies.{refused_text, reply_text, shape_text}
use Rattle.rk_program.specs.Transcript.{SessionState, begin, batch_of, with_batch, left_by, IsTime, Does, DoesOp, DoesEvent, DoesCommit, DoesMove, IsTranscript}
use Rattle.rk_program.proofs.Told.{IsNoCommit, done_if_told, no_failure}

-- two states of the machine that may differ in the order of their live numbers, in the log and in the count of faults,
-- of which no text tells
record Alike (m n : State) : Type 0 where
  history : m.history ≡ n.history
  iterators : m.iterators ≡ n.iterators
  memory : m.memory ≡ n.memory
  halted : m.halted ≡ n.halted
  live : IsPermutation m.live n.live

-- the same of two states of a session
record AreAlike (s t : SessionState) : Type 0 where
  states : Alike s.state t.state
  batches : s.batches ≡ t.batches
  snapshots : s.snapshots ≡ t.snapshots

-- the texts are the same, and the states are alike
abbrev TellsAlike : (a b : List ℕ) → SessionState → SessionState → Type 0
TellsAlike a b s t = (a ≡ b) × AreAlike s t

same_opened : (m n : State) (at : Option ℕ) (options : IterOptions) → m.history ≡ n.history → opened m at options ≡ opened n at options
same_opened m n at options same =
    let of : History → Open = λ h. opened (record m { history = h }) at options in
    ap of same

-- a name has one thing in a list
one_thing : {A : Type 0} (name : List ℕ) (xs ys : List (List ℕ × A)) (x y : A) → xs ≡ ys → named name xs ≡ Some x → named name ys ≡ Some y → x ≡ y
one_thing name xs ys x y same p q = let found = ap (named name) same in cc

-- things that are as two that are the same
across : {A : Type 0} {x y v w : A} → v ≡ x → x ≡ y → w ≡ y → v ≡ w
across p same d = p ∙ (same ∙ sym d)

Alike-ends : (m' n' k l : State) → m' ≡ k → n' ≡ l → Alike k l → Alike m' n'
Alike-ends m' n' k l p d same = subst (λ m. Alike m n') (sym p) (subst (λ n. Alike k n) (sym d) same)

-- the log and the count may be any
Alike-logs : (m n : State) (a b : Log) (f g : ℕ) → Alike m n → Alike (record m { log = a; faults = f }) (record n { log = b; faults = g })
Alike-logs m n a b f g same = record { history = same.history; iterators = same.iterators; memory = same.memory; halted = same.halted; live = same.live }

-- so each of the two may have written what waits
written_alike : (t u : Bool) (m n : State) → Alike m n → Alike (if t then written m else m) (if u then written n else n)
written_alike true true m n same = Alike-logs m n (written m).log (written n).log m.faults n.faults same
written_alike true false m n same = Alike-logs m n (written m).log n.log m.faults n.faults same
written_alike false true m n same = Alike-logs m n m.log (written n).log m.faults n.faults same
written_alike false false m n same = same

-- ---- commits

-- what is due of a commit hangs on the history, on the memtables, and on whether the store is halted
same_due : (m n : State) (ops : List Op) → Alike m n → commit_due m ops ≡ commit_due n ops
same_due m n ops same =
    ap (λ h. commit_due (record m { history = h }) ops) same.history
    ∙ ap (λ k. commit_due (record m { history = n.history; memory = k }) ops) same.memory
    ∙ ap (λ faults. commit_due (record m { history = n.history; memory = n.memory; halted = faults }) ops) same.halted

room_alike : (t : Bool) (m n : State) → Alike m n → Alike (if t then froze m else m) (if t then froze n else n)
room_alike true m n same = record {
  history = same.history;
  iterators = same.iterators;
  memory = ap (λ k. record { active = 0; frozen = k.active }) same.memory;
  halted = same.halted;
  live = same.live;
}
room_alike false m n same = same

commit_alike : (m n : State) (ops : List Op) (sync : Bool) → Alike m n → Alike (after_commit ops sync m) (after_commit ops sync n)
commit_alike m n ops sync same =
    let size = batch_size ops in
    let test : Memtables → Bool = λ k. not (is_frozen (record m { memory = k })) && passes_memtable (record m { memory = k }) size in
    let tests : test m.memory ≡ test n.memory = ap test same.memory in
    let frozen : Alike (with_memtable_room size m) (with_memtable_room size n) =
    subst (λ t. Alike (with_memtable_room size m) (if t then froze n else n)) tests (room_alike (test m.memory) m n same) in
    let roomy : Alike (with_room size m) (with_room size n) =
    written_alike (passes_pending (with_memtable_room size m) size) (passes_pending (with_memtable_room size n) size) _ _ frozen in
    written_alike sync sync (joined ops (with_room size m)) (joined ops (with_room size n)) (record {
      history = ap (λ h. h ++ ops ∷ []) roomy.history;
      iterators = roomy.iterators;
      memory = ap (λ k. record { active = k.active + size; frozen = k.frozen }) roomy.memory;
      halted = roomy.halted;
      live = roomy.live;
    })

-- ---- all events

-- from states that are alike, an event that is done has one reply
Done-alike : (m n m' n' : State) (event : Event) (r q : Reply) → Alike m n → Done m event r m' → Done n event q n' → (r ≡ q) × Alike m' n'
Done-alike m n m' n' (commits ops sync) r q same x y = (
  across x.0 (ap (λ h. Committed (last h + 1) (last h + length ops)) same.history) y.0,
  Alike-ends m' n' _ _ x.1 y.1 (commit_alike m n ops sync same),
)
Done-alike m n m' n' Sync r q same x y = (across x.0 (ap (λ h. Synced (last h)) same.history) y.0, Alike-ends m' n' _ _ x.1 y.1 (written_alike true true m n same))
Done-alike m n m' n' snaps r q same x y = (
  across x.0 (ap (λ h. Number (last h)) same.history) y.0,
  Alike-ends m' n' _ _ x.1 y.1 (record {
    history = same.history;
    iterators = same.iterators;
    memory = same.memory;
    halted = same.halted;
    live = subst (λ k. IsPermutation (m.live ++ last m.history ∷ []) (n.live ++ k ∷ [])) (ap last same.history)
        (IsPermutation-append_left (last m.history ∷ []) m.live n.live same.live);
  }),
)
Done-alike m n m' n' (releases number) r q same x y = (
  across x.0 refl y.0,
  Alike-ends m' n' _ _ x.1.1 y.1.1 (record {
    history = same.history;
    iterators = same.iterators;
    memory = same.memory;
    halted = same.halted;
    live = still_same number m.live m'.live n.live n'.live same.live x.1.0 y.1.0;
  }),
)
Done-alike m n m' n' (OpenAt called at options) r q same x y =
    let now = same_opened m n at options same.history in (
      across x.0 (ap (λ it. Opened it.number) now) y.0,
      Alike-ends m' n' _ _ x.1 y.1 (record {
        history = same.history;
        iterators = ap (λ is. is ++ (called, opened m at options) ∷ []) same.iterators ∙ ap (λ it. n.iterators ++ (called, it) ∷ []) now;
        memory = same.memory;
        halted = same.halted;
        live = same.live;
      }),
    )
Done-alike m n m' n' (Moves called move) r q same x y =
    let it = one_thing called m.iterators n.iterators x.0 y.0 same.iterators x.1 y.1 in (
      across x.2 (ap (λ i. Stands (moved_on i move)) it) y.2,
      Alike-ends m' n' _ _ x.3 y.3 (record {
        history = same.history;
        iterators = ap (with_named called (moved_on x.0 move)) same.iterators ∙ ap (λ i. with_named called (moved_on i move) n.iterators) it;
        memory = same.memory;
        halted = same.halted;
        live = same.live;
      }),
    )
Done-alike m n m' n' (closes called) r q same x y = (
  across x.0 refl y.0,
  Alike-ends m' n' _ _ x.1 y.1 (record {
    history = same.history;
    iterators = ap (without_named called) same.iterators;
    memory = same.memory;
    halted = same.halted;
    live = same.live;
  }),
)
Done-alike m n m' n' CloseCore r q same x y = (across x.0 refl y.0, Alike-ends m' n' _ _ x.1 y.1 (written_alike true true m n same))

-- a commit that is told is due, or done
committed_alike : (m n m' n' : State) (ops : List Op) (sync : Bool) (r q : Reply) (name a b : List ℕ) → Alike m n
    → Answers m (commits ops sync) r m' → Answers n (commits ops sync) q n' → reply_text name r ≡ Some a → reply_text name q ≡ Some b → (r ≡ q) × Alike m' n'
committed_alike m n m' n' ops sync r q name a b same p d one two = of (commit_due m ops) (commit_due n ops) (same_due m n ops same) p d where
  Goes : State → Reply → State → Type 0
  Goes k reply k' = Done k (commits ops sync) reply k' ⊎ Fails k (commits ops sync) reply k'

  done_of : (k : State) (reply : Reply) (k' : State) (text : List ℕ) → reply_text name reply ≡ Some text → Goes k reply k' → Done k (commits ops sync) reply k'
  done_of k reply k' text told (inl done) = done
  done_of k reply k' text told (inr failed) = absurd (no_failure name text reply k.faults _ _ told failed)

  of : (x y : Option Reply) → x ≡ y → Unless x m r m' (Goes m r m') → Unless y n q n' (Goes n q n') → (r ≡ q) × Alike m' n'
  of (Some x) (Some y) e u v = let due : x ≡ y = cc in (across u.0 due v.0, Alike-ends m' n' m n u.1 v.1 same)
  of (Some x) None e u v = cc
  of None (Some y) e u v = cc
  of None None e u v = Done-alike m n m' n' (commits ops sync) r q same (done_of m r m' a one u) (done_of n q n' b two v)

-- from states that are alike, an event that is told has one reply
Step-alike : (m n m' n' : State) (event : Event) (r q : Reply) (name a b : List ℕ) → Alike m n → Step m event r m' → Step n event q n'
    → reply_text name r ≡ Some a → reply_text name q ≡ Some b → (r ≡ q) × Alike m' n'
Step-alike m n m' n' event r q name a b same p d one two = of event p d where
  now : Alike (counted m'.faults m) (counted n'.faults n)
  now = Alike-logs m n m.log n.log m'.faults n'.faults same

  -- an event that is no commit is done
  other : (e : Event) → IsNoCommit e → Step m e r m' → Step n e q n' → (r ≡ q) × Alike m' n'
  other e no_commit x y = Done-alike (counted m'.faults m) (counted n'.faults n) m' n' e r q now (done_if_told m e r m' name a no_commit x one) (done_if_told n e q n' name b no_commit y two)

  of : (e : Event) → Step m e r m' → Step n e q n' → (r ≡ q) × Alike m' n'
  of (commits ops sync) x y = committed_alike (counted m'.faults m) (counted n'.faults n) m' n' ops sync r q name a b now x.answer y.answer one two
  of Sync x y = other Sync tt x y
  of snaps x y = other snaps tt x y
  of (releases number) x y = other (releases number) tt x y
  of (OpenAt called at options) x y = other (OpenAt called at options) tt x y
  of (Moves called move) x y = other (Moves called move) tt x y
  of (closes called) x y = other (closes called) tt x y
  of CloseCore x y = other CloseCore tt x y

-- a reply has one text
one_text : (name a b : List ℕ) (r q : Reply) → r ≡ q → reply_text name r ≡ Some a → reply_text name q ≡ Some b → a ≡ b
one_text name a b r q same p d = let texts : Some a ≡ Some b = sym p ∙ (ap (reply_text name) same ∙ d) in cc

DoesEvent-alike : (s t : SessionState) (name : List ℕ) (e f : Event) (bs cs : List (List ℕ × List Op)) (xs ys : List (List ℕ × ℕ)) (a b : List ℕ) (s' t' : SessionState)
    → Alike s.state t.state → e ≡ f → bs ≡ cs → xs ≡ ys → DoesEvent s name e bs xs a s' → DoesEvent t name f cs ys b t' → TellsAlike a b s' t'
DoesEvent-alike s t name e f bs cs xs ys a b s' t' same events batches snapshots p d =
    let P : Event → Type 0 = λ event. Step t.state event d.0 t'.state in
    let steps = Step-alike s.state t.state s'.state t'.state e p.0 d.0 name a b same p.1 (subst P (sym events) d.1) p.2 d.2 in (
      one_text name a b p.0 d.0 steps.0 p.2 d.2,
      record { states = steps.1; batches = across p.3 batches d.3; snapshots = across p.4 snapshots d.4 },
    )

same_batch : (s t : SessionState) (writer : List ℕ) → AreAlike s t → batch_of writer s ≡ batch_of writer t
same_batch s t writer same = ap (λ bs. unwrap_or (named writer bs) []) same.batches

DoesCommit-alike : (s t : SessionState) (writer : List ℕ) (a b : List ℕ) (s' t' : SessionState)
    → AreAlike s t → DoesCommit s writer a s' → DoesCommit t writer b t' → TellsAlike a b s' t'
DoesCommit-alike s t writer a b s' t' same p d =
    let ops = batch_of writer s in
    let batch : ops ≡ batch_of writer t = same_batch s t writer same in
    let P : List Op → Type 0 = λ os. Step t.state (commits os false) d.0 t'.state in
    let steps = Step-alike s.state t.state s'.state t'.state (commits ops false) p.0 d.0 writer a b same.states p.1 (subst P (sym batch) d.1) p.2 d.2 in
    let left : left_by p.0 ops ≡ left_by d.0 (batch_of writer t) = ap (λ r. left_by r ops) steps.0 ∙ ap (left_by d.0) batch in (
      one_text writer a b p.0 d.0 steps.0 p.2 d.2,
      record {
        states = steps.1;
        batches = across p.3 (ap (with_named writer (left_by p.0 ops)) same.batches ∙ ap (λ os. with_named writer os t.batches) left) d.3;
        snapshots = across p.4 same.snapshots d.4;
      },
    )

with_batch-alike : (s t : SessionState) (writer : List ℕ) (os qs : List Op) (s' t' : SessionState)
    → AreAlike s t → os ≡ qs → s' ≡ with_batch writer os s → t' ≡ with_batch writer qs t → AreAlike s' t'
with_batch-alike s t writer os qs s' t' same ops p d = record {
  states = Alike-ends s'.state t'.state s.state t.state (ap (λ e. e.state) p) (ap (λ e. e.state) d) same.states;
  batches = across (ap (λ e. e.batches) p) (ap (with_named writer os) same.batches ∙ ap (λ xs. with_named writer xs t.batches) ops) (ap (λ e. e.batches) d);
  snapshots = across (ap (λ e. e.snapshots) p) same.snapshots (ap (λ e. e.snapshots) d);
}

-- the checks of a batch pass, or one refusal comes first, and not both
DoesOp-alike : (s t : SessionState) (writer : List ℕ) (op : Op) (a b : List ℕ) (s' t' : SessionState)
    → AreAlike s t → DoesOp s writer op a s' → DoesOp t writer op b t' → TellsAlike a b s' t'
DoesOp-alike s t writer op a b s' t' same p d = of p d where
  batch : batch_of writer s ≡ batch_of writer t
  batch = same_batch s t writer same

  there : List Check
  there = checks (batch_of writer t) op

  first_there : (error : BatchError) → IsFirst (checks (batch_of writer s) op) error → IsFirst there error
  first_there error = subst (λ ops. IsFirst (checks ops op) error) batch

  of : DoesOp s writer op a s' → DoesOp t writer op b t' → TellsAlike a b s' t'
  of (inl x) (inl y) = (across x.1 refl y.1, with_batch-alike s t writer _ _ s' t' same (ap (λ ops. ops ++ op ∷ []) batch) x.2 y.2)
  of (inl x) (inr y) = absurd (first_fails there y.0 y.1 (subst (λ ops. AllPass (checks ops op)) batch x.0))
  of (inr x) (inl y) = absurd (first_fails there x.0 (first_there x.0 x.1) y.0)
  of (inr x) (inr y) =
      let error = one_first there x.0 y.0 (first_there x.0 x.1) y.1 in
      (across x.2 (ap (refused_text writer) error) y.2, with_batch-alike s t writer _ _ s' t' same batch x.3 y.3)

one_time : (s t : SessionState) (at : Option (List ℕ)) (x y : Option ℕ) → s.snapshots ≡ t.snapshots → IsTime s at x → IsTime t at y → x ≡ y
one_time s t None x y same p d = p ∙ sym d
one_time s t (Some name) x y same p d = sym p.0 ∙ (ap (named name) same ∙ d.0)

DoesMove-alike : (s t : SessionState) (iter : List ℕ) (step : Move) (a b : List ℕ) (s' t' : SessionState)
    → AreAlike s t → DoesMove s iter step a s' → DoesMove t iter step b t' → TellsAlike a b s' t'
DoesMove-alike s t iter step a b s' t' same p d =
    DoesEvent-alike s t iter (Moves iter step) _ _ _ _ _ a b s' t' same.states refl same.batches same.snapshots p d

Does-alike : (s t : SessionState) (event : LineEvent) (a b : List ℕ) (s' t' : SessionState) → AreAlike s t → Does s event a s' → Does t event b t' → TellsAlike a b s' t'
Does-alike s t (Commit writer) a b s' t' same p d = DoesCommit-alike s t writer a b s' t' same p d
Does-alike s t (Snap name) a b s' t' same p d =
    let more = ap (λ xs. xs ++ (name, last s.state.history) ∷ []) same.snapshots ∙ ap (λ h. t.snapshots ++ (name, last h) ∷ []) same.states.history in
    DoesEvent-alike s t name snaps _ _ _ _ _ a b s' t' same.states refl same.batches more p d
Does-alike s t (Release name) a b s' t' same p d =
    let number = one_thing name s.snapshots t.snapshots p.0 d.0 same.snapshots p.1 d.1 in
    DoesEvent-alike s t name _ _ _ _ _ _ a b s' t' same.states (ap releases number) same.batches (ap (without_named name) same.snapshots) p.2 d.2
Does-alike s t (Iter name at lower upper mask) a b s' t' same p d =
    let number = one_time s t at p.0 d.0 same.snapshots p.1 d.1 in
    DoesEvent-alike s t name _ _ _ _ _ _ a b s' t' same.states
    (ap (λ n. OpenAt name n (record { lower = lower; upper = upper; mask = mask })) number) same.batches same.snapshots p.2 d.2
Does-alike s t (Close iter) a b s' t' same p d =
    DoesEvent-alike s t iter (closes iter) _ _ _ _ _ a b s' t' same.states refl same.batches same.snapshots p d
Does-alike s t (Put w k v) a b s' t' same p d = DoesOp-alike s t w (op.Put k v) a b s' t' same p d
Does-alike s t (Del w k) a b s' t' same p d = DoesOp-alike s t w (op.Del k) a b s' t' same p d
Does-alike s t (RangeSet w st en x v) a b s' t' same p d = DoesOp-alike s t w (op.RangeSet st en x v) a b s' t' same p d
Does-alike s t (RangeUnset w st en x) a b s' t' same p d = DoesOp-alike s t w (op.RangeUnset st en x) a b s' t' same p d
Does-alike s t (RangeDel w st en) a b s' t' same p d = DoesOp-alike s t w (op.RangeDel st en) a b s' t' same p d
Does-alike s t (First iter) a b s' t' same p d = DoesMove-alike s t iter move.First a b s' t' same p d
Does-alike s t (Last iter) a b s' t' same p d = DoesMove-alike s t iter move.Last a b s' t' same p d
Does-alike s t (Next iter) a b s' t' same p d = DoesMove-alike s t iter move.Next a b s' t' same p d
Does-alike s t (Prev iter) a b s' t' same p d = DoesMove-alike s t iter move.Prev a b s' t' same p d
Does-alike s t (SeekGe iter key) a b s' t' same p d = DoesMove-alike s t iter (move.SeekGe key) a b s' t' same p d
Does-alike s t (SeekLt iter key) a b s' t' same p d = DoesMove-alike s t iter (move.SeekLt key) a b s' t' same p d
Does-alike s t Shape a b s' t' same p d = (
  across p.0 (ap (λ k. shape_text (shape_of (record s.state { memory = k }))) same.states.memory) d.0,
  subst (λ x. AreAlike x t') (sym p.1) (subst (λ y. AreAlike s y) (sym d.1) same),
)

transcripts_alike : (lines : List Line) (s t : SessionState) (a b : List ℕ) (s' t' : SessionState)
    → AreAlike s t → IsTranscript s lines a s' → IsTranscript t lines b t' → a ≡ b
transcripts_alike [] s t a b s' t' same p d = p.0 ∙ sym d.0
transcripts_alike (line ∷ lines) s t a b s' t' same p d =
    let here = Does-alike s t line.event p.0 d.0 p.2 d.2 same p.3 d.3 in
    let rest = transcripts_alike lines p.2 d.2 p.1 d.1 s' t' here.1 p.4 d.4 in
    p.5 ∙ (ap (λ first. first ++ p.1) here.0 ∙ (ap (λ later. d.0 ++ later) rest ∙ sym d.5))

pub one_transcript : (lines : List Line) (a b : List ℕ) (s t : SessionState) → IsTranscript begin lines a s → IsTranscript begin lines b t → a ≡ b
one_transcript lines a b s t p d =
    transcripts_alike lines begin begin a b s t (record { states = record { history = refl; iterators = refl; memory = refl; halted = refl; live = IsPermutation-refl [] }; batches = refl; snapshots = refl }) p d
