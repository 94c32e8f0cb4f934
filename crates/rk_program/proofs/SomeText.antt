-- Lines that are accepted one after the other have a transcript. The live numbers stay those of the snapshots, so that
-- each number that a line names is live, and the store is never halted.
use Rattle.std.proofs.Common.{◌≡◌, ℕ, suc, ◌⊎◌, ◌+◌, ◌<◌, Bool, true, false, not, ◌&&◌, ◌==◌, nat_lt, arith, List, [], ◌∷◌, ◌++◌, map, length, Option, Some, None, Ok, ap, sym, ◌∙◌, refl, subst, inl, inr}
use Rattle.std.proofs.lemmas.Bool.{ltb-true, lt-leb, eq-eqb}
use Rattle.std.proofs.lemmas.List.{map-id}
use Rattle.std.specs.Fmt.{decimal}
use Rattle.std.specs.List.{list_any}
use Rattle.std.specs.Option.{option_map, option_map_or}
use Rattle.std.specs.Prelude.{IsTrue, IsSome, IfSome, codes}
use Rattle.rk_model.specs.Moves.{Move}
use Rattle.rk_model.specs.Moves as move
use Rattle.rk_model.specs.Named.{named, with_named}
use Rattle.rk_model.specs.Operations.{last}
use Rattle.rk_model.specs.declared.op.Op.{Op}
use Rattle.rk_model.specs.declared.options.IterOptions.{IterOptions}
use Rattle.rk_batch.specs.declared.error.BatchError.{BatchError}
use Rattle.rk_batch.specs.Checks.{AllPass, IsFirst, checks}
use Rattle.rk_model.specs.Lists.{none_of}
use Rattle.rk_model.proofs.Members.{any_from, among_contained}
use Rattle.rk_outside.specs.declared.error.StoreError.TheVariants.{EmptyBatch, SequenceEnd, MemFull, NoSnap, TooManySnaps, Halted}
use Rattle.rk_machine.specs.Sizes.{batch_size}
use Rattle.rk_machine.specs.State.{State, shape_of}
use Rattle.rk_machine.specs.Events.{Commit as commits, Snap as snaps, Release as releases, OpenAt, Moves, Close as closes, Reply, Number, Released, Opened, Stands, Closed, Refused}
use Rattle.rk_machine.specs.Due.{answer_if, first_due}
use Rattle.rk_machine.specs.Commits.{commit_due, numbers_of, after_commit, is_frozen, passes_memtable}
use Rattle.rk_machine.specs.Snapshots.{if_not_live, snap_due}
use Rattle.rk_machine.specs.Iterators.{opened, open_due, moved_on, without_named}
use Rattle.rk_machine.specs.Faults.{is_fault}
use Rattle.rk_machine.specs.Machine.{Step}
use Rattle.rk_machine.specs.declared.limits.TheConstants.{MOST_NUMBER, MOST_SNAPSHOTS}
use Rattle.rk_machine.proofs.Steps.{live_of_commit}
use Rattle.rk_memstore.proofs.Commits.{halted_of_commit, faults_of_commit}
use Rattle.rk_memstore.proofs.Steps.{step_due, step_goes_on}
use Rattle.rk_script.specs.Naming.{is_called}
use Rattle.rk_script.specs.Script.{script, is_accepted, no_names}
use Rattle.rk_script.specs.Words.{line_end, lines as lines_of}
use Rattle.rk_script.specs.declared.line.Event.{Event}
use Rattle.rk_script.specs.declared.line.Event.TheVariants.{Put, Del, RangeSet, RangeUnset, RangeDel, Commit, Snap, Release, Iter, First, Last, Next, Prev, SeekGe, SeekLt, Close, Shape}
use Rattle.rk_script.specs.declared.line.Line.{Line}
use Rattle.rk_program.specs.Replies.{refused_text, reply_text, stands_text, shape_text}
use Rattle.rk_program.specs.Transcript.{SessionState, begin, batch_of, with_batch, left_by, IsTime, Does, DoesOp, DoesOpening, DoesEvent, IsTranscript, names_of, AreAccepted}
use Rattle.rk_program.proofs.Accepted.{all_three, not_called}
use Rattle.rk_program.proofs.EndLemmas.{read_from-accepted}
use Rattle.rk_batch.proofs.FailedChecks.{all_or_first}
use Rattle.rk_program.proofs.LineLemmas.{is_there}
use Rattle.rk_program.proofs.NameLemmas.{map-snoc, names_of-Does}
use Rattle.rk_program.proofs.Naming.{named-there, named-absent, named-Contains, named-TakesOne}

-- the live numbers are those of the snapshots, and the store is not halted
record CanGoOn (s : SessionState) : Type 0 where
  live : s.state.live ≡ map (λ x. x.1) s.snapshots
  running : s.state.halted ≡ None

-- there is what a line does, and the next line can be done
abbrev IsDone : (List ℕ → SessionState → Type 0) → Type 0
IsDone What = (text : List ℕ) × (t : SessionState) × What text t × CanGoOn t

the_thing : {A : Type 0} (found : Option A) → IsSome found → (a : A) × (found ≡ Some a)
the_thing None is = cc
the_thing (Some a) is = (a, refl)

-- a name in use is that of a thing
thing_of : {A : Type 0} (name : List ℕ) (xs : List (List ℕ × A)) → is_called name (map (λ x. x.0) xs) ≡ true → (a : A) × (named name xs ≡ Some a)
thing_of name xs there =
    let same : map (λ x. (x.0, x.1)) xs ≡ xs = map-id xs in
    the_thing (named name xs) (subst (λ ys. IsSome (named name ys)) same (named-there (λ x. x.0) (λ x. x.1) name xs there))

nothing_of : {A : Type 0} (name : List ℕ) (xs : List (List ℕ × A)) → is_called name (map (λ x. x.0) xs) ≡ false → named name xs ≡ None
nothing_of name xs none =
    let same : map (λ x. (x.0, x.1)) xs ≡ xs = map-id xs in
    subst (λ ys. named name ys ≡ None) same (named-absent (λ x. x.0) (λ x. x.1) name xs none)

op_done : (s : SessionState) (writer : List ℕ) (op : Op) → CanGoOn s → IsDone (DoesOp s writer op)
op_done s writer op on = of (all_or_first (checks (batch_of writer s) op)) where
  of : AllPass (checks (batch_of writer s) op) ⊎ ((error : BatchError) × IsFirst (checks (batch_of writer s) op) error) → IsDone (DoesOp s writer op)
  of (inl all) = ([], with_batch writer (batch_of writer s ++ op ∷ []) s, inl (all, refl, refl), record { live = on.live; running = on.running })
  of (inr first) = (refused_text writer first.0, with_batch writer (batch_of writer s) s, inr (first.0, first.1, refl, refl), record { live = on.live; running = on.running })

-- a reply that has a text, and tells of no fault
abbrev IsTold : List ℕ → Reply → Type 0
IsTold w reply = IsSome (reply_text w reply) × (is_fault reply ≡ false)

-- what is due of a commit is told, where the store is not halted
told_first : (w : List ℕ) (m : State) (ops : List Op) (reply : Reply) → m.halted ≡ None → commit_due m ops ≡ Some reply → IsTold w reply
told_first w m ops reply running is =
    of (none_of ops) m.halted (nat_lt MOST_NUMBER (last m.history + length ops)) (is_frozen m && passes_memtable m (batch_size ops)) running is where
      of : (x : Bool) (halted : Option ℕ) (y z : Bool) → halted ≡ None
          → first_due (
          answer_if x (Refused EmptyBatch)
          ∷ option_map (λ faults. Refused (Halted faults)) halted
          ∷ answer_if y (Refused (SequenceEnd (last m.history) (length ops)))
          ∷ answer_if z (Refused (MemFull m.memory.active (batch_size ops)))
          ∷ []) ≡ Some reply
          → IsTold w reply
      of true halted y z none e = let same : Refused EmptyBatch ≡ reply = cc in subst (IsTold w) same (refl, refl)
      of false (Some faults) y z none e = cc
      of false None true z none e = let same : Refused (SequenceEnd (last m.history) (length ops)) ≡ reply = cc in subst (IsTold w) same (refl, refl)
      of false None false true none e = let same : Refused (MemFull m.memory.active (batch_size ops)) ≡ reply = cc in subst (IsTold w) same (refl, refl)
      of false None false false none e = cc

-- a step of a commit, its reply's text, and what it leaves as it is
record Committing (w : List ℕ) (m : State) (ops : List Op) : Type 0 where
  reply : Reply
  after : State
  text : List ℕ
  step : Step m (commits ops false) reply after
  told : reply_text w reply ≡ Some text
  live : after.live ≡ m.live
  halted : after.halted ≡ m.halted

commit_step : (w : List ℕ) (m : State) (ops : List Op) → m.halted ≡ None → Committing w m ops
commit_step w m ops running = of (commit_due m ops) refl where
  of : (d : Option Reply) → commit_due m ops ≡ d → Committing w m ops
  of (Some reply) is =
      let told = told_first w m ops reply running is in
      let text = the_thing (reply_text w reply) told.0 in
      record { reply = reply; after = m; text = text.0; step = step_due m (commits ops false) reply told.1 tt is; told = text.1; live = refl; halted = refl }
  of None is = record {
    reply = numbers_of m ops;
    after = after_commit ops false m;
    text = w ++ codes " committed " ++ decimal (last m.history + 1) ++ codes " to " ++ decimal (last m.history + length ops) ++ line_end ∷ [];
    step = step_goes_on m (commits ops false) (numbers_of m ops) (after_commit ops false m) (faults_of_commit m ops false) refl tt is (inl (refl, refl));
    told = refl;
    live = live_of_commit m ops false (after_commit ops false m) refl;
    halted = halted_of_commit m ops false;
  }

commit_done : (s : SessionState) (writer : List ℕ) → CanGoOn s → IsDone (Does s (Commit writer))
commit_done s writer on =
    let c = commit_step writer s.state (batch_of writer s) on.running in (
      c.text,
      record { state = c.after; batches = with_named writer (left_by c.reply (batch_of writer s)) s.batches; snapshots = s.snapshots },
      (c.reply, c.step, c.told, refl, refl),
      record { live = c.live ∙ on.live; running = c.halted ∙ on.running },
    )

length-map : {A B : Type 0} (f : A → B) (xs : List A) → length (map f xs) ≡ length xs
length-map f [] = refl
length-map f (x ∷ xs) = ap suc (length-map f xs)

snap_done : (s : SessionState) (name : List ℕ) → CanGoOn s → nat_lt (length (names_of s).snapshots) MOST_SNAPSHOTS ≡ true → IsDone (Does s (Snap name))
snap_done s name on room =
    let n = last s.state.history in
    let many : length s.state.live ≡ length (names_of s).snapshots = ap length on.live ∙ (length-map (λ x. x.1) s.snapshots ∙ sym (length-map (λ x. x.0) s.snapshots)) in
    let few : length s.state.live < MOST_SNAPSHOTS = let less = ltb-true (length (names_of s).snapshots) MOST_SNAPSHOTS room in omega (arith, less, many) in
    let none : snap_due s.state ≡ None = ap (λ b. answer_if b (Refused (TooManySnaps (length s.state.live)))) (lt-leb MOST_SNAPSHOTS (length s.state.live) few) in (
      name ++ codes " at " ++ decimal n ++ line_end ∷ [],
      record { state = record s.state { live = s.state.live ++ n ∷ [] }; batches = s.batches; snapshots = s.snapshots ++ (name, n) ∷ [] },
      (Number n, step_goes_on s.state snaps (Number n) _ refl refl tt none (inl (refl, refl)), refl, refl, refl),
      record { live = ap (λ l. l ++ n ∷ []) on.live ∙ sym (map-snoc (λ p. p.1) s.snapshots (name, n)); running = on.running },
    )

-- a number that has a name is live
live_is : (s : SessionState) (name : List ℕ) (number : ℕ) → CanGoOn s → named name s.snapshots ≡ Some number → if_not_live s.state number ≡ None
live_is s name number on found =
    let there : list_any (λ n. n == number) (map (λ x. x.1) s.snapshots) ≡ true =
    any_from (λ n. n == number) (map (λ x. x.1) s.snapshots) number (among_contained (map (λ x. x.1) s.snapshots) number (named-Contains name number s.snapshots found)) (eq-eqb number number refl) in
    ap (λ b. answer_if (not b) (Refused (NoSnap number))) (ap (list_any (λ n. n == number)) on.live ∙ there)

release_done : (s : SessionState) (name : List ℕ) → CanGoOn s → is_called name (names_of s).snapshots ≡ true → IsDone (Does s (Release name))
release_done s name on there =
    let number = thing_of name s.snapshots there in
    let rest = without_named name s.snapshots in
    let taken = rw (← on.live) at (named-TakesOne name number.0 s.snapshots number.1) in (
      name ++ codes " released" ++ line_end ∷ [],
      record { state = record s.state { live = map (λ p. p.1) rest }; batches = s.batches; snapshots = rest },
      (
        number.0,
        number.1,
        (Released, step_goes_on s.state (releases number.0) Released _ refl refl tt (live_is s name number.0 on number.1) (inl (refl, (taken, refl))), refl, refl, refl),
      ),
      record { live = refl; running = on.running },
    )

-- the number of the snapshot that an opening names is live
time_of : (s : SessionState) (at : Option (List ℕ)) → CanGoOn s → IfSome at (λ name. is_called name (names_of s).snapshots ≡ true)
    → (number : Option ℕ) × IsTime s at number × (open_due s.state number ≡ None)
time_of s None on there = (None, refl, refl)
time_of s (Some name) on there =
    let number = thing_of name s.snapshots there in
    (Some number.0, (number.1, refl), live_is s name number.0 on number.1)

snapshot_there : (names : List (List ℕ)) (at : Option (List ℕ)) → option_map_or (λ snapshot. is_called snapshot names) at true ≡ true
    → IfSome at (λ snapshot. is_called snapshot names ≡ true)
snapshot_there names None there = tt
snapshot_there names (Some name) there = there

open_done : (s : SessionState) (name : List ℕ) (at : Option (List ℕ)) (options : IterOptions) → CanGoOn s
    → is_called name (names_of s).iterators ≡ false → IfSome at (λ snapshot. is_called snapshot (names_of s).snapshots ≡ true) → IsDone (DoesOpening s name at options)
open_done s name at options on free there =
    let time = time_of s at on there in
    let it = opened s.state time.0 options in (
      name ++ codes " open at " ++ decimal it.number ++ line_end ∷ [],
      record { state = record s.state { iterators = s.state.iterators ++ (name, it) ∷ [] }; batches = s.batches; snapshots = s.snapshots },
      (
        time.0,
        time.1,
        (
          Opened it.number,
          step_goes_on s.state (OpenAt name time.0 options) (Opened it.number) _ refl refl (nothing_of name s.state.iterators free) time.2 (inl (refl, refl)),
          refl,
          refl,
          refl,
        ),
      ),
      record { live = on.live; running = on.running },
    )

move_done : (s : SessionState) (name : List ℕ) (move : Move) → CanGoOn s → is_called name (names_of s).iterators ≡ true
    → IsDone (DoesEvent s name (Moves name move) s.batches s.snapshots)
move_done s name move on there =
    let it = thing_of name s.state.iterators there in
    let after = moved_on it.0 move in (
      stands_text name after.view,
      record { state = record s.state { iterators = with_named name after s.state.iterators }; batches = s.batches; snapshots = s.snapshots },
      (Stands after, step_goes_on s.state (Moves name move) (Stands after) _ refl refl (is_there (named name s.state.iterators) it.0 it.1) refl (inl (it.0, it.1, refl, refl)), refl, refl, refl),
      record { live = on.live; running = on.running },
    )

close_done : (s : SessionState) (name : List ℕ) → CanGoOn s → is_called name (names_of s).iterators ≡ true → IsDone (Does s (Close name))
close_done s name on there =
    let it = thing_of name s.state.iterators there in (
      name ++ codes " closed" ++ line_end ∷ [],
      record { state = record s.state { iterators = without_named name s.state.iterators }; batches = s.batches; snapshots = s.snapshots },
      (Closed, step_goes_on s.state (closes name) Closed _ refl refl (is_there (named name s.state.iterators) it.0 it.1) refl (inl (refl, refl)), refl, refl, refl),
      record { live = on.live; running = on.running },
    )

line_done : (s : SessionState) (event : Event) → CanGoOn s → IsTrue (is_accepted (names_of s) event) → IsDone (Does s event)
line_done s (Put w k v) on is = op_done s w _ on
line_done s (Del w k) on is = op_done s w _ on
line_done s (RangeSet w st en x v) on is = op_done s w _ on
line_done s (RangeUnset w st en x) on is = op_done s w _ on
line_done s (RangeDel w st en) on is = op_done s w _ on
line_done s (Commit w) on is = commit_done s w on
line_done s (Snap name) on is = snap_done s name on (all_three true (not (is_called name (names_of s).snapshots)) (nat_lt (length (names_of s).snapshots) MOST_SNAPSHOTS) is).2
line_done s (Release name) on is = release_done s name on (all_three _ _ _ is).0
line_done s (Iter name at lower upper mask) on is =
    let all = all_three _ _ _ is in open_done s name at _ on (not_called _ all.1) (snapshot_there (names_of s).snapshots at all.0)
line_done s (First iter) on is = move_done s iter move.First on (all_three _ _ _ is).0
line_done s (Last iter) on is = move_done s iter move.Last on (all_three _ _ _ is).0
line_done s (Next iter) on is = move_done s iter move.Next on (all_three _ _ _ is).0
line_done s (Prev iter) on is = move_done s iter move.Prev on (all_three _ _ _ is).0
line_done s (SeekGe iter key) on is = move_done s iter (move.SeekGe key) on (all_three _ _ _ is).0
line_done s (SeekLt iter key) on is = move_done s iter (move.SeekLt key) on (all_three _ _ _ is).0
line_done s (Close iter) on is = close_done s iter on (all_three _ _ _ is).0
line_done s Shape on is = (shape_text (shape_of s.state), s, (refl, refl), on)

lines_done : (lines : List Line) (s : SessionState) → CanGoOn s → AreAccepted (names_of s) lines → (text : List ℕ) × (end : SessionState) × IsTranscript s lines text end
lines_done [] s on are = ([], s, (refl, refl))
lines_done (line ∷ lines) s on are =
    let here = line_done s line.event on are.0 in
    let rest = lines_done lines here.1 here.3 (rw (names_of-Does s line.event here.0 here.1 here.2) are.1) in
    (here.0 ++ rest.0, rest.1, (here.0, rest.0, here.1, here.2, rest.2, refl))

pub some_transcript : (file : List ℕ) (lines : List Line) → script file ≡ Ok lines → (text : List ℕ) × (end : SessionState) × IsTranscript begin lines text end
some_transcript file lines is = lines_done lines begin (record { live = refl; running = refl }) (read_from-accepted 1 no_names (lines_of file) lines is)
