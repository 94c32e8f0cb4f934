-- Lines on iterators: what they do to a session, and to the state that it stands for.
use Rattle.std.proofs.Common.{◌≡◌, ℕ, ◌<◌, false, List, [], ◌∷◌, ◌++◌, map, length, take, set, zero, suc, remove, get_or, Option, Some, None, arith, ap, sym, ◌∙◌, refl, subst, inl}
use Rattle.std.specs.Option.{option_map, option_map_or, option_and_then}
use Rattle.std.specs.Prelude.{if◌then◌else◌, Bool, Result, Ok, IsSome, codes}
use Rattle.rk_outside.specs.declared.error.SourceError.{SourceError}
use Rattle.rk_model.specs.Covers.{upto}
use Rattle.rk_model.specs.Moves.{Move, opened_over, key_at}
use Rattle.rk_model.specs.Positions.{report}
use Rattle.rk_model.specs.declared.cursor.Cursor.{Cursor}
use Rattle.rk_model.specs.declared.cursor.Cursor.TheVariants.{Fresh, Start, At, End}
use Rattle.rk_model.specs.declared.op.Entry.{Entry}
use Rattle.rk_model.specs.Named.{named, with_named}
use Rattle.rk_model.specs.Operations.{entries}
use Rattle.rk_model.specs.Spans.{same_bytes}
use Rattle.rk_model.specs.declared.options.IterOptions.{IterOptions}
use Rattle.rk_laws.specs.SameCells.{KeyBounds, SeeksKey}
use Rattle.rk_mem.specs.Memory.{Pinned}
use Rattle.rk_machine.specs.State.{State, Open}
use Rattle.rk_machine.specs.Events.{OpenAt, Moves as moves, Close as closes, Opened, Stands, Closed}
use Rattle.rk_machine.specs.Iterators.{without_named, moved_on, opened}
use Rattle.rk_memstore.specs.Standing.{MemSeen, StandsInMemory}
use Rattle.rk_memstore.specs.Answers.{Pins}
use Rattle.rk_memstore.proofs.Steps.{step_goes_on}
use Rattle.rk_iter.specs.Iterating.{Iterating, Moves}
use Rattle.rk_iter_laws.specs.Showing.{IsAt, opened_on}
use Rattle.rk_iter_laws.proofs.Showing.{opens_alike, moves_alike}
use Rattle.rk_script.specs.Naming.{is_called}
use Rattle.rk_script.specs.Words.{line_end}
use Rattle.rk_model.specs.declared.op.Op.{Op}
use Rattle.rk_script.specs.declared.line.Event.{Event}
use Rattle.rk_script.specs.declared.line.Event.TheVariants.{Put, Del, RangeSet, RangeUnset, RangeDel, Commit, Snap, Release, Iter, First, Last, Next, Prev, SeekGe, SeekLt, Close, Shape}
use Rattle.rk_program.specs.Asked.{operation_of}
use Rattle.rk_program.specs.Replies.{stands_text, report_text, off_text, lent_text, lent_place, place_text, Tells}
use Rattle.rk_program.specs.Standing.{StandsFor, Did, DidSo, AreAt, batches, numbers}
use Rattle.rk_program.specs.Transcript.{SessionState, IsTime, Does, DoesOp, DoesMove, DoesOpening}
use Rattle.rk_program.specs.declared.session.OpenIterator.{OpenIterator}
use Rattle.rk_program.specs.declared.session.Session.{Session}
use Rattle.rk_program.proofs.Naming.{IsFirst, or_false, same_bytes-refl}

abbrev pub iterator_name : OpenIterator → List ℕ
iterator_name i = i.name

-- ---- lists of iterators that are where those of the machine are

pub names_alike : (its : List OpenIterator) (os : List (List ℕ × Open)) → AreAt its os → map iterator_name its ≡ map (λ o. o.0) os
names_alike [] [] at = refl
names_alike [] (o ∷ os) at = absurd at
names_alike (i ∷ its) [] at = absurd at
names_alike (i ∷ its) (o ∷ os) at = ap (λ n. n ∷ map iterator_name its) at.0 ∙ ap (λ ns. o.0 ∷ ns) (names_alike its os at.2)

-- one of the machine's has no name that none of these has
pub none_named : (its : List OpenIterator) (os : List (List ℕ × Open)) (name : List ℕ) → AreAt its os → is_called name (map iterator_name its) ≡ false → named name os ≡ None
none_named [] [] name at none = refl
none_named [] (o ∷ os) name at none = absurd at
none_named (i ∷ its) [] name at none = absurd at
none_named (i ∷ its) (o ∷ os) name at none =
    let both = or_false (same_bytes i.name name) (is_called name (map iterator_name its)) none in
    rw (ap (λ n. same_bytes n name) (sym at.0) ∙ both.0) (none_named its os name at.2 both.1)

-- one of the machine's, and where it is
pub record Found (os : List (List ℕ × Open)) (name : List ℕ) (it : Iterating) : Type 0 where
  pub open_it : Open
  pub found : named name os ≡ Some open_it
  pub at : IsAt it open_it

-- the first of a name is where the machine's first of that name is
pub found_at : (its : List OpenIterator) (os : List (List ℕ × Open)) (name : List ℕ) (i : ℕ) (d : OpenIterator) → AreAt its os → i < length its
    → is_called name (map iterator_name (take i its)) ≡ false → (get_or its i d).name ≡ name → Found os name (get_or its i d).iter
found_at [] os name i d at within none here = absurd (omega arith)
found_at (x ∷ its) [] name i d at within none here = absurd at
found_at (x ∷ its) (o ∷ os) name zero d at within none here =
    record { open_it = o.1; found = rw (same_bytes-refl o.0 name (sym at.0 ∙ here)) refl; at = at.1 }
found_at (x ∷ its) (o ∷ os) name (suc i) d at within none here =
    let both = or_false (same_bytes x.name name) (is_called name (map iterator_name (take i its))) none in
    let later = found_at its os name i d at.2 (omega arith) both.1 here in
    record { open_it = later.open_it; found = rw (ap (λ n. same_bytes n name) (sym at.0) ∙ both.0) later.found; at = later.at }

-- another one is put in its place
pub set_at : (its : List OpenIterator) (os : List (List ℕ × Open)) (name : List ℕ) (i : ℕ) (d y : OpenIterator) (o' : Open) → AreAt its os → i < length its
    → is_called name (map iterator_name (take i its)) ≡ false → (get_or its i d).name ≡ name → y.name ≡ name → IsAt y.iter o' → AreAt (set its i y) (with_named name o' os)
set_at [] os name i d y o' at within none here called new = absurd (omega arith)
set_at (x ∷ its) [] name i d y o' at within none here called new = absurd at
set_at (x ∷ its) (o ∷ os) name zero d y o' at within none here called new =
    rw (same_bytes-refl o.0 name (sym at.0 ∙ here)) (called, new, at.2)
set_at (x ∷ its) (o ∷ os) name (suc i) d y o' at within none here called new =
    let both = or_false (same_bytes x.name name) (is_called name (map iterator_name (take i its))) none in
    rw (ap (λ n. same_bytes n name) (sym at.0) ∙ both.0) (at.0, at.1, set_at its os name i d y o' at.2 (omega arith) both.1 here called new)

-- and without it
pub removed_at : (its : List OpenIterator) (os : List (List ℕ × Open)) (name : List ℕ) (i : ℕ) (d : OpenIterator) → AreAt its os → i < length its
    → is_called name (map iterator_name (take i its)) ≡ false → (get_or its i d).name ≡ name → AreAt (remove its i) (without_named name os)
removed_at [] os name i d at within none here = absurd (omega arith)
removed_at (x ∷ its) [] name i d at within none here = absurd at
removed_at (x ∷ its) (o ∷ os) name zero d at within none here = rw (same_bytes-refl o.0 name (sym at.0 ∙ here)) at.2
removed_at (x ∷ its) (o ∷ os) name (suc i) d at within none here =
    let both = or_false (same_bytes x.name name) (is_called name (map iterator_name (take i its))) none in
    rw (ap (λ n. same_bytes n name) (sym at.0) ∙ both.0) (at.0, at.1, removed_at its os name i d at.2 (omega arith) both.1 here)

-- one more at the end
pub more_at : (its : List OpenIterator) (os : List (List ℕ × Open)) (y : OpenIterator) (name : List ℕ) (o' : Open) → AreAt its os → y.name ≡ name → IsAt y.iter o'
    → AreAt (its ++ y ∷ []) (os ++ (name, o') ∷ [])
more_at [] [] y name o' at called new = (called, new, tt)
more_at [] (o ∷ os) y name o' at called new = absurd at
more_at (x ∷ its) [] y name o' at called new = absurd at
more_at (x ∷ its) (o ∷ os) y name o' at called new = (at.0, at.1, more_at its os y name o' at.2 called new)

-- ---- a state with other iterators

abbrev with_iterators : SessionState → List (List ℕ × Open) → SessionState
with_iterators s os = record s { state = record s.state { iterators = os } }

mem_with : (c : MemSeen) (m : State) (os : List (List ℕ × Open)) → StandsInMemory c m → StandsInMemory c (record m { iterators = os })
mem_with c m os stands = record {
  commits = stands.commits;
  keyed = stands.keyed;
  agrees = stands.agrees;
  active = stands.active;
  frozen = stands.frozen;
  last = stands.last;
  live = stands.live;
}

-- a session whose iterators alone change
stands_with : {V : Type 0} (old new : Session V) (s : SessionState) (os : List (List ℕ × Open)) → StandsFor old s → new.mem ≡ old.mem
    → new.writers.items ≡ old.writers.items → new.snapshots.items ≡ old.snapshots.items → AreAt new.iterators.items os → StandsFor new (with_iterators s os)
stands_with old new s os stands same_mem same_writers same_snapshots at = record {
  mem = subst (λ c. StandsInMemory c (record s.state { iterators = os })) (sym same_mem) (mem_with old.mem s.state os stands.mem);
  running = stands.running;
  batches = ap batches same_writers ∙ stands.batches;
  snapshots = ap numbers same_snapshots ∙ stands.snapshots;
  live = stands.live;
  iterators = at;
}

-- ---- openings

pub open_does : {V : Type 0} (old new : Session V) (name : List ℕ) (at : Option (List ℕ)) (options : IterOptions) (time : Option ℕ) (pins : Pinned) (it : OpenIterator) (before now : List ℕ) (s : SessionState)
    → StandsFor old s → is_called name (map iterator_name old.iterators.items) ≡ false → IsTime s at time
    → ((m : State) → StandsInMemory old.mem m → Pins m time (Ok pins))
    → KeyBounds options → new.mem ≡ old.mem
    → new.writers.items ≡ old.writers.items → new.snapshots.items ≡ old.snapshots.items → new.iterators.items ≡ old.iterators.items ++ it ∷ []
    → it.name ≡ name → it.iter ≡ opened_on pins options → Tells before now name (Opened pins.number)
    → DidSo (DoesOpening s name at options) before now new
open_does old new name at options time pins it before now s stands free is_time pinned bounds same_mem same_writers same_snapshots more called is tells =
    let h = s.state.history in
    let (not_due, number, shows) = pinned s.state stands.mem in
    let o = opened s.state time options in
    let here : IsAt (opened_on pins options) (record { number = pins.number; view = opened_over (upto pins.number (entries h)) options }) =
    opens_alike pins (upto pins.number (entries h)) options shows.differ (shows.cells options bounds) in
    let there : IsAt it.iter o =
    subst (λ i. IsAt i o) (sym is) (subst (λ n. IsAt (opened_on pins options) (record { number = n; view = opened_over (upto n (entries h)) options })) number here) in
    let none : named name s.state.iterators ≡ None = none_named old.iterators.items s.state.iterators name stands.iterators free in (
      tells.0,
      with_iterators s (s.state.iterators ++ (name, o) ∷ []),
      (
        time,
        is_time,
        (
          Opened pins.number,
          step_goes_on s.state (OpenAt name time options) (Opened pins.number) _ refl refl none not_due (inl (ap Opened number, refl)),
          tells.1,
          refl,
          refl,
        ),
      ),
      stands_with old new s (s.state.iterators ++ (name, o) ∷ []) stands same_mem same_writers same_snapshots
          (subst (λ is. AreAt is (s.state.iterators ++ (name, o) ∷ [])) (sym more) (more_at old.iterators.items s.state.iterators it name o stands.iterators called there)),
      tells.2,
    )

-- ---- moves

place_alike : (it : Iterating) (es : List Entry) (o : IterOptions) (c : Cursor) → it.cursor ≡ c
    → it.value ≡ option_and_then (λ r. r.value) (option_map (report es o) (key_at c))
    → it.span ≡ option_and_then (λ r. r.span) (option_map (report es o) (key_at c))
    → lent_place it ≡ option_map_or report_text (option_map (report es o) (key_at c)) (off_text c)
place_alike it es o c cursor value span =
    ap (λ k. option_map_or (λ key. report_text (record { key = key; value = it.value; span = it.span })) (key_at k) (off_text k)) cursor ∙ there c value span where
      there : (k : Cursor) → it.value ≡ option_and_then (λ r. r.value) (option_map (report es o) (key_at k)) → it.span ≡ option_and_then (λ r. r.span) (option_map (report es o) (key_at k))
          → option_map_or (λ key. report_text (record { key = key; value = it.value; span = it.span })) (key_at k) (off_text k)
          ≡ option_map_or report_text (option_map (report es o) (key_at k)) (off_text k)
      there Fresh p q = refl
      there Start p q = refl
      there (At x) p q = λ j. report_text (record { key = x; value = p j; span = q j })
      there End p q = refl

-- what is lent is what is reported
lent_is : (name : List ℕ) (it : Iterating) (at : Open) → IsAt it at → lent_text name it ≡ stands_text name at.view
lent_is name it at a =
    ap (λ p. name ++ p ++ (if it.changed then codes " changed" else []) ++ line_end ∷ []) (place_alike it at.view.sees at.view.options at.view.cursor a.cursor a.value a.span)
    ∙ ap (λ b. name ++ place_text at.view ++ (if b then codes " changed" else []) ++ line_end ∷ []) a.changed

pub is_there : {A : Type 0} (found : Option A) (a : A) → found ≡ Some a → IsSome found
is_there None a is = cc
is_there (Some b) a is = refl

pub move_does : {V : Type 0} (old new : Session V) (name : List ℕ) (i : ℕ) (it y : OpenIterator) (move : Move) (there : Bool) (answer : Result Bool SourceError) (called before now : List ℕ) (s : SessionState)
    → StandsFor old s → IsFirst iterator_name old.iterators.items name i → it ≡ get_or old.iterators.items i it
    → new.mem ≡ old.mem → new.writers.items ≡ old.writers.items → new.snapshots.items ≡ old.snapshots.items → new.iterators.items ≡ set old.iterators.items i y
    → y.name ≡ it.name → answer ≡ Ok there → Moves it.iter y.iter move answer → SeeksKey move
    → called ≡ name → now ≡ before ++ lent_text called y.iter
    → DidSo (DoesMove s name move) before now new
move_does old new name i it y move there answer called before now s stands first is same_mem same_writers same_snapshots put same_name well by_moving seeks under said =
    let here = found_at old.iterators.items s.state.iterators name i it stands.iterators first.within first.first (first.here it) in
    let at : IsAt it.iter here.open_it = subst (λ k. IsAt k.iter here.open_it) (sym is) here.at in
    let o = moved_on here.open_it move in
    let after : IsAt y.iter o = moves_alike it.iter y.iter here.open_it move answer there well at seeks by_moving in
    let y_called : y.name ≡ name = same_name ∙ (ap iterator_name is ∙ first.here it) in (
      stands_text name o.view,
      with_iterators s (with_named name o s.state.iterators),
      (
        Stands o,
        step_goes_on s.state (moves name move) (Stands o) _ refl refl (is_there (named name s.state.iterators) here.open_it here.found) refl (inl (here.open_it, here.found, refl, refl)),
        refl,
        refl,
        refl,
      ),
      stands_with old new s (with_named name o s.state.iterators) stands same_mem same_writers same_snapshots
          (subst (λ is. AreAt is (with_named name o s.state.iterators)) (sym put)
          (set_at old.iterators.items s.state.iterators name i it y o stands.iterators first.within first.first (first.here it) y_called after)),
      said ∙ (ap (λ n. before ++ lent_text n y.iter) under ∙ ap (λ t. before ++ t) (lent_is name y.iter o after)),
    )

-- ---- closings

pub close_does : {V : Type 0} (old new : Session V) (name : List ℕ) (i : ℕ) (d : OpenIterator) (before now : List ℕ) (s : SessionState)
    → StandsFor old s → IsFirst iterator_name old.iterators.items name i
    → new.mem ≡ old.mem → new.writers.items ≡ old.writers.items → new.snapshots.items ≡ old.snapshots.items → new.iterators.items ≡ remove old.iterators.items i
    → Tells before now name Closed
    → DidSo (Does s (Close name)) before now new
close_does old new name i d before now s stands first same_mem same_writers same_snapshots less tells =
    let here = found_at old.iterators.items s.state.iterators name i d stands.iterators first.within first.first (first.here d) in (
      tells.0,
      with_iterators s (without_named name s.state.iterators),
      (
        Closed,
        step_goes_on s.state (closes name) Closed _ refl refl (is_there (named name s.state.iterators) here.open_it here.found) refl (inl (refl, refl)),
        tells.1,
        refl,
        refl,
      ),
      stands_with old new s (without_named name s.state.iterators) stands same_mem same_writers same_snapshots
          (subst (λ is. AreAt is (without_named name s.state.iterators)) (sym less)
          (removed_at old.iterators.items s.state.iterators name i d stands.iterators first.within first.first (first.here d))),
      tells.2,
    )

-- ---- lines on batches

-- an operation that a line asks for was done
pub operation_did : {V : Type 0} (s : SessionState) (event : Event) (writer : List ℕ) (o : Op) (before now : List ℕ) (session : Session V)
    → operation_of event ≡ Some (writer, o) → DidSo (DoesOp s writer o) before now session → Did s event before now session
operation_did s event writer o before now session is did = of event is where
  for : (x y : List ℕ × Op) → Some x ≡ Some y → DidSo (DoesOp s y.0 y.1) before now session → DidSo (DoesOp s x.0 x.1) before now session
  for x y same done = let one : x ≡ y = cc in subst (λ z. DidSo (DoesOp s z.0 z.1) before now session) (sym one) done

  of : (e : Event) → operation_of e ≡ Some (writer, o) → Did s e before now session
  of (Put w k v) same = for _ _ same did
  of (Del w k) same = for _ _ same did
  of (RangeSet w st en x v) same = for _ _ same did
  of (RangeUnset w st en x) same = for _ _ same did
  of (RangeDel w st en) same = for _ _ same did
  of (Commit w) same = cc
  of (Snap name) same = cc
  of (Release name) same = cc
  of (Iter name at lower upper mask) same = cc
  of (First iter) same = cc
  of (Last iter) same = cc
  of (Next iter) same = cc
  of (Prev iter) same = cc
  of (SeekGe iter key) same = cc
  of (SeekLt iter key) same = cc
  of (Close iter) same = cc
  of Shape same = cc
