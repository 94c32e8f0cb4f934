-- The names that are in use after a line.
use Rattle.std.proofs.Common.{◌≡◌, ℕ, Bool, true, false, List, [], ◌∷◌, ◌++◌, map, Some, ap, sym, ◌∙◌, refl, ⊎_elim}
use Rattle.std.specs.Prelude.{if◌then◌else◌, ◌||◌}
use Rattle.rk_model.specs.Moves.{Move}
use Rattle.rk_model.specs.Moves as move
use Rattle.rk_model.specs.Named.{named, with_named}
use Rattle.rk_model.specs.Spans.{same_bytes}
use Rattle.rk_model.specs.declared.op.Op.{Op}
use Rattle.rk_machine.specs.Events.{OpenAt, Moves, Snap as snaps, Release as releases, Close as closes}
use Rattle.rk_machine.specs.Iterators.{without_named}
use Rattle.rk_script.specs.Naming.{is_called, with_name, without_name}
use Rattle.rk_script.specs.Script.{Names, names_after, with_writer}
use Rattle.rk_script.specs.declared.line.Event.{Event}
use Rattle.rk_script.specs.declared.line.Event.TheVariants.{Put, Del, RangeSet, RangeUnset, RangeDel, Commit, Snap, Release, Iter, First, Last, Next, Prev, SeekGe, SeekLt, Close, Shape}
use Rattle.rk_program.proofs.Naming.{same_bytes-equal}
use Rattle.rk_program.proofs.Told.{done_if_told, commit_iterators}
use Rattle.rk_program.specs.Transcript.{SessionState, with_batch, batch_of, Does, DoesOp, DoesEvent, DoesCommit, names_of}

pub map-snoc : {A B : Type 0} (f : A → B) (xs : List A) (x : A) → map f (xs ++ x ∷ []) ≡ map f xs ++ f x ∷ []
map-snoc f [] x = refl
map-snoc f (y ∷ ys) x = ap (λ zs. f y ∷ zs) (map-snoc f ys x)

-- a name that is not there yet is put at the end
names-with_named : {A : Type 0} (name : List ℕ) (a : A) (xs : List (List ℕ × A))
    → map (λ x. x.0) (with_named name a xs) ≡ with_name name (map (λ x. x.0) xs)
names-with_named name a [] = refl
names-with_named name a (x ∷ xs) = at (same_bytes x.0 name) refl (names-with_named name a xs) where
  push : (c : Bool) (ns : List (List ℕ)) → x.0 ∷ (if c then ns else ns ++ name ∷ []) ≡ (if c then x.0 ∷ ns else (x.0 ∷ ns) ++ name ∷ [])
  push true ns = refl
  push false ns = refl

  at : (t : Bool) → same_bytes x.0 name ≡ t → map (λ y. y.0) (with_named name a xs) ≡ with_name name (map (λ y. y.0) xs)
      → map (λ y. y.0) (if t then (name, a) ∷ xs else x ∷ with_named name a xs)
      ≡ (if t || is_called name (map (λ y. y.0) xs) then x.0 ∷ map (λ y. y.0) xs else (x.0 ∷ map (λ y. y.0) xs) ++ name ∷ [])
  at true e later = ap (λ n. n ∷ map (λ y. y.0) xs) (sym (same_bytes-equal x.0 name e))
  at false e later = ap (λ ns. x.0 ∷ ns) later ∙ push (is_called name (map (λ y. y.0) xs)) (map (λ y. y.0) xs)

-- a name that is there stays where it is
names-moved : {A : Type 0} (name : List ℕ) (a b : A) (xs : List (List ℕ × A))
    → named name xs ≡ Some a → map (λ i. i.0) (with_named name b xs) ≡ map (λ i. i.0) xs
names-moved name a b [] h = cc
names-moved name a b (x ∷ xs) h = at_first (same_bytes x.0 name) refl h (names-moved name a b xs) where
  at_first : (t : Bool) → same_bytes x.0 name ≡ t → (if t then Some x.1 else named name xs) ≡ Some a
      → (named name xs ≡ Some a → map (λ i. i.0) (with_named name b xs) ≡ map (λ i. i.0) xs)
      → map (λ i. i.0) (if t then (name, b) ∷ xs else x ∷ with_named name b xs) ≡ x.0 ∷ map (λ i. i.0) xs
  at_first true e h later = ap (λ n. n ∷ map (λ i. i.0) xs) (sym (same_bytes-equal x.0 name e))
  at_first false e h later = ap (λ ns. x.0 ∷ ns) (later h)

names-without_named : {A : Type 0} (name : List ℕ) (xs : List (List ℕ × A))
    → map (λ x. x.0) (without_named name xs) ≡ without_name name (map (λ x. x.0) xs)
names-without_named name [] = refl
names-without_named name (x ∷ xs) =
    elim (same_bytes x.0 name) as (λ t. map (λ y. y.0) (if t then xs else x ∷ without_named name xs)
    ≡ (if t then map (λ y. y.0) xs else x.0 ∷ without_name name (map (λ y. y.0) xs)))
    [ true ↦ refl | false ↦ ap (λ ns. x.0 ∷ ns) (names-without_named name xs) ]

pub same_names : (ws ws' is is' ss ss' : List (List ℕ)) → ws ≡ ws' → is ≡ is' → ss ≡ ss'
    → (let a : Names = record { writers = ws; iterators = is; snapshots = ss } in
    let b : Names = record { writers = ws'; iterators = is'; snapshots = ss' } in a ≡ b)
same_names ws ws' is is' ss ss' p q r = cc

names-with_batch : (w : List ℕ) (ops : List Op) (s : SessionState) → names_of (with_batch w ops s) ≡ with_writer w (names_of s)
names-with_batch w ops s = same_names _ _ _ _ _ _ (names-with_named w ops s.batches) refl refl

names-DoesOp : (s : SessionState) (w : List ℕ) (o : Op) (text : List ℕ) (e : SessionState) → DoesOp s w o text e → names_of e ≡ with_writer w (names_of s)
names-DoesOp s w o text e d =
    ⊎_elim
    (λ (h : _). ap names_of h.2 ∙ names-with_batch w (batch_of w s ++ o ∷ []) s)
    (λ (h : _). ap names_of h.3 ∙ names-with_batch w (batch_of w s) s) d

names-DoesCommit : (s : SessionState) (w : List ℕ) (text : List ℕ) (e : SessionState) → DoesCommit s w text e → names_of e ≡ with_writer w (names_of s)
names-DoesCommit s w text e d =
    same_names _ _ _ _ _ _
    (ap (map (λ b. b.0)) d.3 ∙ names-with_named w _ s.batches)
    (ap (map (λ i. i.0)) (commit_iterators s.state (batch_of w s) false d.0 e.state d.1))
    (ap (map (λ x. x.0)) d.4)

names-moves : (s : SessionState) (iter : List ℕ) (move : Move) (text : List ℕ) (e : SessionState)
    → DoesEvent s iter (Moves iter move) s.batches s.snapshots text e → names_of e ≡ names_of s
names-moves s iter move text e d =
    let done = done_if_told s.state (Moves iter move) d.0 e.state iter text tt d.1 d.2 in
    same_names _ _ _ _ _ _
    (ap (map (λ b. b.0)) d.3)
    (ap (λ m. map (λ i. i.0) m.iterators) done.3 ∙ names-moved iter done.0 _ s.state.iterators done.1)
    (ap (map (λ x. x.0)) d.4)

pub names_of-Does : (s : SessionState) (event : Event) (text : List ℕ) (e : SessionState) → Does s event text e → names_of e ≡ names_after (names_of s) event
names_of-Does s (Put w k v) text e d = names-DoesOp s w _ text e d
names_of-Does s (Del w k) text e d = names-DoesOp s w _ text e d
names_of-Does s (RangeSet w st en x v) text e d = names-DoesOp s w _ text e d
names_of-Does s (RangeUnset w st en x) text e d = names-DoesOp s w _ text e d
names_of-Does s (RangeDel w st en) text e d = names-DoesOp s w _ text e d
names_of-Does s (Commit w) text e d = names-DoesCommit s w text e d
names_of-Does s (Snap name) text e d =
    let done = done_if_told s.state snaps d.0 e.state name text tt d.1 d.2 in
    same_names _ _ _ _ _ _
    (ap (map (λ b. b.0)) d.3)
    (ap (λ m. map (λ i. i.0) m.iterators) done.1)
    (ap (map (λ x. x.0)) d.4 ∙ map-snoc (λ x. x.0) s.snapshots _)
names_of-Does s (Release name) text e d =
    let done = done_if_told s.state (releases d.0) d.2.0 e.state name text tt d.2.1 d.2.2 in
    same_names _ _ _ _ _ _
    (ap (map (λ b. b.0)) d.2.3)
    (ap (λ m. map (λ i. i.0) m.iterators) done.1.1)
    (ap (map (λ x. x.0)) d.2.4 ∙ names-without_named name s.snapshots)
names_of-Does s (Iter name at lower upper mask) text e d =
    let done = done_if_told s.state (OpenAt name d.0 (record { lower = lower; upper = upper; mask = mask })) d.2.0 e.state name text tt d.2.1 d.2.2 in
    same_names _ _ _ _ _ _
    (ap (map (λ b. b.0)) d.2.3)
    (ap (λ m. map (λ i. i.0) m.iterators) done.1 ∙ map-snoc (λ i. i.0) s.state.iterators _)
    (ap (map (λ x. x.0)) d.2.4)
names_of-Does s (First iter) text e d = names-moves s iter move.First text e d
names_of-Does s (Last iter) text e d = names-moves s iter move.Last text e d
names_of-Does s (Next iter) text e d = names-moves s iter move.Next text e d
names_of-Does s (Prev iter) text e d = names-moves s iter move.Prev text e d
names_of-Does s (SeekGe iter key) text e d = names-moves s iter (move.SeekGe key) text e d
names_of-Does s (SeekLt iter key) text e d = names-moves s iter (move.SeekLt key) text e d
names_of-Does s (Close iter) text e d =
    let done = done_if_told s.state (closes iter) d.0 e.state iter text tt d.1 d.2 in
    same_names _ _ _ _ _ _
    (ap (map (λ b. b.0)) d.3)
    (ap (λ m. map (λ i. i.0) m.iterators) done.1 ∙ names-without_named iter s.state.iterators)
    (ap (map (λ x. x.0)) d.4)
names_of-Does s Shape text e d = ap names_of d.1
