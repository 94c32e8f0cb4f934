-- Lines on snapshots: what they do to a session, and to the state that it stands for.
use Rattle.std.proofs.Common.{◌≡◌, ℕ, List, [], ◌∷◌, ◌++◌, map, remove, get_or, IsPermutation, Some, ap, sym, ◌∙◌, refl, subst}
use Rattle.std.proofs.lemmas.List.Sorted.{IsPermutation-append_left}
use Rattle.rk_model.specs.Named.{named}
use Rattle.rk_model.specs.Operations.{last}
use Rattle.rk_machine.specs.Events.{Snap as snaps, Release as releases, Number, Released}
use Rattle.rk_machine.specs.Iterators.{without_named}
use Rattle.rk_memstore.specs.Answers.{IsStep}
use Rattle.rk_memstore.proofs.Copies.{still_same}
use Rattle.rk_script.specs.declared.line.Event.TheVariants.{Snap, Release}
use Rattle.rk_program.specs.Replies.{Tells}
use Rattle.rk_program.specs.Standing.{StandsFor, DidSo, AreAt, batches, numbers}
use Rattle.rk_program.specs.Transcript.{SessionState, Does}
use Rattle.rk_program.specs.declared.session.Session.{Session}
use Rattle.rk_program.specs.declared.session.Snapshot.{Snapshot}
use Rattle.rk_program.proofs.NameLemmas.{map-snoc}
use Rattle.rk_program.proofs.Naming.{IsFirst, IsFirst-named, IsFirst-remove, named-TakesOne}
use Rattle.rk_program.proofs.Told.{done_if_told}

abbrev pub snapshot_name : Snapshot → List ℕ
snapshot_name x = x.name

abbrev pub snapshot_number : Snapshot → ℕ
snapshot_number x = x.number

-- the numbers under names
abbrev numbers_of : List (List ℕ × ℕ) → List ℕ
numbers_of ps = map (λ p. p.1) ps

pub snap_does : {V : Type 0} (old new : Session V) (name : List ℕ) (x : Snapshot) (before now : List ℕ) (s : SessionState)
    → StandsFor old s → IsStep old.mem new.mem snaps (Number x.number)
    → new.writers.items ≡ old.writers.items → new.iterators.items ≡ old.iterators.items
    → new.snapshots.items ≡ old.snapshots.items ++ x ∷ [] → x.name ≡ name → Tells before now name (Number x.number)
    → DidSo (Does s (Snap name)) before now new
snap_does old new name x before now s stands steps same_writers same_iterators more called tells =
    let (m, step, mem, halted) = steps s.state stands.mem in
    let done = done_if_told s.state snaps (Number x.number) m name tells.0 tt step tells.1 in
    let n = last s.state.history in
    let number : x.number ≡ n = cc in (
      tells.0,
      record { state = m; batches = s.batches; snapshots = s.snapshots ++ (name, n) ∷ [] },
      (Number x.number, step, tells.1, refl, refl),
      record {
        mem = mem;
        running = halted ∙ stands.running;
        batches = ap batches same_writers ∙ stands.batches;
        snapshots = ap numbers more ∙ (map-snoc (λ y. (snapshot_name y, snapshot_number y)) old.snapshots.items x
            ∙ (ap (λ ps. ps ++ (x.name, x.number) ∷ []) stands.snapshots
            ∙ (ap (λ c. s.snapshots ++ (c, x.number) ∷ []) called ∙ ap (λ k. s.snapshots ++ (name, k) ∷ []) number)));
        live =
            let longer : IsPermutation (numbers_of s.snapshots ++ n ∷ []) (s.state.live ++ n ∷ []) = IsPermutation-append_left (n ∷ []) (numbers_of s.snapshots) s.state.live stands.live in
            subst (λ l. IsPermutation (numbers_of (s.snapshots ++ (name, n) ∷ [])) l) (sym (ap (λ k. k.live) done.1))
            (subst (λ l. IsPermutation l (s.state.live ++ n ∷ [])) (sym (map-snoc (λ p. p.1) s.snapshots (name, n))) longer);
        iterators = subst (λ is. AreAt is m.iterators) (sym same_iterators)
            (subst (λ os. AreAt old.iterators.items os) (sym (ap (λ k. k.iterators) done.1)) stands.iterators);
      },
      tells.2,
    )

pub release_does : {V : Type 0} (old new : Session V) (name : List ℕ) (i : ℕ) (d : Snapshot) (before now : List ℕ) (s : SessionState)
    → StandsFor old s → IsFirst snapshot_name old.snapshots.items name i
    → IsStep old.mem new.mem (releases (get_or old.snapshots.items i d).number) Released
    → new.writers.items ≡ old.writers.items → new.iterators.items ≡ old.iterators.items
    → new.snapshots.items ≡ remove old.snapshots.items i → Tells before now name Released
    → DidSo (Does s (Release name)) before now new
release_does old new name i d before now s stands first steps same_writers same_iterators less tells =
    let number = (get_or old.snapshots.items i d).number in
    let found : named name s.snapshots ≡ Some number =
    ap (named name) (sym stands.snapshots) ∙ IsFirst-named snapshot_name snapshot_number old.snapshots.items name i d first in
    let rest = without_named name s.snapshots in
    let (m, step, mem, halted) = steps s.state stands.mem in
    let done = done_if_told s.state (releases number) Released m name tells.0 tt step tells.1 in (
      tells.0,
      record { state = m; batches = s.batches; snapshots = rest },
      (number, found, (Released, step, tells.1, refl, refl)),
      record {
        mem = mem;
        running = halted ∙ stands.running;
        batches = ap batches same_writers ∙ stands.batches;
        snapshots = ap numbers less ∙ (IsFirst-remove snapshot_name snapshot_number old.snapshots.items name i d first
            ∙ ap (without_named name) stands.snapshots);
        live = still_same number (numbers_of s.snapshots) (numbers_of rest) s.state.live m.live stands.live (named-TakesOne name number s.snapshots found) done.1.0;
        iterators = subst (λ is. AreAt is m.iterators) (sym same_iterators)
            (subst (λ os. AreAt old.iterators.items os) (sym (ap (λ k. k.iterators) done.1.1)) stands.iterators);
      },
      tells.2,
    )
