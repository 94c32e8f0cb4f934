-- What the acceptance of a line says of the session that does it.
use Rattle.std.proofs.Common.{◌≡◌, ℕ, Bool, true, false, List, [], ◌∷◌, map, Option, Some, None, ap, sym, ◌∙◌, refl, subst}
use Rattle.std.specs.Prelude.{IsTrue, IsSome, IfSome, not, ◌&&◌}
use Rattle.rk_model.specs.Named.{named}
use Rattle.rk_script.specs.Naming.{is_called}
use Rattle.rk_script.specs.Script.{Names, is_accepted}
use Rattle.rk_script.specs.declared.line.Event.{Event}
use Rattle.rk_script.specs.declared.line.Event.TheVariants.{Release, Iter}
use Rattle.rk_program.specs.Standing.{StandsFor, IsLive, numbers, names_in}
use Rattle.rk_program.specs.Transcript.{SessionState, names_of}
use Rattle.rk_program.specs.declared.session.Session.{Session}
use Rattle.rk_program.proofs.LineLemmas.{names_alike}
use Rattle.rk_program.proofs.StoreLemmas.{snapshot_name, snapshot_number}
use Rattle.rk_program.proofs.NameLemmas.{same_names}
use Rattle.rk_program.proofs.Naming.{named-there, named-absent, named_values}

pub all_three : (a b c : Bool) → (a && b && c) ≡ true → (a ≡ true) × (b ≡ true) × (c ≡ true)
all_three true true true h = (refl, refl, refl)
all_three true true false h = cc
all_three true false c h = cc
all_three false b c h = cc

pub not_called : (a : Bool) → not a ≡ true → a ≡ false
not_called true h = cc
not_called false h = refl

first_names : {T A : Type 0} (called : T → List ℕ) (value : T → A) (xs : List T) → map called xs ≡ map (λ x. x.0) (named_values called value xs)
first_names called value [] = refl
first_names called value (x ∷ xs) = ap (λ ns. called x ∷ ns) (first_names called value xs)

-- the names that a session has in use are those of the state that it stands for
pub accepted_in : {V : Type 0} (session : Session V) (s : SessionState) (event : Event) → StandsFor session s
    → IsTrue (is_accepted (names_of s) event) → IsTrue (is_accepted (names_in session) event)
accepted_in session s event stands accepted =
    let same : names_of s ≡ names_in session = sym (same_names _ _ _ _ _ _
    (first_names (λ w. w.name) (λ w. w.batch) session.writers.items ∙ ap (map (λ b. b.0)) stands.batches)
    (names_alike session.iterators.items s.state.iterators stands.iterators)
    (first_names snapshot_name snapshot_number session.snapshots.items ∙ ap (map (λ x. x.0)) stands.snapshots)) in
    let P : Names → Type 0 = λ names. IsTrue (is_accepted names event) in
    subst P same accepted

pub live_snapshot : {V : Type 0} (session : Session V) (name : List ℕ) → is_called name (names_in session).snapshots ≡ true → IsLive name (numbers session.snapshots.items)
live_snapshot session name there = named-there snapshot_name snapshot_number name session.snapshots.items there

pub release_live : {V : Type 0} (session : Session V) (name : List ℕ) → IsTrue (is_accepted (names_in session) (Release name)) → IsLive name (numbers session.snapshots.items)
release_live session name accepted = live_snapshot session name (all_three _ _ _ accepted).0

pub iter_free : {V : Type 0} (session : Session V) (name : List ℕ) (at : Option (List ℕ)) (lower upper mask : Option (List ℕ))
    → IsTrue (is_accepted (names_in session) (Iter name at lower upper mask)) → is_called name (names_in session).iterators ≡ false
iter_free session name at lower upper mask accepted = not_called _ (all_three _ _ _ accepted).1

pub iter_live : {V : Type 0} (session : Session V) (name : List ℕ) (at : Option (List ℕ)) (lower upper mask : Option (List ℕ))
    → IsTrue (is_accepted (names_in session) (Iter name at lower upper mask)) → IfSome at (λ snapshot. IsLive snapshot (numbers session.snapshots.items))
iter_live session name None lower upper mask accepted = tt
iter_live session name (Some at) lower upper mask accepted = live_snapshot session at (all_three _ _ _ accepted).0

-- the iterator that a line moves or closes is live
pub iterator_live : {V : Type 0} (session : Session V) (iter : List ℕ) (free room : Bool) → IsTrue (is_called iter (names_in session).iterators && free && room)
    → is_called iter (names_in session).iterators ≡ true
iterator_live session iter free room accepted = (all_three _ free room accepted).0

not_there : {A : Type 0} (found : Option A) → IsSome found → found ≡ None → ⊥
not_there None live is = cc
not_there (Some a) live is = cc

-- a thing that is live is found
pub is_found : {T A : Type 0} (called : T → List ℕ) (value : T → A) (xs : List T) (name : List ℕ) → IsLive name (named_values called value xs)
    → is_called name (map called xs) ≡ false → ⊥
is_found called value xs name live absent =
    not_there (named name (named_values called value xs)) live (named-absent called value name xs absent)

-- a name that is live is the name of one of them
pub live_called : {T A : Type 0} (called : T → List ℕ) (value : T → A) (xs : List T) (name : List ℕ) → IsLive name (named_values called value xs) → is_called name (map called xs) ≡ true
live_called called value xs name live = go (is_called name (map called xs)) refl
  where
    go : (b : Bool) → is_called name (map called xs) ≡ b → is_called name (map called xs) ≡ true
    go true e = e
    go false e = absurd (is_found called value xs name live e)
