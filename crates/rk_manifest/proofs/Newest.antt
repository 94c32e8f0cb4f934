-- The newest of versions.
use Rattle.std.proofs.Common.{◌≡◌, ℕ, ◌+◌, ◌<◌, ◌≤◌, true, ltb, List, [], ◌∷◌, ◌++◌, length, get_or, drop, Option, Some, None, Result, Ok, Err, refl, sym, ap, subst, ◌∙◌, append_assoc, add-one, arith, ⊎_elim}
use Rattle.std.specs.Prelude.{IsOkAnd}
use Rattle.std.proofs.lemmas.Bool.{cases_lt, lt-ltb, le-ltb, ltb-true}
use Rattle.std.proofs.lemmas.List.{drop_all, append-nil}
use Rattle.std.proofs.Math.Seq.{drop-cons}
use Rattle.rk_pieces.specs.Pieces.{tested, then_do, or_refuse}
use Rattle.rk_gate.specs.declared.record.Record.{Record}
use Rattle.rk_manifest.specs.Versions.{Version, version_of}
use Rattle.rk_manifest.specs.Manifests.{version_above, versions_above, is_newer, newer_of, newest}
use Rattle.rk_pieces.proofs.Fields.{bind_some, tested_is}

-- the next file number, and 0 where nothing is recorded
abbrev pub floor_of : Option Version → ℕ
floor_of None = 0
floor_of (Some v) = v.next_file

none_before : (o : Option Version) → newer_of None o ≡ o
none_before None = refl
none_before (Some v) = refl

none_behind : (o : Option Version) → newer_of o None ≡ o
none_behind None = refl
none_behind (Some v) = refl

newer_of-assoc : (a b c : Option Version) → newer_of a (newer_of b c) ≡ newer_of (newer_of a b) c
newer_of-assoc None b c = none_before (newer_of b c) ∙ ap (λ o. newer_of o c) (sym (none_before b))
newer_of-assoc (Some x) None c = ap (newer_of (Some x)) (none_before c)
newer_of-assoc (Some x) (Some y) None = sym (none_behind (newer_of (Some x) (Some y)))
newer_of-assoc (Some x) (Some y) (Some z) =
    ⊎_elim
    (λ yz. ⊎_elim
    (λ xy.
    let xz : x.next_file < z.next_file = omega arith in
    rw (lt-ltb y.next_file z.next_file yz, lt-ltb x.next_file y.next_file xy, lt-ltb x.next_file z.next_file xz, lt-ltb y.next_file z.next_file yz) refl)
    (λ yx. rw (lt-ltb y.next_file z.next_file yz, le-ltb x.next_file y.next_file yx) refl)
    (cases_lt x.next_file y.next_file))
    (λ zy. ⊎_elim
    (λ xy. rw (le-ltb y.next_file z.next_file zy, lt-ltb x.next_file y.next_file xy, le-ltb y.next_file z.next_file zy) refl)
    (λ yx.
    let zx : z.next_file ≤ x.next_file = omega arith in
    rw (le-ltb y.next_file z.next_file zy, le-ltb x.next_file y.next_file yx, le-ltb x.next_file z.next_file zx) refl)
    (cases_lt x.next_file y.next_file))
    (cases_lt y.next_file z.next_file)

newest-append : (vs ws : List Version) → newest (vs ++ ws) ≡ newer_of (newest vs) (newest ws)
newest-append [] ws = sym (none_before (newest ws))
newest-append (v ∷ vs) ws = ap (newer_of (Some v)) (newest-append vs ws) ∙ newer_of-assoc (Some v) (newest vs) (newest ws)

pub above_floor : (o : Option Version) (v : Version) → floor_of o < v.next_file → is_newer o (Some v) ≡ true
above_floor None v h = refl
above_floor (Some u) v h = lt-ltb u.next_file v.next_file h

pub taken : (o : Option Version) (v : Version) → is_newer o (Some v) ≡ true → newer_of o (Some v) ≡ Some v
taken o v h = rw h refl

pub newest_added : (vs : List Version) (v : Version) → is_newer (newest vs) (Some v) ≡ true → newest (vs ++ v ∷ []) ≡ Some v
newest_added vs v h = newest-append vs (v ∷ []) ∙ taken (newest vs) v h

abbrev pub with_front : List Version → Result (List Version) ℕ → Result (List Version) ℕ
with_front done (Ok vs) = Ok (done ++ vs)
with_front done (Err at) = Err at

front_none : (r : Result (List Version) ℕ) → r ≡ with_front [] r
front_none (Ok vs) = refl
front_none (Err at) = refl

front_one : (done : List Version) (v : Version) (r : Result (List Version) ℕ) → with_front done (then_do r (λ vs. Ok (v ∷ vs))) ≡ with_front (done ++ v ∷ []) r
front_one done v (Ok vs) = ap (λ ws. Ok ws) (sym (append_assoc done (v ∷ []) vs))
front_one done v (Err at) = refl

-- so many records were read: these versions, of which this is the newest, and what is read behind them
pub record ReadSoFar (rs : List Record) (i : ℕ) (last : Option Version) (floor : ℕ) : Type 0 where
  pub done : List Version
  pub split : versions_above 0 rs ≡ with_front done (versions_above floor (drop i rs))
  pub last_is : last ≡ newest done
  pub floor_is : floor ≡ floor_of last

pub nothing_read : (rs : List Record) → ReadSoFar rs 0 None 0
nothing_read rs = record { done = []; split = front_none (versions_above 0 rs); last_is = refl; floor_is = refl }

next_record : (rs : List Record) (i : ℕ) (r : Record) → i < length rs → r ≡ get_or rs i r → drop i rs ≡ r ∷ drop (i + 1) rs
next_record rs i r less is = drop-cons rs i r less ∙ ap (λ k. get_or rs i r ∷ drop k rs) (sym (add-one i)) ∙ ap (λ q. q ∷ drop (i + 1) rs) (sym is)

pub one_more : (rs : List Record) (i : ℕ) (last : Option Version) (floor : ℕ) (r : Record) (v : Version) → i < length rs → r ≡ get_or rs i r
    → version_above floor r.payload ≡ Some v → ReadSoFar rs i last floor → ReadSoFar rs (i + 1) (Some v) v.next_file
one_more rs i last floor r v less is read so_far =
    let parts = bind_some (version_of r.payload) (tested (λ u. ltb floor u.next_file)) v read in
    let test = tested_is (λ u. ltb floor u.next_file) parts.0 v parts.2 in
    let above : floor < v.next_file = ltb-true floor v.next_file (subst (λ u. ltb floor u.next_file ≡ true) test.1 test.0) in
    let newer = above_floor last v (subst (λ k. k < v.next_file) so_far.floor_is above) in
    record {
      done = so_far.done ++ v ∷ [];
      split = so_far.split ∙ ap (λ qs. with_front so_far.done (versions_above floor qs)) (next_record rs i r less is)
          ∙ ap (λ o. with_front so_far.done (then_do (or_refuse r.at o) (λ u. then_do (versions_above u.next_file (drop (i + 1) rs)) (λ vs. Ok (u ∷ vs))))) read
          ∙ front_one so_far.done v (versions_above v.next_file (drop (i + 1) rs));
      last_is = sym (newest_added so_far.done v (subst (λ o. is_newer o (Some v) ≡ true) so_far.last_is newer));
      floor_is = refl;
    }

pub stopped : (rs : List Record) (i : ℕ) (last : Option Version) (floor : ℕ) (r : Record) → i < length rs → r ≡ get_or rs i r
    → version_above floor r.payload ≡ None → ReadSoFar rs i last floor → versions_above 0 rs ≡ Err r.at
stopped rs i last floor r less is none so_far =
    so_far.split ∙ ap (λ qs. with_front so_far.done (versions_above floor qs)) (next_record rs i r less is)
    ∙ ap (λ o. with_front so_far.done (then_do (or_refuse r.at o) (λ u. then_do (versions_above u.next_file (drop (i + 1) rs)) (λ vs. Ok (u ∷ vs))))) none

pub all_read : (rs : List Record) (i : ℕ) (last : Option Version) (floor : ℕ) → length rs ≤ i → ReadSoFar rs i last floor
    → IsOkAnd (versions_above 0 rs) (λ vs. last ≡ newest vs)
all_read rs i last floor over so_far =
    let e : versions_above 0 rs ≡ Ok (so_far.done ++ []) = so_far.split ∙ ap (λ qs. with_front so_far.done (versions_above floor qs)) (drop_all i rs over) in
    subst (λ r. IsOkAnd r (λ vs. last ≡ newest vs)) (sym (e ∙ ap (λ vs. Ok vs) (append-nil so_far.done))) so_far.last_is
