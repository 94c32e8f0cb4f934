-- What a record more makes of a manifest.
use Rattle.std.proofs.Common.{◌≡◌, ℕ, ◌<◌, Bool, true, false, cond, ltb, List, [], ◌∷◌, ◌++◌, Option, Some, None, Result, Ok, Err, refl, sym, ap, subst, ◌∙◌, arith, inl, inr, ⊎_elim, ◌⊎◌}
use Rattle.std.specs.Prelude.{All, IsOkAnd, IsTrue, unwrap_or}
use Rattle.std.proofs.lemmas.Bool.{cases_lt, lt-ltb, le-ltb, ltb-true}
use Rattle.std.proofs.lemmas.List.Elements.{All-nil, All-cons, All-head, All-tail}
use Rattle.rk_pieces.specs.Pieces.{tested, then_do, or_refuse}
use Rattle.rk_gate.specs.declared.record.Record.{Record}
use Rattle.rk_gate.specs.Records.{recovered_file}
use Rattle.rk_gate.specs.Changes.{HasRecordsOf, after_append, with_payload}
use Rattle.rk_manifest.specs.Versions.{Version, is_version, has_no_tables, version_bytes, version_of, without_tables, no_version}
use Rattle.rk_manifest.specs.Manifests.{version_above, versions_above, versions_in, is_newer, newer_of, newest, newest_recorded, manifest_of}
use Rattle.rk_gate.specs.Calls.{in_journal}
use Rattle.rk_manifest.specs.Calls.{start_of, MayStart, MayHold}
use Rattle.rk_pieces.proofs.Fields.{bind_again}
use Rattle.rk_manifest.proofs.Spellings.{bounds}
use Rattle.rk_manifest.proofs.Bare.{IsBare, bare_again, none_at}
use Rattle.rk_manifest.proofs.Newest.{newest_added, taken}

pub ok_and : {A E : Type 0} (r : Result A E) (P : A → Type 0) → IsOkAnd r P → (a : A) × (r ≡ Ok a) × P a
ok_and (Ok a) P h = (a, refl, h)
ok_and (Err e) P h = absurd h

then_ok : {A B E : Type 0} (r : Result A E) (f : A → Result B E) (b : B) → then_do r f ≡ Ok b → (a : A) × (r ≡ Ok a) × (f a ≡ Ok b)
then_ok (Ok a) f b e = (a, refl, e)
then_ok (Err x) f b e = absurd cc

abbrev done : {A E : Type 0} → A → Result A E
done a = Ok a

ok_is : {A E : Type 0} (a b : A) → done {E = E} a ≡ Ok b → a ≡ b
ok_is a b e = cc

-- the spelling of a version without tables is read as it
pub payload_read : (v : Version) → IsTrue (is_version v) → IsTrue (has_no_tables v) → version_of (version_bytes v) ≡ Some v
payload_read v is none =
    let b = bounds v is in
    let levels = none_at v.levels b.levels none in
    let same : v ≡ without_tables v.next_file v.flushed_upto = ap (λ ls. record { next_file = v.next_file; flushed_upto = v.flushed_upto; levels = ls }) levels in
    let bare : IsBare (version_bytes (without_tables v.next_file v.flushed_upto)) v.next_file v.flushed_upto = record { spelled = refl; least = b.least; next_file = b.next_file; flushed_upto = b.flushed_upto } in
    ap (λ u. version_of (version_bytes u)) same ∙ bare_again (version_bytes (without_tables v.next_file v.flushed_upto)) v.next_file v.flushed_upto bare ∙ ap (λ u. Some u) (sym same)

newer_parts : (a b : Option Version) (v : Version) → is_newer (newer_of a b) (Some v) ≡ true → (is_newer a (Some v) ≡ true) × (is_newer b (Some v) ≡ true)
newer_parts None None v h = (refl, refl)
newer_parts None (Some w) v h = (refl, h)
newer_parts (Some u) None v h = (h, refl)
newer_parts (Some u) (Some w) v h =
    ⊎_elim
    (λ less.
    let top : ltb w.next_file v.next_file ≡ true = subst (λ b. is_newer (cond b (Some w) (Some u)) (Some v) ≡ true) (lt-ltb u.next_file w.next_file less) h in
    let bound : w.next_file < v.next_file = ltb-true w.next_file v.next_file top in
    (lt-ltb u.next_file v.next_file (omega arith), top))
    (λ more.
    let top : ltb u.next_file v.next_file ≡ true = subst (λ b. is_newer (cond b (Some w) (Some u)) (Some v) ≡ true) (le-ltb u.next_file w.next_file more) h in
    let bound : u.next_file < v.next_file = ltb-true u.next_file v.next_file top in
    (top, lt-ltb w.next_file v.next_file (omega arith)))
    (cases_lt u.next_file w.next_file)

abbrev Below : ℕ → Version → Type 0
Below n v = v.next_file < n

all_older : (vs : List Version) (v : Version) → is_newer (newest vs) (Some v) ≡ true → All (Below v.next_file) vs
all_older [] v h = All-nil (Below v.next_file)
all_older (u ∷ vs) v h =
    let parts = newer_parts (Some u) (newest vs) v h in
    All-cons (Below v.next_file) u vs (ltb-true u.next_file v.next_file parts.0) (all_older vs v parts.1)

-- a record more, whose version is above all before it
record_more : (floor : ℕ) (rs : List Record) (r : Record) (v : Version) (vs : List Version) → version_of r.payload ≡ Some v → floor < v.next_file → All (Below v.next_file) vs
    → versions_above floor rs ≡ Ok vs → versions_above floor (rs ++ r ∷ []) ≡ Ok (vs ++ v ∷ [])
record_more floor [] r v vs read above older e =
    let none : [] ≡ vs = ok_is {E = ℕ} [] vs e in
    let is : version_above floor r.payload ≡ Some v = bind_again (version_of r.payload) v (tested (λ u. ltb floor u.next_file)) read ∙ ap (λ b. cond b (Some v) None) (lt-ltb floor v.next_file above) in
    ap (λ o. then_do (or_refuse r.at o) (λ u. then_do (versions_above u.next_file []) (λ ws. Ok (u ∷ ws)))) is ∙ ap (λ ws. Ok (ws ++ v ∷ [])) none
record_more floor (q ∷ rs) r v vs read above older e =
    let first = then_ok (or_refuse q.at (version_above floor q.payload)) (λ u. then_do (versions_above u.next_file rs) (λ ws. Ok (u ∷ ws))) vs e in
    let u = first.0 in
    let rest = then_ok (versions_above u.next_file rs) (λ ws. Ok (u ∷ ws)) vs first.2 in
    let whole : u ∷ rest.0 ≡ vs = ok_is {E = ℕ} (u ∷ rest.0) vs rest.2 in
    let olds = subst (All (Below v.next_file)) (sym whole) older in
    let more = record_more u.next_file rs r v rest.0 read (All-head (Below v.next_file) u rest.0 olds) (All-tail (Below v.next_file) u rest.0 olds) rest.1 in
    ap (λ o. then_do o (λ w. then_do (versions_above w.next_file (rs ++ r ∷ [])) (λ ws. Ok (w ∷ ws)))) first.1
    ∙ ap (λ o. then_do o (λ ws. Ok (u ∷ ws))) more ∙ ap (λ ws. Ok (ws ++ v ∷ [])) whole

-- what is known before a version is installed
pub record Known (in_fourth : Bool) (third fourth : Option (List ℕ)) (payload : List ℕ) (v : Version) : Type 0 where
  pub vs : List Version
  pub ws : List Version
  pub third_is : versions_in third ≡ Ok vs
  pub fourth_is : versions_in fourth ≡ Ok ws
  pub flag : in_fourth ≡ is_newer (newest vs) (newest ws)
  pub newer : is_newer (newer_of (newest vs) (newest ws)) (Some v) ≡ true
  pub read : version_of payload ≡ Some v
  pub some : 0 < v.next_file

-- the newest of a file
pub record NewestIn (file : Option (List ℕ)) (o : Option Version) : Type 0 where
  pub vs : List Version
  pub versions : versions_in file ≡ Ok vs
  pub newest_is : newest vs ≡ o

pub same_newest : (old file : Option (List ℕ)) (vs : List Version) → versions_in old ≡ Ok vs → HasRecordsOf old file → NewestIn file (newest vs)
same_newest old file vs e same = record { vs = vs; versions = ap (λ r. then_do r (versions_above 0)) same ∙ e; newest_is = refl }

none_newest : (file : Option (List ℕ)) → recovered_file file ≡ Ok [] → NewestIn file None
none_newest file e = record { vs = []; versions = ap (λ r. then_do r (versions_above 0)) e; newest_is = refl }

-- behind records, or by itself
pub added_newest : (emptied : Bool) (old file : Option (List ℕ)) (payload : List ℕ) (v : Version) (vs : List Version) → versions_in old ≡ Ok vs → is_newer (newest vs) (Some v) ≡ true
    → version_of payload ≡ Some v → 0 < v.next_file → recovered_file file ≡ after_append payload (start_of emptied (recovered_file old)) → NewestIn file (Some v)
added_newest true old file payload v vs e newer read some added = record {
  vs = v ∷ [];
  versions = ap (λ r. then_do r (versions_above 0)) added ∙ record_more 0 [] (record { at = 0; payload = payload }) v [] read some (All-nil (Below v.next_file)) refl;
  newest_is = refl;
}
added_newest false old file payload v vs e newer read some added =
    let rs = then_ok (recovered_file old) (versions_above 0) vs e in
    let is : recovered_file file ≡ Ok (with_payload rs.0 payload) = added ∙ ap (after_append payload) rs.1 in
    record {
      vs = vs ++ v ∷ [];
      versions = ap (λ r. then_do r (versions_above 0)) is ∙ record_more 0 rs.0 _ v vs read some (all_older vs v newer) rs.2;
      newest_is = newest_added vs v newer;
    }

pub recorded_from : (third fourth : Option (List ℕ)) (m n : Option Version) → NewestIn third m → NewestIn fourth n → newest_recorded third fourth ≡ Ok (newer_of m n)
recorded_from third fourth m n a b =
    ap (λ r. then_do (in_journal 3 r) (λ vs. then_do (in_journal 4 (versions_in fourth)) (λ ws. Ok (newer_of (newest vs) (newest ws))))) a.versions
    ∙ ap (λ r. then_do (in_journal 4 r) (λ ws. Ok (newer_of (newest a.vs) (newest ws)))) b.versions
    ∙ ap (λ p. Ok (newer_of p (newest b.vs))) a.newest_is ∙ ap (λ p. Ok (newer_of m p)) b.newest_is

pub manifest_from : (third fourth : Option (List ℕ)) (m n : Option Version) → NewestIn third m → NewestIn fourth n → manifest_of third fourth ≡ Ok (unwrap_or (newer_of m n) no_version)
manifest_from third fourth m n a b = ap (λ r. then_do r (λ v. Ok (unwrap_or v no_version))) (recorded_from third fourth m n a b)

behind_old : (a b : Option Version) (v : Version) → is_newer (newer_of a b) (Some v) ≡ true → (newer_of (Some v) b ≡ Some v) × (is_newer (Some v) b ≡ false)
behind_old a None v h = (refl, refl)
behind_old a (Some w) v h =
    let parts = newer_parts a (Some w) v h in
    let less : w.next_file < v.next_file = ltb-true w.next_file v.next_file parts.1 in
    let not : ltb v.next_file w.next_file ≡ false = le-ltb v.next_file w.next_file (omega arith) in
    (rw not refl, not)

old_manifest : (in_fourth : Bool) (third fourth : Option (List ℕ)) (payload : List ℕ) (v : Version) (k : Known in_fourth third fourth payload v)
    → manifest_of third fourth ≡ Ok (unwrap_or (newer_of (newest k.vs) (newest k.ws)) no_version)
old_manifest in_fourth third fourth payload v k =
    manifest_from third fourth (newest k.vs) (newest k.ws) (record { vs = k.vs; versions = k.third_is; newest_is = refl }) (record { vs = k.ws; versions = k.fourth_is; newest_is = refl })

abbrev pub Either : Option (List ℕ) → Option (List ℕ) → Version → Option (List ℕ) → Option (List ℕ) → Type 0
Either third fourth v a b = (manifest_of a b ≡ manifest_of third fourth) ⊎ (manifest_of a b ≡ Ok v)

-- the new record stands in file 3
pub new_in_third : (in_fourth emptied : Bool) (third fourth : Option (List ℕ)) (payload : List ℕ) (v : Version) (a b : Option (List ℕ)) (k : Known in_fourth third fourth payload v)
    → recovered_file a ≡ after_append payload (start_of emptied (recovered_file third)) → HasRecordsOf fourth b
    → (manifest_of a b ≡ Ok v) × IsOkAnd (versions_in a) (λ vs. IsOkAnd (versions_in b) (λ ws. false ≡ is_newer (newest vs) (newest ws)))
new_in_third in_fourth emptied third fourth payload v a b k added same =
    let m = added_newest emptied third a payload v k.vs k.third_is (newer_parts (newest k.vs) (newest k.ws) v k.newer).0 k.read k.some added in
    let n = same_newest fourth b k.ws k.fourth_is same in
    let behind = behind_old (newest k.vs) (newest k.ws) v k.newer in
    let flag : false ≡ is_newer (newest m.vs) (newest n.vs) = sym (ap (λ o. is_newer o (newest n.vs)) m.newest_is ∙ ap (λ o. is_newer (Some v) o) n.newest_is ∙ behind.1) in (
      manifest_from a b (Some v) (newest k.ws) m n ∙ ap (λ o. Ok (unwrap_or o no_version)) behind.0,
      subst (λ r. IsOkAnd r (λ vs. IsOkAnd (versions_in b) (λ ws. false ≡ is_newer (newest vs) (newest ws)))) (sym m.versions)
          (subst (λ r. IsOkAnd r (λ ws. false ≡ is_newer (newest m.vs) (newest ws))) (sym n.versions) flag),
    )

-- and in file 4
pub new_in_fourth : (in_fourth emptied : Bool) (third fourth : Option (List ℕ)) (payload : List ℕ) (v : Version) (a b : Option (List ℕ)) (k : Known in_fourth third fourth payload v)
    → HasRecordsOf third a → recovered_file b ≡ after_append payload (start_of emptied (recovered_file fourth))
    → (manifest_of a b ≡ Ok v) × IsOkAnd (versions_in a) (λ vs. IsOkAnd (versions_in b) (λ ws. true ≡ is_newer (newest vs) (newest ws)))
new_in_fourth in_fourth emptied third fourth payload v a b k same added =
    let parts = newer_parts (newest k.vs) (newest k.ws) v k.newer in
    let m = same_newest third a k.vs k.third_is same in
    let n = added_newest emptied fourth b payload v k.ws k.fourth_is parts.1 k.read k.some added in
    let flag : true ≡ is_newer (newest m.vs) (newest n.vs) = sym (ap (λ o. is_newer o (newest n.vs)) m.newest_is ∙ ap (λ o. is_newer (newest k.vs) o) n.newest_is ∙ parts.0) in (
      manifest_from a b (newest k.vs) (Some v) m n ∙ ap (λ o. Ok (unwrap_or o no_version)) (taken (newest k.vs) v parts.0),
      subst (λ r. IsOkAnd r (λ vs. IsOkAnd (versions_in b) (λ ws. true ≡ is_newer (newest vs) (newest ws)))) (sym m.versions)
          (subst (λ r. IsOkAnd r (λ ws. true ≡ is_newer (newest m.vs) (newest ws))) (sym n.versions) flag),
    )

none_first : (o : Option Version) → newer_of None o ≡ o
none_first None = refl
none_first (Some v) = refl

none_last : (o : Option Version) → newer_of o None ≡ o
none_last None = refl
none_last (Some v) = refl

-- what file 3 may hold while it is written
pub third_written : (in_fourth emptied : Bool) (third fourth : Option (List ℕ)) (payload : List ℕ) (v : Version) (a b : Option (List ℕ)) → Known in_fourth third fourth payload v
    → (IsTrue emptied → in_fourth ≡ true) → MayHold emptied payload third a → HasRecordsOf fourth b → Either third fourth v a b
third_written in_fourth emptied third fourth payload v a b k goes (inr added) same = inr (new_in_third in_fourth emptied third fourth payload v a b k added same).0
third_written in_fourth emptied third fourth payload v a b k goes (inl (inl here)) same =
    inl (manifest_from a b (newest k.vs) (newest k.ws) (same_newest third a k.vs k.third_is here) (same_newest fourth b k.ws k.fourth_is same) ∙ sym (old_manifest in_fourth third fourth payload v k))
third_written in_fourth emptied third fourth payload v a b k goes (inl (inr none)) same =
    let there : is_newer (newest k.vs) (newest k.ws) ≡ true = sym k.flag ∙ goes none.0 in
    let kept : newer_of None (newest k.ws) ≡ newer_of (newest k.vs) (newest k.ws) = none_first (newest k.ws) ∙ sym (ap (λ t. cond t (newest k.ws) (newest k.vs)) there) in
    inl (manifest_from a b None (newest k.ws) (none_newest a none.1) (same_newest fourth b k.ws k.fourth_is same) ∙ ap (λ o. Ok (unwrap_or o no_version)) kept ∙ sym (old_manifest in_fourth third fourth payload v k))

-- and file 4
pub fourth_written : (in_fourth emptied : Bool) (third fourth : Option (List ℕ)) (payload : List ℕ) (v : Version) (a b : Option (List ℕ)) → Known in_fourth third fourth payload v
    → (IsTrue emptied → in_fourth ≡ false) → HasRecordsOf third a → MayHold emptied payload fourth b → Either third fourth v a b
fourth_written in_fourth emptied third fourth payload v a b k goes same (inr added) = inr (new_in_fourth in_fourth emptied third fourth payload v a b k same added).0
fourth_written in_fourth emptied third fourth payload v a b k goes same (inl (inl here)) =
    inl (manifest_from a b (newest k.vs) (newest k.ws) (same_newest third a k.vs k.third_is same) (same_newest fourth b k.ws k.fourth_is here) ∙ sym (old_manifest in_fourth third fourth payload v k))
fourth_written in_fourth emptied third fourth payload v a b k goes same (inl (inr none)) =
    let there : is_newer (newest k.vs) (newest k.ws) ≡ false = sym k.flag ∙ goes none.0 in
    let kept : newer_of (newest k.vs) None ≡ newer_of (newest k.vs) (newest k.ws) = none_last (newest k.vs) ∙ sym (ap (λ t. cond t (newest k.ws) (newest k.vs)) there) in
    inl (manifest_from a b (newest k.vs) None (same_newest third a k.vs k.third_is same) (none_newest b none.1) ∙ ap (λ o. Ok (unwrap_or o no_version)) kept ∙ sym (old_manifest in_fourth third fourth payload v k))

pub start_is : (emptied : Bool) (old file : Option (List ℕ)) → recovered_file file ≡ start_of emptied (recovered_file old) → MayStart emptied old file
start_is true old file e = inr (refl, e)
start_is false old file e = inl e

-- an append behind what was emptied, or not
pub held : (emptied : Bool) (payload : List ℕ) (old mid file : Option (List ℕ)) → recovered_file mid ≡ start_of emptied (recovered_file old)
    → HasRecordsOf mid file ⊎ (recovered_file file ≡ after_append payload (recovered_file mid)) → MayHold emptied payload old file
held emptied payload old mid file e (inl same) = inl (start_is emptied old file (same ∙ e))
held emptied payload old mid file e (inr added) = inr (added ∙ ap (after_append payload) e)

pub all_or_none : (emptied : Bool) (old file : Option (List ℕ)) → emptied ≡ true → HasRecordsOf old file ⊎ (recovered_file file ≡ Ok []) → MayStart emptied old file
all_or_none emptied old file e (inl same) = inl same
all_or_none emptied old file e (inr none) = inr (e, none)
