-- Logs that are emptied where their groups are all in tables, and stores that hold the same but for such groups.
use Rattle.std.proofs.Common.{◌≡◌, ℕ, true, cond, Option, Some, None, List, [], ◌∷◌, refl, sym, ap, subst, ◌∙◌, arith, inl, inr, ⊎_elim}
use Rattle.std.specs.Prelude.{◌⊎◌, Result, Ok, Err, nat_le}
use Rattle.std.specs.List.{list_all}
use Rattle.std.proofs.lemmas.Bool.Decides.{nat_tests}
use Rattle.rk_outside.specs.declared.error.StoreError.{StoreError}
use Rattle.rk_outside.specs.Disks.{Files}
use Rattle.rk_pieces.specs.Pieces.{then_do, is_empty}
use Rattle.rk_gate.specs.Calls.{in_journal}
use Rattle.rk_gate.specs.Changes.{HasAllOrNone}
use Rattle.rk_gate.specs.Records.{recovered_file}
use Rattle.rk_manifest.specs.Versions.{Version}
use Rattle.rk_manifest.specs.Manifests.{manifest_in, manifest_of}
use Rattle.rk_log.specs.Logs.{LogsSeen, groups_in, log_of, later, begins_lower, broken_behind, broken_in_first, broken_in_second, or_bad, by_the_rules, logs_in}
use Rattle.rk_log.specs.declared.group.Logged.{Logged}
use Rattle.rk_log.proofs.Causes.{both_read}
use Rattle.rk_opening.specs.Stores.{StoreSeen, store_of, has_magic, kept, settled, AreAlike}
use Rattle.rk_opening.specs.Settling.{MayBeSettled, FrontStays, IsSettledCopy}
use Rattle.rk_opening.specs.Openings.{IsAlike}

pub all_in_tables : (flushed : ℕ) (groups : List Logged) → list_all (λ g. nat_le g.group.first flushed) groups ≡ is_empty (later flushed groups)
all_in_tables flushed [] = refl
all_in_tables flushed (g ∷ gs) = grind (arith, nat_tests, all_in_tables flushed gs)

none_later : (groups : List Logged) → true ≡ is_empty groups → groups ≡ []
none_later [] e = refl
none_later (g ∷ gs) e = absurd cc

-- a reset may settle a log whose groups are all in tables
pub reset_settles : (flushed : ℕ) (groups : List Logged) → true ≡ is_empty (later flushed groups) → (old file : Option (List ℕ)) → HasAllOrNone old file → MayBeSettled flushed groups old file
reset_settles flushed groups in_tables old file may = ⊎_elim inl (λ none. inr (none_later (later flushed groups) in_tables, none)) may

-- a log as it was, or emptied where its groups are all in tables
abbrev IsKept : ℕ → List Logged → List Logged → Type 0
IsKept flushed old new = (new ≡ old) ⊎ ((later flushed old ≡ []) × (new ≡ []))

same_later : (flushed : ℕ) (old new : List Logged) → IsKept flushed old new → later flushed new ≡ later flushed old
same_later flushed old new is = ⊎_elim (λ same. ap (later flushed) same) (λ none. ap (later flushed) none.1 ∙ sym none.0) is

same_kept : (flushed : ℕ) (old new : List Logged) → IsKept flushed old new → kept flushed new ≡ kept flushed old
same_kept flushed old new is =
    ⊎_elim (λ same. ap (kept flushed) same) (λ none. ap (kept flushed) none.1 ∙ sym (ap (λ l. cond (is_empty l) [] old) none.0)) is

-- an empty log breaks no rule
still_whole : (flushed : ℕ) (others old new : List Logged) → IsKept flushed old new → broken_behind flushed others [] old ≡ None → broken_behind flushed others [] new ≡ None
still_whole flushed others old new is whole =
    ⊎_elim (λ same. ap (broken_behind flushed others []) same ∙ whole) (λ none. ap (broken_behind flushed others []) none.1) is

-- what the groups of the first log are tested by, and those of the second, by the later groups of both
taken_before_first : (first second : List Logged) → List Logged
taken_before_first first second = cond (begins_lower second first) second []

taken_before_second : (first second : List Logged) → List Logged
taken_before_second first second = cond (begins_lower second first) [] first

-- The groups of two logs that break no rule
pub record AreWhole (flushed : ℕ) (l : LogsSeen) : Type 0 where
  pub first : broken_in_first flushed l.first l.second ≡ None
  pub second : broken_in_second flushed l.first l.second ≡ None

-- each log as it was, or emptied where its groups are all in tables
record AreKept (flushed : ℕ) (old new : LogsSeen) : Type 0 where
  pub first : IsKept flushed old.first new.first
  pub second : IsKept flushed old.second new.second

kept_whole : (flushed : ℕ) (old new : LogsSeen) → AreKept flushed old new → AreWhole flushed old → AreWhole flushed new
unfolding taken_before_first taken_before_second
kept_whole flushed old new are whole = record {
  first = ap (λ taken. broken_behind flushed taken [] new.first) (taken taken_before_first)
      ∙ still_whole flushed (taken_before_first (later flushed old.first) (later flushed old.second)) old.first new.first are.first whole.first;
  second = ap (λ taken. broken_behind flushed taken [] new.second) (taken taken_before_second)
      ∙ still_whole flushed (taken_before_second (later flushed old.first) (later flushed old.second)) old.second new.second are.second whole.second;
}
  where
    taken : (by : List Logged → List Logged → List Logged) → by (later flushed new.first) (later flushed new.second) ≡ by (later flushed old.first) (later flushed old.second)
    taken by = λ i. by (same_later flushed old.first new.first are.first i) (same_later flushed old.second new.second are.second i)

pub then_ok : {A B E : Type 0} (r : Result A E) (f : A → Result B E) (b : B) → then_do r f ≡ Ok b → (a : A) × (r ≡ Ok a) × (f a ≡ Ok b)
then_ok (Ok a) f b e = (a, refl, e)
then_ok (Err x) f b e = absurd cc

journal_ok : {A : Type 0} (file : ℕ) (r : Result A ℕ) (a : A) → in_journal file r ≡ Ok a → r ≡ Ok a
journal_ok file (Ok b) a e = cc
journal_ok file (Err at) a e = absurd cc

bad_ok : (file : ℕ) (bad : Option ℕ) (rest : Result LogsSeen StoreError) (l : LogsSeen) → or_bad file bad rest ≡ Ok l → (bad ≡ None) × (rest ≡ Ok l)
bad_ok file None rest l e = (refl, e)
bad_ok file (Some at) rest l e = absurd cc

-- the files 1 and 2 have the groups of these logs, which break no rule
pub record HaveLogs (flushed : ℕ) (files : Files) (l : LogsSeen) : Type 0 where
  pub first : log_of (files 1) ≡ Ok l.first
  pub second : log_of (files 2) ≡ Ok l.second
  pub whole : AreWhole flushed l

pub have_logs : (flushed : ℕ) (files : Files) (l : LogsSeen) → logs_in flushed files ≡ Ok l → HaveLogs flushed files l
have_logs flushed files l e =
    let one = then_ok (in_journal 1 (log_of (files 1))) (λ log1. then_do (in_journal 2 (log_of (files 2))) (λ log2. by_the_rules flushed (record { first = log1; second = log2 }))) l e in
    let two = then_ok (in_journal 2 (log_of (files 2))) (λ log2. by_the_rules flushed (record { first = one.0; second = log2 })) l one.2 in
    let first = bad_ok 1 (broken_in_first flushed one.0 two.0) (or_bad 2 (broken_in_second flushed one.0 two.0) (Ok (record { first = one.0; second = two.0 }))) l two.2 in
    let second = bad_ok 2 (broken_in_second flushed one.0 two.0) (Ok (record { first = one.0; second = two.0 })) l first.1 in
    let same : record { first = one.0; second = two.0 } ≡ l = cc (second.1) in
    subst (HaveLogs flushed files) same (record {
      first = journal_ok 1 (log_of (files 1)) one.0 one.1;
      second = journal_ok 2 (log_of (files 2)) two.0 two.1;
      whole = record { first = first.0; second = second.0 };
    })

pub logs_back : (flushed : ℕ) (files : Files) (l : LogsSeen) → HaveLogs flushed files l → logs_in flushed files ≡ Ok l
logs_back flushed files l h =
    both_read flushed files l.first l.second h.first h.second
    ∙ ap (λ bad. or_bad 1 bad (or_bad 2 (broken_in_second flushed l.first l.second) (Ok l))) h.whole.first
    ∙ ap (λ bad. or_bad 2 bad (Ok l)) h.whole.second

pub store_from : (files : Files) (version : Version) (logs : LogsSeen) → manifest_in files ≡ Ok version → logs_in version.flushed_upto files ≡ Ok logs
    → store_of files ≡ Ok (record { version = version; logs = logs })
store_from files version logs m e =
    ap (λ r. then_do r (λ v. then_do (logs_in v.flushed_upto files) (λ l. Ok (record { version = v; logs = l })))) m
    ∙ ap (λ r. then_do r (λ l. Ok (record { version = version; logs = l }))) e

-- files with the same manifest, and logs that were kept
kept_store : (old files : Files) (version : Version) (logs new : LogsSeen) → manifest_in old ≡ Ok version → logs_in version.flushed_upto old ≡ Ok logs
    → files 3 ≡ old 3 → files 4 ≡ old 4 → AreKept version.flushed_upto logs new → log_of (files 1) ≡ Ok new.first → log_of (files 2) ≡ Ok new.second
    → store_of files ≡ Ok (record { version = version; logs = new })
kept_store old files version logs new m e third fourth are first second =
    let whole = kept_whole version.flushed_upto logs new are (have_logs version.flushed_upto old logs e).whole in
    store_from files version new
    ((λ i. manifest_of (third i) (fourth i)) ∙ m)
    (logs_back version.flushed_upto files new (record { first = first; second = second; whole = whole }))

kept_is : (flushed : ℕ) (groups : List Logged) → IsKept flushed groups (kept flushed groups)
kept_is flushed groups = by_later (later flushed groups)
  where
    by_later : (above : List Logged) → (cond (is_empty above) [] groups ≡ groups) ⊎ ((above ≡ []) × (cond (is_empty above) [] groups ≡ []))
    by_later [] = inr (refl, refl)
    by_later (g ∷ gs) = inl refl

-- where each log whose groups are all in tables was emptied
pub settled_store : (old files : Files) (version : Version) (logs : LogsSeen) → manifest_in old ≡ Ok version → logs_in version.flushed_upto old ≡ Ok logs
    → files 3 ≡ old 3 → files 4 ≡ old 4
    → log_of (files 1) ≡ Ok (kept version.flushed_upto logs.first) → log_of (files 2) ≡ Ok (kept version.flushed_upto logs.second)
    → store_of files ≡ Ok (settled (record { version = version; logs = logs }))
settled_store old files version logs m e third fourth first second =
    let flushed = version.flushed_upto in
    let both : LogsSeen = record { first = kept flushed logs.first; second = kept flushed logs.second } in
    kept_store old files version logs both m e third fourth (record { first = kept_is flushed logs.first; second = kept_is flushed logs.second }) first second

-- the groups of a log that may have been emptied
kept_log : (flushed : ℕ) (groups : List Logged) (old file : Option (List ℕ)) → log_of old ≡ Ok groups → MayBeSettled flushed groups old file
    → (new : List Logged) × (log_of file ≡ Ok new) × IsKept flushed groups new
kept_log flushed groups old file e may = ⊎_elim
    (λ same. (groups, ap (λ r. then_do r groups_in) same ∙ e, inl refl))
    (λ none. ([], ap (λ r. then_do r groups_in) none.1, inr (none.0, refl)))
    may

same_settled : (version : Version) (old new : LogsSeen) → AreKept version.flushed_upto old new
    → settled (record { version = version; logs = old }) ≡ settled (record { version = version; logs = new })
same_settled version old new are = λ i. record {
  version = version;
  logs = record { first = sym (same_kept version.flushed_upto old.first new.first are.first) i; second = sym (same_kept version.flushed_upto old.second new.second are.second) i };
}

pub copy_is_alike : (old files : Files) (version : Version) (logs : LogsSeen) → manifest_in old ≡ Ok version → logs_in version.flushed_upto old ≡ Ok logs
    → has_magic (old 0) ≡ true → IsSettledCopy version.flushed_upto logs old files → IsAlike old files
copy_is_alike old files version logs m e head copy =
    let flushed = version.flushed_upto in
    let had = have_logs flushed old logs e in
    let first = kept_log flushed logs.first (old 1) (files 1) had.first copy.first in
    let second = kept_log flushed logs.second (old 2) (files 2) had.second copy.second in
    let new : LogsSeen = record { first = first.0; second = second.0 } in
    let are : AreKept flushed logs new = record { first = first.2; second = second.2 } in
    record {
      had_head = head;
      head = ap has_magic copy.head ∙ head;
      alike = alike_by (store_of old) (store_of files) (record { version = version; logs = logs }) (record { version = version; logs = new })
          (store_from old version logs m e) (kept_store old files version logs new m e copy.third copy.fourth are first.1 second.1) (same_settled version logs new are);
    }
  where
    alike_by : (r q : Result StoreSeen StoreError) (s t : StoreSeen) → r ≡ Ok s → q ≡ Ok t → settled s ≡ settled t → AreAlike r q
    alike_by r q s t a b same = subst (λ x. AreAlike x q) (sym a) (subst (AreAlike (Ok s)) (sym b) same)

abbrev pub logs_by : ℕ → Option (List ℕ) → Option (List ℕ) → Result LogsSeen StoreError
logs_by flushed first second =
    then_do (in_journal 1 (log_of first)) (λ log1. then_do (in_journal 2 (log_of second)) (λ log2. by_the_rules flushed (record { first = log1; second = log2 })))

-- a plain copy of the head, the logs and the manifest
pub front_is_alike : (old files : Files) → FrontStays old files → store_of files ≡ store_of old
front_is_alike old files stays =
    let m : manifest_in files ≡ manifest_in old = λ i. manifest_of (stays 3 (omega arith) i) (stays 4 (omega arith) i) in
    let logs : (flushed : ℕ) → logs_in flushed files ≡ logs_in flushed old = λ flushed i. logs_by flushed (stays 1 (omega arith) i) (stays 2 (omega arith) i) in
    λ i. then_do (m i) (λ version. then_do (logs version.flushed_upto i) (λ l. Ok (record { version = version; logs = l })))

pub same_is_alike : (old files : Files) → has_magic (old 0) ≡ true → FrontStays old files → IsAlike old files
same_is_alike old files head stays = record {
  had_head = head;
  head = ap has_magic (stays 0 (omega arith)) ∙ head;
  alike = subst (AreAlike (store_of old)) (sym (front_is_alike old files stays)) (itself (store_of old));
}
  where
    itself : (r : Result StoreSeen StoreError) → AreAlike r r
    itself (Ok s) = refl
    itself (Err e) = refl

pub copy_of_front : (flushed : ℕ) (logs : LogsSeen) (old files : Files) → FrontStays old files → IsSettledCopy flushed logs old files
copy_of_front flushed logs old files stays = record {
  head = stays 0 (omega arith);
  first = inl (ap recovered_file (stays 1 (omega arith)));
  second = inl (ap recovered_file (stays 2 (omega arith)));
  third = stays 3 (omega arith);
  fourth = stays 4 (omega arith);
}
