-- A group that is due in the log that is taken last is one group more of the store.
use Rattle.std.proofs.Common.{◌≡◌, ℕ, ◌+◌, ◌<◌, ◌≤◌, Bool, true, false, not, ◌&&◌, ◌||◌, ltb, List, [], ◌∷◌, ◌++◌, Some, None, Ok, refl, sym, ap, subst, ◌∙◌, append_assoc, arith, inl, inr, ⊎_elim}
use Rattle.std.specs.Prelude.{◌⊎◌, ◌==◌, All, Result}
use Rattle.std.proofs.lemmas.Bool.{lt-ltb, lt-leb, le-ltb, eq-eqb}
use Rattle.std.proofs.lemmas.List.{append-nil}
use Rattle.rk_outside.specs.declared.error.StoreError.{StoreError}
use Rattle.rk_outside.specs.Disks.{Files}
use Rattle.rk_pieces.specs.Pieces.{is_empty, then_do}
use Rattle.rk_manifest.specs.Manifests.{manifest_in}
use Rattle.rk_manifest.proofs.Images.{same_version}
use Rattle.rk_log.specs.Groups.{GroupSeen, IsGroupOf, group_of, group_end}
use Rattle.rk_log.specs.Logs as logs
use Rattle.rk_log.specs.Logs.{LogsSeen, logs_in, groups_in, due_behind, is_gap, is_beyond, is_astride, is_out_of_turn, is_later, later, breaks, begins_lower}
use Rattle.rk_log.specs.declared.group.Logged.{Logged}
use Rattle.rk_log.proofs.Groups.{group_again}
use Rattle.rk_opening.specs.Stores.{StoreSeen, store_of}
use Rattle.rk_opening.proofs.Alike.{AreWhole, HaveLogs, have_logs, logs_back, store_from, then_ok}
use Rattle.rk_wal.specs.Following.{IsReady, IsNext, log_of, other_of, with_group}
use Rattle.rk_wal.specs.Writing.{HasMore}
use Rattle.rk_wal.proofs.Counted.{EndsAbove, log_ends_above}
use Rattle.rk_wal.proofs.Appended.{log_more, none_broken_more, later_more, due_more}
use Rattle.rk_wal.proofs.Taken.{EndsOver, AreInTurn, are_last, in_turn, whole_from, begins_due, later_above, due_above}

-- a group that begins where its log ends
no_gap : (log : List Logged) (g : Logged) → (log ≡ []) ⊎ (due_behind 0 log ≡ g.group.first) → is_gap log g ≡ false
no_gap log g joins = ⊎_elim
    (λ none. ap (λ gs. is_gap gs g) none)
    (λ behind. after (is_empty log) (g.group.first == due_behind 0 log) (eq-eqb (g.group.first) (due_behind 0 log) (sym behind)))
    joins
  where
    after : (none joined : Bool) → joined ≡ true → (not none && not joined) ≡ false
    after true joined e = refl
    after false true e = refl
    after false false e = absurd cc

none_of_four : (a b c d : Bool) → a ≡ false → b ≡ false → c ≡ false → d ≡ false → (a || b || c || d) ≡ false
none_of_four a b c d p q r s = λ i. p i || q i || r i || s i

not_if : (a b : Bool) → b ≡ true → (a && not b) ≡ false
not_if true true e = refl
not_if false b e = refl
not_if true false e = absurd cc

-- a group that begins with the number that is due
keeps : (flushed : ℕ) (other log : List Logged) (g : Logged) → due_behind (flushed + 1) (later flushed other ++ later flushed log) ≡ g.group.first
    → (log ≡ []) ⊎ (due_behind 0 log ≡ g.group.first) → flushed < g.group.first → group_end g.group ≤ 72057594037927936 → breaks flushed (later flushed other) log g ≡ false
keeps flushed other log g due joins above within =
    none_of_four (is_gap log g) (is_beyond g) (is_astride flushed g) (is_out_of_turn flushed (later flushed other ++ later flushed log) g)
    (no_gap log g joins)
    (le-ltb 72057594037927936 (group_end g.group) within)
    (ap (λ b. b && ltb (flushed + 1) (group_end g.group)) (lt-leb (g.group.first) flushed above))
    (not_if (is_later flushed g) (g.group.first == due_behind (flushed + 1) (later flushed other ++ later flushed log)) (eq-eqb (g.group.first) (due_behind (flushed + 1) (later flushed other ++ later flushed log)) (sym due)))

-- where the other log has later groups, and this one had none
last_more : (others own : List Logged) (g : Logged) → are_last others own ≡ true → ((h : Logged) (hs : List Logged) → others ≡ h ∷ hs → own ≡ [] → h.group.first < g.group.first)
    → are_last others (own ++ g ∷ []) ≡ true
last_more [] own g last lower = refl
last_more (h ∷ hs) [] g last lower = lt-ltb (h.group.first) (g.group.first) (lower h hs refl refl)
last_more (h ∷ hs) (k ∷ ks) g last lower = last

-- the first later group of the other log begins below the number that is due
begins_below : (flushed : ℕ) (other : List Logged) → logs.broken_behind flushed [] [] other ≡ None → All EndsAbove other
    → (h : Logged) (hs : List Logged) → later flushed other ≡ h ∷ hs → h.group.first < due_behind (flushed + 1) (later flushed other)
begins_below flushed other whole each h hs is =
    let first : h.group.first ≡ flushed + 1 = begins_due flushed [] [] other h hs refl whole is in
    let ends : flushed + 1 < due_behind (flushed + 1) (h ∷ hs) = due_above (flushed + 1) (flushed + 1) h hs (subst (All (EndsOver (flushed + 1))) is (later_above flushed other each)) in
    subst (λ gs. h.group.first < due_behind (flushed + 1) gs) (sym is) (omega (arith, first, ends))

-- the two logs, of which the one that is taken last has a group more
record IsOneMore (flushed : ℕ) (other log : List Logged) (g : Logged) : Type 0 where
  pub turns : AreInTurn flushed other (log ++ g ∷ [])
  pub due : due_behind (flushed + 1) (later flushed other ++ later flushed (log ++ g ∷ [])) ≡ group_end g.group
  pub last : are_last (later flushed other) (later flushed (log ++ g ∷ [])) ≡ true

one_more : (flushed : ℕ) (other log : List Logged) (g : Logged) → AreInTurn flushed other log → All EndsAbove other → are_last (later flushed other) (later flushed log) ≡ true
    → due_behind (flushed + 1) (later flushed other ++ later flushed log) ≡ g.group.first → (log ≡ []) ⊎ (due_behind 0 log ≡ g.group.first)
    → flushed < g.group.first → group_end g.group ≤ 72057594037927936 → IsOneMore flushed other log g
one_more flushed other log g turns each last due joins above within = record {
  turns = record {
    before = turns.before;
    behind = none_broken_more flushed (later flushed other) [] log g turns.behind (keeps flushed other log g due joins above within);
  };
  due = ap (λ gs. due_behind (flushed + 1) (later flushed other ++ gs)) more
      ∙ ap (due_behind (flushed + 1)) (sym (append_assoc (later flushed other) (later flushed log) (g ∷ [])))
      ∙ due_more (flushed + 1) (later flushed other ++ later flushed log) g;
  last = ap (are_last (later flushed other)) more ∙ last_more (later flushed other) (later flushed log) g last lower;
}
  where
    more : later flushed (log ++ g ∷ []) ≡ later flushed log ++ g ∷ []
    more = later_more flushed log g (lt-ltb flushed (g.group.first) above)

    lower : (h : Logged) (hs : List Logged) → later flushed other ≡ h ∷ hs → later flushed log ≡ [] → h.group.first < g.group.first
    lower h hs is none =
        let behind : due_behind (flushed + 1) (later flushed other) ≡ g.group.first = ap (due_behind (flushed + 1)) (sym (append-nil (later flushed other)) ∙ ap (λ gs. later flushed other ++ gs) (sym none)) ∙ due in
        subst (λ n. h.group.first < n) behind (begins_below flushed other turns.before each h hs is)

ready_more : (flushed : ℕ) (in_second : Bool) (l : LogsSeen) (g : Logged) → IsOneMore flushed (other_of in_second l) (log_of in_second l) g
    → AreWhole flushed (with_group in_second g l) × IsReady flushed in_second (with_group in_second g l) (group_end g.group)
ready_more flushed true l g more =
    (whole_from flushed true (with_group true g l) more.last more.turns, record { due = more.due; taken_last = more.last; joins = inr (due_more 0 l.second g) })
ready_more flushed false l g more =
    (whole_from flushed false (with_group false g l) more.last more.turns, record { due = more.due; taken_last = more.last; joins = inr (due_more 0 l.first g) })

-- what a store was read from
pub parts : (files : Files) (s : StoreSeen) → store_of files ≡ Ok s → (manifest_in files ≡ Ok s.version) × HaveLogs s.version.flushed_upto files s.logs
parts files s e =
    let version = then_ok (manifest_in files) (λ version. then_do (logs_in version.flushed_upto files) (λ logs. Ok (record { version = version; logs = logs }))) s e in
    let logs = then_ok (logs_in version.0.flushed_upto files) (λ logs. Ok (record { version = version.0; logs = logs })) s version.2 in
    let read : (manifest_in files ≡ Ok version.0) × HaveLogs version.0.flushed_upto files logs.0 = (version.1, have_logs version.0.flushed_upto files logs.0 logs.1) in
    subst (λ (t : StoreSeen). (manifest_in files ≡ Ok t.version) × HaveLogs t.version.flushed_upto files t.logs) (store_is (record { version = version.0; logs = logs.0 }) s logs.2) read
  where
    store : StoreSeen → Result StoreSeen StoreError
    store s = Ok s

    store_is : (s t : StoreSeen) → store s ≡ store t → s ≡ t
    store_is s t e = cc

-- the log's file has a record more, and the other one's has the same records
have_more : (in_second : Bool) (payload : List ℕ) (g : GroupSeen) (flushed : ℕ) (l : LogsSeen) (old files : Files) → HaveLogs flushed old l → group_of payload ≡ Some g
    → HasMore in_second payload old files
    → (at : ℕ) × ((AreWhole flushed (with_group in_second (record { at = at; group = g }) l)) → HaveLogs flushed files (with_group in_second (record { at = at; group = g }) l))
have_more true payload g flushed l old files have is has =
    let more = log_more (old 2) (files 2) payload l.second g have.second is has.this in
    (more.0, λ whole. record { first = ap (λ rs. then_do rs groups_in) has.other ∙ have.first; second = more.1; whole = whole })
have_more false payload g flushed l old files have is has =
    let more = log_more (old 1) (files 1) payload l.first g have.first is has.this in
    (more.0, λ whole. record { first = more.1; second = ap (λ rs. then_do rs groups_in) has.other ∙ have.second; whole = whole })

other_ends_above : (flushed : ℕ) (in_second : Bool) (files : Files) (l : LogsSeen) → HaveLogs flushed files l → All EndsAbove (other_of in_second l)
other_ends_above flushed true files l have = log_ends_above (files 1) l.first have.first
other_ends_above flushed false files l have = log_ends_above (files 2) l.second have.second

pub one_group_more : (in_second : Bool) (payload : List ℕ) (g : GroupSeen) (next : ℕ) (old files : Files) (s : StoreSeen)
    → store_of old ≡ Ok s → IsReady s.version.flushed_upto in_second s.logs next → s.version.flushed_upto < next → IsGroupOf payload g → IsNext next g → HasMore in_second payload old files
    → (at : ℕ) × (store_of files ≡ Ok (record s { logs = with_group in_second (record { at = at; group = g }) s.logs }))
    × IsReady s.version.flushed_upto in_second (with_group in_second (record { at = at; group = g }) s.logs) (group_end g)
one_group_more in_second payload g next old files s stored ready above spelled follows has =
    let flushed = s.version.flushed_upto in
    let read = parts old s stored in
    let have = have_more in_second payload g flushed s.logs old files read.1 (group_again payload g spelled) has in
    let logged : Logged = record { at = have.0; group = g } in
    let more = one_more flushed (other_of in_second s.logs) (log_of in_second s.logs) logged (in_turn flushed in_second s.logs ready.taken_last read.1.whole)
    (other_ends_above flushed in_second old s.logs read.1) ready.taken_last (ready.due ∙ sym follows.begins) (⊎_elim inl (λ behind. inr (behind ∙ sym follows.begins)) ready.joins)
    (subst (λ n. flushed < n) (sym follows.begins) above) follows.within in
    let done = ready_more flushed in_second s.logs logged more in
    let new : LogsSeen = with_group in_second logged s.logs in
    (have.0, store_from files s.version new (same_version old files has.manifest ∙ read.0) (logs_back flushed files new (have.1 done.0)), done.1)
