-- Where logs without later groups were emptied, the log that is written to is ready.
use Rattle.std.proofs.Common.{◌≡◌, ℕ, ◌+◌, ◌<◌, ◌≤◌, Bool, true, false, not, ◌&&◌, ◌||◌, cond, ltb, List, [], ◌∷◌, ◌++◌, None, Ok, refl, sym, ap, subst, ◌∙◌, append_assoc, arith, inl, inr, ⊎_elim}
use Rattle.std.specs.Prelude.{◌⊎◌, ◌==◌, All}
use Rattle.std.proofs.lemmas.Bool.{ltb-true, ltb-false, lt-ltb, le-ltb, eqb-true, cases_Bool, both_ways}
use Rattle.std.proofs.lemmas.List.{append-nil}
use Rattle.std.proofs.lemmas.List.Elements.{All-head, All-tail, All-append}
use Rattle.rk_outside.specs.Disks.{Files}
use Rattle.rk_pieces.specs.Pieces.{is_empty}
use Rattle.rk_log.specs.Groups.{group_end}
use Rattle.rk_log.specs.Logs.{LogsSeen, due_behind, is_gap, is_later, later, breaks, broken_behind, begins_lower, is_second_active}
use Rattle.rk_log.specs.declared.group.Logged.{Logged}
use Rattle.rk_opening.specs.Stores.{StoreSeen, store_of, kept, settled}
use Rattle.rk_opening.proofs.Alike.{AreWhole, HaveLogs}
use Rattle.rk_wal.specs.Following.{IsReady, is_taken_last, due_in}
use Rattle.rk_wal.proofs.Counted.{EndsAbove, log_ends_above}
use Rattle.rk_wal.proofs.Appended.{none_at, later_more, later_same, due_more}
use Rattle.rk_wal.proofs.Taken.{EndsOver, are_last, keeps_rules, begins_due, later_above, due_above}
use Rattle.rk_wal.proofs.OneMore.{parts}

-- the last group of a log is a later one
record EndsLater (flushed : ℕ) (log : List Logged) : Type 0 where
  pub front : List Logged
  pub last : Logged
  pub is : log ≡ front ++ last ∷ []
  pub is_later : is_later flushed last ≡ true
  pub above : flushed < group_end last.group

abbrev IsSettled : ℕ → List Logged → Type 0
IsSettled flushed log = (later flushed log ≡ []) ⊎ EndsLater flushed log

-- a group that leaves no gap begins where the one before it ends
no_gap_behind : (front : List Logged) (last g : Logged) → is_gap (front ++ last ∷ []) g ≡ false → g.group.first ≡ group_end last.group
no_gap_behind front last g keeps =
    eqb-true (g.group.first) (due_behind 0 (front ++ last ∷ [])) (joined (g.group.first == due_behind 0 (front ++ last ∷ [])) front keeps) ∙ due_more 0 front last
  where
    joined : (same : Bool) (gs : List Logged) → (not (is_empty (gs ++ last ∷ [])) && not same) ≡ false → same ≡ true
    joined true gs e = refl
    joined false [] e = absurd cc
    joined false (h ∷ hs) e = absurd cc

-- behind a later group of a log all are later ones
one_settled : (flushed : ℕ) (before : List Logged) (g : Logged) → is_gap before g ≡ false → EndsAbove g → IsSettled flushed before → IsSettled flushed (before ++ g ∷ [])
one_settled flushed before g keeps above ends = ⊎_elim
    (λ there. inr (record { front = before; last = g; is = refl; is_later = there; above = omega (arith, above, ltb-true flushed (g.group.first) there) }))
    (λ gone. ⊎_elim (λ none. inl (later_same flushed before g gone ∙ none)) (λ last. absurd (both_ways (is_later flushed g) gone (stays last))) ends)
    (cases_Bool (is_later flushed g))
  where
    stays : EndsLater flushed before → is_later flushed g ≡ true
    stays ends =
        let begins = no_gap_behind ends.front ends.last g (subst (λ gs. is_gap gs g ≡ false) ends.is keeps) in
        lt-ltb flushed (g.group.first) (omega (arith, begins, ends.above))

all_settled : (flushed : ℕ) (others before log : List Logged) → broken_behind flushed others before log ≡ None → All EndsAbove log → IsSettled flushed before
    → IsSettled flushed (before ++ log)
all_settled flushed others before [] whole each ends = subst (IsSettled flushed) (sym (append-nil before)) ends
all_settled flushed others before (g ∷ gs) whole each ends =
    let parts = none_at (breaks flushed others before g) g.at (broken_behind flushed others (before ++ g ∷ []) gs) whole in
    let next = one_settled flushed before g (keeps_rules flushed others before g parts.0).0 (All-head EndsAbove g gs each) ends in
    subst (IsSettled flushed) (append_assoc before (g ∷ []) gs) (all_settled flushed others (before ++ g ∷ []) gs parts.1 (All-tail EndsAbove g gs each) next)

-- a log that was emptied where it has no later groups
record IsKept (flushed : ℕ) (log new : List Logged) : Type 0 where
  pub same : later flushed new ≡ later flushed log
  pub ends : (new ≡ []) ⊎ EndsLater flushed new

some_last : (gs : List Logged) (g : Logged) → is_empty (gs ++ g ∷ []) ≡ false
some_last [] g = refl
some_last (h ∷ hs) g = refl

kept_is : (flushed : ℕ) (log : List Logged) → IsSettled flushed log → IsKept flushed log (kept flushed log)
kept_is flushed log ends = ⊎_elim
    (λ none.
    let emptied : kept flushed log ≡ [] = ap (λ gs. cond (is_empty gs) [] log) none in
    record { same = ap (later flushed) emptied ∙ sym none; ends = inl emptied })
    (λ last.
    let some : later flushed log ≡ later flushed last.front ++ last.last ∷ [] = ap (later flushed) last.is ∙ later_more flushed last.front last.last last.is_later in
    let stays : kept flushed log ≡ log = ap (λ b. cond b [] log) (ap is_empty some ∙ some_last (later flushed last.front) last.last) in
    record { same = ap (later flushed) stays; ends = inr (subst (EndsLater flushed) (sym stays) last) })
    ends

-- what is due behind all later groups is due in the log that has the last of them
joins_at : (flushed : ℕ) (others log : List Logged) → EndsLater flushed log → due_behind 0 log ≡ due_behind (flushed + 1) (others ++ later flushed log)
joins_at flushed others log ends =
    ap (due_behind 0) ends.is ∙ due_more 0 ends.front ends.last
    ∙ sym (ap (λ gs. due_behind (flushed + 1) (others ++ later flushed gs)) ends.is
    ∙ ap (λ gs. due_behind (flushed + 1) (others ++ gs)) (later_more flushed ends.front ends.last ends.is_later)
    ∙ ap (due_behind (flushed + 1)) (sym (append_assoc others (later flushed ends.front) (ends.last ∷ [])))
    ∙ due_more (flushed + 1) (others ++ later flushed ends.front) ends.last)

-- the first later groups of both logs begin with other numbers
differ : (flushed : ℕ) (l : LogsSeen) → AreWhole flushed l → All EndsAbove l.first → (g h : Logged) (gs hs : List Logged)
    → later flushed l.first ≡ g ∷ gs → later flushed l.second ≡ h ∷ hs → g.group.first ≡ h.group.first → ⊥
differ flushed l whole each g h gs hs one two same =
    let higher : begins_lower (later flushed l.second) (later flushed l.first) ≡ false =
    (λ i. begins_lower (two i) (one i)) ∙ le-ltb (h.group.first) (g.group.first) (omega (arith, same)) in
    let first : g.group.first ≡ flushed + 1 = begins_due flushed [] [] l.first g gs refl
    (ap (λ b. broken_behind flushed (cond b (later flushed l.second) []) [] l.first) (sym higher) ∙ whole.first) one in
    let second : h.group.first ≡ due_behind (flushed + 1) (later flushed l.first) = begins_due flushed (later flushed l.first) [] l.second h hs refl
    (ap (λ b. broken_behind flushed (cond b [] (later flushed l.first)) [] l.second) (sym higher) ∙ whole.second) two in
    let above : flushed + 1 < due_behind (flushed + 1) (g ∷ gs) = due_above (flushed + 1) (flushed + 1) g gs (subst (All (EndsOver (flushed + 1))) one (later_above flushed l.first each)) in
    let behind : h.group.first ≡ due_behind (flushed + 1) (g ∷ gs) = second ∙ ap (due_behind (flushed + 1)) one in
    omega (arith, same, first, above, behind)

not_same : (a b : ℕ) → b ≤ a → (a ≡ b → ⊥) → b < a
not_same a b le ne = omega (arith, le, ne)

-- whether the second log is written to, and whether a log is taken last, by the later groups of both
abbrev second_active : List Logged → List Logged → Bool
second_active first second = not (is_empty second) && (is_empty first || begins_lower first second)

abbrev last_of_both : Bool → List Logged → List Logged → Bool
last_of_both true first second = are_last first second
last_of_both false first second = are_last second first

-- the log that is written to is taken last
active_last : (first second : List Logged) → ((g h : Logged) (gs hs : List Logged) → first ≡ g ∷ gs → second ≡ h ∷ hs → g.group.first ≡ h.group.first → ⊥)
    → last_of_both (second_active first second) first second ≡ true
active_last [] [] others = refl
active_last [] (h ∷ hs) others = refl
active_last (g ∷ gs) [] others = refl
active_last (g ∷ gs) (h ∷ hs) others = ⊎_elim
    (λ lower. ap (λ b. last_of_both b (g ∷ gs) (h ∷ hs)) lower ∙ lower)
    (λ above. ap (λ b. last_of_both b (g ∷ gs) (h ∷ hs)) above
    ∙ lt-ltb (h.group.first) (g.group.first) (not_same (g.group.first) (h.group.first) (ltb-false (g.group.first) (h.group.first) above) (others g h gs hs refl refl)))
    (cases_Bool (ltb (g.group.first) (h.group.first)))

taken_last : (flushed : ℕ) (in_second : Bool) (l : LogsSeen) → last_of_both in_second (later flushed l.first) (later flushed l.second) ≡ true → is_taken_last flushed in_second l ≡ true
taken_last flushed true l last = last
taken_last flushed false l last = last

-- what is due behind later groups is a number above those in tables
due_beyond : (flushed : ℕ) (gs : List Logged) → All (EndsOver (flushed + 1)) gs → flushed < due_behind (flushed + 1) gs
due_beyond flushed [] each = omega arith
due_beyond flushed (g ∷ gs) each =
    let above : flushed + 1 < due_behind (flushed + 1) (g ∷ gs) = due_above (flushed + 1) (flushed + 1) g gs each in
    omega (arith, above)

-- both logs, where those without later groups were emptied
record AreSettled (flushed : ℕ) (l : LogsSeen) : Type 0 where
  pub last : is_taken_last flushed (is_second_active flushed l) l ≡ true
  pub first_ends : (l.first ≡ []) ⊎ EndsLater flushed l.first
  pub second_ends : (l.second ≡ []) ⊎ EndsLater flushed l.second
  pub first_above : All (EndsOver (flushed + 1)) (later flushed l.first)
  pub second_above : All (EndsOver (flushed + 1)) (later flushed l.second)

are_settled : (flushed : ℕ) (files : Files) (l : LogsSeen) → HaveLogs flushed files l → AreSettled flushed (record { first = kept flushed l.first; second = kept flushed l.second })
are_settled flushed files l have =
    let first_each = log_ends_above (files 1) l.first have.first in
    let second_each = log_ends_above (files 2) l.second have.second in
    let first = kept_is flushed l.first (all_settled flushed first_others [] l.first have.whole.first first_each (inl refl)) in
    let second = kept_is flushed l.second (all_settled flushed second_others [] l.second have.whole.second second_each (inl refl)) in
    let new : LogsSeen = record { first = kept flushed l.first; second = kept flushed l.second } in
    record {
      last = taken_last flushed (is_second_active flushed new) new (active_last (later flushed new.first) (later flushed new.second)
          (λ g h gs hs one two. differ flushed l have.whole first_each g h gs hs (sym first.same ∙ one) (sym second.same ∙ two)));
      first_ends = first.ends;
      second_ends = second.ends;
      first_above = subst (All (EndsOver (flushed + 1))) (sym first.same) (later_above flushed l.first first_each);
      second_above = subst (All (EndsOver (flushed + 1))) (sym second.same) (later_above flushed l.second second_each);
    }
  where
    first_others : List Logged
    first_others = cond (begins_lower (later flushed l.second) (later flushed l.first)) (later flushed l.second) []

    second_others : List Logged
    second_others = cond (begins_lower (later flushed l.second) (later flushed l.first)) [] (later flushed l.first)

settled_ready : (flushed : ℕ) (in_second : Bool) (l : LogsSeen) → is_taken_last flushed in_second l ≡ true → AreSettled flushed l
    → IsReady flushed in_second l (due_in flushed in_second l) × (flushed < due_in flushed in_second l)
settled_ready flushed true l last are = (
  record { due = refl; taken_last = last; joins = ⊎_elim inl (λ ends. inr (joins_at flushed (later flushed l.first) l.second ends)) are.second_ends },
  due_beyond flushed (later flushed l.first ++ later flushed l.second) (All-append (EndsOver (flushed + 1)) (later flushed l.first) (later flushed l.second) are.first_above are.second_above),
)
settled_ready flushed false l last are = (
  record { due = refl; taken_last = last; joins = ⊎_elim inl (λ ends. inr (joins_at flushed (later flushed l.second) l.first ends)) are.first_ends },
  due_beyond flushed (later flushed l.second ++ later flushed l.first) (All-append (EndsOver (flushed + 1)) (later flushed l.second) (later flushed l.first) are.second_above are.first_above),
)

pub ready_when_opened : (files : Files) (before : StoreSeen) → store_of files ≡ Ok before →
    let s = settled before in
    let in_second = is_second_active s.version.flushed_upto s.logs in
    IsReady s.version.flushed_upto in_second s.logs (due_in s.version.flushed_upto in_second s.logs) × (s.version.flushed_upto < due_in s.version.flushed_upto in_second s.logs)
ready_when_opened files before e =
    let s = settled before in
    let flushed = s.version.flushed_upto in
    let are = are_settled flushed files before.logs (parts files before e).1 in
    settled_ready flushed (is_second_active flushed s.logs) s.logs are.last are
