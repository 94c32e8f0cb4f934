-- The turns in which the later groups of two logs are taken, those of one behind those of the other.
use Rattle.std.proofs.Common.{◌≡◌, ℕ, ◌+◌, ◌<◌, Bool, true, false, not, ◌&&◌, ◌||◌, cond, List, [], ◌∷◌, ◌++◌, Some, None, refl, sym, ap, subst, ◌∙◌, arith, inl, inr, ⊎_elim}
use Rattle.std.specs.Prelude.{◌⊎◌, ◌==◌, All}
use Rattle.std.proofs.lemmas.Bool.{ltb-true, le-ltb, eqb-true, cases_Bool}
use Rattle.std.proofs.lemmas.List.{append-nil}
use Rattle.std.proofs.lemmas.List.Elements.{All-nil, All-cons, All-head, All-tail}
use Rattle.rk_pieces.specs.Pieces.{is_empty}
use Rattle.rk_log.specs.Groups.{group_end}
use Rattle.rk_log.specs.Logs.{LogsSeen, due_behind, is_gap, is_beyond, is_astride, is_out_of_turn, is_later, later, breaks, broken_behind, begins_lower}
use Rattle.rk_log.specs.declared.group.Logged.{Logged}
use Rattle.rk_opening.proofs.Alike.{AreWhole}
use Rattle.rk_wal.specs.Following.{log_of, other_of, is_taken_last}
use Rattle.rk_wal.proofs.Counted.{EndsAbove}
use Rattle.rk_wal.proofs.Appended.{none_at, later_first, later_rest, later_same}

four_parts : (a b c d : Bool) → (a || b || c || d) ≡ false → (a ≡ false) × (d ≡ false)
four_parts false false false d e = (refl, e)
four_parts true b c d e = absurd cc
four_parts false true c d e = absurd cc
four_parts false false true d e = absurd cc

-- a group that breaks no rule leaves no gap, and is in turn
pub keeps_rules : (flushed : ℕ) (others before : List Logged) (g : Logged) → breaks flushed others before g ≡ false
    → (is_gap before g ≡ false) × (is_out_of_turn flushed (others ++ later flushed before) g ≡ false)
keeps_rules flushed others before g keeps =
    four_parts (is_gap before g) (is_beyond g) (is_astride flushed g) (is_out_of_turn flushed (others ++ later flushed before) g) keeps

turn_is : (is_later in_turn : Bool) → is_later ≡ true → (is_later && not in_turn) ≡ false → in_turn ≡ true
turn_is true true is e = refl
turn_is true false is e = absurd cc
turn_is false t is e = absurd cc

-- a later group that is in turn begins with the number that is due
begins_in_turn : (flushed : ℕ) (taken : List Logged) (g : Logged) → is_later flushed g ≡ true → is_out_of_turn flushed taken g ≡ false → g.group.first ≡ due_behind (flushed + 1) taken
begins_in_turn flushed taken g is keeps =
    eqb-true (g.group.first) (due_behind (flushed + 1) taken) (turn_is (is_later flushed g) (g.group.first == due_behind (flushed + 1) taken) is keeps)

first_is : (x y : Logged) (xs ys : List Logged) → x ∷ xs ≡ y ∷ ys → x ≡ y
first_is x y xs ys e = cc

-- the first later group of a log begins with the number that is due behind those of the other one that are taken before it
pub begins_due : (flushed : ℕ) (others before log : List Logged) (g : Logged) (gs : List Logged) → later flushed before ≡ [] → broken_behind flushed others before log ≡ None
    → later flushed log ≡ g ∷ gs → g.group.first ≡ due_behind (flushed + 1) others
begins_due flushed others before [] g gs none whole is = absurd cc
begins_due flushed others before (x ∷ xs) g gs none whole is =
    let parts = none_at (breaks flushed others before x) x.at (broken_behind flushed others (before ++ x ∷ []) xs) whole in
    ⊎_elim
    (λ there.
    let same : x ≡ g = first_is x g (later flushed xs) gs (sym (later_first flushed x xs there) ∙ is) in
    ap (λ y. y.group.first) (sym same)
    ∙ begins_in_turn flushed (others ++ later flushed before) x there (keeps_rules flushed others before x parts.0).1
    ∙ ap (λ l. due_behind (flushed + 1) (others ++ l)) none
    ∙ ap (due_behind (flushed + 1)) (append-nil others))
    (λ gone. begins_due flushed others (before ++ x ∷ []) xs g gs (later_same flushed before x gone ∙ none) parts.1 (sym (later_rest flushed x xs gone) ∙ is))
    (cases_Bool (is_later flushed x))

-- the group ends above a number
abbrev pub EndsOver : ℕ → Logged → Type 0
EndsOver n g = n < group_end g.group

-- the later ones of groups that end above their first number end above the number that is due first
pub later_above : (flushed : ℕ) (gs : List Logged) → All EndsAbove gs → All (EndsOver (flushed + 1)) (later flushed gs)
later_above flushed [] each = All-nil (EndsOver (flushed + 1))
later_above flushed (g ∷ gs) each =
    let more = later_above flushed gs (All-tail EndsAbove g gs each) in
    let here : g.group.first < group_end g.group = All-head EndsAbove g gs each in
    ⊎_elim
    (λ there. subst (All (EndsOver (flushed + 1))) (sym (later_first flushed g gs there))
    (All-cons (EndsOver (flushed + 1)) g (later flushed gs) (omega (arith, here, ltb-true flushed (g.group.first) there)) more))
    (λ gone. subst (All (EndsOver (flushed + 1))) (sym (later_rest flushed g gs gone)) more)
    (cases_Bool (is_later flushed g))

-- what is due behind groups that all end above a number
pub due_above : (n due : ℕ) (g : Logged) (gs : List Logged) → All (EndsOver n) (g ∷ gs) → n < due_behind due (g ∷ gs)
due_above n due g [] each = All-head (EndsOver n) g [] each
due_above n due g (h ∷ hs) each = due_above n due h hs (All-tail (EndsOver n) g (h ∷ hs) each)

not_later : (flushed : ℕ) (x : Logged) (xs : List Logged) → later flushed (x ∷ xs) ≡ [] → (is_later flushed x ≡ false) × (later flushed xs ≡ [])
not_later flushed x xs none = by (is_later flushed x) none
  where
    by : (b : Bool) → cond b (x ∷ later flushed xs) (later flushed xs) ≡ [] → (b ≡ false) × (later flushed xs ≡ [])
    by true e = absurd cc
    by false e = (refl, e)

breaks_alike : (flushed : ℕ) (a b before : List Logged) (x : Logged) → is_later flushed x ≡ false → breaks flushed a before x ≡ breaks flushed b before x
breaks_alike flushed a b before x gone =
    ap (λ l. is_gap before x || is_beyond x || is_astride flushed x || (l && away a)) gone
    ∙ sym (ap (λ l. is_gap before x || is_beyond x || is_astride flushed x || (l && away b)) gone)
  where
    away : List Logged → Bool
    away others = not (x.group.first == due_behind (flushed + 1) (others ++ later flushed before))

-- a log without later groups breaks the same rules behind any others
broken_alike : (flushed : ℕ) (a b before log : List Logged) → later flushed log ≡ [] → broken_behind flushed a before log ≡ broken_behind flushed b before log
broken_alike flushed a b before [] none = refl
broken_alike flushed a b before (x ∷ xs) none =
    let parts = not_later flushed x xs none in
    (λ i. cond (breaks_alike flushed a b before x parts.0 i) (Some x.at) (broken_behind flushed a (before ++ x ∷ []) xs))
    ∙ ap (cond (breaks flushed b before x) (Some x.at)) (broken_alike flushed a b (before ++ x ∷ []) xs parts.1)

-- others that differ only where there are no later groups
broken_same : (flushed : ℕ) (a b log : List Logged) → (a ≡ b) ⊎ (later flushed log ≡ []) → broken_behind flushed a [] log ≡ broken_behind flushed b [] log
broken_same flushed a b log may = ⊎_elim (λ same. ap (λ others. broken_behind flushed others [] log) same) (broken_alike flushed a b [] log) may

-- the later groups of a log are taken behind those of another one
abbrev pub are_last : List Logged → List Logged → Bool
are_last others own = is_empty others || is_empty own || begins_lower others own

-- Groups of two logs break no rule, where the later ones of one are taken before those of the other
pub record AreInTurn (flushed : ℕ) (other log : List Logged) : Type 0 where
  pub before : broken_behind flushed [] [] other ≡ None
  pub behind : broken_behind flushed (later flushed other) [] log ≡ None

not_lower : (others own : List Logged) → are_last others own ≡ true → begins_lower own others ≡ false
not_lower [] [] last = refl
not_lower [] (h ∷ hs) last = refl
not_lower (g ∷ gs) [] last = refl
not_lower (g ∷ gs) (h ∷ hs) last =
    le-ltb (h.group.first) (g.group.first) (omega (arith, ltb-true (g.group.first) (h.group.first) last))

-- those that are taken before begin lower, or one of the two logs has none
lower_or_none : (others own : List Logged) → are_last others own ≡ true
    → (begins_lower others own ≡ true) ⊎ ((begins_lower others own ≡ false) × ((others ≡ []) ⊎ (own ≡ [])))
lower_or_none [] own last = inr (refl, inl refl)
lower_or_none (g ∷ gs) [] last = inr (refl, inr refl)
lower_or_none (g ∷ gs) (h ∷ hs) last = inl last

-- both logs are tested behind lists of others as if they were behind those that are in turn before them
record TestedInTurn (flushed : ℕ) (other log by_other by_log : List Logged) : Type 0 where
  pub before : broken_behind flushed by_other [] other ≡ broken_behind flushed [] [] other
  pub behind : broken_behind flushed by_log [] log ≡ broken_behind flushed (later flushed other) [] log

second_tested : (flushed : ℕ) (other log : List Logged) → are_last (later flushed other) (later flushed log) ≡ true
    → TestedInTurn flushed other log (cond (begins_lower (later flushed log) (later flushed other)) (later flushed log) [])
    (cond (begins_lower (later flushed log) (later flushed other)) [] (later flushed other))
second_tested flushed other log last =
    let higher = not_lower (later flushed other) (later flushed log) last in
    record {
      before = ap (λ b. broken_behind flushed (cond b (later flushed log) []) [] other) higher;
      behind = ap (λ b. broken_behind flushed (cond b [] (later flushed other)) [] log) higher;
    }

first_tested : (flushed : ℕ) (other log : List Logged) → are_last (later flushed other) (later flushed log) ≡ true
    → TestedInTurn flushed other log (cond (begins_lower (later flushed other) (later flushed log)) [] (later flushed log))
    (cond (begins_lower (later flushed other) (later flushed log)) (later flushed other) [])
first_tested flushed other log last = ⊎_elim
    (λ lower. record {
      before = ap (λ b. broken_behind flushed (cond b [] own) [] other) lower;
      behind = ap (λ b. broken_behind flushed (cond b others []) [] log) lower;
    })
    (λ none. record {
      before = ap (λ b. broken_behind flushed (cond b [] own) [] other) none.0 ∙ broken_same flushed own [] other (⊎_elim inr inl none.1);
      behind = ap (λ b. broken_behind flushed (cond b others []) [] log) none.0 ∙ broken_same flushed [] others log (⊎_elim (λ e. inl (sym e)) inr none.1);
    })
    (lower_or_none others own last)
  where
    others : List Logged
    others = later flushed other

    own : List Logged
    own = later flushed log

pub in_turn : (flushed : ℕ) (in_second : Bool) (l : LogsSeen) → is_taken_last flushed in_second l ≡ true → AreWhole flushed l
    → AreInTurn flushed (other_of in_second l) (log_of in_second l)
in_turn flushed true l last whole =
    let tested = second_tested flushed l.first l.second last in
    record { before = sym tested.before ∙ whole.first; behind = sym tested.behind ∙ whole.second }
in_turn flushed false l last whole =
    let tested = first_tested flushed l.second l.first last in
    record { before = sym tested.before ∙ whole.second; behind = sym tested.behind ∙ whole.first }

pub whole_from : (flushed : ℕ) (in_second : Bool) (l : LogsSeen) → is_taken_last flushed in_second l ≡ true → AreInTurn flushed (other_of in_second l) (log_of in_second l)
    → AreWhole flushed l
whole_from flushed true l last turns =
    let tested = second_tested flushed l.first l.second last in
    record { first = tested.before ∙ turns.before; second = tested.behind ∙ turns.behind }
whole_from flushed false l last turns =
    let tested = first_tested flushed l.second l.first last in
    record { first = tested.behind ∙ turns.behind; second = tested.before ∙ turns.before }
