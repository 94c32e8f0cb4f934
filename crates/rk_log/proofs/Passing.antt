-- What is due behind groups, and where the first one breaks a rule.
use Rattle.std.proofs.Common.{◌≡◌, ℕ, ◌+◌, ◌<◌, ◌≤◌, Bool, true, false, cond, List, [], ◌∷◌, ◌++◌, length, get_or, take, drop, Some, None, refl, sym, ap, subst, ◌∙◌, append_assoc}
use Rattle.std.specs.Option.{option_map, option_map_or}
use Rattle.std.proofs.lemmas.Bool.{lt-ltb, le-ltb}
use Rattle.std.proofs.lemmas.List.{take_more, append-nil}
use Rattle.rk_model.specs.Lists.{last_of}
use Rattle.rk_model.proofs.Positions.{filter-append}
use Rattle.rk_log.specs.Groups.{group_end}
use Rattle.rk_log.specs.Logs.{due_behind, later, is_later, breaks, broken_behind, is_gap}
use Rattle.rk_log.specs.Due.{IsDue}
use Rattle.rk_log.specs.declared.group.Logged.{Logged}
use Rattle.rk_log.specs.declared.rules.Due.{Due}

-- the last of a list with one more
last_of-push : {A : Type 0} (xs : List A) (y : A) → last_of (xs ++ y ∷ []) ≡ Some y
last_of-push [] y = refl
last_of-push (x ∷ []) y = refl
last_of-push (x ∷ z ∷ zs) y = last_of-push (z ∷ zs) y

-- so many groups of a log were gone over, none of them breaks a rule, and this is due
pub record PassedSoFar (flushed : ℕ) (others gs : List Logged) (i : ℕ) (due : Due) : Type 0 where
  pub is_due : IsDue flushed others (take i gs) due
  pub none_broken : broken_behind flushed others [] gs ≡ broken_behind flushed others (take i gs) (drop i gs)

-- one group more of the first so many
front_grows : (gs : List Logged) (i : ℕ) (g : Logged) → i < length gs → g ≡ get_or gs i g → take (i + 1) gs ≡ take i gs ++ g ∷ []
front_grows gs i g less is = take_more gs i g less ∙ ap (λ q. take i gs ++ q ∷ []) (sym is)

-- the number that is due in turn behind one more group
due_after : (flushed due : ℕ) (others before : List Logged) (g : Logged)
    → due_behind due (others ++ later flushed (before ++ g ∷ [])) ≡ cond (is_later flushed g) (group_end g.group) (due_behind due (others ++ later flushed before))
due_after flushed due others before g =
    ap (λ l. due_behind due (others ++ l)) (filter-append (is_later flushed) before (g ∷ []))
    ∙ at (is_later flushed g)
  where
    at : (b : Bool) → due_behind due (others ++ (later flushed before ++ cond b (g ∷ []) [])) ≡ cond b (group_end g.group) (due_behind due (others ++ later flushed before))
    at true = ap (due_behind due) (sym (append_assoc others (later flushed before) (g ∷ []))) ∙ ap (λ o. option_map_or (λ h. group_end h.group) o due) (last_of-push (others ++ later flushed before) g)
    at false = ap (λ l. due_behind due (others ++ l)) (append-nil (later flushed before))

-- what is due where a group was passed over
pub passed : (flushed : ℕ) (others before : List Logged) (due : Due) (g : Logged) → IsDue flushed others before due
    → IsDue flushed others (before ++ g ∷ []) (record { flushed = due.flushed; in_log = Some (group_end g.group); in_turn = cond (is_later due.flushed g) (group_end g.group) due.in_turn })
passed flushed others before due g h = record {
  flushed_is = h.flushed_is;
  in_log = ap (option_map (λ x. group_end x.group)) (sym (last_of-push before g));
  in_turn = (λ i. cond (is_later (h.flushed_is i) g) (group_end g.group) (h.in_turn i)) ∙ sym (due_after flushed (flushed + 1) others before g);
}

-- a group whose number was read is a later one, or it isn't
pub later_there : (flushed : ℕ) (g seen : Logged) → seen ≡ g → flushed < seen.group.first → is_later flushed g ≡ true
later_there flushed g seen is above = subst (λ x. is_later flushed x ≡ true) is (lt-ltb flushed seen.group.first above)

pub later_not : (flushed : ℕ) (g seen : Logged) → seen ≡ g → seen.group.first ≤ flushed → is_later flushed g ≡ false
later_not flushed g seen is below = subst (λ x. is_later flushed x ≡ false) is (le-ltb flushed seen.group.first below)

-- what is due behind the later ones of the first so many groups
pub later_due : (flushed due : ℕ) (gs : List Logged) (i : ℕ) (g : Logged) → i < length gs → g ≡ get_or gs i g
    → due_behind due (later flushed (take (i + 1) gs)) ≡ cond (is_later flushed g) (group_end g.group) (due_behind due (later flushed (take i gs)))
later_due flushed due gs i g less is = ap (λ l. due_behind due (later flushed l)) (front_grows gs i g less is) ∙ due_after flushed due [] (take i gs) g

-- where no number is due in its log, no group was there
pub no_gap : (before : List Logged) (g : Logged) → None ≡ option_map (λ x. group_end x.group) (last_of before) → is_gap before g ≡ false
no_gap [] g h = refl
no_gap (x ∷ []) g h = cc
no_gap (x ∷ y ∷ ys) g h = no_gap (y ∷ ys) g h
