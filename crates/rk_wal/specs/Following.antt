-- A group more in one of the two logs of a store.
use Rattle.std.specs.Prelude.{◌≡◌, ℕ, ◌+◌, ◌≤◌, Bool, true, false, ◌||◌, ◌⊎◌, List, [], ◌∷◌, ◌++◌}
use Rattle.rk_pieces.specs.Pieces.{is_empty}
use Rattle.rk_log.specs.Groups.{GroupSeen, group_end}
use Rattle.rk_log.specs.Logs.{LogsSeen, later, due_behind, begins_lower}
use Rattle.rk_log.specs.declared.group.Logged.{Logged}

-- the groups of a log, the second or the first
abbrev pub log_of : Bool → LogsSeen → List Logged
log_of true l = l.second
log_of false l = l.first

-- those of the other one
abbrev pub other_of : Bool → LogsSeen → List Logged
other_of true l = l.first
other_of false l = l.second

-- the logs with one group more
abbrev pub with_group : Bool → Logged → LogsSeen → LogsSeen
with_group true g l = record l { second = l.second ++ g ∷ [] }
with_group false g l = record l { first = l.first ++ g ∷ [] }

-- the later groups of the log are taken behind those of the other one
abbrev pub is_taken_last : ℕ → Bool → LogsSeen → Bool
is_taken_last flushed in_second l =
    is_empty (later flushed (other_of in_second l)) || is_empty (later flushed (log_of in_second l))
    || begins_lower (later flushed (other_of in_second l)) (later flushed (log_of in_second l))

-- the number that is due behind all groups, where those of the log are taken last
abbrev pub due_in : ℕ → Bool → LogsSeen → ℕ
due_in flushed in_second l = due_behind (flushed + 1) (later flushed (other_of in_second l) ++ later flushed (log_of in_second l))

-- A group that begins with a number may follow in the log: the number is due behind all groups, its log is taken last, and its
-- log has no group, or ends before that number.
pub record IsReady (flushed : ℕ) (in_second : Bool) (l : LogsSeen) (next : ℕ) : Type 0 where
  pub due : due_in flushed in_second l ≡ next
  pub taken_last : is_taken_last flushed in_second l ≡ true
  pub joins : (log_of in_second l ≡ []) ⊎ (due_behind 0 (log_of in_second l) ≡ next)

-- the group begins with the number, and has no number of 2^56 or more
pub record IsNext (next : ℕ) (g : GroupSeen) : Type 0 where
  pub begins : g.first ≡ next
  pub within : group_end g ≤ 72057594037927936
