-- The groups of a store's two logs, and the rules that they keep.
use Rattle.std.specs.Prelude.{◌≡◌, ℕ, ◌+◌, nat_lt, nat_le, ◌==◌, Bool, true, false, not, ◌&&◌, ◌||◌, if◌then◌else◌, Option, Some, None, Result, Ok, Err, List, [], ◌∷◌, ◌++◌, filter}
use Rattle.std.specs.Option.{option_map_or}
use Rattle.rk_outside.specs.declared.error.StoreError.{StoreError}
use Rattle.rk_outside.specs.declared.error.StoreError.TheVariants.{BadRecord}
use Rattle.rk_outside.specs.Disks.{Files}
use Rattle.rk_pieces.specs.Pieces.{then_do, or_refuse, is_empty}
use Rattle.rk_model.specs.Lists.{last_of}
use Rattle.rk_gate.specs.Calls.{in_journal}
use Rattle.rk_gate.specs.Records.{recovered_file}
use Rattle.rk_gate.specs.declared.record.Record.{Record}
use Rattle.rk_log.specs.Groups.{group_of, group_end}
use Rattle.rk_log.specs.declared.group.Logged.{Logged}

-- the groups of open records, or the place of the first that is none
abbrev pub groups_in : List Record → Result (List Logged) ℕ
groups_in [] = Ok []
groups_in (r ∷ rs) = then_do (or_refuse r.at (group_of r.payload)) (λ g. then_do (groups_in rs) (λ gs. Ok (record { at = r.at; group = g } ∷ gs)))

-- the groups of a log, or the place of the first bad record
abbrev pub log_of : Option (List ℕ) → Result (List Logged) ℕ
log_of file = then_do (recovered_file file) groups_in

-- the number that is due behind groups, and another one where there is none
abbrev pub due_behind : ℕ → List Logged → ℕ
due_behind due gs = option_map_or (λ g. group_end g.group) (last_of gs) due

-- it does not begin where the group before it in its log ends
abbrev pub is_gap : List Logged → Logged → Bool
is_gap before g = not (is_empty before) && not (g.group.first == due_behind 0 before)

-- one of its numbers is 2^56 or more
abbrev pub is_beyond : Logged → Bool
is_beyond g = nat_lt 72057594037927936 (group_end g.group)

-- it begins at or below the last number in tables, and ends above it
abbrev pub is_astride : ℕ → Logged → Bool
is_astride flushed g = nat_le g.group.first flushed && nat_lt (flushed + 1) (group_end g.group)

-- it begins above the last number in tables
abbrev pub is_later : ℕ → Logged → Bool
is_later flushed g = nat_lt flushed g.group.first

abbrev pub later : ℕ → List Logged → List Logged
later flushed gs = filter (is_later flushed) gs

-- it is a later one, and does not begin behind those that are taken before it
abbrev pub is_out_of_turn : ℕ → List Logged → Logged → Bool
is_out_of_turn flushed taken g = is_later flushed g && not (g.group.first == due_behind (flushed + 1) taken)

-- a group breaks a rule, by the groups before it in its log, and those of the other log that are taken before it
abbrev pub breaks : ℕ → List Logged → List Logged → Logged → Bool
breaks flushed others before g =
    is_gap before g || is_beyond g || is_astride flushed g || is_out_of_turn flushed (others ++ later flushed before) g

-- the place of the first group of a log that breaks a rule, behind some that don't
abbrev pub broken_behind : ℕ → List Logged → List Logged → List Logged → Option ℕ
broken_behind flushed others before [] = None
broken_behind flushed others before (g ∷ gs) =
    if breaks flushed others before g then Some g.at else broken_behind flushed others (before ++ g ∷ []) gs

abbrev pub begins_lower : List Logged → List Logged → Bool
begins_lower [] hs = false
begins_lower (g ∷ gs) [] = false
begins_lower (g ∷ gs) (h ∷ hs) = nat_lt g.group.first h.group.first

-- the later groups of the second log are taken before those of the first
abbrev pub second_first : ℕ → List Logged → List Logged → Bool
second_first flushed log1 log2 = begins_lower (later flushed log2) (later flushed log1)

-- the place of the first group of the first log that breaks a rule, and of the second one
abbrev pub broken_in_first : ℕ → List Logged → List Logged → Option ℕ
broken_in_first flushed log1 log2 =
    broken_behind flushed (if second_first flushed log1 log2 then later flushed log2 else []) [] log1

abbrev pub broken_in_second : ℕ → List Logged → List Logged → Option ℕ
broken_in_second flushed log1 log2 =
    broken_behind flushed (if second_first flushed log1 log2 then [] else later flushed log1) [] log2

-- The groups of the two logs of a store
pub record LogsSeen : Type 0 where
  pub first : List Logged
  pub second : List Logged

abbrev pub or_bad : ℕ → Option ℕ → Result LogsSeen StoreError → Result LogsSeen StoreError
or_bad file None rest = rest
or_bad file (Some at) rest = Err (BadRecord file at)

-- no group breaks a rule, or the first that does is a bad record, those of the first log before those of the second
abbrev pub by_the_rules : ℕ → LogsSeen → Result LogsSeen StoreError
by_the_rules flushed l =
    or_bad 1 (broken_in_first flushed l.first l.second) (or_bad 2 (broken_in_second flushed l.first l.second) (Ok l))

-- The groups of a vault's files 1 and 2, where the numbers up to one are in tables; or the first bad record: one that is no
-- group, those of file 1 before those of file 2, and then one that breaks a rule
abbrev pub logs_in : ℕ → Files → Result LogsSeen StoreError
logs_in flushed files =
    then_do (in_journal 1 (log_of (files 1))) (λ log1. then_do (in_journal 2 (log_of (files 2))) (λ log2.
    by_the_rules flushed (record { first = log1; second = log2 })))

-- The log that is written to: of two with later groups that with the greater numbers, else the one that has some, else the
-- first
abbrev pub is_second_active : ℕ → LogsSeen → Bool
is_second_active flushed l =
    not (is_empty (later flushed l.second)) && (is_empty (later flushed l.first) || begins_lower (later flushed l.first) (later flushed l.second))
