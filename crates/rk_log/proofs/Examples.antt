-- Worked bytes and logs, computed.
use Rattle.std.proofs.Common.{◌≡◌, ◌∷◌, [], ℕ, List, true, false, Some, None, Ok, Err, refl}
use Rattle.rk_outside.specs.declared.error.StoreError.TheVariants.{BadRecord}
use Rattle.rk_model.specs.declared.op.Op.TheVariants.{Put}
use Rattle.rk_batch.specs.Reading.{counted_at, fields_at, put_at, long_at}
use Rattle.rk_log.specs.Batches.{batch_of, ops_at}
use Rattle.rk_log.specs.Groups.{group_of, batches_at, framed_at, group_bytes, GroupSeen}
use Rattle.rk_log.specs.Logs.{log_of, by_the_rules, is_second_active, LogsSeen}
use Rattle.rk_log.specs.declared.group.Logged.{Logged}

-- the batch of `put a p`
abbrev put_a : List ℕ
put_a = 1 ∷ 0 ∷ 1 ∷ 1 ∷ 1 ∷ 97 ∷ 0 ∷ 1 ∷ 112 ∷ []

batch : batch_of (1 ∷ 0 ∷ 1 ∷ 1 ∷ 1 ∷ 97 ∷ 0 ∷ 1 ∷ 112 ∷ []) ≡ Some (Put (97 ∷ []) (112 ∷ []) ∷ [])
unfolding batch_of ops_at counted_at fields_at put_at long_at
batch = refl

-- a byte behind it
batch_and_more : batch_of (1 ∷ 0 ∷ 1 ∷ 1 ∷ 1 ∷ 97 ∷ 0 ∷ 1 ∷ 112 ∷ 0 ∷ []) ≡ None
unfolding batch_of ops_at counted_at fields_at put_at long_at
batch_and_more = refl

-- the key `@` is none
bad_key : batch_of (1 ∷ 0 ∷ 1 ∷ 1 ∷ 1 ∷ 64 ∷ 0 ∷ 1 ∷ 112 ∷ []) ≡ None
unfolding batch_of ops_at counted_at fields_at put_at long_at
bad_key = refl

-- the group of this batch alone, with the number 1
abbrev group_one : GroupSeen
group_one = record { first = 1; batches = (Put (97 ∷ []) (112 ∷ []) ∷ []) ∷ [] }

abbrev payload_one : List ℕ
payload_one = 0 ∷ 0 ∷ 0 ∷ 0 ∷ 0 ∷ 0 ∷ 0 ∷ 1 ∷ 0 ∷ 0 ∷ 0 ∷ 1 ∷ 0 ∷ 0 ∷ 0 ∷ 9 ∷ 1 ∷ 0 ∷ 1 ∷ 1 ∷ 1 ∷ 97 ∷ 0 ∷ 1 ∷ 112 ∷ []

spelled : group_bytes group_one ≡ payload_one
spelled = refl

read : group_of payload_one ≡ Some group_one
unfolding group_of batches_at framed_at batch_of ops_at counted_at fields_at put_at long_at
read = refl

-- a group without a batch
no_batch : group_of (0 ∷ 0 ∷ 0 ∷ 0 ∷ 0 ∷ 0 ∷ 0 ∷ 1 ∷ 0 ∷ 0 ∷ 0 ∷ 0 ∷ []) ≡ None
unfolding group_of
no_batch = refl

-- the log of one group, 35 bytes
log_one : log_of (Some (1 ∷ 0 ∷ 0 ∷ 0 ∷ 0 ∷ 0 ∷ 0 ∷ 0 ∷ 25 ∷ 0 ∷ 0 ∷ 0 ∷ 0 ∷ 0 ∷ 0 ∷ 0 ∷ 1 ∷ 0 ∷ 0 ∷ 0 ∷ 1 ∷ 0 ∷ 0 ∷ 0 ∷ 9 ∷ 1 ∷ 0 ∷ 1 ∷ 1 ∷ 1 ∷ 97 ∷ 0 ∷ 1 ∷ 112 ∷ 0 ∷ []))
    ≡ Ok (record { at = 0; group = group_one } ∷ [])
unfolding group_of batches_at framed_at batch_of ops_at counted_at fields_at put_at long_at
log_one = refl

-- an open record of no bytes is no group
log_of_nothing : log_of (Some (1 ∷ 0 ∷ 0 ∷ 0 ∷ 0 ∷ 0 ∷ 0 ∷ 0 ∷ 0 ∷ 0 ∷ [])) ≡ Err 0
unfolding group_of
log_of_nothing = refl

-- a group of one operation, and the place of its record
abbrev one : ℕ → ℕ → Logged
one at first = record { at = at; group = record { first = first; batches = (Put (97 ∷ []) [] ∷ []) ∷ [] } }

abbrev logs : List Logged → List Logged → LogsSeen
logs gs hs = record { first = gs; second = hs }

-- the first log, and then the second one
in_turn : by_the_rules 0 (logs (one 0 1 ∷ one 30 2 ∷ []) (one 0 3 ∷ [])) ≡ Ok (logs (one 0 1 ∷ one 30 2 ∷ []) (one 0 3 ∷ []))
in_turn = refl

-- the second log, and then the first one
second_before_first : by_the_rules 0 (logs (one 0 2 ∷ []) (one 0 1 ∷ [])) ≡ Ok (logs (one 0 2 ∷ []) (one 0 1 ∷ []))
second_before_first = refl

-- a number is missing within a log
gap : by_the_rules 0 (logs (one 0 1 ∷ one 30 3 ∷ []) []) ≡ Err (BadRecord 1 30)
gap = refl

-- the first number is 2, and nothing is in tables
starts_late : by_the_rules 0 (logs (one 0 2 ∷ []) []) ≡ Err (BadRecord 1 0)
starts_late = refl

-- and where 1 is in tables
starts_behind_tables : by_the_rules 1 (logs (one 0 2 ∷ []) []) ≡ Ok (logs (one 0 2 ∷ []) [])
starts_behind_tables = refl

-- groups whose numbers are in tables are passed over
flushed : by_the_rules 2 (logs (one 0 1 ∷ one 30 2 ∷ []) (one 0 3 ∷ [])) ≡ Ok (logs (one 0 1 ∷ one 30 2 ∷ []) (one 0 3 ∷ []))
flushed = refl

-- two logs that begin alike: the second is out of turn
alike : by_the_rules 0 (logs (one 0 1 ∷ []) (one 0 1 ∷ [])) ≡ Err (BadRecord 2 0)
alike = refl

-- a number is missing between the logs
gap_between : by_the_rules 0 (logs (one 0 3 ∷ []) (one 0 1 ∷ [])) ≡ Err (BadRecord 1 0)
gap_between = refl

-- the greatest number, and one above it
greatest : by_the_rules 72057594037927934 (logs (one 0 72057594037927935 ∷ []) []) ≡ Ok (logs (one 0 72057594037927935 ∷ []) [])
greatest = refl

beyond : by_the_rules 72057594037927935 (logs (one 0 72057594037927936 ∷ []) []) ≡ Err (BadRecord 1 0)
beyond = refl

-- of two logs with later groups that with the greater numbers is written to
active : is_second_active 0 (logs (one 0 1 ∷ []) (one 0 2 ∷ [])) ≡ true
active = refl

active_first : is_second_active 0 (logs (one 0 2 ∷ []) (one 0 1 ∷ [])) ≡ false
active_first = refl

only_second : is_second_active 1 (logs (one 0 1 ∷ []) (one 0 2 ∷ [])) ≡ true
only_second = refl

none_later : is_second_active 2 (logs (one 0 1 ∷ []) (one 0 2 ∷ [])) ≡ false
none_later = refl
