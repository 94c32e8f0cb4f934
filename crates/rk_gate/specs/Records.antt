-- The bytes of a journal: open records, and a tail.
use Rattle.std.specs.Prelude.{◌≡◌, ◌≢◌, ℕ, ◌+◌, ◌-◌, ◌<◌, ◌^◌, nat_lt, nat_le, ◌==◌, Bool, not, ◌&&◌, List, [], ◌∷◌, ◌++◌, length, take, drop, flat_map, sum_by, All, if◌then◌else◌, Option, Some, None, Result, Ok, Err}
use Rattle.byteorder.specs.Endian.{big_bytes, big_number}
use Rattle.rk_pieces.specs.Pieces.{then_do}
use Rattle.rk_gate.specs.declared.record.Record.{Record}

-- the gate byte of an open record, the length of its payload, and the payload
abbrev pub record_bytes : List ℕ → List ℕ
record_bytes payload = 1 ∷ big_bytes 8 (length payload) ++ payload

-- the gate of a tail is closed, and all behind it is free
abbrev pub IsTail : List ℕ → Type 0
IsTail [] = ⊥
IsTail (gate ∷ free) = gate ≢ 1

-- the bytes are open records of these payloads, and a tail
pub record IsJournalOf (bytes : List ℕ) (payloads : List (List ℕ)) : Type 0 where
  pub tail : List ℕ
  pub is_tail : IsTail tail
  pub spelled : bytes ≡ flat_map record_bytes payloads ++ tail
  pub short : All (λ payload. length payload < 2 ^ 64) payloads

-- open records of these payloads, the first at a place
abbrev pub placed : ℕ → List (List ℕ) → List Record
placed at [] = []
placed at (payload ∷ payloads) = record { at = at; payload = payload } ∷ placed (at + 9 + length payload) payloads

-- the length of a payload, by the bytes behind its gate
abbrev pub payload_length : List ℕ → ℕ
payload_length bytes = big_number 8 bytes

-- behind the gate stand a length, so many bytes, and one more
abbrev pub is_whole : List ℕ → Bool
is_whole bytes = nat_le 8 (length bytes) && nat_lt (8 + payload_length bytes) (length bytes)

-- the payload, by the bytes behind its gate
abbrev pub payload_of : List ℕ → List ℕ
payload_of bytes = take (payload_length bytes) (drop 8 bytes)

abbrev pub with_record : Record → Result (List Record) ℕ → Result (List Record) ℕ
with_record r rest = then_do rest (λ rs. Ok (r ∷ rs))

-- The open records from a place on, once so many bytes are passed over; or the place of the first that isn't whole or
-- that no byte follows.
abbrev pub records_from : ℕ → ℕ → List ℕ → Result (List Record) ℕ
records_from pass at [] = Err at
records_from pass at (gate ∷ bytes) =
    if nat_lt 0 pass then records_from (pass - 1) (at + 1) bytes
    else if not (gate == 1) then Ok []
    else if not (is_whole bytes) then Err at
    else with_record (record { at = at; payload = payload_of bytes }) (records_from (8 + payload_length bytes) (at + 1) bytes)

-- the open records of a file's bytes, or the place of the first bad one, which is 0 where there are no bytes
abbrev pub recovered : List ℕ → Result (List Record) ℕ
recovered bytes = records_from 0 0 bytes

-- the same of a file that may not be there
abbrev pub recovered_file : Option (List ℕ) → Result (List Record) ℕ
recovered_file None = Err 0
recovered_file (Some bytes) = recovered bytes

-- how many bytes an open record takes
abbrev pub record_length : Record → ℕ
record_length r = 9 + length r.payload

-- where the gate behind these records stands
abbrev pub gate_behind : List Record → ℕ
gate_behind rs = sum_by record_length rs
