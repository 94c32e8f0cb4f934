-- What the calls of a journal make of its bytes and its records.
use Rattle.std.specs.Prelude.{◌≡◌, ℕ, ◌+◌, ◌*◌, ◌≤◌, ◌==◌, List, [], ◌∷◌, ◌++◌, length, take, drop, if◌then◌else◌, Option, Result, Ok, IsOkAnd, ◌⊎◌}
use Rattle.byteorder.specs.Endian.{big_bytes}
use Rattle.rk_pieces.specs.Pieces.{then_do}
use Rattle.rk_outside.specs.Disks.{Change, Write, Cut, Sync}
use Rattle.rk_gate.specs.declared.record.Record.{Record}
use Rattle.rk_gate.specs.Records.{recovered_file, gate_behind}

-- What contracts see of a journal: its file's number, the place of its closed gate, up to which length of the file there
-- is room, and for how many bytes its buffer has memory
pub record JournalState : Type 0 where
  pub file : ℕ
  pub gate : ℕ
  pub room : ℕ
  pub buffer : ℕ

-- There is memory for so many appends, each of a payload of at most that length, or for none of them and a reset: then the
-- file needs one byte.
pub record HasMemory (journal : JournalState) (count len : ℕ) : Type 0 where
  pub room : journal.gate + count * (len + 9) + 1 ≤ journal.room
  pub buffer : 1 ≤ count → len + 9 ≤ journal.buffer

-- one record more
abbrev pub with_payload : List Record → List ℕ → List Record
with_payload rs payload = rs ++ record { at = gate_behind rs; payload = payload } ∷ []

-- what an append puts behind the closed gate: the length, the payload, and a closed gate
abbrev pub behind_gate : List ℕ → List ℕ
behind_gate payload = big_bytes 8 (length payload) ++ payload ++ 0 ∷ []

-- the bytes after an append of a payload, of bytes whose closed gate stands at a place
abbrev pub appended : ℕ → List ℕ → List ℕ → List ℕ
appended gate payload bytes = take gate bytes ++ 1 ∷ behind_gate payload ++ drop (gate + length payload + 10) bytes

-- the bytes after a reset: where there is no open record, the gate that stands there is closed
abbrev pub emptied : ℕ → List ℕ → List ℕ
emptied gate bytes = if gate == 0 then take 1 bytes else 0 ∷ []

-- the changes of an append: behind the gate the record without it, and then the gate
abbrev pub append_changes : ℕ → List ℕ → List Change
append_changes gate payload = Write (gate + 1) (behind_gate payload) ∷ Sync ∷ Write gate (1 ∷ []) ∷ Sync ∷ []

-- the changes of a reset: the first gate is closed where there is a record
abbrev pub reset_changes : ℕ → List Change
reset_changes gate = if gate == 0 then Cut 1 ∷ Sync ∷ [] else Write 0 (0 ∷ []) ∷ Sync ∷ Cut 1 ∷ Sync ∷ []

-- the changes that make an empty journal
abbrev pub create_changes : List Change
create_changes = Write 0 (0 ∷ []) ∷ Cut 1 ∷ Sync ∷ []

-- the answer of a reading after an append
abbrev pub after_append : List ℕ → Result (List Record) ℕ → Result (List Record) ℕ
after_append payload rs = then_do rs (λ rs. Ok (with_payload rs payload))

-- a file has the records of another
abbrev pub HasRecordsOf : Option (List ℕ) → Option (List ℕ) → Type 0
HasRecordsOf old file = recovered_file file ≡ recovered_file old

-- these, or these and one more
abbrev pub HasWithOrWithout : List ℕ → Option (List ℕ) → Option (List ℕ) → Type 0
HasWithOrWithout payload old file = HasRecordsOf old file ⊎ (recovered_file file ≡ after_append payload (recovered_file old))

-- these, or none
abbrev pub HasAllOrNone : Option (List ℕ) → Option (List ℕ) → Type 0
HasAllOrNone old file = HasRecordsOf old file ⊎ (recovered_file file ≡ Ok [])

-- nothing is known of the file
abbrev pub IsAnything : Option (List ℕ) → Type 0
IsAnything file = Unit {0}

-- the file is a journal whose closed gate stands at a place
abbrev pub IsJournalWithGate : ℕ → Option (List ℕ) → Type 0
IsJournalWithGate gate file = IsOkAnd (recovered_file file) (λ rs. gate ≡ gate_behind rs)
