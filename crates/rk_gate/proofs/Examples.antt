-- Worked bytes, computed.
use Rattle.std.proofs.Common.{◌≡◌, [], ◌∷◌, Ok, Err, None, refl}
use Rattle.rk_gate.specs.Changes.{appended, emptied}
use Rattle.rk_gate.specs.Records.{recovered, recovered_file, gate_behind}

-- a new journal is the byte 0
created : recovered (0 ∷ []) ≡ Ok []
created = refl

-- 01 0000000000000001 78, and a closed gate
appended_x : appended 0 (120 ∷ []) (0 ∷ []) ≡ 1 ∷ 0 ∷ 0 ∷ 0 ∷ 0 ∷ 0 ∷ 0 ∷ 0 ∷ 1 ∷ 120 ∷ 0 ∷ []
appended_x = refl

-- then there is one record at place 0
recovered_x : recovered (appended 0 (120 ∷ []) (0 ∷ [])) ≡ Ok (record { at = 0; payload = 120 ∷ [] } ∷ [])
recovered_x = refl

-- and after two, the second stands behind the first
recovered_two : recovered (appended 10 [] (appended 0 (120 ∷ []) (0 ∷ []))) ≡ Ok (record { at = 0; payload = 120 ∷ [] } ∷ record { at = 10; payload = [] } ∷ [])
recovered_two = refl

gate_behind_two : gate_behind (record { at = 0; payload = 120 ∷ [] } ∷ record { at = 10; payload = [] } ∷ []) ≡ 19
gate_behind_two = refl

-- after a reset there is none
reset_x : recovered (emptied 10 (appended 0 (120 ∷ []) (0 ∷ []))) ≡ Ok []
reset_x = refl

-- a log with one group, 35 bytes: 01 0000000000000019, the payload of 25 bytes, 00
log : recovered (1 ∷ 0 ∷ 0 ∷ 0 ∷ 0 ∷ 0 ∷ 0 ∷ 0 ∷ 25 ∷ 0 ∷ 0 ∷ 0 ∷ 0 ∷ 0 ∷ 0 ∷ 0 ∷ 1 ∷ 0 ∷ 0 ∷ 0 ∷ 1 ∷ 0 ∷ 0 ∷ 0 ∷ 9 ∷ 1 ∷ 0 ∷ 1 ∷ 1 ∷ 1 ∷ 97 ∷ 0 ∷ 1 ∷ 112 ∷ 0 ∷ [])
    ≡ Ok (record { at = 0; payload = 0 ∷ 0 ∷ 0 ∷ 0 ∷ 0 ∷ 0 ∷ 0 ∷ 1 ∷ 0 ∷ 0 ∷ 0 ∷ 1 ∷ 0 ∷ 0 ∷ 0 ∷ 9 ∷ 1 ∷ 0 ∷ 1 ∷ 1 ∷ 1 ∷ 97 ∷ 0 ∷ 1 ∷ 112 ∷ [] } ∷ [])
log = refl

-- any byte that is not 1 is a closed gate, and what stands behind it doesn't count
gate_of_2 : recovered (2 ∷ 1 ∷ 1 ∷ []) ≡ Ok []
gate_of_2 = refl

-- no byte, and no file
empty_file : recovered [] ≡ Err 0
empty_file = refl

no_file : recovered_file None ≡ Err 0
no_file = refl

-- an open gate alone, and one with a part of a length
open_gate_alone : recovered (1 ∷ []) ≡ Err 0
open_gate_alone = refl

short_length : recovered (1 ∷ 0 ∷ 0 ∷ []) ≡ Err 0
short_length = refl

-- a length of 2^64 - 1
longest_length : recovered (1 ∷ 255 ∷ 255 ∷ 255 ∷ 255 ∷ 255 ∷ 255 ∷ 255 ∷ 255 ∷ 120 ∷ 0 ∷ []) ≡ Err 0
longest_length = refl

-- the second payload ends in its middle
short_payload : recovered (1 ∷ 0 ∷ 0 ∷ 0 ∷ 0 ∷ 0 ∷ 0 ∷ 0 ∷ 1 ∷ 120 ∷ 1 ∷ 0 ∷ 0 ∷ 0 ∷ 0 ∷ 0 ∷ 0 ∷ 0 ∷ 2 ∷ 120 ∷ []) ≡ Err 10
short_payload = refl

-- a whole record that no byte follows
no_gate_behind : recovered (1 ∷ 0 ∷ 0 ∷ 0 ∷ 0 ∷ 0 ∷ 0 ∷ 0 ∷ 1 ∷ 120 ∷ []) ≡ Err 0
no_gate_behind = refl
