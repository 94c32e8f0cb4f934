-- Worked examples: what a file has met after a few changes, and what a crash may then leave of it.
use Rattle.std.proofs.Common.{◌≡◌, true, false, [], ◌∷◌, Some, None, refl}
use Rattle.rk_outside.specs.Disks.{FileFacts, Synced, Changed, IsFileImage, Write, Cut, Sync, Remove, overwritten, done, facts_after}
use Rattle.rk_outside.proofs.ImageTests.{left_by_test, test_by_left}

-- a write past the end makes the file longer
over_the_end : overwritten (1 ∷ 2 ∷ 3 ∷ []) 2 (8 ∷ 9 ∷ []) ≡ 1 ∷ 2 ∷ 8 ∷ 9 ∷ []
over_the_end = refl

a_write_makes_a_file : done (Write 0 (7 ∷ [])) None ≡ Some (7 ∷ [])
a_write_makes_a_file = refl

-- of three synced bytes the middle one was written over, and then the last one was cut off
abbrev three : FileFacts
three = Synced (Some (1 ∷ 2 ∷ 3 ∷ []))

abbrev written : FileFacts
written = facts_after true (Some (1 ∷ 2 ∷ 3 ∷ [])) (Write 1 (8 ∷ [])) three

abbrev cut : FileFacts
cut = facts_after true (Some (1 ∷ 8 ∷ 3 ∷ [])) (Cut 2) written

cut_is : cut ≡ Changed (record { front = 1 ∷ 2 ∷ []; writes = (1, 1) ∷ []; loose = false })
cut_is = refl

-- the written place may hold anything, and the file may reach on
the_old_byte : IsFileImage cut (Some (1 ∷ 2 ∷ []))
the_old_byte = left_by_test _ _ refl

another_byte_and_more : IsFileImage cut (Some (1 ∷ 77 ∷ 5 ∷ 5 ∷ []))
another_byte_and_more = left_by_test _ _ refl

-- but the first byte stays, and so do two bytes, and the file
no_other_first_byte : IsFileImage cut (Some (9 ∷ 8 ∷ [])) → ⊥
no_other_first_byte is = let e = test_by_left _ _ is in let bad : ⊥ = cc in absurd bad

no_shorter : IsFileImage cut (Some (1 ∷ [])) → ⊥
no_shorter is = let e = test_by_left _ _ is in let bad : ⊥ = cc in absurd bad

not_away : IsFileImage cut None → ⊥
not_away is = let bad : ⊥ = cc in absurd bad

-- a sync that failed settles nothing, and one that was done leaves what a read gives
failed_sync : facts_after false (Some (1 ∷ 8 ∷ [])) Sync cut ≡ cut
failed_sync = refl

synced : facts_after true (Some (1 ∷ 8 ∷ [])) Sync cut ≡ Synced (Some (1 ∷ 8 ∷ []))
synced = refl

-- a file that a write made may be there with any bytes, or not be there
abbrev made : FileFacts
made = facts_after true None (Write 0 (7 ∷ [])) (Synced None)

made_with_any_bytes : IsFileImage made (Some (4 ∷ 4 ∷ []))
made_with_any_bytes = left_by_test _ _ refl

made_empty : IsFileImage made (Some [])
made_empty = left_by_test _ _ refl

made_and_lost : IsFileImage made None
made_and_lost = refl

-- one that was removed may still be there, with its bytes
abbrev removed : FileFacts
removed = facts_after true (Some (1 ∷ 2 ∷ 3 ∷ [])) Remove three

still_there : IsFileImage removed (Some (1 ∷ 2 ∷ 3 ∷ []))
still_there = left_by_test _ _ refl

not_with_others : IsFileImage removed (Some (1 ∷ 2 ∷ 4 ∷ [])) → ⊥
not_with_others is = let e = test_by_left _ _ is in let bad : ⊥ = cc in absurd bad

and_away_once_synced : facts_after true None Sync removed ≡ Synced None
and_away_once_synced = refl
