-- What files hold, computed.
use Rattle.std.proofs.Common.{◌≡◌, ◌∷◌, [], true, false, Some, None, Ok, Err, refl}
use Rattle.rk_outside.specs.declared.error.StoreError.TheVariants.{BadRecord}
use Rattle.rk_outside.specs.Disks.{Files, with_file}
use Rattle.rk_opening.specs.Stores.{has_magic, store_of, new_store, store_magic}

-- the head, empty logs, and a manifest without a record
new_files : Files
new_files = with_file 0 (Some store_magic) (with_file 1 (Some (0 ∷ [])) (with_file 2 (Some (0 ∷ [])) (with_file 3 (Some (0 ∷ [])) (with_file 4 (Some (0 ∷ [])) (λ f. None)))))

head : has_magic (Some store_magic) ≡ true
head = refl

-- its first byte is another
bad_head : has_magic (Some (0 ∷ 107 ∷ 115 ∷ 116 ∷ 111 ∷ 114 ∷ 101 ∷ 49 ∷ [])) ≡ false
bad_head = refl

short_head : has_magic (Some (114 ∷ 107 ∷ [])) ≡ false
short_head = refl

made : store_of new_files ≡ Ok new_store
unfolding new_files
made = refl

-- without its second log
no_second_log : store_of (with_file 2 None new_files) ≡ Err (BadRecord 2 0)
unfolding new_files
no_second_log = refl

-- the manifest is read first
no_manifest : store_of (with_file 4 None (with_file 2 None new_files)) ≡ Err (BadRecord 4 0)
unfolding new_files
no_manifest = refl
