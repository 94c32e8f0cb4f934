-- Worked bytes, computed.
use Rattle.std.proofs.Common.{◌≡◌, ℕ, true, List, [], ◌∷◌, ◌++◌, Some, None, Ok, Err, replicate, refl}
use Rattle.rk_outside.specs.declared.error.StoreError.TheVariants.{BadRecord}
use Rattle.rk_manifest.specs.Versions.{Version, version_bytes, version_at, levels_at, tables_at, table_at, version_of, no_version, without_tables}
use Rattle.rk_manifest.specs.Manifests.{manifest_of}

-- one table at level 0: file 16 of 89 bytes, from `a` to `a`, closed
abbrev one_table : Version
one_table = record {
  next_file = 18;
  flushed_upto = 1;
  levels = (record { file = 16; size = 89; lo = 97 ∷ []; hi = 97 ∷ []; closed = true } ∷ []) ∷ [] ∷ [] ∷ [] ∷ [];
}

-- 0000000000000012 0000000000000001 00000001 0000000000000010 0000000000000059 0161 0161 01 00000000 00000000 00000000
abbrev payload : List ℕ
payload =
    0 ∷ 0 ∷ 0 ∷ 0 ∷ 0 ∷ 0 ∷ 0 ∷ 18 ∷ 0 ∷ 0 ∷ 0 ∷ 0 ∷ 0 ∷ 0 ∷ 0 ∷ 1 ∷ 0 ∷ 0 ∷ 0 ∷ 1
    ∷ 0 ∷ 0 ∷ 0 ∷ 0 ∷ 0 ∷ 0 ∷ 0 ∷ 16 ∷ 0 ∷ 0 ∷ 0 ∷ 0 ∷ 0 ∷ 0 ∷ 0 ∷ 89 ∷ 1 ∷ 97 ∷ 1 ∷ 97 ∷ 1
    ∷ 0 ∷ 0 ∷ 0 ∷ 0 ∷ 0 ∷ 0 ∷ 0 ∷ 0 ∷ 0 ∷ 0 ∷ 0 ∷ 0 ∷ []

a_table_is_spelled : version_bytes one_table ≡ payload
a_table_is_spelled = refl

a_table_is_read : version_at payload ≡ Some one_table
unfolding version_at levels_at tables_at table_at
a_table_is_read = refl

-- for now a payload that names a table is none
a_table_is_no_version_yet : version_of payload ≡ None
unfolding version_at levels_at tables_at table_at
a_table_is_no_version_yet = refl

-- the file that holds it as its one record: 01 0000000000000035, the payload, and a closed gate
a_file_of_63_bytes : manifest_of (Some (1 ∷ 0 ∷ 0 ∷ 0 ∷ 0 ∷ 0 ∷ 0 ∷ 0 ∷ 53 ∷ payload ++ 0 ∷ [])) (Some (0 ∷ [])) ≡ Err (BadRecord 3 0)
unfolding version_at levels_at tables_at table_at
a_file_of_63_bytes = refl

-- without a table: 32 bytes
without_a_table : version_of (replicate 7 0 ++ 17 ∷ replicate 7 0 ++ 9 ∷ replicate 16 0) ≡ Some (without_tables 17 9)
unfolding version_at levels_at tables_at table_at
without_a_table = refl

nothing_recorded : manifest_of (Some (0 ∷ [])) (Some (0 ∷ [])) ≡ Ok no_version
nothing_recorded = refl

-- two records of equal next file numbers: that of file 3 is the newest
the_third_file_comes_first : manifest_of
    (Some (1 ∷ 0 ∷ 0 ∷ 0 ∷ 0 ∷ 0 ∷ 0 ∷ 0 ∷ 32 ∷ version_bytes (without_tables 17 3) ++ 0 ∷ []))
    (Some (1 ∷ 0 ∷ 0 ∷ 0 ∷ 0 ∷ 0 ∷ 0 ∷ 0 ∷ 32 ∷ version_bytes (without_tables 17 9) ++ 0 ∷ []))
    ≡ Ok (without_tables 17 3)
unfolding version_at levels_at tables_at table_at
the_third_file_comes_first = refl
