-- Versions: the bytes of one, and which bytes are one.
use Rattle.std.specs.Prelude.{◌≡◌, ℕ, zero, suc, ◌<◌, ◌^◌, nat_lt, nat_le, ◌==◌, Bool, true, false, ◌&&◌, ◌||◌, not, IsTrue, Option, Some, None, List, [], ◌∷◌, ◌++◌, length, map, flat_map, All, if◌then◌else◌}
use Rattle.std.specs.List.{list_all}
use Rattle.std.specs.Ordering.{is_lt, is_eq}
use Rattle.byteorder.specs.Endian.{big_bytes}
use Rattle.rk_key.specs.Keys.{suffix, key_cmp}
use Rattle.rk_key.specs.KeyTests.{is_key}
use Rattle.rk_pieces.specs.Pieces.{◌>>=◌, short, short_at, big_at, whole, tested, each_pair, is_empty}
use Rattle.rk_manifest.specs.declared.types.TableDesc.{TableDesc}
use Rattle.rk_manifest.specs.declared.types.VersionDesc.{VersionDesc}

-- the next file number, the last number in tables, and the tables by level
pub record Version : Type 0 where
  pub next_file : ℕ
  pub flushed_upto : ℕ
  pub levels : List (List TableDesc)

-- the version that is described
abbrev pub version : VersionDesc → Version
version d = record { next_file = d.next_file; flushed_upto = d.flushed_upto; levels = map (λ level. level.items) d.levels.items }

-- a version that names no table
abbrev pub without_tables : ℕ → ℕ → Version
without_tables next_file flushed_upto = record { next_file = next_file; flushed_upto = flushed_upto; levels = [] ∷ [] ∷ [] ∷ [] ∷ [] }

-- the version where nothing was recorded
abbrev pub no_version : Version
no_version = without_tables 16 0

abbrev pub tables : Version → List TableDesc
tables v = flat_map (λ level. level) v.levels

-- a byte that says yes or no
abbrev pub flag : Bool → ℕ
flag b = if b then 1 else 0

abbrev pub table_bytes : TableDesc → List ℕ
table_bytes t = big_bytes 8 t.file ++ big_bytes 8 t.size ++ short t.lo ++ short t.hi ++ flag t.closed ∷ []

abbrev pub level_bytes : List TableDesc → List ℕ
level_bytes level = big_bytes 4 (length level) ++ flat_map table_bytes level

abbrev pub version_bytes : Version → List ℕ
version_bytes v = big_bytes 8 v.next_file ++ big_bytes 8 v.flushed_upto ++ flat_map level_bytes v.levels

-- a key without a suffix
abbrev pub is_bare : List ℕ → Bool
is_bare key = is_key key && is_empty (suffix key)

-- whether a prefix is in the interval of a table
abbrev pub in_interval : TableDesc → List ℕ → Bool
in_interval t p = not (is_lt (key_cmp p t.lo)) && (is_lt (key_cmp p t.hi) || (t.closed && is_eq (key_cmp p t.hi)))

abbrev pub greater_key : List ℕ → List ℕ → List ℕ
greater_key x y = if is_lt (key_cmp x y) then y else x

-- some prefix is in both intervals, and then the greater of the two that they begin with is
abbrev pub overlap : TableDesc → TableDesc → Bool
overlap s t = let p = greater_key s.lo t.lo in in_interval s p && in_interval t p

-- the tables ascend, and no two overlap
abbrev pub are_apart : List TableDesc → Bool
are_apart level = each_pair (λ s t. is_lt (key_cmp s.lo t.lo) && not (overlap s t)) level

-- in rising order of their file numbers
abbrev pub are_in_order : List TableDesc → Bool
are_in_order level = each_pair (λ s t. nat_lt s.file t.file) level

-- four levels, of which the first is in order and the tables of each other are apart
abbrev pub are_levels : List (List TableDesc) → Bool
are_levels (l0 ∷ l1 ∷ l2 ∷ l3 ∷ []) = are_in_order l0 && are_apart l1 && are_apart l2 && are_apart l3
are_levels levels = false

-- it begins and ends with keys without suffix, and its number is that of a table and was given out
abbrev pub is_table_desc : ℕ → TableDesc → Bool
is_table_desc next_file t = is_bare t.lo && is_bare t.hi && nat_le 16 t.file && nat_lt t.file next_file

-- both numbers are below 2^56
abbrev pub is_version : Version → Bool
is_version v =
    nat_le 16 v.next_file && nat_lt v.next_file 72057594037927936 && nat_lt v.flushed_upto 72057594037927936
    && list_all (is_table_desc v.next_file) (tables v)
    && each_pair (λ s t. not (s.file == t.file)) (tables v)
    && are_levels v.levels

-- the payload is that of the version
pub record IsVersionOf (payload : List ℕ) (v : Version) : Type 0 where
  pub is_version : IsTrue (is_version v)
  pub sizes : All (λ t. t.size < 2 ^ 64) (tables v)
  pub few : All (λ level. length level < 2 ^ 32) v.levels
  pub spelled : payload ≡ version_bytes v

abbrev pub flag_at : List ℕ → Option (Bool × List ℕ)
flag_at [] = None
flag_at (b ∷ bytes) = if b == 0 then Some (false, bytes) else if b == 1 then Some (true, bytes) else None

unfoldable pub table_at : List ℕ → Option (TableDesc × List ℕ)
table_at bytes = do
  file ← big_at 8 bytes
  size ← big_at 8 file.1
  lo ← short_at size.1
  hi ← short_at lo.1
  closed ← flag_at hi.1
  Some (record { file = file.0; size = size.0; lo = lo.0; hi = hi.0; closed = closed.0 }, closed.1)

unfoldable pub tables_at : ℕ → List ℕ → Option (List TableDesc × List ℕ)
tables_at zero bytes = Some ([], bytes)
tables_at (suc n) bytes = do
  table ← table_at bytes
  more ← tables_at n table.1
  Some (table.0 ∷ more.0, more.1)

unfoldable pub levels_at : ℕ → List ℕ → Option (List (List TableDesc) × List ℕ)
levels_at zero bytes = Some ([], bytes)
levels_at (suc n) bytes = do
  count ← big_at 4 bytes
  level ← tables_at count.0 count.1
  more ← levels_at n level.1
  Some (level.0 ∷ more.0, more.1)

-- the version that a payload spells, with any tables
unfoldable pub version_at : List ℕ → Option Version
version_at bytes = do
  next_file ← big_at 8 bytes
  flushed_upto ← big_at 8 next_file.1
  levels ← levels_at 4 flushed_upto.1
  all ← whole levels
  tested is_version (record { next_file = next_file.0; flushed_upto = flushed_upto.0; levels = all })

-- a version that names no table
abbrev pub has_no_tables : Version → Bool
has_no_tables v = is_empty (tables v)

-- the version that a payload spells: one that names a table is not read yet
abbrev pub version_of : List ℕ → Option Version
version_of bytes = version_at bytes >>= tested has_no_tables
