-- What was noted of a place.
use Rattle.std.specs.Prelude.{ℕ, unwrap_or}
use Rattle.std.specs.BTreeMap.{get}
use Rattle.rk_coalesce.specs.Places.{Place, place_cmp}
use Rattle.rk_coalesce.specs.declared.newest.Newest.{Newest}

-- the number of a place, 0 where it has none
abbrev pub newest_at : Newest → Place → ℕ
newest_at m p = unwrap_or (get place_cmp m.numbers p) 0
