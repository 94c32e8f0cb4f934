-- Worked bytes, computed.
use Rattle.std.proofs.Common.{◌≡◌, [], ◌∷◌, refl}
use Rattle.rk_model.specs.declared.op.Op.TheVariants.{Put, Del, RangeSet, RangeUnset, RangeDel}
use Rattle.rk_batch.specs.Encoding.{batch_bytes}

-- 01 0001 01 01 61 0001 70
put_a_p : batch_bytes (Put (97 ∷ []) (112 ∷ []) ∷ []) ≡ 1 ∷ 0 ∷ 1 ∷ 1 ∷ 1 ∷ 97 ∷ 0 ∷ 1 ∷ 112 ∷ []
put_a_p = refl

-- 01 0001 03 01 61 01 64 02 40 35 0001 78
rset_a_d_5_x : batch_bytes (RangeSet (97 ∷ []) (100 ∷ []) (64 ∷ 53 ∷ []) (120 ∷ []) ∷ [])
    ≡ 1 ∷ 0 ∷ 1 ∷ 3 ∷ 1 ∷ 97 ∷ 1 ∷ 100 ∷ 2 ∷ 64 ∷ 53 ∷ 0 ∷ 1 ∷ 120 ∷ []
rset_a_d_5_x = refl

-- 01 0003 02 01 61, 04 01 61 01 64 02 40 35, 05 01 61 01 64
del_runset_rdel : batch_bytes (Del (97 ∷ []) ∷ RangeUnset (97 ∷ []) (100 ∷ []) (64 ∷ 53 ∷ []) ∷ RangeDel (97 ∷ []) (100 ∷ []) ∷ [])
    ≡ 1 ∷ 0 ∷ 3 ∷ 2 ∷ 1 ∷ 97 ∷ 4 ∷ 1 ∷ 97 ∷ 1 ∷ 100 ∷ 2 ∷ 64 ∷ 53 ∷ 5 ∷ 1 ∷ 97 ∷ 1 ∷ 100 ∷ []
del_runset_rdel = refl
