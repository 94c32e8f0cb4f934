-- A new store stands for the empty history, and other examples that compute.
use Rattle.std.proofs.Common.{[], refl, arith}
use Rattle.rk_opening.specs.Stores.{new_store}
use Rattle.rk_memstore.specs.Agreement.{Agrees}
use Rattle.rk_standing.specs.Stands.{StoreStands, store_parts}

none_agree : Agrees (store_parts new_store) [] []
none_agree = record {
  same = λ n seen x key. refl;
  once = λ x. tt;
  layered = ((λ e f at_e at_f. absurd at_e, tt), (tt, tt));
  none_above = λ k d less. absurd (omega (arith, less));
}

pub new_stands : StoreStands new_store []
new_stands = record { last_is = refl; agrees = none_agree }
