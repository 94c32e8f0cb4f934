-- Tests on an ordering, and the order of entries.
use Rattle.std.proofs.Common.{◌≡◌, refl}
use Rattle.std.specs.Prelude.{not}
use Rattle.std.specs.Cmp.{IsTotalOrder}
use Rattle.std.specs.declared.cmp.Ordering.{Ordering}
use Rattle.std.specs.declared.cmp.Ordering.TheVariants.{Less, Equal, Greater}
use Rattle.std.specs.Ordering.{is_lt, is_ge}
use Rattle.std.proofs.lemmas.Cmp.{then_total, on_total, back_total, nat_cmp_total}
use Rattle.rk_key.specs.Laws.{key_cmp-total}
use Rattle.rk_model.specs.Sources.{op_key, entry_cmp}
use Rattle.rk_model.specs.declared.op.Entry.{Entry}

pub is_ge_is : (o : Ordering) → is_ge o ≡ not (is_lt o)
is_ge_is Less = refl
is_ge_is Equal = refl
is_ge_is Greater = refl

pub entry_total : IsTotalOrder entry_cmp
entry_total = then_total (on_total (λ (e : Entry). op_key e.op) key_cmp-total) (on_total (λ (e : Entry). e.seq) (back_total nat_cmp_total))
