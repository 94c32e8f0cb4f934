-- What stands before a cut falls: it takes all that don't stand behind an entry that it takes.
use Rattle.std.proofs.Common.{◌≡◌, ℕ, List, true, false, not, refl, ap, is_lt}
use Rattle.std.proofs.lemmas.Bool.{false_from_ne_true}
use Rattle.rk_key.specs.Keys.{key_cmp}
use Rattle.rk_key.specs.Laws.{key_cmp-total}
use Rattle.rk_key.proofs.TotalOrders.{less_is, ge_lt, ge_trans}
use Rattle.rk_model.specs.Items.{point_takes}
use Rattle.rk_model.specs.Searches.{not_false}
use Rattle.rk_model.specs.Sources.{op_key}
use Rattle.rk_model.specs.declared.cut.Cut.{Cut}
use Rattle.rk_model.specs.declared.cut.Cut.TheVariants.{Start, Below, Past, End}
use Rattle.rk_model.specs.declared.op.Entry.{Entry}
use Rattle.rk_merge.proofs.Nears.{Falls}
use Rattle.rk_model.proofs.Orders.{entry_total}
use Rattle.rk_pointmerge.specs.Merges.{comes_before}

not_below : (x y : Entry) → comes_before x y ≡ false → is_lt (key_cmp (op_key x.op) (op_key y.op)) ≡ false
not_below x y h = false_from_ne_true _ (λ e. let before : comes_before x y ≡ true = rw (less_is key_cmp-total (op_key x.op) (op_key y.op) e) refl in cc)

pub takes_falls : (cut : Cut (List ℕ)) → Falls entry_total (point_takes cut)
takes_falls Start x y e h = e
takes_falls (Below key) x y e h = ge_lt key_cmp-total (op_key y.op) (op_key x.op) key (not_below x y h) e
takes_falls (Past key) x y e h = ap not (ge_trans key_cmp-total key (op_key x.op) (op_key y.op) (not_false _ e) (not_below x y h))
takes_falls End x y e h = refl
