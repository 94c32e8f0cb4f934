use Rattle.std.proofs.Common.{◌≡◌, ◌+◌, take}
use Rattle.std.specs.Prelude.{IsTrue}
use Rattle.rk_model.specs.Items.{are_keyed}
use Rattle.rk_model.specs.Operations.{numbered}
use Rattle.rk_memstore.proofs.numbering.numbered.Given as goal

abbrev pub invariant-loop-op : goal.invariant-loop-op
invariant-loop-op l = (l.entries.items ≡ numbered (l.fn.last + 1) (take l.op-index l.ops)) × (l.seq ≡ l.fn.last + l.op-index) × IsTrue (are_keyed l.entries.items)
