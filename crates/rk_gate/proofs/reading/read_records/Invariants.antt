use Rattle.std.proofs.Common.{◌≡◌, ◌≤◌, ◌-◌, length, drop}
use Rattle.rk_gate.specs.Records.{records_from, recovered, gate_behind}
use Rattle.rk_gate.specs.Reading.{with_records}
use Rattle.rk_gate.proofs.reading.read_records.Given as goal

abbrev pub invariant-loop-payload : goal.invariant-loop-payload
invariant-loop-payload l = record {
  within : l.at ≤ length l.bytes;
  gate : l.at ≡ gate_behind l.records.items;
  read : recovered l.bytes ≡ with_records l.records.items (records_from 0 l.at (drop l.at l.bytes));
}

abbrev pub decreases-loop-payload : goal.decreases-loop-payload
decreases-loop-payload l = length l.bytes - l.at
