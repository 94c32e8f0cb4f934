use Rattle.std.proofs.Common.{◌∙◌, ap, arith}
use Rattle.rk_gate.specs.Records.{recovered}
use Rattle.rk_gate.proofs.Spelling.{reads_spelled, spelled}
use Rattle.rk_gate.proofs.laws.one_reading.Goals as goal

pub returns-clause-read : goal.returns-clause-read
returns-clause-read c payloads is = ap recovered is.spelled ∙ reads_spelled payloads 0 is.tail is.short is.is_tail

pub returns-clause-spelled : goal.returns-clause-spelled
returns-clause-spelled c rs e = (spelled rs 0 c.args.bytes.now (λ i. omega (arith, c.type_inv.bytes i)) e).journal

pub returns-clause-places : goal.returns-clause-places
returns-clause-places c rs e = (spelled rs 0 c.args.bytes.now (λ i. omega (arith, c.type_inv.bytes i)) e).places
