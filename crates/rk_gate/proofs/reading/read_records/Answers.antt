use Rattle.std.proofs.Common.{◌≡◌, [], ◌∷◌, ◌++◌, ◌∙◌, ap, arith}
use Rattle.std.proofs.lemmas.List.{take_rest}
use Rattle.std.proofs.lemmas.List.Sums.{sum_by-append}
use Rattle.rk_gate.specs.Records.{record_length, gate_behind}
use Rattle.rk_gate.proofs.Recovering.{turn}
use Rattle.rk_gate.proofs.reading.read_records.Goals as goal

pub loop-payload-preserved : goal.loop-payload-preserved
loop-payload-preserved c =
    let rs = c.loop-payload.records.items in
    let t = turn c.args.bytes.now _ c.loop-payload.at rs c.in-Open.payload (take_rest c.args.bytes.now c.loop-payload.at) c.in-Open.ensures c.loop-payload.invariant.read in
    let items : c.push.new.self.items ≡ rs ++ record { at = c.loop-payload.at; payload = c.in-Open.payload.now } ∷ [] =
    c.in_ok-push-in-Open.ensures.items ∙ ap (λ p. rs ++ record { at = c.loop-payload.at; payload = p } ∷ []) c.in_ok-from_slice-in-Open.ensures in
    record {
      within = t.0;
      gate = omega (arith, c.loop-payload.invariant.gate, ap gate_behind items, sum_by-append record_length rs (record { at = c.loop-payload.at; payload = c.in-Open.payload.now } ∷ []));
      read = rw (items) t.1;
    }
