use Rattle.std.specs.Prelude.{is_ok}
use Rattle.rk_gate.proofs.Images.{cut_run, then_sync}
use Rattle.rk_gate.proofs.changing.cut_and_sync.Goals as goal

pub returns-in_err-or_write_fault-clause-disk : goal.returns-in_err-or_write_fault-clause-disk
returns-in_err-or_write_fault-clause-disk g c =
    cut_run (g.V.Vault.disk c.args.vault.now) (g.V.Vault.disk c.cut-cut.new.self) c.args.file c.args.len (is_ok c.cut-cut.result) _ _ c.requires.there c.cut-cut.ensures.change

pub returns-clause-disk : goal.returns-clause-disk
returns-clause-disk g c =
    let old = g.V.Vault.disk c.args.vault.now in
    let mid = g.V.Vault.disk c.cut-cut.new.self in
    let one = cut_run old mid c.args.file c.args.len (is_ok c.cut-cut.result) _ _ c.requires.there c.cut-cut.ensures.change in
    then_sync old mid (g.V.Vault.disk c.sync-settled.new.self) c.args.file _ (is_ok c.sync-settled.result) _ _ one c.sync-settled.ensures.change
