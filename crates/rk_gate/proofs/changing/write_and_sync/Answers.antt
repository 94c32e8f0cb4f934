use Rattle.std.proofs.Common.{length, sym, subst}
use Rattle.std.specs.Prelude.{IsTrue, is_ok}
use Rattle.rk_gate.specs.Reading.{IsFileOver}
use Rattle.rk_gate.proofs.Images.{write_run, write_reads, sync_reads, then_sync}
use Rattle.rk_gate.proofs.changing.write_and_sync.Goals as goal

pub returns-in_err-or_write_fault-clause-disk : goal.returns-in_err-or_write_fault-clause-disk
returns-in_err-or_write_fault-clause-disk g c =
    write_run (g.V.Vault.disk c.args.vault.now) (g.V.Vault.disk c.write_at-written.new.self) c.args.file c.args.at c.args.bytes.now (is_ok c.write_at-written.result) _ _ c.requires.there c.write_at-written.ensures.change

pub returns-clause-disk : goal.returns-clause-disk
returns-clause-disk g c =
    let old = g.V.Vault.disk c.args.vault.now in
    let mid = g.V.Vault.disk c.write_at-written.new.self in
    let one = write_run old mid c.args.file c.args.at c.args.bytes.now (is_ok c.write_at-written.result) _ _ c.requires.there c.write_at-written.ensures.change in
    then_sync old mid (g.V.Vault.disk c.sync-synced.new.self) c.args.file _ (is_ok c.sync-synced.result) _ _ one c.sync-synced.ensures.change

pub returns-clause-reads : goal.returns-clause-reads
returns-clause-reads g c = λ tells.
    let old = g.V.Vault.disk c.args.vault.now in
    let mid = g.V.Vault.disk c.write_at-written.new.self in
    let new = g.V.Vault.disk c.sync-synced.new.self in
    let tells' = subst IsTrue (sym c.write_at-written.ensures.change.told.files) tells in
    subst (IsFileOver c.args.at (length c.args.bytes.now) (old.files c.args.file))
    (sym (sync_reads (mid.files c.args.file) (new.files c.args.file) (is_ok c.sync-synced.result) (c.sync-synced.ensures.change.files tells').this))
    (write_reads (old.files c.args.file) (mid.files c.args.file) c.args.at c.args.bytes.now (is_ok c.write_at-written.result) (c.requires.there tells) (c.write_at-written.ensures.change.files tells).this)
