use Rattle.std.proofs.Common.{sym, subst}
use Rattle.rk_gate.specs.Calls.{ChangesFile}
use Rattle.rk_gate.specs.Changes.{IsAnything}
use Rattle.rk_gate.proofs.Runs.{no_change, any_step}
use Rattle.rk_gate.proofs.journal.Journal.create.Goals as goal

pub returns-in_err-make_room-clause-disk : goal.returns-in_err-make_room-clause-disk
returns-in_err-make_room-clause-disk g c =
    let old = g.V.Vault.disk c.args.vault.now in
    subst (λ d. ChangesFile c.args.file old d IsAnything) (sym c.make_room.ensures.same) (no_change old c.args.file IsAnything (λ honest image is. tt))

pub returns-in_err-or_write_fault-clause-disk : goal.returns-in_err-or_write_fault-clause-disk
returns-in_err-or_write_fault-clause-disk g c =
    let old = g.V.Vault.disk c.args.vault.now in
    let ready = subst (λ d. ChangesFile c.args.file old d IsAnything) (sym c.make_room.ensures.same) (no_change old c.args.file IsAnything (λ honest image is. tt)) in
    any_step old (g.V.Vault.disk c.make_room.new.vault) (g.V.Vault.disk c.write_at-written.new.self) c.args.file _ _ _ _ ready c.write_at-written.ensures.change

pub returns-in_err-or_write_fault-2-clause-disk : goal.returns-in_err-or_write_fault-2-clause-disk
returns-in_err-or_write_fault-2-clause-disk g c =
    let old = g.V.Vault.disk c.args.vault.now in
    let ready = subst (λ d. ChangesFile c.args.file old d IsAnything) (sym c.make_room.ensures.same) (no_change old c.args.file IsAnything (λ honest image is. tt)) in
    let one = any_step old (g.V.Vault.disk c.make_room.new.vault) (g.V.Vault.disk c.write_at-written.new.self) c.args.file _ _ _ _ ready c.write_at-written.ensures.change in
    any_step old (g.V.Vault.disk c.write_at-written.new.self) (g.V.Vault.disk c.cut-cut.new.self) c.args.file _ _ _ _ one c.cut-cut.ensures.change

pub returns-in_err-or_write_fault-3-clause-disk : goal.returns-in_err-or_write_fault-3-clause-disk
returns-in_err-or_write_fault-3-clause-disk g c =
    let old = g.V.Vault.disk c.args.vault.now in
    let ready = subst (λ d. ChangesFile c.args.file old d IsAnything) (sym c.make_room.ensures.same) (no_change old c.args.file IsAnything (λ honest image is. tt)) in
    let one = any_step old (g.V.Vault.disk c.make_room.new.vault) (g.V.Vault.disk c.write_at-written.new.self) c.args.file _ _ _ _ ready c.write_at-written.ensures.change in
    let two = any_step old (g.V.Vault.disk c.write_at-written.new.self) (g.V.Vault.disk c.cut-cut.new.self) c.args.file _ _ _ _ one c.cut-cut.ensures.change in
    any_step old (g.V.Vault.disk c.cut-cut.new.self) (g.V.Vault.disk c.sync-synced.new.self) c.args.file _ _ _ _ two c.sync-synced.ensures.change

pub returns-clause-disk : goal.returns-clause-disk
returns-clause-disk g c =
    let old = g.V.Vault.disk c.args.vault.now in
    let ready = subst (λ d. ChangesFile c.args.file old d IsAnything) (sym c.make_room.ensures.same) (no_change old c.args.file IsAnything (λ honest image is. tt)) in
    let one = any_step old (g.V.Vault.disk c.make_room.new.vault) (g.V.Vault.disk c.write_at-written.new.self) c.args.file _ _ _ _ ready c.write_at-written.ensures.change in
    let two = any_step old (g.V.Vault.disk c.write_at-written.new.self) (g.V.Vault.disk c.cut-cut.new.self) c.args.file _ _ _ _ one c.cut-cut.ensures.change in
    any_step old (g.V.Vault.disk c.cut-cut.new.self) (g.V.Vault.disk c.sync-synced.new.self) c.args.file _ _ _ _ two c.sync-synced.ensures.change
