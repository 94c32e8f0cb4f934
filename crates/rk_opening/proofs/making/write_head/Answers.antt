use Rattle.std.proofs.Common.{◌≡◌, sym, subst}
use Rattle.rk_outside.specs.Disks.{Disk}
use Rattle.rk_gate.specs.Calls.{ChangesFile}
use Rattle.rk_gate.specs.Changes.{IsAnything}
use Rattle.rk_gate.proofs.Runs.{no_change, any_step}
use Rattle.rk_opening.proofs.making.write_head.Goals as goal

none : (a b : Disk) → b ≡ a → ChangesFile 0 a b IsAnything
none a b same = subst (λ d. ChangesFile 0 a d IsAnything) (sym same) (no_change a 0 IsAnything (λ honest image is. tt))

pub returns-in-Err-Memory-clause-disk : goal.returns-in-Err-Memory-clause-disk
returns-in-Err-Memory-clause-disk g c = none (g.V.Vault.disk c.args.vault.now) (g.V.Vault.disk c.make_room.new.self) c.make_room.ensures.same

pub returns-in-Err-Failed-clause-disk : goal.returns-in-Err-Failed-clause-disk
returns-in-Err-Failed-clause-disk g c = none (g.V.Vault.disk c.args.vault.now) (g.V.Vault.disk c.make_room.new.self) c.make_room.ensures.same

pub returns-in-Err-clause-disk : goal.returns-in-Err-clause-disk
returns-in-Err-clause-disk g c =
    let a = g.V.Vault.disk c.args.vault.now in
    let b = g.V.Vault.disk c.make_room.new.self in
    any_step a b (g.V.Vault.disk c.write_at.new.self) 0 _ _ _ _ (none a b c.make_room.ensures.same) c.write_at.ensures.change

pub returns-in-Ok-sync-clause-disk : goal.returns-in-Ok-sync-clause-disk
returns-in-Ok-sync-clause-disk g c =
    let a = g.V.Vault.disk c.args.vault.now in
    let b = g.V.Vault.disk c.make_room.new.self in
    let d = g.V.Vault.disk c.write_at.new.self in
    any_step a d (g.V.Vault.disk c.sync.new.self) 0 _ _ _ _ (any_step a b d 0 _ _ _ _ (none a b c.make_room.ensures.same) c.write_at.ensures.change) c.sync.ensures.change

pub returns-in-Err-sync-clause-disk : goal.returns-in-Err-sync-clause-disk
returns-in-Err-sync-clause-disk g c =
    let a = g.V.Vault.disk c.args.vault.now in
    let b = g.V.Vault.disk c.make_room.new.self in
    let d = g.V.Vault.disk c.write_at.new.self in
    any_step a d (g.V.Vault.disk c.sync.new.self) 0 _ _ _ _ (any_step a b d 0 _ _ _ _ (none a b c.make_room.ensures.same) c.write_at.ensures.change) c.sync.ensures.change
