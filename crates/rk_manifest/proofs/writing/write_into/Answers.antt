use Rattle.std.proofs.Common.{◌≡◌, ◌≤◌, ℕ, ◌+◌, ◌*◌, length, inl, ap, subst, ◌∙◌, arith}
use Rattle.rk_outside.specs.Disks.{IsHonest, EachImage}
use Rattle.rk_gate.specs.Changes.{HasRecordsOf}
use Rattle.rk_gate.specs.Records.{recovered_file}
use Rattle.rk_manifest.specs.Calls.{MayHold}
use Rattle.rk_manifest.proofs.Causes.{on_ok}
use Rattle.rk_manifest.proofs.Images.{kept_disk, written, started_only}
use Rattle.rk_manifest.proofs.writing.write_into.Goals as goal

pub returns-in_err-reserve-clause-disk : goal.returns-in_err-reserve-clause-disk
returns-in_err-reserve-clause-disk g c =
    let file = c.args.journal.now.file in
    let a = g.V.Vault.disk c.args.vault.now in
    kept_disk a (g.V.Vault.disk c.reserve.new.vault) file (MayHold c.args.emptied c.args.payload.now (a.files file)) c.reserve.ensures.same
    (λ honest image now. inl (inl (c.requires.images honest image now)))

pub returns-in_err-empty_first-clause-disk : goal.returns-in_err-empty_first-clause-disk
returns-in_err-empty_first-clause-disk g c =
    started_only c.args.journal.now.file c.reserve.new.self.file (g.V.Vault.disk c.args.vault.now) (g.V.Vault.disk c.reserve.new.vault) (g.V.Vault.disk c.empty_first.new.vault) c.args.emptied c.args.payload.now c.reserve.ensures.file c.reserve.ensures.same c.empty_first.ensures.disk

pub returns-clause-disk : goal.returns-clause-disk
returns-clause-disk g c =
    written c.args.journal.now.file c.reserve.new.self.file c.empty_first.new.journal.file (g.V.Vault.disk c.args.vault.now) (g.V.Vault.disk c.reserve.new.vault) (g.V.Vault.disk c.empty_first.new.vault) (g.V.Vault.disk c.append.new.vault) c.args.emptied c.args.payload.now c.reserve.ensures.file c.empty_first.ensures.file c.reserve.ensures.same c.empty_first.ensures.disk c.in_ok-empty_first.ensures.emptied c.append.ensures.disk

pub returns-clause-there : goal.returns-clause-there
returns-clause-there g c =
    let d = g.V.Vault.disk c.append.new.vault in
    let file = c.args.journal.now.file in
    let same : c.empty_first.new.journal.file ≡ file = c.empty_first.ensures.file ∙ c.reserve.ensures.file in
    on_ok c.append.result (IsHonest d → EachImage d (λ image. image c.empty_first.new.journal.file ≡ d.files c.empty_first.new.journal.file)) (IsHonest d → EachImage d (λ image. HasRecordsOf (d.files file) (image file)))
    (λ h honest image now. subst (λ (f : ℕ). HasRecordsOf (d.files f) (image f)) same (ap recovered_file (h honest image now))) c.append.ensures.there

pub returns-clause-memory : goal.returns-clause-memory
returns-clause-memory g c e =
    let ready = c.in_ok-reserve.ensures.memory in
    let empty = c.in_ok-empty_first.ensures in
    let n = length c.args.payload.now in
    let room : c.empty_first.new.journal.gate + 1 * (n + 9) + 1 ≤ c.empty_first.new.journal.room = omega (arith, ready.room, empty.gate, empty.grows.0) in
    let buffer : n + 9 ≤ c.empty_first.new.journal.buffer = omega (arith, ready.buffer (omega arith), empty.grows.1) in
    absurd (c.append.ensures.reserved (record { room = room; buffer = λ one. buffer }) e)
