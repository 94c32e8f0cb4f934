use Rattle.std.proofs.Common.{◌≡◌, ℕ, Bool, refl, ap, subst, sym, ◌∙◌}
use Rattle.rk_outside.specs.Disks.{TellsFiles}
use Rattle.rk_outside.proofs.Runs.{honest_before}
use Rattle.rk_manifest.specs.Versions.{version, version_bytes}
use Rattle.rk_gate.specs.Changes.{IsJournalWithGate}
use Rattle.rk_manifest.specs.Manifests.{ManifestState, file_of}
use Rattle.rk_manifest.specs.Calls.{MayHold}
use Rattle.rk_manifest.proofs.Images.{unchanged, changes_file_of, crash_of, there_of, written_at, known_by, reads_of, new_of}
use Rattle.rk_manifest.proofs.manifest.Manifest.install.Goals as goal

pub returns-in_err-payload-clause-disk : goal.returns-in_err-payload-clause-disk
returns-in_err-payload-clause-disk g c = unchanged (g.V.Vault.disk c.args.vault.now) (g.V.Vault.disk c.args.vault.now) refl

pub returns-in_err-emptied-clause-disk : goal.returns-in_err-emptied-clause-disk
returns-in_err-emptied-clause-disk g c = unchanged (g.V.Vault.disk c.args.vault.now) (g.V.Vault.disk c.is_full.new.vault) c.is_full.ensures.same

pub returns-in_err-write-clause-reads : goal.returns-in_err-write-clause-reads
returns-in_err-write-clause-reads g c tells follow =
    let m = c.args.self.now in
    let v = version c.args.desc.now in
    let a = g.V.Vault.disk c.args.vault.now in
    let b = g.V.Vault.disk c.is_full.new.vault in
    let d = g.V.Vault.disk c.write.new.vault in
    let e : Bool = c.in_ok-emptied.emptied in
    let t : Bool = c.next_place-in_fourth.result in
    let p = c.deref.result.now in
    let spelled : p ≡ version_bytes v = c.deref.ensures.value ∙ c.in_ok-payload.ensures in
    let w = written_at m.in_fourth e t a b d p c.is_full.ensures.same c.next_place-in_fourth.ensures c.write.ensures.disk c.write.ensures.reads in
    reads_of m.in_fourth e t a d p v w tells (known_by m a.files p v spelled (c.requires.stands tells) c.requires.no_tables follow)

pub returns-in_err-write-clause-disk : goal.returns-in_err-write-clause-disk
returns-in_err-write-clause-disk g c =
    let m = c.args.self.now in
    let v = version c.args.desc.now in
    let a = g.V.Vault.disk c.args.vault.now in
    let b = g.V.Vault.disk c.is_full.new.vault in
    let d = g.V.Vault.disk c.write.new.vault in
    let e : Bool = c.in_ok-emptied.emptied in
    let t : Bool = c.next_place-in_fourth.result in
    let p = c.deref.result.now in
    let spelled : p ≡ version_bytes v = c.deref.ensures.value ∙ c.in_ok-payload.ensures in
    let w = written_at m.in_fourth e t a b d p c.is_full.ensures.same c.next_place-in_fourth.ensures c.write.ensures.disk c.write.ensures.reads in
    changes_file_of t a d (MayHold e p (a.files (file_of t))) w.change

pub returns-in_err-write-clause-crash : goal.returns-in_err-write-clause-crash
returns-in_err-write-clause-crash g c honest follow =
    let m = c.args.self.now in
    let v = version c.args.desc.now in
    let a = g.V.Vault.disk c.args.vault.now in
    let b = g.V.Vault.disk c.is_full.new.vault in
    let d = g.V.Vault.disk c.write.new.vault in
    let e : Bool = c.in_ok-emptied.emptied in
    let t : Bool = c.next_place-in_fourth.result in
    let p = c.deref.result.now in
    let spelled : p ≡ version_bytes v = c.deref.ensures.value ∙ c.in_ok-payload.ensures in
    let w = written_at m.in_fourth e t a b d p c.is_full.ensures.same c.next_place-in_fourth.ensures c.write.ensures.disk c.write.ensures.reads in
    let k = known_by m a.files p v spelled (c.requires.stands honest.tells_files) c.requires.no_tables follow in
    crash_of m.in_fourth e t a d p v w.place k honest (c.requires.images honest) w.change

pub returns-clause-reads : goal.returns-clause-reads
returns-clause-reads g c tells follow =
    let m = c.args.self.now in
    let v = version c.args.desc.now in
    let a = g.V.Vault.disk c.args.vault.now in
    let b = g.V.Vault.disk c.is_full.new.vault in
    let d = g.V.Vault.disk c.write.new.vault in
    let e : Bool = c.in_ok-emptied.emptied in
    let t : Bool = c.next_place-in_fourth.result in
    let p = c.deref.result.now in
    let spelled : p ≡ version_bytes v = c.deref.ensures.value ∙ c.in_ok-payload.ensures in
    let w = written_at m.in_fourth e t a b d p c.is_full.ensures.same c.next_place-in_fourth.ensures c.write.ensures.disk c.write.ensures.reads in
    reads_of m.in_fourth e t a d p v w tells (known_by m a.files p v spelled (c.requires.stands tells) c.requires.no_tables follow)

pub returns-clause-disk : goal.returns-clause-disk
returns-clause-disk g c =
    let m = c.args.self.now in
    let v = version c.args.desc.now in
    let a = g.V.Vault.disk c.args.vault.now in
    let b = g.V.Vault.disk c.is_full.new.vault in
    let d = g.V.Vault.disk c.write.new.vault in
    let e : Bool = c.in_ok-emptied.emptied in
    let t : Bool = c.next_place-in_fourth.result in
    let p = c.deref.result.now in
    let spelled : p ≡ version_bytes v = c.deref.ensures.value ∙ c.in_ok-payload.ensures in
    let w = written_at m.in_fourth e t a b d p c.is_full.ensures.same c.next_place-in_fourth.ensures c.write.ensures.disk c.write.ensures.reads in
    changes_file_of t a d (MayHold e p (a.files (file_of t))) w.change

pub returns-clause-crash : goal.returns-clause-crash
returns-clause-crash g c honest follow =
    let m = c.args.self.now in
    let v = version c.args.desc.now in
    let a = g.V.Vault.disk c.args.vault.now in
    let b = g.V.Vault.disk c.is_full.new.vault in
    let d = g.V.Vault.disk c.write.new.vault in
    let e : Bool = c.in_ok-emptied.emptied in
    let t : Bool = c.next_place-in_fourth.result in
    let p = c.deref.result.now in
    let spelled : p ≡ version_bytes v = c.deref.ensures.value ∙ c.in_ok-payload.ensures in
    let w = written_at m.in_fourth e t a b d p c.is_full.ensures.same c.next_place-in_fourth.ensures c.write.ensures.disk c.write.ensures.reads in
    let k = known_by m a.files p v spelled (c.requires.stands honest.tells_files) c.requires.no_tables follow in
    crash_of m.in_fourth e t a d p v w.place k honest (c.requires.images honest) w.change

pub returns-clause-version : goal.returns-clause-version
returns-clause-version g c tells follow =
    let m = c.args.self.now in
    let v = version c.args.desc.now in
    let a = g.V.Vault.disk c.args.vault.now in
    let b = g.V.Vault.disk c.is_full.new.vault in
    let d = g.V.Vault.disk c.write.new.vault in
    let e : Bool = c.in_ok-emptied.emptied in
    let t : Bool = c.next_place-in_fourth.result in
    let p = c.deref.result.now in
    let spelled : p ≡ version_bytes v = c.deref.ensures.value ∙ c.in_ok-payload.ensures in
    let w = written_at m.in_fourth e t a b d p c.is_full.ensures.same c.next_place-in_fourth.ensures c.write.ensures.disk c.write.ensures.reads in
    let k = known_by m a.files p v spelled (c.requires.stands tells) c.requires.no_tables follow in
    (new_of m.in_fourth e t a b d p v w c.is_full.ensures.same tells k c.in_ok-write.ensures.added).0

pub returns-clause-stands : goal.returns-clause-stands
returns-clause-stands g c tells follow =
    let m = c.args.self.now in
    let v = version c.args.desc.now in
    let a = g.V.Vault.disk c.args.vault.now in
    let b = g.V.Vault.disk c.is_full.new.vault in
    let d = g.V.Vault.disk c.write.new.vault in
    let e : Bool = c.in_ok-emptied.emptied in
    let t : Bool = c.next_place-in_fourth.result in
    let p = c.deref.result.now in
    let spelled : p ≡ version_bytes v = c.deref.ensures.value ∙ c.in_ok-payload.ensures in
    let w = written_at m.in_fourth e t a b d p c.is_full.ensures.same c.next_place-in_fourth.ensures c.write.ensures.disk c.write.ensures.reads in
    let k = known_by m a.files p v spelled (c.requires.stands tells) c.requires.no_tables follow in
    let told = subst TellsFiles (sym c.is_full.ensures.same) tells in
    record {
      third = subst (λ (n : ℕ). IsJournalWithGate n (d.files 3)) (sym (ap (λ (s : ManifestState). s.third.gate) c.self-2.view_is)) (c.in_ok-write.ensures.third told);
      fourth = subst (λ (n : ℕ). IsJournalWithGate n (d.files 4)) (sym (ap (λ (s : ManifestState). s.fourth.gate) c.self-2.view_is)) (c.in_ok-write.ensures.fourth told);
      in_fourth = (new_of m.in_fourth e t a b d p v w c.is_full.ensures.same tells k c.in_ok-write.ensures.added).1;
    }

pub returns-clause-there : goal.returns-clause-there
returns-clause-there g c honest image now =
    let m = c.args.self.now in
    let v = version c.args.desc.now in
    let a = g.V.Vault.disk c.args.vault.now in
    let b = g.V.Vault.disk c.is_full.new.vault in
    let d = g.V.Vault.disk c.write.new.vault in
    let e : Bool = c.in_ok-emptied.emptied in
    let t : Bool = c.next_place-in_fourth.result in
    let p = c.deref.result.now in
    let spelled : p ≡ version_bytes v = c.deref.ensures.value ∙ c.in_ok-payload.ensures in
    let w = written_at m.in_fourth e t a b d p c.is_full.ensures.same c.next_place-in_fourth.ensures c.write.ensures.disk c.write.ensures.reads in
    let before = honest_before a d w.change.told ((g.met.V.Vault g.world.𝓛 g.world.𝓜 g.world.𝓡 ((λ s x. x), (λ x. x), (λ x. x), λ x. x)).honest c.args.vault.now) honest in
    there_of t a d (MayHold e p (a.files (file_of t))) before (c.requires.images before) w.change (c.in_ok-write.ensures.there honest) image now
