use Rattle.std.proofs.Common.{◌≡◌, ◌<◌, ◌^◌, inl, length, ◌∙◌, ap, subst, sym, arith}
use Rattle.rk_gate.specs.Calls.{ChangesFile}
use Rattle.rk_gate.specs.Changes.{HasWithOrWithout, IsJournalWithGate, behind_gate}
use Rattle.rk_gate.proofs.Appending.{length-behind}
use Rattle.rk_gate.proofs.AppendSteps.{first_there, first_reads, first_run, first_done, second_reads, second_run, finished}
use Rattle.rk_gate.proofs.Runs.{Moved, no_change}
use Rattle.rk_gate.proofs.journal.Journal.append.Goals as goal

pub returns-in_err-reserve-clause-disk : goal.returns-in_err-reserve-clause-disk
returns-in_err-reserve-clause-disk g c =
    let old = g.V.Vault.disk c.args.vault.now in
    let P = HasWithOrWithout c.args.payload.now (old.files c.args.self.now.file) in
    subst (λ d. ChangesFile c.args.self.now.file old d P) (sym c.reserve.ensures.same)
    (no_change old c.args.self.now.file P (λ honest image is. inl (c.requires.images honest image is)))

pub write_and_sync-requires-clause-there : goal.write_and_sync-requires-clause-there
write_and_sync-requires-clause-there g c κs within =
    let old = g.V.Vault.disk c.args.vault.now in
    let old' = g.V.Vault.disk c.reserve.new.vault in
    let file = c.args.self.now.file in
    let file' = c.self.inside.file in
    let gate = c.args.self.now.gate in
    let gate' = c.self.inside.gate in
    let payload = c.args.payload.now in
    let m : Moved old old' file file' gate gate' = record { same_disk = c.reserve.ensures.same; same_file = ap (λ j. j.file) c.self.view_is ∙ c.reserve.ensures.file; same_place = ap (λ j. j.gate) c.self.view_is ∙ c.reserve.ensures.gate } in
    first_there old old' file file' gate gate' payload m c.requires.reads

pub returns-in_err-write_and_sync-clause-reads : goal.returns-in_err-write_and_sync-clause-reads
returns-in_err-write_and_sync-clause-reads g c =
    let old = g.V.Vault.disk c.args.vault.now in
    let old' = g.V.Vault.disk c.reserve.new.vault in
    let mid = g.V.Vault.disk c.write_and_sync.new.vault in
    let file = c.args.self.now.file in
    let file' = c.self.inside.file in
    let gate = c.args.self.now.gate in
    let gate' = c.self.inside.gate in
    let payload = c.args.payload.now in
    let m : Moved old old' file file' gate gate' = record { same_disk = c.reserve.ensures.same; same_file = ap (λ j. j.file) c.self.view_is ∙ c.reserve.ensures.file; same_place = ap (λ j. j.gate) c.self.view_is ∙ c.reserve.ensures.gate } in
    first_reads old old' file file' gate gate' payload m c.requires.reads mid (length c.deref.result.now) c.write_and_sync.ensures.reads

pub returns-in_err-write_and_sync-clause-disk : goal.returns-in_err-write_and_sync-clause-disk
returns-in_err-write_and_sync-clause-disk g c =
    let old = g.V.Vault.disk c.args.vault.now in
    let old' = g.V.Vault.disk c.reserve.new.vault in
    let mid = g.V.Vault.disk c.write_and_sync.new.vault in
    let file = c.args.self.now.file in
    let file' = c.self.inside.file in
    let gate = c.args.self.now.gate in
    let gate' = c.self.inside.gate in
    let payload = c.args.payload.now in
    let m : Moved old old' file file' gate gate' = record { same_disk = c.reserve.ensures.same; same_file = ap (λ j. j.file) c.self.view_is ∙ c.reserve.ensures.file; same_place = ap (λ j. j.gate) c.self.view_is ∙ c.reserve.ensures.gate } in
    first_run old old' file file' gate gate' payload m c.requires.reads mid (length c.deref.result.now) c.requires.images c.write_and_sync.ensures.disk

pub returns-in_err-write_and_sync-2-clause-reads : goal.returns-in_err-write_and_sync-2-clause-reads
returns-in_err-write_and_sync-2-clause-reads g c =
    let old = g.V.Vault.disk c.args.vault.now in
    let old' = g.V.Vault.disk c.reserve.new.vault in
    let mid = g.V.Vault.disk c.write_and_sync.new.vault in
    let file = c.args.self.now.file in
    let file' = c.self.inside.file in
    let gate = c.args.self.now.gate in
    let gate' = c.self.inside.gate in
    let payload = c.args.payload.now in
    let new = g.V.Vault.disk c.write_and_sync-2.new.vault in
    let m : Moved old old' file file' gate gate' = record { same_disk = c.reserve.ensures.same; same_file = ap (λ j. j.file) c.self.view_is ∙ c.reserve.ensures.file; same_place = ap (λ j. j.gate) c.self.view_is ∙ c.reserve.ensures.gate } in
    let behind : c.deref.result.now ≡ behind_gate payload = c.deref.ensures.value ∙ c.in_ok-spell.ensures.spelled in
    let short : length payload < 2 ^ 64 = omega (arith, ap length behind, length-behind payload, c.deref.type_inv.0) in
    let one = first_run old old' file file' gate gate' payload m c.requires.reads mid (length c.deref.result.now) c.requires.images c.write_and_sync.ensures.disk in
    let is = first_done old old' file file' gate gate' payload m c.requires.reads mid c.deref.result.now behind c.in_ok-write_and_sync.ensures.done in
    second_reads old old' file file' gate gate' payload m c.requires.reads mid new short one is c.write_and_sync-2.ensures.reads

pub returns-in_err-write_and_sync-2-clause-disk : goal.returns-in_err-write_and_sync-2-clause-disk
returns-in_err-write_and_sync-2-clause-disk g c =
    let old = g.V.Vault.disk c.args.vault.now in
    let old' = g.V.Vault.disk c.reserve.new.vault in
    let mid = g.V.Vault.disk c.write_and_sync.new.vault in
    let file = c.args.self.now.file in
    let file' = c.self.inside.file in
    let gate = c.args.self.now.gate in
    let gate' = c.self.inside.gate in
    let payload = c.args.payload.now in
    let new = g.V.Vault.disk c.write_and_sync-2.new.vault in
    let m : Moved old old' file file' gate gate' = record { same_disk = c.reserve.ensures.same; same_file = ap (λ j. j.file) c.self.view_is ∙ c.reserve.ensures.file; same_place = ap (λ j. j.gate) c.self.view_is ∙ c.reserve.ensures.gate } in
    let behind : c.deref.result.now ≡ behind_gate payload = c.deref.ensures.value ∙ c.in_ok-spell.ensures.spelled in
    let short : length payload < 2 ^ 64 = omega (arith, ap length behind, length-behind payload, c.deref.type_inv.0) in
    let one = first_run old old' file file' gate gate' payload m c.requires.reads mid (length c.deref.result.now) c.requires.images c.write_and_sync.ensures.disk in
    let is = first_done old old' file file' gate gate' payload m c.requires.reads mid c.deref.result.now behind c.in_ok-write_and_sync.ensures.done in
    second_run old old' file file' gate gate' payload m c.requires.reads mid new short one is c.in_ok-write_and_sync.ensures.synced c.write_and_sync-2.ensures.disk

pub returns-clause-added : goal.returns-clause-added
returns-clause-added g c =
    let old = g.V.Vault.disk c.args.vault.now in
    let old' = g.V.Vault.disk c.reserve.new.vault in
    let mid = g.V.Vault.disk c.write_and_sync.new.vault in
    let file = c.args.self.now.file in
    let file' = c.self.inside.file in
    let gate = c.args.self.now.gate in
    let gate' = c.self.inside.gate in
    let payload = c.args.payload.now in
    let new = g.V.Vault.disk c.write_and_sync-2.new.vault in
    let m : Moved old old' file file' gate gate' = record { same_disk = c.reserve.ensures.same; same_file = ap (λ j. j.file) c.self.view_is ∙ c.reserve.ensures.file; same_place = ap (λ j. j.gate) c.self.view_is ∙ c.reserve.ensures.gate } in
    let behind : c.deref.result.now ≡ behind_gate payload = c.deref.ensures.value ∙ c.in_ok-spell.ensures.spelled in
    let short : length payload < 2 ^ 64 = omega (arith, ap length behind, length-behind payload, c.deref.type_inv.0) in
    let one = first_run old old' file file' gate gate' payload m c.requires.reads mid (length c.deref.result.now) c.requires.images c.write_and_sync.ensures.disk in
    let is = first_done old old' file file' gate gate' payload m c.requires.reads mid c.deref.result.now behind c.in_ok-write_and_sync.ensures.done in
    λ tells. (finished old old' file file' gate gate' payload m c.requires.reads mid new short one is c.in_ok-write_and_sync-2.ensures.done tells).added

pub returns-clause-bytes : goal.returns-clause-bytes
returns-clause-bytes g c =
    let old = g.V.Vault.disk c.args.vault.now in
    let old' = g.V.Vault.disk c.reserve.new.vault in
    let mid = g.V.Vault.disk c.write_and_sync.new.vault in
    let file = c.args.self.now.file in
    let file' = c.self.inside.file in
    let gate = c.args.self.now.gate in
    let gate' = c.self.inside.gate in
    let payload = c.args.payload.now in
    let new = g.V.Vault.disk c.write_and_sync-2.new.vault in
    let m : Moved old old' file file' gate gate' = record { same_disk = c.reserve.ensures.same; same_file = ap (λ j. j.file) c.self.view_is ∙ c.reserve.ensures.file; same_place = ap (λ j. j.gate) c.self.view_is ∙ c.reserve.ensures.gate } in
    let behind : c.deref.result.now ≡ behind_gate payload = c.deref.ensures.value ∙ c.in_ok-spell.ensures.spelled in
    let short : length payload < 2 ^ 64 = omega (arith, ap length behind, length-behind payload, c.deref.type_inv.0) in
    let one = first_run old old' file file' gate gate' payload m c.requires.reads mid (length c.deref.result.now) c.requires.images c.write_and_sync.ensures.disk in
    let is = first_done old old' file file' gate gate' payload m c.requires.reads mid c.deref.result.now behind c.in_ok-write_and_sync.ensures.done in
    λ tells. (finished old old' file file' gate gate' payload m c.requires.reads mid new short one is c.in_ok-write_and_sync-2.ensures.done tells).bytes

pub returns-clause-stands : goal.returns-clause-stands
returns-clause-stands g c =
    let old = g.V.Vault.disk c.args.vault.now in
    let old' = g.V.Vault.disk c.reserve.new.vault in
    let mid = g.V.Vault.disk c.write_and_sync.new.vault in
    let file = c.args.self.now.file in
    let file' = c.self.inside.file in
    let gate = c.args.self.now.gate in
    let gate' = c.self.inside.gate in
    let payload = c.args.payload.now in
    let new = g.V.Vault.disk c.write_and_sync-2.new.vault in
    let m : Moved old old' file file' gate gate' = record { same_disk = c.reserve.ensures.same; same_file = ap (λ j. j.file) c.self.view_is ∙ c.reserve.ensures.file; same_place = ap (λ j. j.gate) c.self.view_is ∙ c.reserve.ensures.gate } in
    let behind : c.deref.result.now ≡ behind_gate payload = c.deref.ensures.value ∙ c.in_ok-spell.ensures.spelled in
    let short : length payload < 2 ^ 64 = omega (arith, ap length behind, length-behind payload, c.deref.type_inv.0) in
    let one = first_run old old' file file' gate gate' payload m c.requires.reads mid (length c.deref.result.now) c.requires.images c.write_and_sync.ensures.disk in
    let is = first_done old old' file file' gate gate' payload m c.requires.reads mid c.deref.result.now behind c.in_ok-write_and_sync.ensures.done in
    λ tells. subst (λ k. IsJournalWithGate k (new.files file)) (omega (arith, m.same_place)) (finished old old' file file' gate gate' payload m c.requires.reads mid new short one is c.in_ok-write_and_sync-2.ensures.done tells).stands

pub returns-clause-reads : goal.returns-clause-reads
returns-clause-reads g c =
    let old = g.V.Vault.disk c.args.vault.now in
    let old' = g.V.Vault.disk c.reserve.new.vault in
    let mid = g.V.Vault.disk c.write_and_sync.new.vault in
    let file = c.args.self.now.file in
    let file' = c.self.inside.file in
    let gate = c.args.self.now.gate in
    let gate' = c.self.inside.gate in
    let payload = c.args.payload.now in
    let new = g.V.Vault.disk c.write_and_sync-2.new.vault in
    let m : Moved old old' file file' gate gate' = record { same_disk = c.reserve.ensures.same; same_file = ap (λ j. j.file) c.self.view_is ∙ c.reserve.ensures.file; same_place = ap (λ j. j.gate) c.self.view_is ∙ c.reserve.ensures.gate } in
    let behind : c.deref.result.now ≡ behind_gate payload = c.deref.ensures.value ∙ c.in_ok-spell.ensures.spelled in
    let short : length payload < 2 ^ 64 = omega (arith, ap length behind, length-behind payload, c.deref.type_inv.0) in
    let one = first_run old old' file file' gate gate' payload m c.requires.reads mid (length c.deref.result.now) c.requires.images c.write_and_sync.ensures.disk in
    let is = first_done old old' file file' gate gate' payload m c.requires.reads mid c.deref.result.now behind c.in_ok-write_and_sync.ensures.done in
    second_reads old old' file file' gate gate' payload m c.requires.reads mid new short one is c.write_and_sync-2.ensures.reads

pub returns-clause-disk : goal.returns-clause-disk
returns-clause-disk g c =
    let old = g.V.Vault.disk c.args.vault.now in
    let old' = g.V.Vault.disk c.reserve.new.vault in
    let mid = g.V.Vault.disk c.write_and_sync.new.vault in
    let file = c.args.self.now.file in
    let file' = c.self.inside.file in
    let gate = c.args.self.now.gate in
    let gate' = c.self.inside.gate in
    let payload = c.args.payload.now in
    let new = g.V.Vault.disk c.write_and_sync-2.new.vault in
    let m : Moved old old' file file' gate gate' = record { same_disk = c.reserve.ensures.same; same_file = ap (λ j. j.file) c.self.view_is ∙ c.reserve.ensures.file; same_place = ap (λ j. j.gate) c.self.view_is ∙ c.reserve.ensures.gate } in
    let behind : c.deref.result.now ≡ behind_gate payload = c.deref.ensures.value ∙ c.in_ok-spell.ensures.spelled in
    let short : length payload < 2 ^ 64 = omega (arith, ap length behind, length-behind payload, c.deref.type_inv.0) in
    let one = first_run old old' file file' gate gate' payload m c.requires.reads mid (length c.deref.result.now) c.requires.images c.write_and_sync.ensures.disk in
    let is = first_done old old' file file' gate gate' payload m c.requires.reads mid c.deref.result.now behind c.in_ok-write_and_sync.ensures.done in
    second_run old old' file file' gate gate' payload m c.requires.reads mid new short one is c.in_ok-write_and_sync.ensures.synced c.write_and_sync-2.ensures.disk
