use Rattle.std.proofs.Common.{◌≡◌, ◌<◌, inl, ◌∙◌, ap, subst, sym, refl, arith}
use Rattle.std.proofs.lemmas.Result.{on_ok_weaker}
use Rattle.rk_gate.specs.Calls.{ChangesFile}
use Rattle.rk_gate.specs.Changes.{HasAllOrNone, IsJournalWithGate}
use Rattle.rk_gate.proofs.ResetSteps.{empty_done, empty_reads, empty_run, close_reads, close_run, cut_run}
use Rattle.rk_gate.proofs.Runs.{Moved, no_change}
use Rattle.rk_gate.proofs.journal.Journal.reset.Goals as goal

pub returns-then-self-eq0-clause-emptied : goal.returns-then-self-eq0-clause-emptied
returns-then-self-eq0-clause-emptied g c =
    let old = g.V.Vault.disk c.args.vault.now in
    let new = g.V.Vault.disk c.cut_and_sync.new.vault in
    let file = c.args.self.now.file in
    let gate = c.args.self.now.gate in
    let m : Moved old old file c.self.inside.file 0 0 = record { same_disk = refl; same_file = ap (λ j. j.file) c.self.view_is; same_place = refl } in
    let is : gate ≡ 0 = sym (ap (λ j. j.gate) c.self.view_is) ∙ c.if-self-eq0.true in
    on_ok_weaker c.cut_and_sync.result (λ made tells. (empty_done old new file c.self.inside.file gate m c.requires.reads is made tells).none) c.cut_and_sync.ensures.done

pub returns-then-self-eq0-clause-stands : goal.returns-then-self-eq0-clause-stands
returns-then-self-eq0-clause-stands g c =
    let old = g.V.Vault.disk c.args.vault.now in
    let new = g.V.Vault.disk c.cut_and_sync.new.vault in
    let file = c.args.self.now.file in
    let gate = c.args.self.now.gate in
    let m : Moved old old file c.self.inside.file 0 0 = record { same_disk = refl; same_file = ap (λ j. j.file) c.self.view_is; same_place = refl } in
    let is : gate ≡ 0 = sym (ap (λ j. j.gate) c.self.view_is) ∙ c.if-self-eq0.true in
    on_ok_weaker c.cut_and_sync.result (λ made tells. subst (λ k. IsJournalWithGate k (new.files file)) (sym is) (empty_done old new file c.self.inside.file gate m c.requires.reads is made tells).stands) c.cut_and_sync.ensures.done

pub returns-then-self-eq0-clause-reads : goal.returns-then-self-eq0-clause-reads
returns-then-self-eq0-clause-reads g c =
    let old = g.V.Vault.disk c.args.vault.now in
    let new = g.V.Vault.disk c.cut_and_sync.new.vault in
    let file = c.args.self.now.file in
    let gate = c.args.self.now.gate in
    let m : Moved old old file c.self.inside.file 0 0 = record { same_disk = refl; same_file = ap (λ j. j.file) c.self.view_is; same_place = refl } in
    let is : gate ≡ 0 = sym (ap (λ j. j.gate) c.self.view_is) ∙ c.if-self-eq0.true in
    empty_reads old new file c.self.inside.file gate m c.requires.reads is c.cut_and_sync.ensures.reads

pub returns-then-self-eq0-clause-disk : goal.returns-then-self-eq0-clause-disk
returns-then-self-eq0-clause-disk g c =
    let old = g.V.Vault.disk c.args.vault.now in
    let new = g.V.Vault.disk c.cut_and_sync.new.vault in
    let file = c.args.self.now.file in
    let gate = c.args.self.now.gate in
    let m : Moved old old file c.self.inside.file 0 0 = record { same_disk = refl; same_file = ap (λ j. j.file) c.self.view_is; same_place = refl } in
    let is : gate ≡ 0 = sym (ap (λ j. j.gate) c.self.view_is) ∙ c.if-self-eq0.true in
    empty_run old new file c.self.inside.file gate m c.requires.reads is c.requires.images c.cut_and_sync.ensures.disk

pub returns-in_err-make_ready-clause-disk : goal.returns-in_err-make_ready-clause-disk
returns-in_err-make_ready-clause-disk g c =
    let old = g.V.Vault.disk c.args.vault.now in
    let P = HasAllOrNone (old.files c.args.self.now.file) in
    subst (λ d. ChangesFile c.args.self.now.file old d P) (sym c.make_ready.ensures.same)
    (no_change old c.args.self.now.file P (λ honest image is. inl (c.requires.images honest image is)))

pub returns-in_err-write_and_sync-clause-reads : goal.returns-in_err-write_and_sync-clause-reads
returns-in_err-write_and_sync-clause-reads g c =
    let old = g.V.Vault.disk c.args.vault.now in
    let old' = g.V.Vault.disk c.make_ready.new.vault in
    let mid = g.V.Vault.disk c.write_and_sync.new.vault in
    let file = c.args.self.now.file in
    let file' = c.self-2.inside.file in
    let gate = c.args.self.now.gate in
    let m : Moved old old' file file' 0 0 = record { same_disk = c.make_ready.ensures.same; same_file = ap (λ j. j.file) c.self-2.view_is ∙ c.make_ready.ensures.file; same_place = refl } in
    let some : 0 < gate = omega (arith, c.if-self-eq0.false, ap (λ j. j.gate) c.self.view_is) in
    close_reads old old' mid file file' gate m c.requires.reads some c.write_and_sync.ensures.reads

pub returns-in_err-write_and_sync-clause-disk : goal.returns-in_err-write_and_sync-clause-disk
returns-in_err-write_and_sync-clause-disk g c =
    let old = g.V.Vault.disk c.args.vault.now in
    let old' = g.V.Vault.disk c.make_ready.new.vault in
    let mid = g.V.Vault.disk c.write_and_sync.new.vault in
    let file = c.args.self.now.file in
    let file' = c.self-2.inside.file in
    let gate = c.args.self.now.gate in
    let m : Moved old old' file file' 0 0 = record { same_disk = c.make_ready.ensures.same; same_file = ap (λ j. j.file) c.self-2.view_is ∙ c.make_ready.ensures.file; same_place = refl } in
    let some : 0 < gate = omega (arith, c.if-self-eq0.false, ap (λ j. j.gate) c.self.view_is) in
    close_run old old' mid file file' gate m c.requires.reads some c.requires.images c.write_and_sync.ensures.disk

pub returns-in_err-cut_and_sync-clause-disk : goal.returns-in_err-cut_and_sync-clause-disk
returns-in_err-cut_and_sync-clause-disk g c =
    let old = g.V.Vault.disk c.args.vault.now in
    let old' = g.V.Vault.disk c.make_ready.new.vault in
    let mid = g.V.Vault.disk c.write_and_sync.new.vault in
    let file = c.args.self.now.file in
    let file' = c.self-2.inside.file in
    let gate = c.args.self.now.gate in
    let m : Moved old old' file file' 0 0 = record { same_disk = c.make_ready.ensures.same; same_file = ap (λ j. j.file) c.self-2.view_is ∙ c.make_ready.ensures.file; same_place = refl } in
    let some : 0 < gate = omega (arith, c.if-self-eq0.false, ap (λ j. j.gate) c.self.view_is) in
    let one = close_run old old' mid file file' gate m c.requires.reads some c.requires.images c.write_and_sync.ensures.disk in
    cut_run old old' mid file file' gate m c.requires.reads some (g.V.Vault.disk c.cut_and_sync-2.new.vault) one c.in_ok-write_and_sync.ensures.synced c.in_ok-write_and_sync.ensures.done c.cut_and_sync-2.ensures.disk

pub returns-clause-disk : goal.returns-clause-disk
returns-clause-disk g c =
    let old = g.V.Vault.disk c.args.vault.now in
    let old' = g.V.Vault.disk c.make_ready.new.vault in
    let mid = g.V.Vault.disk c.write_and_sync.new.vault in
    let file = c.args.self.now.file in
    let file' = c.self-2.inside.file in
    let gate = c.args.self.now.gate in
    let m : Moved old old' file file' 0 0 = record { same_disk = c.make_ready.ensures.same; same_file = ap (λ j. j.file) c.self-2.view_is ∙ c.make_ready.ensures.file; same_place = refl } in
    let some : 0 < gate = omega (arith, c.if-self-eq0.false, ap (λ j. j.gate) c.self.view_is) in
    let one = close_run old old' mid file file' gate m c.requires.reads some c.requires.images c.write_and_sync.ensures.disk in
    cut_run old old' mid file file' gate m c.requires.reads some (g.V.Vault.disk c.cut_and_sync-2.new.vault) one c.in_ok-write_and_sync.ensures.synced c.in_ok-write_and_sync.ensures.done c.cut_and_sync-2.ensures.disk
