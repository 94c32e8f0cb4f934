use Rattle.std.specs.Prelude.{IsTrue}
use Rattle.std.proofs.Common.{◌≡◌, ℕ, ◌+◌, ◌≤◌, refl, sym, ◌∙◌, subst, arith}
use Rattle.rk_outside.specs.Disks.{TellsFiles}
use Rattle.rk_outside.specs.Vaults.{AreNumbers}
use Rattle.rk_opening.specs.Changing.{ChangesOnly, IsTable}
use Rattle.rk_opening.proofs.Numbers.{RemovedUpTo, none_passed, passed_over, one_more_removed, all_removed}
use Rattle.rk_opening.proofs.Several.{none_changed, then_changed}
use Rattle.rk_opening.proofs.tables.remove_tables.Goals as goal
use Rattle.rk_opening.proofs.tables.remove_tables.Goals.{then-number-ge-FIRST_TABLE+in_ok-remove_table, else-number-ge-FIRST_TABLE}

pub returns-in_err-numbers-clause-disk : goal.returns-in_err-numbers-clause-disk
returns-in_err-numbers-clause-disk g c =
    let a = g.V.Vault.disk c.args.vault.now in
    subst (ChangesOnly IsTable a) (sym c.in_err-numbers.ensures.same) (none_changed IsTable a)

pub loop-number-init : goal.loop-number-init
loop-number-init g c =
    let a = g.V.Vault.disk c.args.vault.now in (
      subst (ChangesOnly IsTable a) (sym c.in_ok-numbers.ensures.same) (none_changed IsTable a),
      c.in_ok-numbers.ensures.rooms,
      c.in_ok-numbers.ensures.cause.kept,
      λ tells. subst (λ d. RemovedUpTo c.deref-number-items.result.now 0 a.files d.files) (sym c.in_ok-numbers.ensures.same) (none_passed c.deref-number-items.result.now a.files),
    )

pub returns-in_err-remove_table-clause-disk : goal.returns-in_err-remove_table-clause-disk
returns-in_err-remove_table-clause-disk g c =
    then_changed IsTable (g.V.Vault.disk c.args.vault.now) (g.V.Vault.disk c.loop-number.vault) (g.V.Vault.disk c.remove_table.new.vault) c.loop-number.invariant.0 c.remove_table.ensures.disk

pub loop-number-preserved : goal.loop-number-preserved
loop-number-preserved g c = elim c.if-number-ge-FIRST_TABLE.branch [
  | then-number-ge-FIRST_TABLE+in_ok-remove_table w ↦
      let a = g.V.Vault.disk c.args.vault.now in
      let b = g.V.Vault.disk c.loop-number.vault in
      let d = g.V.Vault.disk w.remove_table.new.vault in
      let ns = c.deref-number-items.result.now in
      let i = c.loop-number.number-index in
      subst (λ v. ChangesOnly IsTable a (g.V.Vault.disk v) × ((f : ℕ) → g.V.Vault.room c.args.vault.now f ≤ g.V.Vault.room v f) × (g.V.Vault.fault_count v ≡ g.V.Vault.fault_count c.args.vault.now) × (TellsFiles a → RemovedUpTo ns (i + 1) a.files (g.V.Vault.disk v).files)) (sym w.vault-is) (
        then_changed IsTable a b d c.loop-number.invariant.0 w.remove_table.ensures.disk,
        (λ f. omega (arith, c.loop-number.invariant.1 f, w.remove_table.ensures.rooms f)),
        w.in_ok-remove_table.ensures.cause.kept ∙ c.loop-number.invariant.2,
        λ tells.
            let still = subst IsTrue (sym c.loop-number.invariant.0.told.files) tells in
            one_more_removed ns i _ a.files b.files d.files refl (c.loop-number.invariant.3 tells) (w.in_ok-remove_table.ensures.removed still) (w.remove_table.ensures.others still),
      )
  | else-number-ge-FIRST_TABLE w ↦
      let a = g.V.Vault.disk c.args.vault.now in
      let b = g.V.Vault.disk c.loop-number.vault in
      let ns = c.deref-number-items.result.now in
      let i = c.loop-number.number-index in
      subst (λ v. ChangesOnly IsTable a (g.V.Vault.disk v) × ((f : ℕ) → g.V.Vault.room c.args.vault.now f ≤ g.V.Vault.room v f) × (g.V.Vault.fault_count v ≡ g.V.Vault.fault_count c.args.vault.now) × (TellsFiles a → RemovedUpTo ns (i + 1) a.files (g.V.Vault.disk v).files)) (sym w.vault-is) (
        c.loop-number.invariant.0,
        c.loop-number.invariant.1,
        c.loop-number.invariant.2,
        λ tells. passed_over ns i a.files b.files (c.loop-number.invariant.3 tells) (omega (arith, w.if-number-ge-FIRST_TABLE.false)),
      )
]

pub returns-clause-removed : goal.returns-clause-removed
returns-clause-removed g c = λ tells f table.
    let a = g.V.Vault.disk c.args.vault.now in
    let ns = c.deref-number-items.result.now in
    all_removed ns a.files (g.V.Vault.disk c.loop-number.vault).files
    (subst (AreNumbers a.files) (sym c.deref-number-items.ensures.value) (c.in_ok-numbers.ensures.numbers tells))
    (subst (λ n. RemovedUpTo ns n a.files (g.V.Vault.disk c.loop-number.vault).files) (omega (arith, c.loop-number-test.false, c.loop-number.auto.number-index-end)) (c.loop-number.invariant.3 tells))
    f table
