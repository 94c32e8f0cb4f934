use Rattle.std.proofs.Common.{refl, sym, subst, arith}
use Rattle.rk_outside.proofs.Runs.{honest_before}
use Rattle.rk_manifest.specs.Versions.{version}
use Rattle.rk_log.specs.Logs.{LogsSeen}
use Rattle.rk_opening.specs.Stores.{StoreSeen}
use Rattle.rk_opening.specs.Changing.{ChangesOnly, IsTable}
use Rattle.rk_opening.specs.Syncing.{IsSettledAt}
use Rattle.rk_opening.proofs.Recovering.{IsRead, SettlesLog, HasSettled, IsRecovered, NoTables, nothing_changed, tables_changed, between, still_settled, is_read, first_tried, second_tried, settled_behind_first, settled_behind_both, is_opened, holds}
use Rattle.rk_opening.proofs.opening.recover_store.Given.{Over}
use Rattle.rk_opening.proofs.opening.recover_store.Goals as goal

pub returns-in_err-manifest-clause-disk : goal.returns-in_err-manifest-clause-disk
returns-in_err-manifest-clause-disk g c =
    nothing_changed (g.V.Vault.disk c.args.vault.now) (g.V.Vault.disk c.recover.new.vault)
    (record { head = c.requires.head; settled = c.requires.settled }) c.in_err-manifest.ensures.same

pub returns-in_err-remove_tables-clause-disk : goal.returns-in_err-remove_tables-clause-disk
returns-in_err-remove_tables-clause-disk g c =
    let a = g.V.Vault.disk c.args.vault.now in
    let b = g.V.Vault.disk c.recover.new.vault in
    let d = g.V.Vault.disk c.remove_tables.new.vault in
    tables_changed a d (record { head = c.requires.head; settled = c.requires.settled })
    (between (ChangesOnly IsTable) a b d d c.in_ok-manifest.ensures.same refl c.remove_tables.ensures.disk)

pub returns-in_err-logs-clause-disk : goal.returns-in_err-logs-clause-disk
returns-in_err-logs-clause-disk g c =
    let a = g.V.Vault.disk c.args.vault.now in
    let b = g.V.Vault.disk c.recover.new.vault in
    let d = g.V.Vault.disk c.remove_tables.new.vault in
    let e = g.V.Vault.disk c.recover-2.new.vault in
    tables_changed a e (record { head = c.requires.head; settled = c.requires.settled })
    (between (ChangesOnly IsTable) a b d e c.in_ok-manifest.ensures.same c.recover-2.ensures.same c.remove_tables.ensures.disk)

pub settle_log-requires-clause-settled : goal.settle_log-requires-clause-settled
settle_log-requires-clause-settled g c κs within =
    let a = g.V.Vault.disk c.args.vault.now in
    let b = g.V.Vault.disk c.recover.new.vault in
    let d = g.V.Vault.disk c.remove_tables.new.vault in
    let e = g.V.Vault.disk c.recover-2.new.vault in
    let tables = between (ChangesOnly IsTable) a b d e c.in_ok-manifest.ensures.same c.recover-2.ensures.same c.remove_tables.ensures.disk in
    let law = (g.met.V.Vault g.world.𝓛 g.world.𝓜 g.world.𝓡 ((λ s x. x), (λ x. x), (λ x. x), λ x. x)).honest c.args.vault.now in
    subst (λ f. IsSettledAt f e) (sym c.in_ok-logs.ensures.files.0)
    (still_settled a e (record { head = c.requires.head; settled = c.requires.settled }) (honest_before a e tables.told law) tables 1 (omega arith))

pub returns-in_err-settle_log-clause-disk : goal.returns-in_err-settle_log-clause-disk
returns-in_err-settle_log-clause-disk g c =
    let a = g.V.Vault.disk c.args.vault.now in
    let e = g.V.Vault.disk c.recover-2.new.vault in
    let f = g.V.Vault.disk c.settle_log.new.vault in
    let logs : LogsSeen = record { first = c.in_ok-logs.logs.first.groups.items; second = c.in_ok-logs.logs.second.groups.items } in
    let s : StoreSeen = record { version = version c.in_ok-manifest.version; logs = logs } in
    let read : IsRead a e s =
    is_read a (g.V.Vault.disk c.recover.new.vault) (g.V.Vault.disk c.remove_tables.new.vault) e s (record { head = c.requires.head; settled = c.requires.settled })
    c.in_ok-manifest.ensures.same c.recover-2.ensures.same c.remove_tables.ensures.disk c.in_ok-manifest.ensures.version c.in_ok-logs.ensures.logs in
    let first : SettlesLog 1 s.version.flushed_upto logs.first e f =
    subst (λ n. SettlesLog n s.version.flushed_upto logs.first e f) c.in_ok-logs.ensures.files.0 (record { disk = c.settle_log.ensures.disk; reads = c.settle_log.ensures.reads }) in
    first_tried a e f s read first

pub settle_log-requires-2-clause-settled : goal.settle_log-requires-2-clause-settled
settle_log-requires-2-clause-settled g c κs within =
    let a = g.V.Vault.disk c.args.vault.now in
    let e = g.V.Vault.disk c.recover-2.new.vault in
    let f = g.V.Vault.disk c.settle_log.new.vault in
    let logs : LogsSeen = record { first = c.in_ok-logs.logs.first.groups.items; second = c.in_ok-logs.logs.second.groups.items } in
    let s : StoreSeen = record { version = version c.in_ok-manifest.version; logs = logs } in
    let has = c.settle_log.new.log.groups.items in
    let read : IsRead a e s =
    is_read a (g.V.Vault.disk c.recover.new.vault) (g.V.Vault.disk c.remove_tables.new.vault) e s (record { head = c.requires.head; settled = c.requires.settled })
    c.in_ok-manifest.ensures.same c.recover-2.ensures.same c.remove_tables.ensures.disk c.in_ok-manifest.ensures.version c.in_ok-logs.ensures.logs in
    let first : HasSettled 1 s.version.flushed_upto logs.first has e f =
    subst (λ n. HasSettled n s.version.flushed_upto logs.first has e f) c.in_ok-logs.ensures.files.0 (record {
      log = record { disk = c.settle_log.ensures.disk; reads = c.settle_log.ensures.reads };
      groups = c.in_ok-settle_log.ensures.groups;
      stays = c.in_ok-settle_log.ensures.kept;
      there = c.in_ok-settle_log.ensures.there;
    }) in
    let laws = g.met.V.Vault g.world.𝓛 g.world.𝓜 g.world.𝓡 ((λ s x. x), (λ x. x), (λ x. x), λ x. x) in
    subst (λ n. IsSettledAt n f) (sym c.in_ok-logs.ensures.files.1)
    (settled_behind_first a e f s has read first (honest_before a e read.tables.told (laws.honest c.args.vault.now)) (honest_before e f first.log.disk.told (laws.honest c.recover-2.new.vault)) 2 (omega arith))

pub returns-in_err-settle_log-2-clause-disk : goal.returns-in_err-settle_log-2-clause-disk
returns-in_err-settle_log-2-clause-disk g c =
    let a = g.V.Vault.disk c.args.vault.now in
    let e = g.V.Vault.disk c.recover-2.new.vault in
    let f = g.V.Vault.disk c.settle_log.new.vault in
    let h = g.V.Vault.disk c.settle_log-2.new.vault in
    let logs : LogsSeen = record { first = c.in_ok-logs.logs.first.groups.items; second = c.in_ok-logs.logs.second.groups.items } in
    let s : StoreSeen = record { version = version c.in_ok-manifest.version; logs = logs } in
    let read : IsRead a e s =
    is_read a (g.V.Vault.disk c.recover.new.vault) (g.V.Vault.disk c.remove_tables.new.vault) e s (record { head = c.requires.head; settled = c.requires.settled })
    c.in_ok-manifest.ensures.same c.recover-2.ensures.same c.remove_tables.ensures.disk c.in_ok-manifest.ensures.version c.in_ok-logs.ensures.logs in
    let first : SettlesLog 1 s.version.flushed_upto logs.first e f =
    subst (λ n. SettlesLog n s.version.flushed_upto logs.first e f) c.in_ok-logs.ensures.files.0 (record { disk = c.settle_log.ensures.disk; reads = c.settle_log.ensures.reads }) in
    let second : SettlesLog 2 s.version.flushed_upto logs.second f h =
    subst (λ n. SettlesLog n s.version.flushed_upto logs.second f h) c.in_ok-logs.ensures.files.1 (record { disk = c.settle_log-2.ensures.disk; reads = c.settle_log-2.ensures.reads }) in
    second_tried a e f h s read first second

-- what was done where nothing was refused
recovered : (g : Over) (c : goal.In_ok-settle_log-2 g)
    → IsRecovered (g.V.Vault.disk c.args.vault.now) (g.V.Vault.disk c.recover-2.new.vault) (g.V.Vault.disk c.settle_log.new.vault) (g.V.Vault.disk c.settle_log-2.new.vault)
    (record { version = version c.in_ok-manifest.version; logs = record { first = c.in_ok-logs.logs.first.groups.items; second = c.in_ok-logs.logs.second.groups.items } })
    (record { first = c.settle_log.new.log.groups.items; second = c.settle_log-2.new.log.groups.items })
recovered g c =
    let a = g.V.Vault.disk c.args.vault.now in
    let e = g.V.Vault.disk c.recover-2.new.vault in
    let f = g.V.Vault.disk c.settle_log.new.vault in
    let h = g.V.Vault.disk c.settle_log-2.new.vault in
    let logs : LogsSeen = record { first = c.in_ok-logs.logs.first.groups.items; second = c.in_ok-logs.logs.second.groups.items } in
    let s : StoreSeen = record { version = version c.in_ok-manifest.version; logs = logs } in
    record {
      read = is_read a (g.V.Vault.disk c.recover.new.vault) (g.V.Vault.disk c.remove_tables.new.vault) e s (record { head = c.requires.head; settled = c.requires.settled })
          c.in_ok-manifest.ensures.same c.recover-2.ensures.same c.remove_tables.ensures.disk c.in_ok-manifest.ensures.version c.in_ok-logs.ensures.logs;
      first = subst (λ n. HasSettled n s.version.flushed_upto logs.first c.settle_log.new.log.groups.items e f) c.in_ok-logs.ensures.files.0 (record {
        log = record { disk = c.settle_log.ensures.disk; reads = c.settle_log.ensures.reads };
        groups = c.in_ok-settle_log.ensures.groups;
        stays = c.in_ok-settle_log.ensures.kept;
        there = c.in_ok-settle_log.ensures.there;
      });
      second = subst (λ n. HasSettled n s.version.flushed_upto logs.second c.settle_log-2.new.log.groups.items f h) c.in_ok-logs.ensures.files.1 (record {
        log = record { disk = c.settle_log-2.ensures.disk; reads = c.settle_log-2.ensures.reads };
        groups = c.in_ok-settle_log-2.ensures.groups;
        stays = c.in_ok-settle_log-2.ensures.kept;
        there = c.in_ok-settle_log-2.ensures.there;
      });
    }

pub returns-clause-opened : goal.returns-clause-opened
returns-clause-opened g c = is_opened _ _ _ _ _ _ (recovered g c)

pub returns-clause-holds : goal.returns-clause-holds
returns-clause-holds g c = holds _ _ _ _ _ _ (recovered g c)
    (between NoTables (g.V.Vault.disk c.args.vault.now) (g.V.Vault.disk c.recover.new.vault) (g.V.Vault.disk c.remove_tables.new.vault) (g.V.Vault.disk c.recover-2.new.vault)
    c.in_ok-manifest.ensures.same c.recover-2.ensures.same c.in_ok-remove_tables.ensures.removed)

pub returns-clause-disk : goal.returns-clause-disk
returns-clause-disk g c =
    let r = recovered g c in
    second_tried _ _ _ _ _ r.read r.first.log r.second.log

pub returns-clause-settled : goal.returns-clause-settled
returns-clause-settled g c =
    let r = recovered g c in
    let a = g.V.Vault.disk c.args.vault.now in
    let e = g.V.Vault.disk c.recover-2.new.vault in
    let f = g.V.Vault.disk c.settle_log.new.vault in
    let h = g.V.Vault.disk c.settle_log-2.new.vault in
    let laws = g.met.V.Vault g.world.𝓛 g.world.𝓜 g.world.𝓡 ((λ s x. x), (λ x. x), (λ x. x), λ x. x) in
    settled_behind_both a e f h _ _ r
    (honest_before a e r.read.tables.told (laws.honest c.args.vault.now))
    (honest_before e f r.first.log.disk.told (laws.honest c.recover-2.new.vault))
    (honest_before f h r.second.log.disk.told (laws.honest c.settle_log.new.vault))
