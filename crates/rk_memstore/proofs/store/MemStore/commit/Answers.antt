use Rattle.rk_memstore.proofs.Commits.{commit_done}
use Rattle.rk_memstore.proofs.store.MemStore.commit.Goals as goal

pub returns-clause-step : goal.returns-clause-step
returns-clause-step c =
    let checked = c.in_ok-check.ensures in
    let joined = c.install.ensures in
    λ m running stands.
    rw (joined.numbers.0, joined.numbers.1)
    (commit_done c.args.self.now c.install.new.self c.args.batch.now m checked.keeps joined.joined checked.room checked.some stands (checked.due m running stands))
