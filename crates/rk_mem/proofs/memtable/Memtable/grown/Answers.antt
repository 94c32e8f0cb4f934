use Rattle.std.proofs.Common.{sym, subst}
use Rattle.rk_mem.specs.Chunks.{AreNewer}
use Rattle.rk_mem.proofs.memtable.Memtable.grown.Goals as goal

pub grown_with-requires-clause-newer : goal.grown_with-requires-clause-newer
grown_with-requires-clause-newer c = subst (AreNewer c.args.self.now.entries) (sym c.in_ok-entries.ensures) c.requires.newer
