use Rattle.rk_wal.proofs.Opened as opened
use Rattle.rk_wal.proofs.laws.ready_when_opened.Goals as goal

pub returns : goal.returns
returns c = opened.ready_when_opened
