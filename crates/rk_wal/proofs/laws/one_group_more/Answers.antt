use Rattle.rk_wal.proofs.OneMore as one_more
use Rattle.rk_wal.proofs.laws.one_group_more.Goals as goal

pub returns-clause-more : goal.returns-clause-more
returns-clause-more c = one_more.one_group_more
