use Rattle.rk_standing.proofs.Opened.{leaves_first, reads_first}
use Rattle.rk_standing.proofs.laws.an_opening_leaves_first_commits.Goals as goal

pub returns-clause-crash : goal.returns-clause-crash
returns-clause-crash c = λ g k least old new entry honest left. leaves_first g k least old entry new honest left

pub returns-clause-reads : goal.returns-clause-reads
returns-clause-reads c = λ g k least old new entry reads. reads_first g k least old entry new reads
