use Rattle.rk_pieces.proofs.Fields.{bytes_from_all}
use Rattle.rk_log.proofs.Batches as batches
use Rattle.rk_log.proofs.Groups as groups
use Rattle.rk_log.proofs.laws.one_spelling.Goals as goal

pub returns-clause-batch_read : goal.returns-clause-batch_read
returns-clause-batch_read c bytes ops all e = batches.batch_takes bytes ops (bytes_from_all bytes all) e

pub returns-clause-batch_spelled : goal.returns-clause-batch_spelled
returns-clause-batch_spelled c = batches.batch_again

pub returns-clause-group_read : goal.returns-clause-group_read
returns-clause-group_read c payload g all e = groups.group_takes payload g (bytes_from_all payload all) e

pub returns-clause-group_spelled : goal.returns-clause-group_spelled
returns-clause-group_spelled c = groups.group_again
