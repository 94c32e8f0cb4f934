use Rattle.rk_pieces.proofs.Fields.{bytes_from_all}
use Rattle.rk_manifest.proofs.Spellings.{version_takes, version_again}
use Rattle.rk_manifest.proofs.laws.one_spelling.Goals as goal

pub returns-clause-read : goal.returns-clause-read
returns-clause-read c payload v bytes e = version_takes payload v (bytes_from_all payload bytes) e

pub returns-clause-spelled : goal.returns-clause-spelled
returns-clause-spelled c payload v h = version_again payload v h
