use Rattle.std.proofs.Common.{rules}
use Rattle.rk_lock.proofs.Steps.{serves}
use Rattle.rk_lock.proofs.turn.Turn.serve_next.Goals as goal

pub fetch_add-requires : goal.fetch_add-requires
fetch_add-requires g c = (search rules, search rules, serves _ _ _ _ _ _ c.requires.1)
