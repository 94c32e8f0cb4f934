use Rattle.rk_opening.specs.Stores.{settled}
use Rattle.rk_wal.proofs.Opened.{ready_when_opened}
use Rattle.rk_standing.proofs.Switched.{takes_opened, takes_switched}
use Rattle.rk_standing.proofs.laws.an_opened_store_takes_more.Goals as goal

pub returns-clause-opened : goal.returns-clause-opened
returns-clause-opened c = λ files before h head holds read stands.
    let ready = ready_when_opened read.0 before read.1 in
    takes_opened files (settled before) h head holds stands ready.0 ready.1

pub returns-clause-switched : goal.returns-clause-switched
returns-clause-switched c = λ t files s h takes none. takes_switched t files s h takes none
