use Rattle.rk_outside.proofs.Runs.{leaves_less}
use Rattle.rk_standing.proofs.Appended.{first_either, takes_more, takes_same}
use Rattle.rk_standing.proofs.laws.an_append_leaves_first_commits.Goals as goal

pub returns-clause-same : goal.returns-clause-same
returns-clause-same c = λ t old files s h takes is. takes_same t old s h takes files is

pub returns-clause-more : goal.returns-clause-more
returns-clause-more c = λ t old files s h commits payload takes spelled within has. takes_more t old s h takes payload commits spelled within files has

pub returns-clause-crash : goal.returns-clause-crash
returns-clause-crash c = λ t old new s h commits payload takes spelled within left.
    leaves_less old new _ _ (λ image is. first_either t old.files s h takes payload commits spelled within image is) left
