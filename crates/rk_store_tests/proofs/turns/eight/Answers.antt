use Rattle.std.proofs.Common.{ap, ◌∙◌}
use Rattle.rk_lock.specs.Passes.{view}
use Rattle.rk_lock.proofs.Passing.{rejoined}
use Rattle.rk_store_tests.proofs.turns.eight.Goals as goal

pub returns : goal.returns
returns g c =
    let s = c.split-other.ensures in let a = c.join-pass.ensures.first in let b = c.join-pass.ensures.second in let j = c.join.ensures in
    let r = rejoined (view c.args.pass) (view c.join-pass.result.0) (view c.join-pass.result.1) (view c.join.new.pass)
    j.joined (a.2 ∙ ap (λ v. v.name) s.pass.2) (a.3 ∙ ap (λ v. v.out) s.pass.2) (b.2 ∙ ap (λ v. v.name) s.new.2) (b.3 ∙ ap (λ v. v.out) s.new.2) in
    (j.pass.0, j.pass.1, r.0, r.1)
