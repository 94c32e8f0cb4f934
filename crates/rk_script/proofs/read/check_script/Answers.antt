use Rattle.std.proofs.Common.{◌++◌, ◌∷◌, [], ap, option_map}
use Rattle.rk_script.specs.Asked.{line_asked}
use Rattle.rk_script.proofs.Reading.{one_more}
use Rattle.rk_script.proofs.read.check_script.Goals as goal

pub loop-left-preserved : goal.loop-left-preserved
loop-left-preserved c =
    let front = c.loop-left.invariant.0 in
    let seen = line_asked c.next_asked.new.self in
    (front ++ seen c.in-Some.asked ∷ [], one_more front _ _ _ (option_map seen c.in_ok-asked.field-0) (seen c.in-Some.asked) c.in_ok-asked.ensures.line (ap (option_map seen) c.in-Some.is) c.loop-left.invariant.1)
