use Rattle.std.proofs.Common.{◌≡◌, ◌++◌, sym, subst}
use Rattle.std.specs.Prelude.{OnOk, IfSome}
use Rattle.rk_program.specs.Replies.{uncommitted_text}
use Rattle.rk_program.proofs.replies.push_uncommitted.Goals as goal

pub returns-in-SequenceEnd-clause-told : goal.returns-in-SequenceEnd-clause-told
returns-in-SequenceEnd-clause-told c =
    subst (λ error. OnOk c.push_words_and_two.result (IfSome (uncommitted_text error) (λ why. c.push_words_and_two.new.out.items ≡ c.args.out.now.items ++ why)))
    (sym c.in-SequenceEnd.is) c.push_words_and_two.ensures
