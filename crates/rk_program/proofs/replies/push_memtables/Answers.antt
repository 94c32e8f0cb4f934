use Rattle.std.proofs.Common.{◌≡◌, ◌∙◌, ◌++◌, List, ap, append_assoc}
use Rattle.std.specs.Prelude.{codes}
use Rattle.rk_program.specs.Replies.{number_text}
use Rattle.rk_program.proofs.Answered.{on_same}
use Rattle.rk_program.proofs.replies.push_memtables.Goals as goal

pub returns : goal.returns
returns c =
    let frozen = number_text (codes " frozen ") c.args.shape.frozen in
    on_same _ _ _ c.push_words_and_number-2.result c.push_words_and_number-2.ensures
    (ap (λ xs. xs ++ frozen) c.in_ok-push_words_and_number.ensures
    ∙ append_assoc c.args.out.now.items (number_text (codes "shape active ") c.args.shape.active) frozen)
