use Rattle.std.proofs.Common.{◌≡◌, ◌∙◌}
use Rattle.rk_model.specs.Positions.{positions}
use Rattle.rk_model.specs.Moves.{SeekLt, moved}
use Rattle.rk_model.specs.Plain.{below_in}
use Rattle.rk_model.proofs.plain.Plain.seek_lt.Goals as goal

pub returns-clause-moved : goal.returns-clause-moved
returns-clause-moved c =
    let now = c.args.self.now in
    let key = c.args.key.now in
    let fields = c.self.inside in
    let e : c.in_ok-cursor.cursor ≡ moved now.sees now.options now.cursor (SeekLt key) =
    c.in_ok-cursor.ensures
    ∙ (λ i. below_in (c.deref.ensures.value i) fields.options.upper key)
    ∙ (λ i. below_in (c.self.invariant.all_positions i) fields.options.upper key)
    ∙ (λ i. below_in (positions (c.self.view_is i).sees (c.self.view_is i).options) (c.self.view_is i).options.upper key)
    in
    rw e at c.go_to.ensures.moved
