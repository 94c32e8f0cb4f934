use Rattle.std.proofs.Common.{◌≡◌, ◌∙◌, IfOk, ap, sym, subst, rules}
use Rattle.rk_model.specs.Lists.{none_of}
use Rattle.rk_model.specs.declared.cursor.Cursor.{Cursor}
use Rattle.rk_model.proofs.Seeks.{sought_outside}
use Rattle.rk_model.proofs.plain.moves.sought_at.Goals as goal

pub returns-then-has_no_pairs : goal.returns-then-has_no_pairs
returns-then-has_no_pairs c =
    let es = c.args.entries.now in
    let o = c.args.options.now in
    let k = c.args.k.now in
    let outside = sym (c.has_no_pairs.ensures ∙ ap none_of (c.pairs-2.ensures ∙ c.in_ok-pairs.ensures)) ∙ c.if-has_no_pairs.true in
    subst (λ (t : Cursor). IfOk c.least_from.result (λ d. d ≡ t)) (sought_outside es o k c.args.keys.now (search rules) outside c.requires) c.least_from.ensures
