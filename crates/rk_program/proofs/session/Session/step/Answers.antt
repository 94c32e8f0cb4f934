use Rattle.std.proofs.Common.{refl, ap, ◌∙◌, ◌++◌}
use Rattle.std.proofs.lemmas.List.{get_or-set_same}
use Rattle.rk_program.specs.Asked.{move_of}
use Rattle.rk_program.specs.Replies.{lent_text}
use Rattle.rk_program.specs.declared.session.OpenIterator.{OpenIterator}
use Rattle.rk_program.proofs.Answered.{OnOk-weaker}
use Rattle.rk_program.proofs.LineLemmas.{iterator_name, move_does}
use Rattle.rk_program.proofs.Naming.{IsFirst-of}
use Rattle.rk_program.proofs.session.Session.step.Goals as goal

pub returns-in-Ok-clause-did : goal.returns-in-Ok-clause-did
returns-in-Ok-clause-did g c =
    let its = c.args.self.now.iterators.items in
    let i = c.live_place-i.result in
    let x = c.index_mut.result.now in
    let y : OpenIterator = record { name = x.name; iter = c.make.new.iter } in
    let first = IsFirst-of iterator_name its c.deref.result.now c.args.iter.now c.args.iter.now i
    c.deref.ensures.value refl c.live_place-i.ensures.within c.live_place-i.ensures.first c.live_place-i.ensures.here in
    let read = c.index.ensures ∙ get_or-set_same its i y c.index.result.now first.within in
    λ s stands. OnOk-weaker c.stands.result _ _
    (λ told. move_does c.args.self.now _ c.args.iter.now i x y (move_of c.args.step) c.in-Ok.field-0 c.make.result c.bytes.result.now _ _ s stands first c.index_mut.ensures.value
    refl refl refl refl refl c.in-Ok.is c.make.ensures.moves c.make.ensures.keyed c.bytes.ensures
    (told ∙ ap (λ k. c.args.self.now.reply.items ++ lent_text c.bytes.result.now k.iter) read))
    c.stands.ensures
