use Rattle.std.proofs.Common.{refl, ap, sym, ◌∙◌, set}
use Rattle.std.proofs.lemmas.List.{set-get_or}
use Rattle.rk_machine.specs.Events.{Committed, Refused}
use Rattle.rk_program.proofs.Answered.{OnOk-weaker, told_under}
use Rattle.rk_program.proofs.BatchLemmas.{writer_name, commit_does}
use Rattle.rk_program.proofs.session.Session.commit.Goals as goal

pub returns-in-Ok-clause-did : goal.returns-in-Ok-clause-did
returns-in-Ok-clause-did g c =
    let place = c.in_ok-i.ensures in
    let same_name = (ap writer_name c.index_mut.ensures.value ∙ place.called c.index_mut.result.now) ∙ sym (ap writer_name c.index.ensures ∙ place.called c.index.result.now) in
    λ s stands. OnOk-weaker c.committed.result _ _
    (λ told. commit_does c.args.self.now _ c.args.writer.now c.place_of.new.writers.items c.in_ok-i.i c.index.result.now
    (record { name = c.index_mut.result.now.name; batch = c.clear.new.self }) (Committed c.in-Ok.numbers.first c.in-Ok.numbers.last) _ _ s stands
    place c.index.ensures same_name c.clear.ensures c.in-Ok.ensures.step refl refl refl (told_under _ _ _ _ (Committed c.in-Ok.numbers.first c.in-Ok.numbers.last) c.bytes.ensures told))
    c.committed.ensures

pub returns-in-Err-clause-did : goal.returns-in-Err-clause-did
returns-in-Err-clause-did g c =
    let put = sym (ap (λ y. set c.place_of.new.writers.items c.in_ok-i.i y) c.index.ensures ∙ set-get_or c.place_of.new.writers.items c.in_ok-i.i c.index.result.now) in
    λ s stands. OnOk-weaker c.uncommitted.result _ _
    (λ told. commit_does c.args.self.now _ c.args.writer.now c.place_of.new.writers.items c.in_ok-i.i c.index.result.now c.index.result.now (Refused c.in-Err.error) _ _ s stands
    c.in_ok-i.ensures c.index.ensures refl refl c.in-Err.ensures.step refl refl put (told_under _ _ _ _ (Refused c.in-Err.error) c.bytes-in-Err.ensures told))
    c.uncommitted.ensures
