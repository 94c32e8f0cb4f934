use Rattle.std.proofs.Common.{◌≡◌, ◌==◌, position, Some, None, ap, sym, ◌∙◌}
use Rattle.rk_machine.specs.Iterators.{open_due}
use Rattle.rk_memstore.specs.Standing.{MemSeen}
use Rattle.rk_memstore.proofs.Live.{live_is, not_live_is}
use Rattle.rk_memstore.proofs.store.MemStore.number.Goals as goal

pub returns-in-Some-place_of-clause-due : goal.returns-in-Some-place_of-clause-due
returns-in-Some-place_of-clause-due c =
    let number = c.in-Some.number in
    let live : c.deref.result.now ≡ c.args.self.now.live = c.deref.ensures.value ∙ ap (λ (seen : MemSeen). seen.live) c.self.view_is in
    let found : position (λ k. k == number) c.args.self.now.live ≡ Some c.in-Some-place_of.field-0 = ap (position (λ k. k == number)) (sym live) ∙ sym c.in-Some-place_of.ensures in
    λ m stands. ap (open_due m) c.in-Some.is ∙ live_is c.args.self.now number m stands c.in-Some-place_of.field-0 found

pub returns-in-None-clause-due : goal.returns-in-None-clause-due
returns-in-None-clause-due c =
    let number = c.in-Some.number in
    let live : c.deref.result.now ≡ c.args.self.now.live = c.deref.ensures.value ∙ ap (λ (seen : MemSeen). seen.live) c.self.view_is in
    let none : position (λ k. k == number) c.args.self.now.live ≡ None = ap (position (λ k. k == number)) (sym live) ∙ sym c.in-None.ensures in
    λ m stands. ap (open_due m) c.in-Some.is ∙ not_live_is c.args.self.now number m stands none
