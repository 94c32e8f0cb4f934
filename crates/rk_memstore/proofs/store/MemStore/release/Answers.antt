use Rattle.std.proofs.Common.{◌≡◌, ◌==◌, ℕ, List, position, Some, None, ap, sym, subst, ◌∙◌}
use Rattle.rk_machine.specs.Events.{Release, Released}
use Rattle.rk_memstore.specs.Standing.{MemSeen}
use Rattle.rk_memstore.specs.Answers.{IsStep}
use Rattle.rk_memstore.proofs.Live.{release_done, release_refused}
use Rattle.rk_memstore.proofs.store.MemStore.release.Goals as goal

pub returns-in-Some-clause-step : goal.returns-in-Some-clause-step
returns-in-Some-clause-step c =
    let number = c.args.number in
    let fields = c.self.inside in
    let old : MemSeen = record { active = fields.active; frozen = fields.frozen; last = fields.last; live = fields.live.items } in
    let found : position (λ k. k == number) fields.live.items ≡ Some c.in-Some.i = ap (position (λ k. k == number)) (sym c.deref.ensures.value) ∙ sym c.in-Some.ensures in
    let left : IsStep old (record old { live = c.remove.new.self.items }) (Release number) Released =
    subst (λ (live : List ℕ). IsStep old (record old { live = live }) (Release number) Released) (sym c.remove.ensures.items) (release_done old number c.in-Some.i found) in
    subst (λ (seen : MemSeen). IsStep seen (record old { live = c.remove.new.self.items }) (Release number) Released) c.self.view_is left

pub returns-in-None-clause-step : goal.returns-in-None-clause-step
returns-in-None-clause-step c =
    let number = c.args.number in
    let live : c.deref.result.now ≡ c.args.self.now.live = c.deref.ensures.value ∙ ap (λ (seen : MemSeen). seen.live) c.self.view_is in
    let none : position (λ k. k == number) c.args.self.now.live ≡ None = ap (position (λ k. k == number)) (sym live) ∙ sym c.in-None.ensures in
    release_refused c.args.self.now number none
