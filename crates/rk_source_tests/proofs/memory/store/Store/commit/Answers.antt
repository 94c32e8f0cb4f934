use Rattle.std.proofs.Common.{◌≡◌, ◌+◌, ◌<◌, ◌≤◌, length, inl, inr, arith}
use Rattle.std.proofs.lemmas.Grind.{common_steps}
use Rattle.rk_model.specs.Lists.{Among}
use Rattle.rk_mem.proofs.Commits.{grown_among}
use Rattle.rk_source_tests.proofs.memory.store.Store.commit.Goals as goal

pub grown-requires-clause-newer : goal.grown-requires-clause-newer
grown-requires-clause-newer c = λ e f at_e at_f.
    let new : Among f c.in_ok-entries.entries.items = rw c.deref.ensures.value at at_f in
    let above : c.self.inside.next ≤ f.seq = (c.in_ok-entries.ensures.within f new).0 in
    let below : e.seq < c.self.inside.next = c.self.invariant e at_e in
    omega arith

pub invariant_of-self : goal.invariant_of-self
invariant_of-self c = λ e at_e.
    let next : c.in_ok-next.next ≡ c.self.inside.next + length c.in_ok-entries.entries.items = grind (arith, common_steps) in
    elim (grown_among c.self.inside.memtable c.deref.result.now 9 c.in_ok-self-inside.field-0 c.in_ok-self-inside.ensures e at_e) [
      | inl m ↦ (let below : e.seq < c.self.inside.next = c.self.invariant e m in omega arith)
      | inr m ↦ (let new : Among e c.in_ok-entries.entries.items = rw c.deref.ensures.value at m in let within = c.in_ok-entries.ensures.within e new in omega arith)
    ]
