use Rattle.std.specs.Prelude.{if◌then◌else◌}
use Rattle.std.proofs.Common.{◌+◌, ◌≤◌, ℕ, List, length, ap, sym, subst, arith}
use Rattle.rk_model.specs.declared.op.Op.{Op}
use Rattle.rk_machine.specs.Sizes.{batch_size}
use Rattle.rk_machine.specs.declared.limits.TheConstants.{MOST_NUMBER}
use Rattle.rk_memstore.specs.Standing.{MemSeen}
use Rattle.rk_memstore.specs.Joining.{HasJoined, PreparedSeen, IsPrepared}
use Rattle.rk_memstore.proofs.Joined.{MayJoin, joined_core, joins_ready}
use Rattle.rk_memstore.proofs.store.MemStore.install.Goals.{then-prepared, else-prepared}
use Rattle.rk_memstore.proofs.store.MemStore.install.Goals as goal

-- the operations have joined the memtables, whether the active one is frozen or not
has_joined : (c : goal.After-self-1) →
    let fields = c.self.inside in
    let now = c.if-prepared.self-inside in
    HasJoined
    (record { active = fields.active; frozen = fields.frozen; last = fields.last; live = fields.live.items })
    (record { active = now.active; frozen = now.frozen; last = now.last + c.count.result; live = now.live.items })
    c.args.batch.now
has_joined c =
    let fields = c.self.inside in
    let old : MemSeen = record { active = fields.active; frozen = fields.frozen; last = fields.last; live = fields.live.items } in
    let ops : List Op = c.args.batch.now in
    let p : PreparedSeen = record { active = c.prepared.inside.active; freezes = c.prepared.inside.freezes } in
    let ready : IsPrepared old ops p =
    subst (λ (seen : MemSeen). IsPrepared seen ops p) (sym c.self.view_is) (subst (λ (q : PreparedSeen). IsPrepared c.args.self.now ops q) (sym c.prepared.view_is) c.requires.prepared) in
    elim c.if-prepared.branch [
      | then-prepared w ↦
          rw (w.self-inside-is, w.replace.ensures.value, w.replace.ensures.after, c.count.ensures)
          (joins_ready old ops p fields.active ready (ap (λ b. if b then fields.active else fields.frozen) (sym w.if-prepared.true)))
      | else-prepared w ↦
          rw (w.self-inside-is, c.count.ensures)
          (joins_ready old ops p fields.frozen ready (ap (λ b. if b then fields.active else fields.frozen) (sym w.if-prepared.false)))
    ]

pub invariant_of-self : goal.invariant_of-self
invariant_of-self c =
    let fields = c.self.inside in
    let now = c.if-prepared.self-inside in
    let old : MemSeen = record { active = fields.active; frozen = fields.frozen; last = fields.last; live = fields.live.items } in
    let new : MemSeen = record { active = now.active; frozen = now.frozen; last = now.last + c.count.result; live = now.live.items } in
    let ops : List Op = c.args.batch.now in
    let joined : HasJoined old new ops = has_joined c in
    let may : MayJoin old (batch_size ops) = subst (λ (seen : MemSeen). MayJoin seen (batch_size ops)) (sym c.self.view_is) c.requires.room in
    let fits : fields.last + length ops ≤ MOST_NUMBER = omega (arith, ap (λ (seen : MemSeen). seen.last) c.self.view_is, c.requires.fits) in
    joined_core old new ops c.self.invariant joined may (subst (λ (k : ℕ). k ≤ MOST_NUMBER) (sym joined.last) fits) (omega arith)

pub returns-clause-joined : goal.returns-clause-joined
returns-clause-joined c =
    let now = c.if-prepared.self-inside in
    let new : MemSeen = record { active = now.active; frozen = now.frozen; last = now.last + c.count.result; live = now.live.items } in
    subst (λ (seen : MemSeen). HasJoined seen new c.args.batch.now) c.self.view_is (has_joined c)
