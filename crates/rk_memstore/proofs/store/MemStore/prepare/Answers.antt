use Rattle.std.proofs.Common.{◌≡◌, ◌+◌, ◌<◌, ◌≤◌, ℕ, true, false, List, length, ap, sym, subst, ◌∙◌, arith}
use Rattle.std.specs.Prelude.{IsTrue}
use Rattle.rk_model.specs.Items.{are_keyed}
use Rattle.rk_model.specs.Operations.{numbered}
use Rattle.rk_model.specs.declared.op.Op.{Op}
use Rattle.rk_model.specs.declared.op.Entry.{Entry}
use Rattle.rk_mem.specs.Chunks.{NumbersRise, AreNewer}
use Rattle.rk_mem.specs.Memory.{Memory, nothing, IsGrown}
use Rattle.rk_laws.specs.SameCells.{WellFormed}
use Rattle.rk_machine.specs.Sizes.{batch_size}
use Rattle.rk_memstore.specs.Standing.{MemSeen}
use Rattle.rk_memstore.specs.Joining.{has_room, IsPrepared}
use Rattle.rk_memstore.proofs.Numberings.{numbered_rise, numbered_length, keyed_well}
use Rattle.rk_memstore.proofs.Joined.{numbered_newer, grown_by, ready_active, ready_new}
use Rattle.rk_memstore.proofs.store.MemStore.prepare.Goals as goal

some_numbered : (n : ℕ) (ops : List Op) (es : List Entry) → es ≡ numbered n ops → 1 ≤ length ops → 0 < length es
some_numbered n ops es is some = omega (arith, ap length is, numbered_length n ops, some)

keyed_as : (n : ℕ) (ops : List Op) (es : List Entry) → es ≡ numbered n ops → IsTrue (are_keyed es) → WellFormed (numbered n ops)
keyed_as n ops es is keyed = keyed_well (numbered n ops) (subst (λ (l : List Entry). IsTrue (are_keyed l)) is keyed)

pub grown_with-requires-clause-some : goal.grown_with-requires-clause-some
grown_with-requires-clause-some c =
    some_numbered (c.self.inside.last + 1) c.args.batch.now c.in_ok-entries.entries.items (c.in_ok-entries.ensures.entries ∙ ap (numbered (c.self.inside.last + 1)) c.ops.ensures) c.requires.some

pub grown_with-requires-clause-rise : goal.grown_with-requires-clause-rise
grown_with-requires-clause-rise c =
    subst NumbersRise (sym c.in_ok-entries.ensures.entries) (numbered_rise (c.self.inside.last + 1) c.ops.result.now)

pub grown_with-requires-clause-newer : goal.grown_with-requires-clause-newer
grown_with-requires-clause-newer c =
    let fields = c.self.inside in
    let old : MemSeen = record { active = fields.active; frozen = fields.frozen; last = fields.last; live = fields.live.items } in
    subst (AreNewer fields.active.entries) (sym c.in_ok-entries.ensures.entries) (numbered_newer old c.ops.result.now c.self.invariant)

pub grown_with-requires-else-has_room-clause-some :
    goal.grown_with-requires-else-has_room-clause-some
grown_with-requires-else-has_room-clause-some c =
    some_numbered (c.self.inside.last + 1) c.args.batch.now c.in_ok-entries.entries.items (c.in_ok-entries.ensures.entries ∙ ap (numbered (c.self.inside.last + 1)) c.ops.ensures) c.requires.some

pub grown_with-requires-else-has_room-clause-rise :
    goal.grown_with-requires-else-has_room-clause-rise
grown_with-requires-else-has_room-clause-rise c =
    subst NumbersRise (sym c.in_ok-entries.ensures.entries) (numbered_rise (c.self.inside.last + 1) c.ops.result.now)

pub returns-in_ok-grown_with : goal.returns-in_ok-grown_with
returns-in_ok-grown_with c =
    let fields = c.self.inside in
    let old : MemSeen = record { active = fields.active; frozen = fields.frozen; last = fields.last; live = fields.live.items } in
    let ops : List Op = c.args.batch.now in
    let es : List Entry = c.in_ok-entries.entries.items in
    let now : Memory = c.in_ok-grown_with.field-0 in
    let numbers : es ≡ numbered (fields.last + 1) ops = c.in_ok-entries.ensures.entries ∙ ap (numbered (fields.last + 1)) c.ops.ensures in
    let room : has_room old (batch_size ops) ≡ true = ap (has_room old) (sym c.size-size.ensures) ∙ ap (λ (seen : MemSeen). has_room seen c.size-size.result) c.self.view_is ∙ sym c.has_room.ensures ∙ c.if-has_room.true in
    let grown : IsGrown fields.active (numbered (fields.last + 1) ops) (batch_size ops) now =
    grown_by fields.active now es (numbered (fields.last + 1) ops) c.size-size.result (batch_size ops) numbers c.size-size.ensures c.in_ok-grown_with.ensures in
    subst (λ (seen : MemSeen). IsPrepared seen ops (record { active = now; freezes = false })) c.self.view_is
    (ready_active old ops (keyed_as (fields.last + 1) ops es numbers c.in_ok-entries.ensures.keyed) now room grown)

pub returns-in_ok-grown_with-2 : goal.returns-in_ok-grown_with-2
returns-in_ok-grown_with-2 c =
    let fields = c.self.inside in
    let old : MemSeen = record { active = fields.active; frozen = fields.frozen; last = fields.last; live = fields.live.items } in
    let ops : List Op = c.args.batch.now in
    let es : List Entry = c.in_ok-entries.entries.items in
    let now : Memory = c.in_ok-grown_with-2.field-0 in
    let numbers : es ≡ numbered (fields.last + 1) ops = c.in_ok-entries.ensures.entries ∙ ap (numbered (fields.last + 1)) c.ops.ensures in
    let room : has_room old (batch_size ops) ≡ false = ap (has_room old) (sym c.size-size.ensures) ∙ ap (λ (seen : MemSeen). has_room seen c.size-size.result) c.self.view_is ∙ sym c.has_room.ensures ∙ c.if-has_room.false in
    let first : IsGrown nothing es c.size-size.result now =
    subst (λ (before : Memory). IsGrown before es c.size-size.result now) c.in_ok-new.ensures c.in_ok-grown_with-2.ensures in
    let grown : IsGrown nothing (numbered (fields.last + 1) ops) (batch_size ops) now =
    grown_by nothing now es (numbered (fields.last + 1) ops) c.size-size.result (batch_size ops) numbers c.size-size.ensures first in
    subst (λ (seen : MemSeen). IsPrepared seen ops (record { active = now; freezes = true })) c.self.view_is
    (ready_new old ops (keyed_as (fields.last + 1) ops es numbers c.in_ok-entries.ensures.keyed) now room grown)
