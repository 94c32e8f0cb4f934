use Rattle.std.proofs.Common.{◌≡◌, ◌<◌, [], length, refl, inl, inr, arith}
use Rattle.rk_batch.specs.Grammar.{IsBadBatch}
use Rattle.rk_batch.proofs.Batches.{head_takes, head_none, begins_first, bad_op, trailing, whole, refused, not_empty, empty}
use Rattle.rk_batch.proofs.Uniqueness.{one_batch, no_batch}
use Rattle.rk_batch.proofs.batch.Batch.decode.Goals as goal

bad_head : (c : goal.In_default) → IsBadBatch c.args.bytes.now 0
bad_head c = inl (record { none = head_none c.args.bytes.now c.in_default.ensures; place = refl })

pub returns-in_default-clause-refusal : goal.returns-in_default-clause-refusal
returns-in_default-clause-refusal c = inr (0, refl, bad_head c)

pub returns-in_default-clause-only : goal.returns-in_default-clause-only
returns-in_default-clause-only c ops h = absurd (no_batch c.args.bytes.now 0 ops (bad_head c) h)

pub loop-init : goal.loop-init
loop-init c =
    let h = head_takes c.args.bytes.now c.in-Some.count c.in-Some.rest.now (λ i. omega (arith, c.type_inv.bytes i)) c.in-Some.ensures in
    rw c.in_ok-batch.ensures (begins_first c.args.bytes.now c.in-Some.count c.in-Some.rest.now h, refl)

pub returns-in-None-clause-only : goal.returns-in-None-clause-only
returns-in-None-clause-only c ops h =
    let less : length c.loop.batch < c.in-Some.count = omega (arith, c.loop.invariant.1) in
    let none = rw c.in-None.is at c.in_ok-after.ensures.none in
    absurd (no_batch c.args.bytes.now _ ops (bad_op c.args.bytes.now c.in-Some.count c.loop.batch c.loop.rest.now c.loop.invariant.0 less none) h)

pub returns-then-not-is_empty-clause-refusal : goal.returns-then-not-is_empty-clause-refusal
returns-then-not-is_empty-clause-refusal c =
    let all : length c.loop.batch ≡ c.in-Some.count = omega (arith, c.loop.invariant.1) in
    refused c.args.bytes.now _ c.ends_bad-then-not-is_empty.result c.ends_bad-then-not-is_empty.ensures
    (trailing c.args.bytes.now c.in-Some.count c.loop.batch c.loop.rest.now c.loop.invariant.0 all (not_empty c.loop.rest.now c.if-not-is_empty.ensures))

pub returns-then-not-is_empty-clause-only : goal.returns-then-not-is_empty-clause-only
returns-then-not-is_empty-clause-only c ops h =
    let all : length c.loop.batch ≡ c.in-Some.count = omega (arith, c.loop.invariant.1) in
    absurd (no_batch c.args.bytes.now _ ops (trailing c.args.bytes.now c.in-Some.count c.loop.batch c.loop.rest.now c.loop.invariant.0 all (not_empty c.loop.rest.now c.if-not-is_empty.ensures)) h)

pub returns-clause-only : goal.returns-clause-only
returns-clause-only c ops h =
    let all : length c.loop.batch ≡ c.in-Some.count = omega (arith, c.loop.invariant.1) in
    let none : c.loop.rest.now ≡ [] = empty c.loop.rest.now c.if-not-is_empty.ensures in
    one_batch c.args.bytes.now c.loop.batch ops (whole c.args.bytes.now c.in-Some.count c.loop.batch c.loop.rest.now c.loop.invariant.0 all none) h
