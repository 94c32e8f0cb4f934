use Rattle.std.proofs.Common.{◌≡◌, ◌<◌, arith}
use Rattle.rk_log.proofs.Reading.{one_more, no_more, all_read}
use Rattle.rk_log.proofs.group.batches_at.Goals as goal

pub returns-in_default : goal.returns-in_default
returns-in_default c =
    let none = rw c.in_default.is at c.in_ok-batch.ensures in
    let less : c.loop.counter < c.args.count = omega (arith, c.loop-test.true) in
    no_more c.args.bytes.now c.loop.counter c.args.count c.loop.batches.items c.loop.rest.now c.loop.invariant less none

pub loop-preserved : goal.loop-preserved
loop-preserved c =
    let read = rw c.in-Some.is at c.in_ok-batch.ensures in
    let next = one_more c.args.bytes.now c.loop.counter c.loop.batches.items c.in-Some.batch c.loop.rest.now c.in-Some.after.now c.loop.invariant read in
    rw c.in_ok-push.ensures.items next

pub returns : goal.returns
returns c =
    let all : c.loop.counter ≡ c.args.count = omega (arith, c.loop-test.false, c.loop.auto.counter-end) in
    all_read c.args.bytes.now c.loop.counter c.args.count c.loop.batches.items c.loop.rest.now c.loop.invariant all
