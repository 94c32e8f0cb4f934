use Rattle.std.proofs.Common.{◌≡◌, ◌∙◌, refl}
use Rattle.std.proofs.KnownBytes.{Keeps-refl}
use Rattle.rk_program.proofs.Answered.{on_ok, on_err}
use Rattle.rk_program.proofs.Transcripts.{Going-begun, Going-next, Going-all, Going-part, IsNext-done, IsNext-part, IsNext-more_part, next_is, end_is, not_err, done_into_nothing}
use Rattle.rk_program.proofs.Accepted.{accepted_in}
use Rattle.rk_program.proofs.program.do_lines.Goals as goal

pub loop-text-init : goal.loop-text-init
loop-text-init g c = record { going = Going-begun _ _ _ _ c.requires.begun c.new-lines.ensures c.requires.script; no_fault = refl; vault = refl }

pub returns-in_err-line-clause-part : goal.returns-in_err-line-clause-part
returns-in_err-line-clause-part g c = on_err _ c.from_residual.result (Going-part _ _ _ _ _ _ c.loop-text.invariant.going (Keeps-refl _))

pub line-requires : goal.line-requires
line-requires g c =
    let next = Going-next _ _ _ _ _ _ c.in-Some.line c.loop-text.invariant.going (next_is _ _ _ _ c.in_ok-line.ensures.line c.in-Some.is) in
    record { accepted = accepted_in _ next.so_far.state _ next.so_far.stands next.so_far.accepted.0 }

pub returns-then-failed-clause-part : goal.returns-then-failed-clause-part
returns-then-failed-clause-part g c =
    let next = Going-next _ _ _ _ _ _ c.in-Some.line c.loop-text.invariant.going (next_is _ _ _ _ c.in_ok-line.ensures.line c.in-Some.is) in
    IsNext-part _ _ _ _ _ _ _ next (Keeps-refl _)

pub returns-in_err-write_all-clause-part : goal.returns-in_err-write_all-clause-part
returns-in_err-write_all-clause-part g c =
    let next = Going-next _ _ _ _ _ _ c.in-Some.line c.loop-text.invariant.going (next_is _ _ _ _ c.in_ok-line.ensures.line c.in-Some.is) in
    let did = not_err _ c.line.result _ c.is_err-failed.ensures.value c.if-failed.false (c.line.ensures.did next.so_far.state next.so_far.stands) in
    let done = done_into_nothing next.so_far.state c.in-Some.line _ _ c.line.new.self c.clear.ensures.items did in
    on_err _ c.from_residual-in_err-write_all.result (IsNext-more_part _ _ _ _ _ _ _ _ next done.after done.does (rw c.deref.ensures.value at c.in_err-write_all.ensures.part))

pub loop-text-preserved : goal.loop-text-preserved
loop-text-preserved g c =
    let next = Going-next _ _ _ _ _ _ c.in-Some.line c.loop-text.invariant.going (next_is _ _ _ _ c.in_ok-line.ensures.line c.in-Some.is) in
    let did = not_err _ c.line.result _ c.is_err-failed.ensures.value c.if-failed.false (c.line.ensures.did next.so_far.state next.so_far.stands) in
    let done = done_into_nothing next.so_far.state c.in-Some.line _ _ c.line.new.self c.clear.ensures.items did in
    record {
      going = IsNext-done _ _ _ _ _ _ _ _ _ next done.after done.does done.stands (rw c.deref.ensures.value at c.in_ok-write_all.ensures.written);
      no_fault = c.in_ok-write_all.ensures.no_fault ∙ c.loop-text.invariant.no_fault;
      vault = c.line.ensures.vault ∙ c.loop-text.invariant.vault;
    }

pub returns-clause-part : goal.returns-clause-part
returns-clause-part g c = on_err _ c.finish.result (Going-part _ _ _ _ _ _ c.loop-text.invariant.going c.finish.ensures.kept)

pub returns-clause-done : goal.returns-clause-done
returns-clause-done g c = on_ok _ c.finish.result (Going-all _ _ _ _ _ _ c.loop-text.invariant.going (end_is _ _ _ c.in_ok-line.ensures.line c.in_default.is) c.finish.ensures.kept)
