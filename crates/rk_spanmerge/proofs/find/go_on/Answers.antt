use Rattle.std.proofs.Common.{ap, map, sym, subst, Bool, Option, IfOk, IfSome}
use Rattle.std.specs.Option.{option_copied}
use Rattle.rk_model.specs.declared.span.Span.{Span}
use Rattle.rk_merge.specs.Unions.{Among}
use Rattle.rk_spanmerge.specs.Merges.{united}
use Rattle.rk_spanmerge.specs.Moves.{leaves}
use Rattle.rk_spanmerge.proofs.Found.{IsFound}
use Rattle.rk_spanmerge.proofs.find.go_on.Goals as goal

pub leave-requires-clause-among : goal.leave-requires-clause-among
leave-requires-clause-among g c = subst (λ (o : Option Span). IfSome (united (map g.S.Sorted.listing c.args.sources.now)) (λ xs. IfSome o (λ c. Among c xs))) (ap option_copied c.in-Some.is) c.requires.among

pub turn-requires : goal.turn-requires
turn-requires g c = subst (λ (o : Option Span). IfSome (united (map g.S.Sorted.listing c.args.sources.now)) (λ xs. IfSome o (λ c. Among c xs))) (ap option_copied c.in-Some-2.is) c.requires.among

pub returns-in-Some-clause-found : goal.returns-in-Some-clause-found
returns-in-Some-clause-found g c =
    subst (λ (t : Span → Bool). IfOk c.leave.result (IsFound (map g.S.Sorted.listing c.args.sources.now) c.args.forward t)) (ap (λ o. leaves c.args.forward (option_copied o)) (sym c.in-Some.is)) c.leave.ensures.found

pub returns-in-Some-2-clause-found : goal.returns-in-Some-2-clause-found
returns-in-Some-2-clause-found g c =
    subst (λ (t : Span → Bool). IfOk c.turn.result (IsFound (map g.S.Sorted.listing c.args.sources.now) c.args.forward t)) (ap (λ o. leaves c.args.forward (option_copied o)) (sym c.in-Some-2.is)) c.turn.ensures.found

pub returns-in-None-clause-found : goal.returns-in-None-clause-found
returns-in-None-clause-found g c =
    subst (λ (t : Span → Bool). IfOk c.find_outermost.result (IsFound (map g.S.Sorted.listing c.args.sources.now) c.args.forward t)) (ap (λ o. leaves c.args.forward (option_copied o)) (sym c.in-None.is)) c.find_outermost.ensures.found
