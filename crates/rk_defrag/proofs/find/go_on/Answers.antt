use Rattle.std.proofs.Common.{refl}
use Rattle.std.specs.Option.{option_copied}
use Rattle.rk_defrag.specs.Moves.{inner_cut, leaving_cut, part, place}
use Rattle.rk_defrag.proofs.Seeks.{found_at}
use Rattle.rk_defrag.proofs.find.go_on.Goals as goal

pub returns-clause-found : goal.returns-clause-found
returns-clause-found g c =
    found_at (part g.S.Sorted.listing c.args.source.now).held c.args.forward c.args.n c.args.options.now (leaving_cut c.args.forward (option_copied c.args.current)) (inner_cut c.args.options.now c.args.forward (leaving_cut c.args.forward (option_copied c.args.current))) c.in_ok-run.run' c.in_ok-clip_found.field-0
    (place g.S.Sorted.listing g.S.Sorted.standing c.next_run.new.source).gap refl c.in_ok-clip_found.ensures c.in_ok-run.ensures.found
