use Rattle.rk_model.specs.Cuts.{cut_copied}
use Rattle.rk_defrag.specs.Moves.{part, place}
use Rattle.rk_defrag.proofs.Seeks.{found_at}
use Rattle.rk_defrag.proofs.find.find_at.Goals as goal

pub returns-clause-found : goal.returns-clause-found
returns-clause-found g c =
    found_at (part g.S.Sorted.listing c.args.source.now).held c.args.forward c.args.n c.args.options.now (cut_copied c.args.cut) (cut_copied c.inner_cut-cut.result) c.in_ok-run.run' c.in_ok-clip_found.field-0
    (place g.S.Sorted.listing g.S.Sorted.standing c.seek_run.new.source).gap c.inner_cut-cut.ensures c.in_ok-clip_found.ensures c.in_ok-run.ensures.found
