use Rattle.std.proofs.Common.{◌≡◌, ℕ, List, Option, sym, ap, ◌∙◌}
use Rattle.std.specs.Prelude.{IfSome, if◌then◌else◌}
use Rattle.rk_model.specs.Cuts.{cut_copied}
use Rattle.rk_sources.specs.Bounds.{clamped, bound_cut}
use Rattle.rk_sources.proofs.Bounding.{IsParted, is_parted, seek_leads, seek_bounding}
use Rattle.rk_sources.proofs.bounded.BoundedSource.seek.Given.{Over}
use Rattle.rk_sources.proofs.bounded.BoundedSource.seek.Goals as goal

parted : (g : Over) (source : g.row.S.Denot) (upper : Option (List ℕ)) → IfSome (g.S.Sorted.listing source).held (IsParted g.S.Item.Item.takes upper)
parted g source upper = is_parted g.S.Item.Item.takes upper g.S.Item.Item.in_order (g.S.Sorted.listing source).held g.met.S.Item.Item.first g.met.S.Item.Item.part (g.met.S.Source.ordered source)

pub invariant_of-self-else-lies_beyond : goal.invariant_of-self-else-lies_beyond
invariant_of-self-else-lies_beyond g c =
    let cut = cut_copied c.args.cut in
    let lower = c.self.inside.lower in
    let upper = c.self.inside.upper in
    let used : cut ≡ clamped lower upper c.args.forward cut = ap (λ b. if b then bound_cut lower upper c.args.forward else cut) (sym c.if-lies_beyond.false ∙ c.lies_beyond.ensures) in
    seek_bounding g.S.Item.Item.takes lower upper g.met.S.Item.Item.rise _ _ _ c.args.forward cut cut _ used (parted g c.self.inside.source upper) c.seek-else-lies_beyond.ensures.leads

pub returns-then-lies_beyond-clause-leads : goal.returns-then-lies_beyond-clause-leads
returns-then-lies_beyond-clause-leads g c =
    let cut = cut_copied c.args.cut in
    let lower = c.self.inside.lower in
    let upper = c.self.inside.upper in
    let used : cut_copied c.bound_cut-bound.result ≡ clamped lower upper c.args.forward cut = c.bound_cut-bound.ensures ∙ ap (λ b. if b then bound_cut lower upper c.args.forward else cut) (sym c.if-lies_beyond.true ∙ c.lies_beyond.ensures) in
    rw (sym c.self.view_is) (seek_leads g.S.Item.Item.takes lower upper g.met.S.Item.Item.rise _ _ _ c.args.forward cut _ _ used (parted g c.self.inside.source upper) c.seek.ensures.leads)

pub returns-else-lies_beyond-clause-leads : goal.returns-else-lies_beyond-clause-leads
returns-else-lies_beyond-clause-leads g c =
    let cut = cut_copied c.args.cut in
    let lower = c.self.inside.lower in
    let upper = c.self.inside.upper in
    let used : cut ≡ clamped lower upper c.args.forward cut = ap (λ b. if b then bound_cut lower upper c.args.forward else cut) (sym c.if-lies_beyond.false ∙ c.lies_beyond.ensures) in
    rw (sym c.self.view_is) (seek_leads g.S.Item.Item.takes lower upper g.met.S.Item.Item.rise _ _ _ c.args.forward cut cut _ used (parted g c.self.inside.source upper) c.seek-else-lies_beyond.ensures.leads)
