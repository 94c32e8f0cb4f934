use Rattle.std.proofs.Common.{◌≡◌, map, sym, ap, subst, ◌∙◌}
use Rattle.std.specs.Arc.{arc_value}
use Rattle.std.proofs.lemmas.Result.{IfOk-weaker}
use Rattle.rk_mem.specs.Memory.{entries_of, AreChunksOf}
use Rattle.rk_mem.proofs.Towers.{tower_chunks}
use Rattle.rk_mem.proofs.memtable.Memtable.pin.Goals as goal

pub returns : goal.returns
returns c =
    let chunks = map arc_value c.self.inside.chunks.items in
    let entries : entries_of chunks ≡ c.args.self.now.entries = ap (λ m. m.entries) c.self.view_is in
    let are : AreChunksOf c.args.self.now.entries chunks = subst (λ es. AreChunksOf es chunks) entries (tower_chunks chunks c.self.invariant) in
    IfOk-weaker c.share.result _ (λ v. AreChunksOf c.args.self.now.entries (map arc_value v.items)) (λ v e. subst (AreChunksOf c.args.self.now.entries) (sym (e ∙ ap (λ s. map arc_value s) c.deref.ensures.value)) are) c.share.ensures
