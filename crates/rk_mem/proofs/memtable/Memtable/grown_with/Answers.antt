use Rattle.std.proofs.Common.{◌≡◌, ◌+◌, List, ◌++◌, map, sym, ap, subst, ◌∙◌}
use Rattle.std.specs.Arc.{arc_value}
use Rattle.std.specs.List.Sorted.{IsPermutation}
use Rattle.std.proofs.lemmas.List.Sorted.{IsPermutation-trans, IsPermutation-append_right}
use Rattle.rk_model.specs.declared.op.Entry.{Entry}
use Rattle.rk_mem.specs.Chunks.{AreNewer}
use Rattle.rk_mem.specs.Memory.{Memory, entries_of}
use Rattle.rk_mem.specs.Towers.{IsNewest}
use Rattle.rk_mem.proofs.Towers.{is_newest}
use Rattle.rk_mem.proofs.memtable.Memtable.grown_with.Goals as goal

pub piled-requires-clause-newest : goal.piled-requires-clause-newest
piled-requires-clause-newest c =
    let chunks : List (List Entry) = map arc_value c.self.inside.chunks.items in
    let shared : map arc_value c.in_ok-share.field-0.items ≡ chunks = c.in_ok-share.ensures ∙ ap (λ s. map arc_value s) c.deref.ensures.value in
    let newer : AreNewer (entries_of chunks) c.args.entries.items = subst (λ (m : Memory). AreNewer m.entries c.args.entries.items) (sym c.self.view_is) c.requires.newer in
    let new : IsNewest chunks c.in_ok-newest.newest = is_newest chunks c.args.entries.items c.in_ok-newest.newest newer c.requires.some c.in_ok-newest.ensures in
    subst (λ cs. IsNewest cs c.in_ok-newest.newest) (sym shared) new

pub returns : goal.returns
returns c =
    let entries : List Entry = c.args.entries.items in
    let chunks : List (List Entry) = map arc_value c.self.inside.chunks.items in
    let shared : map arc_value c.in_ok-share.field-0.items ≡ chunks = c.in_ok-share.ensures ∙ ap (λ s. map arc_value s) c.deref.ensures.value in
    let before : entries_of chunks ≡ c.args.self.now.entries = ap (λ (m : Memory). m.entries) c.self.view_is in
    let now : List Entry = entries_of (map arc_value c.in_ok-chunks.chunks.items) in
    let moved : IsPermutation (entries_of chunks ++ c.in_ok-newest.newest) now = subst (λ cs. IsPermutation (entries_of cs ++ c.in_ok-newest.newest) now) shared c.in_ok-chunks.ensures.same in
    let same : IsPermutation (entries_of chunks ++ entries) now =
    IsPermutation-trans (entries_of chunks ++ entries) (entries_of chunks ++ c.in_ok-newest.newest) now (IsPermutation-append_right (entries_of chunks) entries c.in_ok-newest.newest c.in_ok-newest.ensures.same) moved in
    record {
      same = subst (λ es. IsPermutation (es ++ entries) now) before same;
      added = ap (λ (m : Memory). m.bytes + c.args.bytes) c.self.view_is;
    }
