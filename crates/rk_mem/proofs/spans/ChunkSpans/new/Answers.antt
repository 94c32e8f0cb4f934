use Rattle.std.proofs.Common.{◌≡◌, ap, cond, ◌∙◌, subst, List, Some, None}
use Rattle.std.specs.Prelude.{IsTrue}
use Rattle.std.specs.Arc.{arc_value}
use Rattle.rk_model.specs.Items.{keyed_extents, keyed_spans, sound}
use Rattle.rk_model.specs.ItemLaws.{spans-extents}
use Rattle.rk_model.specs.declared.span.Span.{Span}
use Rattle.rk_fragment.specs.Fragments.{fragments}
use Rattle.rk_mem.proofs.spans.ChunkSpans.new.Goals as goal

told_of : (ss ts : List Span) → ts ≡ ss → IsTrue (keyed_spans ss) → sound keyed_extents ts ≡ Some ss
told_of ss ts is sorted = ap (sound keyed_extents) is ∙ ap (λ b. cond b (Some ss) None) (spans-extents ss sorted)

pub returns-clause-told : goal.returns-clause-told
returns-clause-told c =
    let made = c.in_ok-fragments.ensures in
    let list = arc_value c.in_ok-fragments.fragments in
    rw c.new.ensures (subst (λ es. sound keyed_extents list ≡ Some (fragments es)) c.deref.ensures (told_of (fragments c.deref.result.now) list made.value made.spans))
