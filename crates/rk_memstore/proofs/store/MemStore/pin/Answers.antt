use Rattle.std.proofs.Common.{◌≡◌, List, map, ap, ◌∙◌}
use Rattle.std.specs.Arc.{arc_value}
use Rattle.std.specs.Option.{option_map_or}
use Rattle.rk_outside.specs.declared.error.StoreError.TheVariants.{Memory}
use Rattle.rk_model.specs.declared.op.Entry.{Entry}
use Rattle.rk_merge_laws.specs.Chunks.{all_of}
use Rattle.rk_memstore.specs.Standing.{parts}
use Rattle.rk_memstore.proofs.Pins.{of_answer, seen_at, shown}
use Rattle.rk_memstore.proofs.store.MemStore.pin.Goals as goal

pub returns-clause-pins : goal.returns-clause-pins
returns-clause-pins c =
    let chunks : List (List Entry) = map arc_value c.in_ok-chunks.chunks.items in
    let all : all_of chunks ≡ all_of (parts c.args.self.now) = of_answer (λ v. all_of (map arc_value v.items) ≡ all_of (parts c.args.self.now)) c.chunks.result c.or_memory.result Memory c.in_ok-chunks.chunks c.chunks.ensures.all c.in_ok-chunks.was c.or_memory.ensures in
    λ m stands.
    let none_due = c.in_ok-number.ensures.due m stands in (
      none_due,
      c.in_ok-number.ensures.number ∙ ap (option_map_or (λ n. n) c.args.at) stands.last,
      shown c.args.self.now m c.in_ok-number.number chunks c.chunks.ensures.keeps stands (seen_at c.args.self.now m c.args.at c.in_ok-number.number stands c.in_ok-number.ensures.number none_due) all,
    )
