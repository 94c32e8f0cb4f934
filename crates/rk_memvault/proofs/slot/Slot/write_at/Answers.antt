-- The room was written over, and the file reaches as far as it did or as the bytes reach.
use Rattle.std.proofs.Common.{◌≤◌, [], Some, take, max, length, unwrap_or, sym, ap, subst, ◌∙◌}
use Rattle.std.proofs.lemmas.List.{take_at}
use Rattle.rk_outside.specs.Disks.{overwritten}
use Rattle.rk_memvault.proofs.Written.{written}
use Rattle.rk_memvault.proofs.slot.Slot.write_at.Goals as goal

pub returns-clause-bytes : goal.returns-clause-bytes
returns-clause-bytes c =
    let at = c.args.at in
    let bytes = c.args.bytes.now in
    let items = c.self.inside.room.items in
    let seen = ap (λ held. held.bytes) c.self.view_is in
    let whole = take_at c.overwrite-end.new.room _ c.self.inside.room.len (c.overwrite-end.auto.room ∙ c.deref_mut.ensures.len) in
    let over = c.overwrite-end.ensures.bytes ∙ ap (λ room. overwritten room at bytes) c.deref_mut.ensures.value in
    let end =
    c.max.ensures ∙ ap (λ n. max n c.overwrite-end.result) c.unwrap_or.ensures ∙ ap (max (unwrap_or c.self.inside.len 0)) c.overwrite-end.ensures.end in
    ap (λ room. Some (take c.max.result room)) (whole ∙ over) ∙ ap (λ n. Some (take n (overwritten items at bytes))) end
    ∙ written c.self.inside.len at items bytes c.self.invariant (subst (λ held. at ≤ length (unwrap_or held [])) (sym seen) c.requires.at)
    ∙ ap (λ held. Some (overwritten (unwrap_or held []) at bytes)) seen
