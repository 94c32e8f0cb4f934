-- A record more of a journal, and a group more of its log.
use Rattle.std.proofs.Common.{◌≡◌, ℕ, Bool, true, false, cond, List, [], ◌∷◌, ◌++◌, Option, Some, None, Ok, refl, sym, ap, ◌∙◌, append_assoc}
use Rattle.std.specs.Option.{option_map_or}
use Rattle.std.proofs.lemmas.List.{append-nil}
use Rattle.rk_pieces.specs.Pieces.{then_do, or_refuse}
use Rattle.rk_gate.specs.Records.{recovered_file, gate_behind}
use Rattle.rk_gate.specs.Changes.{after_append}
use Rattle.rk_gate.specs.declared.record.Record.{Record}
use Rattle.rk_model.specs.Lists.{last_of}
use Rattle.rk_model.proofs.Positions.{filter-append}
use Rattle.rk_log.specs.Groups.{GroupSeen, group_of, group_end}
use Rattle.rk_log.specs.Logs.{groups_in, log_of, due_behind, is_later, later, breaks, broken_behind}
use Rattle.rk_log.specs.declared.group.Logged.{Logged}
use Rattle.rk_opening.proofs.Alike.{then_ok}
use Rattle.rk_wal.proofs.Counted.{ok_is}

groups_more : (rs : List Record) (r : Record) (gs : List Logged) (g : GroupSeen) → groups_in rs ≡ Ok gs → group_of r.payload ≡ Some g
    → groups_in (rs ++ r ∷ []) ≡ Ok (gs ++ record { at = r.at; group = g } ∷ [])
groups_more [] r gs g e is =
    ap (λ read. then_do (or_refuse r.at read) (λ h. Ok (record { at = r.at; group = h } ∷ []))) is
    ∙ ap (λ before. Ok (before ++ record { at = r.at; group = g } ∷ [])) (ok_is [] gs e)
groups_more (q ∷ rs) r gs g e is =
    let one = then_ok (or_refuse q.at (group_of q.payload)) (λ h. then_do (groups_in rs) (λ hs. Ok (record { at = q.at; group = h } ∷ hs))) gs e in
    let more = then_ok (groups_in rs) (λ hs. Ok (record { at = q.at; group = one.0 } ∷ hs)) gs one.2 in
    ap (λ read. then_do read (λ h. then_do (groups_in (rs ++ r ∷ [])) (λ hs. Ok (record { at = q.at; group = h } ∷ hs)))) one.1
    ∙ ap (λ rest. then_do rest (λ hs. Ok (record { at = q.at; group = one.0 } ∷ hs))) (groups_more rs r more.0 g more.1 is)
    ∙ ap (λ before. Ok (before ++ record { at = r.at; group = g } ∷ [])) (ok_is (record { at = q.at; group = one.0 } ∷ more.0) gs more.2)

-- a log to which the payload of a group was appended
pub log_more : (old file : Option (List ℕ)) (payload : List ℕ) (gs : List Logged) (g : GroupSeen) → log_of old ≡ Ok gs → group_of payload ≡ Some g
    → recovered_file file ≡ after_append payload (recovered_file old) → (at : ℕ) × (log_of file ≡ Ok (gs ++ record { at = at; group = g } ∷ []))
log_more old file payload gs g e is more =
    let records = then_ok (recovered_file old) groups_in gs e in
    let at : ℕ = gate_behind records.0 in (
      at,
      ap (λ read. then_do read groups_in) (more ∙ ap (after_append payload) records.1)
          ∙ groups_more records.0 (record { at = at; payload = payload }) gs g records.2 is,
    )

-- where no group of some breaks a rule, the first of them doesn't, and none behind it
pub none_at : (broken : Bool) (at : ℕ) (rest : Option ℕ) → cond broken (Some at) rest ≡ None → (broken ≡ false) × (rest ≡ None)
none_at true at rest e = absurd cc
none_at false at rest e = (refl, e)

-- a group more that breaks no rule
pub none_broken_more : (flushed : ℕ) (others before log : List Logged) (g : Logged) → broken_behind flushed others before log ≡ None → breaks flushed others (before ++ log) g ≡ false
    → broken_behind flushed others before (log ++ g ∷ []) ≡ None
none_broken_more flushed others before [] g whole keeps = ap (λ b. cond b (Some g.at) None) (ap (λ gs. breaks flushed others gs g) (sym (append-nil before)) ∙ keeps)
none_broken_more flushed others before (x ∷ xs) g whole keeps =
    let first = none_at (breaks flushed others before x) x.at (broken_behind flushed others (before ++ x ∷ []) xs) whole in
    ap (λ b. cond b (Some x.at) (broken_behind flushed others (before ++ x ∷ []) (xs ++ g ∷ []))) first.0
    ∙ none_broken_more flushed others (before ++ x ∷ []) xs g first.1 (ap (λ gs. breaks flushed others gs g) (append_assoc before (x ∷ []) xs) ∙ keeps)

-- what is later among groups with one more
pub later_first : (flushed : ℕ) (g : Logged) (gs : List Logged) → is_later flushed g ≡ true → later flushed (g ∷ gs) ≡ g ∷ later flushed gs
later_first flushed g gs is = ap (λ b. cond b (g ∷ later flushed gs) (later flushed gs)) is

pub later_rest : (flushed : ℕ) (g : Logged) (gs : List Logged) → is_later flushed g ≡ false → later flushed (g ∷ gs) ≡ later flushed gs
later_rest flushed g gs gone = ap (λ b. cond b (g ∷ later flushed gs) (later flushed gs)) gone

pub later_more : (flushed : ℕ) (gs : List Logged) (g : Logged) → is_later flushed g ≡ true → later flushed (gs ++ g ∷ []) ≡ later flushed gs ++ g ∷ []
later_more flushed gs g is = filter-append (is_later flushed) gs (g ∷ []) ∙ ap (λ more. later flushed gs ++ more) (later_first flushed g [] is)

pub later_same : (flushed : ℕ) (gs : List Logged) (g : Logged) → is_later flushed g ≡ false → later flushed (gs ++ g ∷ []) ≡ later flushed gs
later_same flushed gs g gone =
    filter-append (is_later flushed) gs (g ∷ []) ∙ ap (λ more. later flushed gs ++ more) (later_rest flushed g [] gone) ∙ append-nil (later flushed gs)

last_more : (gs : List Logged) (g : Logged) → last_of (gs ++ g ∷ []) ≡ Some g
last_more [] g = refl
last_more (x ∷ []) g = refl
last_more (x ∷ y ∷ gs) g = last_more (y ∷ gs) g

-- what is due behind groups is due behind the last of them
pub due_more : (due : ℕ) (gs : List Logged) (g : Logged) → due_behind due (gs ++ g ∷ []) ≡ group_end g.group
due_more due gs g = ap (λ last. option_map_or (λ h. group_end h.group) last due) (last_more gs g)
