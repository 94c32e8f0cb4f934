-- The groups of records, as far as they were read.
use Rattle.std.proofs.Common.{◌≡◌, ℕ, suc, ◌+◌, ◌<◌, List, ◌∷◌, ◌++◌, length, get_or, drop, None, Result, Ok, Err, sym, ap, ◌∙◌}
use Rattle.std.proofs.Math.Seq.{drop-cons}
use Rattle.rk_pieces.specs.Pieces.{then_do, or_refuse}
use Rattle.rk_gate.specs.declared.record.Record.{Record}
use Rattle.rk_log.specs.Groups.{group_of}
use Rattle.rk_log.specs.Logs.{groups_in}
use Rattle.rk_log.specs.declared.group.Logged.{Logged}

-- the groups that were read, before an answer
abbrev pub behind : List Logged → Result (List Logged) ℕ → Result (List Logged) ℕ
behind done (Ok gs) = Ok (done ++ gs)
behind done (Err at) = Err at

-- so many records were read, and these are their groups
abbrev pub ReadSoFar : List Record → ℕ → List Logged → Type 0
ReadSoFar rs i done = groups_in rs ≡ behind done (groups_in (drop i rs))

-- the first record that spells no group
pub stopped : (rs : List Record) (i : ℕ) (done : List Logged) (r : Record) → i < length rs → r ≡ get_or rs i r → group_of r.payload ≡ None → ReadSoFar rs i done → groups_in rs ≡ Err r.at
stopped rs i done r less is none so_far =
    let front = drop-cons rs i r less ∙ ap (λ q. q ∷ drop (suc i) rs) (sym is) in
    so_far ∙ ap (λ l. behind done (groups_in l)) front
    ∙ ap (λ o. behind done (then_do (or_refuse r.at o) (λ g. then_do (groups_in (drop (suc i) rs)) (λ gs. Ok (record { at = r.at; group = g } ∷ gs))))) none
