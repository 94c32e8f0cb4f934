-- Checks that refuse do not all pass.
use Rattle.std.proofs.Common.{◌≡◌, ◌≢◌, ℕ, List, [], ◌∷◌, ◌++◌, inl, inr, subst, sym, ◌∙◌, arith}
use Rattle.rk_model.specs.declared.op.Op.{Op}
use Rattle.rk_batch.specs.declared.error.BatchError.{BatchError}
use Rattle.rk_batch.specs.declared.error.BatchError.TheVariants.{Memory}
use Rattle.rk_batch.specs.Encoding.{op_bytes}
use Rattle.rk_batch.specs.Checks.{Check, Is_key, Is_bare, Is_below, Is_suffix, Is_at_most, Passes, Refuses, AllPass, IsFirst, IsRefusal, IsOp, form, room, checks}
use Rattle.rk_batch.proofs.Operations.{Fits, fits_from_op, one_op}

pub fails : (check : Check) (e : BatchError) → Refuses check e → Passes check → ⊥
fails (Is_key which bytes) e r p = r.2.none p
fails (Is_bare which key) e r p = r.1 p
fails (Is_below start end) e r p = r.1 p
fails (Is_suffix bytes) e r p = r.2.none p
fails (Is_at_most what have limit) e r p = omega (arith, r.1)

pub first_fails : (cs : List Check) (e : BatchError) → IsFirst cs e → AllPass cs → ⊥
first_fails [] e f p = absurd f
first_fails (c ∷ cs) e f p = elim f [ inl r ↦ fails c e r p.0 | inr later ↦ first_fails cs e later.1 p.1 ]

pub refusal_fails : (cs : List Check) (e : BatchError) → IsRefusal cs e → e ≢ Memory → AllPass cs → ⊥
refusal_fails cs e r not p = elim r [ inl m ↦ absurd (not m) | inr f ↦ first_fails cs e f p ]

pub front_passes : (cs ds : List Check) → AllPass (cs ++ ds) → AllPass cs
front_passes [] ds p = tt
front_passes (c ∷ cs) ds p = (p.0, front_passes cs ds p.1)

pub back_passes : (cs ds : List Check) → AllPass (cs ++ ds) → AllPass ds
back_passes [] ds p = p
back_passes (c ∷ cs) ds p = back_passes cs ds p.1

pub all_pass : (cs ds : List Check) → AllPass cs → AllPass ds → AllPass (cs ++ ds)
all_pass [] ds p q = q
all_pass (c ∷ cs) ds p q = (p.0, all_pass cs ds p.1 q)

-- an operation that is refused is the only one that may stand there
pub refused_none : (ops : List Op) (op : Op) (rest bytes : List ℕ) (e : BatchError) → IsRefusal (checks ops op) e → e ≢ Memory → Fits op → bytes ≡ op_bytes op ++ rest
    → (other : Op) (after : List ℕ) → AllPass (checks ops other) → bytes ≢ op_bytes other ++ after
refused_none ops op rest bytes e r not fits spelled other after passes same =
    let form_passes : IsOp other = front_passes (form other) (room ops other) passes in
    let one = one_op op other rest after fits (fits_from_op other form_passes) (sym spelled ∙ same) in
    refusal_fails (checks ops op) e r not (subst (λ (o : Op). AllPass (checks ops o)) (sym one.0) passes)
