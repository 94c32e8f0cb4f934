-- A flag that is read has the byte that it is written as, and what was written is read again.
use Rattle.std.proofs.Common.{◌≡◌, ℕ, Bool, true, false, cond, eqb, ⊎_elim, List, [], ◌∷◌, Option, Some, None, refl, sym, ap}
use Rattle.std.proofs.lemmas.Bool.Decides.{eqb_tells}
use Rattle.rk_pieces.proofs.Fields.{some_is}
use Rattle.rk_manifest.specs.Versions.{flag, flag_at}

yes_takes : (x : ℕ) (bytes : List ℕ) (b : Bool) (rest : List ℕ) → cond {A = Option (Bool × List ℕ)} (eqb x 1) (Some (true, bytes)) None ≡ Some (b, rest) → x ∷ bytes ≡ flag b ∷ rest
yes_takes x bytes b rest e =
    ⊎_elim
    (λ yes.
    let p = some_is (true, bytes) (b, rest) (rw yes.0 at e) in
    let b-is : true ≡ b = ap (λ (q : Bool × List ℕ). q.0) p in
    let rest-is : bytes ≡ rest = ap (λ (q : Bool × List ℕ). q.1) p in
    rw (yes.1, ← b-is, ← rest-is) refl)
    (λ none. let f = rw none.0 at e in absurd cc)
    (eqb_tells x 1)

pub flag_takes : (bytes : List ℕ) (b : Bool) (rest : List ℕ) → flag_at bytes ≡ Some (b, rest) → bytes ≡ flag b ∷ rest
flag_takes [] b rest e = absurd cc
flag_takes (x ∷ bytes) b rest e =
    ⊎_elim
    (λ no.
    let p = some_is (false, bytes) (b, rest) (rw no.0 at e) in
    let b-is : false ≡ b = ap (λ (q : Bool × List ℕ). q.0) p in
    let rest-is : bytes ≡ rest = ap (λ (q : Bool × List ℕ). q.1) p in
    rw (no.1, ← b-is, ← rest-is) refl)
    (λ more. yes_takes x bytes b rest (rw more.0 at e))
    (eqb_tells x 0)

pub flag_again : (b : Bool) (rest : List ℕ) → flag_at (flag b ∷ rest) ≡ Some (b, rest)
flag_again true rest = refl
flag_again false rest = refl
