-- Batches read from the front, one after the other.
use Rattle.std.proofs.Common.{◌≡◌, ℕ, suc, ◌+◌, ◌-◌, ◌<◌, true, false, eqb, List, [], ◌∷◌, ◌++◌, length, Option, Some, None, refl, sym, ap, ◌∙◌, append_assoc, arith}
use Rattle.std.proofs.lemmas.List.{append-nil}
use Rattle.rk_model.specs.declared.op.Op.{Op}
use Rattle.rk_batch.proofs.Batches.{empty}
use Rattle.rk_pieces.specs.Pieces.{◌>>=◌, whole}
use Rattle.rk_log.specs.Groups.{framed_at, batches_at}
use Rattle.rk_pieces.proofs.Fields.{bind_again, bind_none}

-- a list of batches, and the bytes after them
abbrev pub Batches : Type 0
Batches = List (List Op) × List ℕ

-- the batches, behind others
abbrev behind : List (List Op) → Batches → Option Batches
behind bs more = Some (bs ++ more.0, more.1)

-- of the batches at the start so many were read, and then the rest
abbrev pub ReadSoFar : (start : List ℕ) (n : ℕ) (batches : List (List Op)) (rest : List ℕ) → Type 0
ReadSoFar start n batches rest = (k m : ℕ) → m ≡ n + k → batches_at m start ≡ (batches_at k rest >>= behind batches)

pushed : (r : Option Batches) (bs : List (List Op)) (b : List Op) → ((r >>= behind (b ∷ [])) >>= behind bs) ≡ (r >>= behind (bs ++ b ∷ []))
pushed None bs b = refl
pushed (Some p) bs b = ap (λ (t : List (List Op)). Some (t, p.1)) (sym (append_assoc bs (b ∷ []) p.0))

pub one_more : (start : List ℕ) (n : ℕ) (bs : List (List Op)) (b : List Op) (rest after : List ℕ) → ReadSoFar start n bs rest → framed_at rest ≡ Some (b, after)
    → ReadSoFar start (n + 1) (bs ++ b ∷ []) after
unfolding batches_at
one_more start n bs b rest after so_far is k m e =
    so_far (suc k) m (omega (arith, e))
    ∙ ap (λ (r : Option Batches). r >>= behind bs) (bind_again (framed_at rest) (b, after) (λ batch. batches_at k batch.1 >>= behind (batch.0 ∷ [])) is)
    ∙ pushed (batches_at k after) bs b

pub no_more : (start : List ℕ) (n count : ℕ) (bs : List (List Op)) (rest : List ℕ) → ReadSoFar start n bs rest → n < count → framed_at rest ≡ None
    → batches_at count start ≡ None
unfolding batches_at
no_more start n count bs rest so_far less none =
    let k : ℕ = count - (n + 1) in
    so_far (suc k) count (omega (arith, less))
    ∙ ap (λ (r : Option Batches). r >>= behind bs) (bind_none (framed_at rest) (λ batch. batches_at k batch.1 >>= behind (batch.0 ∷ [])) none)

pub all_read : (start : List ℕ) (n count : ℕ) (bs : List (List Op)) (rest : List ℕ) → ReadSoFar start n bs rest → n ≡ count
    → batches_at count start ≡ Some (bs, rest)
unfolding batches_at
all_read start n count bs rest so_far all =
    so_far 0 count (omega (arith, all)) ∙ ap (λ (t : List (List Op)). Some (t, rest)) (append-nil bs)

pub whole_none : {A : Type 0} (a : A) (rest : List ℕ) → false ≡ eqb (length rest) 0 → whole (a, rest) ≡ None
whole_none a [] e = absurd cc
whole_none a (b ∷ rest) e = refl

pub whole_some : {A : Type 0} (a : A) (rest : List ℕ) → true ≡ eqb (length rest) 0 → whole (a, rest) ≡ Some a
whole_some a rest e = ap (λ (t : List ℕ). whole (a, t)) (empty rest e)
