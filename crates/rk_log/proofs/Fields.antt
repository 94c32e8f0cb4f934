-- Bytes, of which all are below 256, and pieces of them.
use Rattle.std.proofs.Common.{◌≡◌, ℕ, zero, suc, ◌<◌, List, [], ◌∷◌, ◌++◌, sym, append_assoc, arith}
use Rattle.rk_pieces.proofs.Fields.{IsBytes}

-- what stands before bytes
pub front_fits : (xs ys : List ℕ) → IsBytes (xs ++ ys) → IsBytes xs
front_fits [] ys h i = omega arith
front_fits (x ∷ xs) ys h zero = h zero
front_fits (x ∷ xs) ys h (suc i) = front_fits xs ys (λ j. h (suc j)) i

-- of two pieces the second one in parts
pub joined : (bytes a x b rest : List ℕ) → bytes ≡ a ++ x → x ≡ b ++ rest → bytes ≡ (a ++ b) ++ rest
joined bytes a x b rest p q = rw (p, q) (sym (append_assoc a b rest))
