-- Tests that compute whether a crash may leave a file so, and answer as `IsFileImage` does.
use Rattle.std.proofs.Common.{◌≡◌, ℕ, zero, suc, ◌+◌, ◌<◌, ◌≤◌, ◌==◌, Bool, true, false, ◌&&◌, ◌||◌, List, [], ◌∷◌, length, refl, sym, ◌∙◌, ap, arith, get_or, ⊎_elim}
use Rattle.std.proofs.lemmas.Bool.{and_parts, and_from, or_cases, or_left, or_right, eqb-true, eq-eqb, both_ways, cases_Bool, false≢true}
use Rattle.rk_outside.specs.Disks.{Unsynced, IsLeft, is_written}

-- from a place on, each place that no write covers holds the same byte
abbrev pub keeps_from : ℕ → List (ℕ × ℕ) → List ℕ → List ℕ → Bool
keeps_from i writes [] bytes = true
keeps_from i writes (f ∷ front) [] = false
keeps_from i writes (f ∷ front) (b ∷ bytes) = (is_written writes i || b == f) && keeps_from (i + 1) writes front bytes

abbrev pub is_left : Unsynced → List ℕ → Bool
is_left u bytes = keeps_from 0 u.writes u.front bytes

record KeepsFrom (i : ℕ) (writes : List (ℕ × ℕ)) (front bytes : List ℕ) : Type 0 where
  no_shorter : length front ≤ length bytes
  kept : (j : ℕ) → j < length front → is_written writes (i + j) ≡ false → get_or bytes j 0 ≡ get_or front j 0

by_test : (i : ℕ) (writes : List (ℕ × ℕ)) (front bytes : List ℕ) → keeps_from i writes front bytes ≡ true → KeepsFrom i writes front bytes
by_test i writes [] bytes e = record { no_shorter = omega arith; kept = λ j lt not. absurd (omega (arith, lt)) }
by_test i writes (f ∷ front) [] e = absurd (false≢true e)
by_test i writes (f ∷ front) (b ∷ bytes) e =
    let parts = and_parts (is_written writes i || b == f) (keeps_from (i + 1) writes front bytes) e in
    let rest = by_test (i + 1) writes front bytes parts.1 in
    record { no_shorter = omega (arith, rest.no_shorter); kept = at parts.0 rest.kept }
  where
    at : (is_written writes i || b == f) ≡ true → ((j : ℕ) → j < length front → is_written writes (i + 1 + j) ≡ false → get_or bytes j 0 ≡ get_or front j 0) →
        (j : ℕ) → j < length (f ∷ front) → is_written writes (i + j) ≡ false → get_or (b ∷ bytes) j 0 ≡ get_or (f ∷ front) j 0
    at here rest zero lt not =
        let here_is : i + 0 ≡ i = omega arith in
        ⊎_elim (λ w. absurd (both_ways (is_written writes i) (ap (is_written writes) (sym here_is) ∙ not) w)) (eqb-true b f) (or_cases (is_written writes i) (b == f) here)
    at here rest (suc j) lt not =
        let same : i + 1 + j ≡ i + suc j = omega arith in
        rest j (omega (arith, lt)) (ap (is_written writes) same ∙ not)

by_kept : (i : ℕ) (writes : List (ℕ × ℕ)) (front bytes : List ℕ) → KeepsFrom i writes front bytes → keeps_from i writes front bytes ≡ true
by_kept i writes [] bytes k = refl
by_kept i writes (f ∷ front) [] k = absurd (omega (arith, k.no_shorter))
by_kept i writes (f ∷ front) (b ∷ bytes) k =
    let here_is : i + 0 ≡ i = omega arith in
    and_from (is_written writes i || b == f) (keeps_from (i + 1) writes front bytes)
    (⊎_elim (λ w. or_left (is_written writes i) (b == f) w)
    (λ w. or_right (is_written writes i) (b == f) (eq-eqb b f (k.kept 0 (omega arith) (ap (is_written writes) here_is ∙ w))))
    (cases_Bool (is_written writes i)))
    (by_kept (i + 1) writes front bytes (record {
      no_shorter = omega (arith, k.no_shorter);
      kept = λ j lt not.
          let same : i + suc j ≡ i + 1 + j = omega arith in
          k.kept (suc j) (omega (arith, lt)) (ap (is_written writes) same ∙ not);
    }))

pub left_by_test : (u : Unsynced) (bytes : List ℕ) → is_left u bytes ≡ true → IsLeft u bytes
left_by_test u bytes e =
    let k = by_test 0 u.writes u.front bytes e in
    record { no_shorter = k.no_shorter; kept = λ i lt not. let same : 0 + i ≡ i = omega arith in k.kept i lt (ap (is_written u.writes) same ∙ not) }

pub test_by_left : (u : Unsynced) (bytes : List ℕ) → IsLeft u bytes → is_left u bytes ≡ true
test_by_left u bytes left = by_kept 0 u.writes u.front bytes (record { no_shorter = left.no_shorter; kept = λ i lt not. let same : 0 + i ≡ i = omega arith in left.kept i lt (ap (is_written u.writes) (sym same) ∙ not) })
