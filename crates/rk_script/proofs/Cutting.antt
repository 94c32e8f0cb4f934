-- The first line of some bytes, cut off at the first line end.
use Rattle.std.proofs.Common.{◌≡◌, ℕ, ◌+◌, ◌-◌, ◌<◌, ◌≤◌, nat_lt, cond, List, [], ◌∷◌, length, take, drop, Option, Some, None, refl, sym, ap, ◌∙◌, arith}
use Rattle.std.proofs.lemmas.Bool.Decides.{nat_tests}
use Rattle.std.proofs.lemmas.List.{take_all, drop_all, length-drop}
use Rattle.std.proofs.lemmas.List.Quantifiers.{position-Some}
use Rattle.std.proofs.lemmas.List.Splits.{slice_split_first, slice_split_none}
use Rattle.std.proofs.lemmas.List.Sums.{position_or_len_is, fails_before_first}
use Rattle.std.specs.List.{position, position_or_len}
use Rattle.rk_script.specs.Lines.{first_line, behind_line}
use Rattle.rk_script.specs.Script.{Names, read_from}
use Rattle.rk_script.specs.Words.{lines, ends_line}

end_is : (bytes : List ℕ) (end : ℕ) → position ends_line bytes ≡ Some end → (position_or_len ends_line bytes ≡ end) × (end < length bytes)
end_is bytes end is =
    let here = position-Some ends_line bytes end 0 is in
    (position_or_len_is ends_line bytes end 0 (omega arith) here.2 (λ _. here.1), here.0)

no_end : (n : ℕ) (bytes : List ℕ) → cond (nat_lt n (length bytes)) (Some n) None ≡ None → length bytes ≤ n
no_end n bytes is = grind (arith, nat_tests)

pub before_end : (bytes : List ℕ) (end : ℕ) → position ends_line bytes ≡ Some end → take end bytes ≡ first_line bytes
before_end bytes end is = ap (λ n. take n bytes) (sym (end_is bytes end is).0)

pub behind_end : (bytes : List ℕ) (end : ℕ) → position ends_line bytes ≡ Some end → take (length bytes - (end + 1)) (drop (end + 1) bytes) ≡ behind_line bytes
behind_end bytes end is =
    take_all (length bytes - (end + 1)) (drop (end + 1) bytes) (omega (arith, length-drop (end + 1) bytes)) ∙ ap (λ n. drop (n + 1) bytes) (sym (end_is bytes end is).0)

pub whole : (bytes : List ℕ) → position ends_line bytes ≡ None → bytes ≡ first_line bytes
whole bytes is = sym (take_all _ bytes (no_end _ bytes is))

pub nothing_behind : (bytes : List ℕ) → position ends_line bytes ≡ None → [] ≡ behind_line bytes
nothing_behind bytes is =
    let over = no_end (position_or_len ends_line bytes) bytes is in
    sym (drop_all _ bytes (omega arith))

pub behind_is_no_longer : (bytes : List ℕ) → length (behind_line bytes) ≤ length bytes
behind_is_no_longer bytes = omega (arith, length-drop (position_or_len ends_line bytes + 1) bytes)

-- What is read is the same, whether or not an empty piece follows a last line that has no end.
pub cuts : (n : ℕ) (names : Names) (bytes : List ℕ) → read_from n names (lines bytes) ≡ read_from n names (first_line bytes ∷ lines (behind_line bytes))
cuts n names bytes = at (position ends_line bytes) refl where
  at : (p : Option ℕ) → position ends_line bytes ≡ p → read_from n names (lines bytes) ≡ read_from n names (first_line bytes ∷ lines (behind_line bytes))
  at (Some end) is =
      let here = end_is bytes end is in
      ap (read_from n names) (slice_split_first ends_line bytes 0 (omega arith))
  at None is =
      let over = no_end (position_or_len ends_line bytes) bytes is in
      ap (read_from n names) (slice_split_none ends_line bytes (λ k d within. fails_before_first ends_line bytes k d (omega arith)))
      ∙ (ap (λ line. read_from n names (line ∷ lines [])) (whole bytes is) ∙ ap (λ rest. read_from n names (first_line bytes ∷ lines rest)) (nothing_behind bytes is))
