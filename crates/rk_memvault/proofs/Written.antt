-- Writing into the room of a file, seen by the file's bytes.
use Rattle.std.proofs.Common.{◌≡◌, ℕ, ◌+◌, min, leb, true, false, ◌<◌, ◌⊎◌, inl, inr, ◌-◌, ◌≤◌, max, List, [], ◌++◌, length, take, drop, Option, Some, None, sym, ◌∙◌, ap, arith, ⊎_elim}
use Rattle.std.specs.Prelude.{IfSome, option_map, unwrap_or}
use Rattle.std.proofs.lemmas.List.{length-append, length-take, length-take-le, take-take, drop-take, drop_all, take_min, drop_min, drop-drop}
use Rattle.std.proofs.Math.Seq.{take-append-add}
use Rattle.std.proofs.lemmas.Bool.Decides.{leb_tells}
use Rattle.rk_outside.specs.Disks.{overwritten, done, Write}

rest : (n e : ℕ) (items : List ℕ) → drop e (take n items) ≡ take (n - e) (drop e items)
rest n e items = ⊎_elim
    (λ le. let sum : n ≡ e + (n - e) = omega (arith, le.1) in ap (λ k. drop e (take k items)) sum ∙ drop-take e (n - e) items)
    (λ lt.
    let none : n - e ≡ 0 = omega (arith, lt.1) in
    drop_all e (take n items) (omega (arith, lt.1, length-take n items)) ∙ sym (ap (λ k. take k (drop e items)) none))
    (leb_tells e n)

written_in : (n at : ℕ) (items bytes : List ℕ) → at ≤ n → n ≤ length items → take (max n (at + length bytes)) (overwritten items at bytes) ≡ overwritten (take n items) at bytes
written_in n at items bytes le fits =
    let e = at + length bytes in
    let front = take at items ++ bytes in
    let two : length front ≡ e = length-append (take at items) bytes ∙ ap (λ k. k + length bytes) (length-take-le at items (omega (arith, le, fits))) in
    let count : max n e ≡ length front + (n - e) = omega (arith, two) in
    ap (λ k. take k (front ++ drop e items)) count ∙ take-append-add front (drop e items) (n - e)
    ∙ ap (λ b. front ++ b) (sym (rest n e items)) ∙ ap (λ a. a ++ bytes ++ drop e (take n items)) (sym (take-take at n items le))

pub written : (len : Option ℕ) (at : ℕ) (items bytes : List ℕ) → IfSome len (λ n. n ≤ length items) → at ≤ length (unwrap_or (option_map (λ n. take n items) len) []) →
    Some (take (max (unwrap_or len 0) (at + length bytes)) (overwritten items at bytes)) ≡ done (Write at bytes) (option_map (λ n. take n items) len)
written None at items bytes fits le = ap Some (written_in 0 at items bytes le (omega arith))
written (Some n) at items bytes fits le = ap Some (written_in n at items bytes (omega (arith, le, length-take n items)) fits)

-- bytes over others, put together of three parts
pub rebuilt : (at : ℕ) (old bytes front rest back : List ℕ) → front ≡ take (min at (length old)) old → rest ≡ drop (min at (length old)) old → back ≡ drop (min (length bytes) (length rest)) rest →
    front ++ bytes ++ back ≡ overwritten old at bytes
rebuilt at old bytes front rest back front_is rest_is back_is =
    ap (λ f. f ++ bytes ++ back) (front_is ∙ take_min at old)
    ∙ ap (λ b. take at old ++ bytes ++ b) (back_is ∙ drop_min (length bytes) rest ∙ ap (drop (length bytes)) rest_is ∙ drop-drop (length bytes) (min at (length old)) old ∙ past (leb_tells at (length old)))
  where
    past : ((leb at (length old) ≡ true) × (at ≤ length old)) ⊎ ((leb at (length old) ≡ false) × (length old < at)) → drop (min at (length old) + length bytes) old ≡ drop (at + length bytes) old
    past (inl e) = let same : min at (length old) + length bytes ≡ at + length bytes = omega (arith, e.1) in ap (λ n. drop n old) same
    past (inr e) = drop_all (min at (length old) + length bytes) old (omega (arith, e.1)) ∙ sym (drop_all (at + length bytes) old (omega (arith, e.1)))
