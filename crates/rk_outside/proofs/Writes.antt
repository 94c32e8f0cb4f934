use Rattle.std.proofs.Common.{◌≡◌, ℕ, ◌+◌, ◌-◌, ◌<◌, true, false, ◌&&◌, ◌||◌, List, ◌∷◌, ◌++◌, length, drop, take, sym, ◌∙◌, ap, arith, ⊎_elim, get_or}
use Rattle.std.specs.Prelude.{nat_lt, nat_le}
use Rattle.std.proofs.lemmas.List.{length-append, length-take, length-take-le, length-drop, get_or-take, get_or-drop, get_or-append_right}
use Rattle.std.proofs.Math.ListN.{get_or-append}
use Rattle.std.proofs.lemmas.Bool.{lt-ltb, true≢false}
use Rattle.std.proofs.lemmas.Bool.{or_parts}
use Rattle.std.proofs.lemmas.Bool.Decides.{leb_tells}
use Rattle.rk_outside.specs.Disks.{Unsynced, IsLeft, is_written, after_write, overwritten}

before_it : (ws : List (ℕ × ℕ)) (at n i : ℕ) → i < at → is_written ws i ≡ false → is_written ((at, n) ∷ ws) i ≡ false
before_it ws at n i lt not = ⊎_elim (λ e. absurd (omega (arith, lt, e.1))) (λ e. ap (λ b. (b && nat_lt i (at + n)) || is_written ws i) e.0 ∙ not) (leb_tells at i)

-- an image after a write is an image before it, as far as the place that was written
pub front_image : (u : Unsynced) (at n : ℕ) (c : List ℕ) → IsLeft (after_write true at n u) c → IsLeft u (take at c ++ drop at u.front)
front_image u at n c left = record {
  no_shorter = omega (arith, left.no_shorter, length-append (take at c) (drop at u.front), length-take at c, length-drop at u.front);
  kept = λ i lt not. ⊎_elim
      (λ e.
      let whole : length (take at c) ≡ at = length-take-le at c (omega (arith, e.1, lt, left.no_shorter)) in
      get_or-append_right (take at c) (drop at u.front) at i 0 whole e.1 ∙ get_or-drop at u.front (i - at) 0 ∙ ap (λ k. get_or u.front k 0) (omega (arith, e.1)))
      (λ e.
      get_or-append (take at c) (drop at u.front) 0 i (omega (arith, e.1, lt, left.no_shorter, length-take at c))
      ∙ get_or-take at c i 0 e.1 ∙ left.kept i lt (before_it u.writes at n i e.1 not))
      (leb_tells at i);
}

-- what is read after a write that was done is one of the images
pub overwritten_image : (u : Unsynced) (at : ℕ) (bytes b : List ℕ) → IsLeft u b → IsLeft (after_write true at (length bytes) u) (overwritten b at bytes)
overwritten_image u at bytes b left =
    let front = take at b in
    let back = drop (at + length bytes) b in
    let whole = length-take at b in
    let two : length (front ++ bytes) ≡ length front + length bytes = length-append front bytes in
    record {
      no_shorter = omega (arith, left.no_shorter, whole, two, length-append (front ++ bytes) back, length-drop (at + length bytes) b);
      kept = λ i lt not.
          let parts = or_parts (nat_le at i && nat_lt i (at + length bytes)) (is_written u.writes i) not in
          ⊎_elim
          (λ e. ⊎_elim
          (λ k.
          get_or-append_right (front ++ bytes) back (at + length bytes) i 0 (omega (arith, two, whole, e.1, lt, left.no_shorter)) k.1
          ∙ get_or-drop (at + length bytes) b (i - (at + length bytes)) 0
          ∙ ap (λ j. get_or b j 0) (omega (arith, k.1)) ∙ left.kept i lt parts.1)
          (λ k. absurd (true≢false (sym (ap (λ x. x && nat_lt i (at + length bytes)) e.0 ∙ lt-ltb i (at + length bytes) k.1) ∙ parts.0)))
          (leb_tells (at + length bytes) i))
          (λ e.
          get_or-append (front ++ bytes) back 0 i (omega (arith, e.1, two, whole, lt, left.no_shorter))
          ∙ get_or-append front bytes 0 i (omega (arith, e.1, whole, lt, left.no_shorter))
          ∙ get_or-take at b i 0 e.1 ∙ left.kept i lt parts.1)
          (leb_tells at i);
    }
