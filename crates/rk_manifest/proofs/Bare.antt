-- The bytes of a version without tables.
use Rattle.std.proofs.Common.{◌≡◌, ℕ, ◌-◌, ◌^◌, ◌<◌, ◌≤◌, true, eqb, List, [], ◌∷◌, ◌++◌, length, take, drop, replicate, Option, Some, None, refl, sym, ap, subst, ◌∙◌, append_assoc, eqb-true, arith}
use Rattle.std.specs.Prelude.{flat_map, ◌==◌}
use Rattle.std.specs.List.{list_all}
use Rattle.std.proofs.lemmas.Bool.{and_parts, and_from, false≢true, lt-ltb, le-leb, le-ltb}
use Rattle.std.proofs.lemmas.List.{take-append-drop, drop-drop, length-drop, take_all}
use Rattle.std.proofs.lemmas.List.Elements.{All-nil, All-cons}
use Rattle.byteorder.specs.Endian.{big_bytes, big_number}
use Rattle.byteorder.specs.Numbers.{big_number-reads_back}
use Rattle.rk_pieces.specs.Pieces.{big_at, is_empty, tested}
use Rattle.rk_manifest.specs.Versions.{Version, IsVersionOf, are_levels, has_no_tables, version_bytes, version_at, version_of, without_tables}
use Rattle.rk_manifest.specs.declared.types.TableDesc.{TableDesc}
use Rattle.rk_pieces.proofs.Fields.{IsBytes, rest_fits, big_takes, bind_some, bind_again, spells_8, tested_is}
use Rattle.rk_manifest.proofs.Spellings.{version_takes, version_again, bounds, HasSize, Few}

zeros : (bytes : List ℕ) → list_all (λ b. b == 0) bytes ≡ true → bytes ≡ replicate (length bytes) 0
zeros [] h = refl
zeros (b ∷ bytes) h =
    let parts = and_parts (eqb b 0) (list_all (λ x. x == 0) bytes) h in
    let here : b ≡ 0 = eqb-true b 0 parts.0 in
    rw (here, ← zeros bytes parts.1) refl

-- the bytes of a version without tables
pub record IsBare (bytes : List ℕ) (n f : ℕ) : Type 0 where
  pub spelled : bytes ≡ big_bytes 8 n ++ (big_bytes 8 f ++ replicate 16 0)
  pub least : 16 ≤ n
  pub next_file : n < 2 ^ 56
  pub flushed_upto : f < 2 ^ 56

pub bare_again : (bytes : List ℕ) (n f : ℕ) → IsBare bytes n f → version_of bytes ≡ Some (without_tables n f)
bare_again bytes n f h =
    let is : IsVersionOf bytes (without_tables n f) = record {
      is_version = and_from _ true (and_from _ true (and_from _ true (and_from _ _ (and_from _ _ (le-leb 16 n h.least) (lt-ltb n 72057594037927936 h.next_file)) (lt-ltb f 72057594037927936 h.flushed_upto)) refl) refl) refl;
      sizes = All-nil HasSize;
      few = All-cons Few [] ([] ∷ [] ∷ [] ∷ []) (omega arith) (All-cons Few [] ([] ∷ [] ∷ []) (omega arith) (All-cons Few [] ([] ∷ []) (omega arith) (All-cons Few [] [] (omega arith) (All-nil Few))));
      spelled = h.spelled;
    } in
    bind_again (version_at bytes) (without_tables n f) (tested has_no_tables) (version_again bytes (without_tables n f) is)

pub none_at : (levels : List (List TableDesc)) → are_levels levels ≡ true → is_empty (flat_map (λ level. level) levels) ≡ true → levels ≡ [] ∷ [] ∷ [] ∷ [] ∷ []
none_at [] e h = absurd (false≢true e)
none_at (a ∷ []) e h = absurd (false≢true e)
none_at (a ∷ b ∷ []) e h = absurd (false≢true e)
none_at (a ∷ b ∷ c ∷ []) e h = absurd (false≢true e)
none_at ([] ∷ [] ∷ [] ∷ [] ∷ []) e h = refl
none_at ([] ∷ [] ∷ [] ∷ (t ∷ d) ∷ []) e h = absurd (false≢true h)
none_at ([] ∷ [] ∷ (t ∷ c) ∷ d ∷ []) e h = absurd (false≢true h)
none_at ([] ∷ (t ∷ b) ∷ c ∷ d ∷ []) e h = absurd (false≢true h)
none_at ((t ∷ a) ∷ b ∷ c ∷ d ∷ []) e h = absurd (false≢true h)
none_at (a ∷ b ∷ c ∷ d ∷ x ∷ more) e h = absurd (false≢true e)

pub bare_takes : (bytes : List ℕ) (v : Version) → IsBytes bytes → version_of bytes ≡ Some v → IsBare bytes v.next_file v.flushed_upto × (v ≡ without_tables v.next_file v.flushed_upto)
bare_takes bytes v fits e =
    let r = bind_some (version_at bytes) (tested has_no_tables) v e in
    let t = tested_is has_no_tables r.0 v r.2 in
    let is = subst (IsVersionOf bytes) t.1 (version_takes bytes r.0 fits r.1) in
    let none = subst (λ u. has_no_tables u ≡ true) t.1 t.0 in
    let b = bounds v is.is_version in
    let levels : v.levels ≡ [] ∷ [] ∷ [] ∷ [] ∷ [] = none_at v.levels b.levels none in
    let same : v ≡ without_tables v.next_file v.flushed_upto = ap (λ ls. record { next_file = v.next_file; flushed_upto = v.flushed_upto; levels = ls }) levels in
    let bare : IsBare bytes v.next_file v.flushed_upto = record {
      spelled = is.spelled ∙ ap version_bytes same ∙ append_assoc (big_bytes 8 v.next_file) (big_bytes 8 v.flushed_upto) (replicate 16 0);
      least = b.least;
      next_file = b.next_file;
      flushed_upto = b.flushed_upto;
    } in
    (bare, same)

-- bytes that are as long, with zeros behind the numbers
pub record IsShaped (bytes : List ℕ) : Type 0 where
  pub len : length bytes ≡ 32
  pub zeros : list_all (λ b. b == 0) (drop 16 bytes) ≡ true

front_spelled : (xs : List ℕ) → IsBytes xs → 8 ≤ length xs → xs ≡ big_bytes 8 (big_number 8 xs) ++ drop 8 xs
front_spelled xs ok long =
    let read : big_at 8 xs ≡ Some (big_number 8 xs, drop 8 xs) = rw (le-ltb (length xs) 8 long) refl in
    (big_takes 8 spells_8 xs (big_number 8 xs) (drop 8 xs) ok read).0

pub shaped : (bytes : List ℕ) → IsBytes bytes → IsShaped bytes → bytes ≡ big_bytes 8 (big_number 8 bytes) ++ (big_bytes 8 (big_number 8 (drop 8 bytes)) ++ replicate 16 0)
shaped bytes fits h =
    let tail_len : length (drop 16 bytes) ≡ 16 = omega (arith, length-drop 16 bytes, h.len) in
    let tail : drop 16 bytes ≡ replicate 16 0 = zeros (drop 16 bytes) h.zeros ∙ ap (λ (k : ℕ). replicate k 0) tail_len in
    let second_fits = rest_fits bytes (take 8 bytes) (drop 8 bytes) fits (sym (take-append-drop 8 bytes)) in
    let first = front_spelled bytes fits (omega (arith, h.len)) in
    let second = front_spelled (drop 8 bytes) second_fits (omega (arith, length-drop 8 bytes, h.len)) in
    let rest : drop 8 (drop 8 bytes) ≡ replicate 16 0 = drop-drop 8 8 bytes ∙ tail in
    first ∙ ap (λ (t : List ℕ). big_bytes 8 (big_number 8 bytes) ++ t) (second ∙ ap (λ (t : List ℕ). big_bytes 8 (big_number 8 (drop 8 bytes)) ++ t) rest)

pub bare_shape : (bytes : List ℕ) (n f : ℕ) → IsBare bytes n f → IsShaped bytes × (big_number 8 bytes ≡ n) × (big_number 8 (drop 8 bytes) ≡ f)
bare_shape bytes n f h =
    subst (λ xs. IsShaped xs × (big_number 8 xs ≡ n) × (big_number 8 (drop 8 xs) ≡ f)) (sym h.spelled) (
      record { len = refl; zeros = refl },
      big_number-reads_back 8 n (big_bytes 8 f ++ replicate 16 0) (omega (arith, h.next_file)),
      big_number-reads_back 8 f (replicate 16 0) (omega (arith, h.flushed_upto)),
    )

-- the bytes of a range to the end
pub rest_of : (n : ℕ) (bytes : List ℕ) → take (length bytes - n) (drop n bytes) ≡ drop n bytes
rest_of n bytes = take_all (length bytes - n) (drop n bytes) (omega (arith, length-drop n bytes))

pub none_from : {A : Type 0} (o : Option A) → ((a : A) → o ≡ Some a → ⊥) → None ≡ o
none_from None h = refl
none_from (Some a) h = absurd (h a refl)
