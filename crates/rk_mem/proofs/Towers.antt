-- Chunks that stand one on the other.
use Rattle.std.proofs.Common.{◌≡◌, ◌+◌, ◌*◌, ◌^◌, ◌<◌, ◌≤◌, List, [], ◌∷◌, ◌++◌, length, refl, ap, subst, ◌∙◌, inl, inr, arith}
use Rattle.std.specs.List.{AllByRecursion}
use Rattle.std.specs.List.Sorted.{IsPermutation}
use Rattle.std.proofs.Math.Nat.{pow-succ'}
use Rattle.std.proofs.lemmas.Grind.{flat_map-append}
use Rattle.std.proofs.lemmas.List.{append_assoc, append-nil, length-append}
use Rattle.std.proofs.lemmas.List.Sorted.{IsPermutation-sym, IsPermutation-trans, IsPermutation-append_right, Contains-permutation, length_permutation}
use Rattle.rk_model.specs.Lists.{Among}
use Rattle.rk_model.specs.declared.op.Entry.{Entry}
use Rattle.rk_model.proofs.Lists.{all_weaker}
use Rattle.rk_model.proofs.Members.{among_all, all_among, among_append, among_left, among_right, among_flat_map, among_contained, contains_among}
use Rattle.rk_mem.specs.Chunks.{AreNewer, IsArranged, IsChunkOf}
use Rattle.rk_mem.specs.Memory.{EachTwo, entries_of, AreChunksOf}
use Rattle.rk_mem.specs.Towers.{IsAbove, IsFilled, IsTower, IsNewest}

-- a list and one more item
all_front : {A : Type 0} (P : A → Type 0) (xs ys : List A) → AllByRecursion P (xs ++ ys) → AllByRecursion P xs
all_front P xs ys h = all_among P xs (λ a m. among_all P (xs ++ ys) a h (among_left xs ys a m))

all_end : {A : Type 0} (P : A → Type 0) (xs : List A) (y : A) → AllByRecursion P (xs ++ y ∷ []) → P y
all_end P xs y h = among_all P (xs ++ y ∷ []) y h (among_right xs (y ∷ []) y (inl refl))

all_more : {A : Type 0} (P : A → Type 0) (xs : List A) (y : A) → AllByRecursion P xs → P y → AllByRecursion P (xs ++ y ∷ [])
all_more P [] y h k = (k, tt)
all_more P (x ∷ xs) y h k = (h.0, all_more P xs y h.1 k)

each_front : {A : Type 0} (R : A → A → Type 0) (xs : List A) (y : A) → EachTwo R (xs ++ y ∷ []) → EachTwo R xs
each_front R [] y h = tt
each_front R (x ∷ xs) y h = (all_front (R x) xs (y ∷ []) h.0, each_front R xs y h.1)

each_end : {A : Type 0} (R : A → A → Type 0) (xs : List A) (y : A) → EachTwo R (xs ++ y ∷ []) → AllByRecursion (λ x. R x y) xs
each_end R [] y h = tt
each_end R (x ∷ xs) y h = (all_end (R x) xs y h.0, each_end R xs y h.1)

each_more : {A : Type 0} (R : A → A → Type 0) (xs : List A) (y : A) → EachTwo R xs → AllByRecursion (λ x. R x y) xs → EachTwo R (xs ++ y ∷ [])
each_more R [] y h k = (tt, tt)
each_more R (x ∷ xs) y h k = (all_more (R x) xs y h.0 k.0, each_more R xs y h.1 k.1)

each_weaker : {A : Type 0} (R S : A → A → Type 0) → ((x y : A) → R x y → S x y) → (xs : List A) → EachTwo R xs → EachTwo S xs
each_weaker R S w [] h = tt
each_weaker R S w (x ∷ xs) h = (all_weaker (R x) (S x) (w x) xs h.0, each_weaker R S w xs h.1)

pub entries_more : (chunks : List (List Entry)) (chunk : List Entry) → entries_of (chunks ++ chunk ∷ []) ≡ entries_of chunks ++ chunk
entries_more chunks chunk = flat_map-append (λ c. c) chunks (chunk ∷ []) ∙ ap (λ l. entries_of chunks ++ l) (append-nil chunk)

-- a tower is no higher than its entries have binary digits
tall : (chunk : List Entry) (chunks : List (List Entry)) → AllByRecursion IsFilled (chunk ∷ chunks) → EachTwo IsAbove (chunk ∷ chunks) → 2 ^ length chunks ≤ length chunk
tall chunk [] filled above = omega (arith, filled.0.1)
tall chunk (next ∷ chunks) filled above =
    let ih : 2 ^ length chunks ≤ length next = tall next chunks filled.1 above.1 in
    let half : 2 * length next ≤ length chunk = above.0.0.1 in
    rw (pow-succ' 2 (length chunks)) (omega arith)

few : (chunks : List (List Entry)) → AllByRecursion IsFilled chunks → EachTwo IsAbove chunks → 2 ^ length chunks ≤ length (entries_of chunks) + 1
few [] filled above = omega arith
few (chunk ∷ chunks) filled above =
    let ih : 2 ^ length chunks ≤ length (entries_of chunks) + 1 = few chunks filled.1 above.1 in
    let here : 2 ^ length chunks ≤ length chunk = tall chunk chunks filled above in
    rw (pow-succ' 2 (length chunks), length-append chunk (entries_of chunks)) (omega arith)

pub tower_chunks : (chunks : List (List Entry)) → IsTower chunks → AreChunksOf (entries_of chunks) chunks
tower_chunks chunks tower = record {
  all = refl;
  arranged = all_weaker IsFilled IsArranged (λ chunk filled. filled.0) chunks tower.filled;
  newer = each_weaker IsAbove AreNewer (λ below above h. h.0) chunks tower.above;
  few = few chunks tower.filled tower.above;
}

-- the newest chunk on top
pub set_on : (chunks : List (List Entry)) (newest : List Entry) → IsTower chunks → IsNewest chunks newest → AllByRecursion (λ chunk. 2 * length newest ≤ length chunk) chunks → IsTower (chunks ++ newest ∷ [])
set_on chunks newest tower new long = record {
  filled = all_more IsFilled chunks newest tower.filled new.filled;
  above = each_more IsAbove chunks newest tower.above
      (all_among (λ chunk. IsAbove chunk newest) chunks (λ chunk m. (among_all (λ chunk. AreNewer chunk newest) chunks chunk new.newer m, among_all (λ chunk. 2 * length newest ≤ length chunk) chunks chunk long m)));
}

pub set_on_longer : (below : List (List Entry)) (older newest : List Entry) → IsTower (below ++ older ∷ []) → IsNewest (below ++ older ∷ []) newest → 2 * length newest ≤ length older → IsTower ((below ++ older ∷ []) ++ newest ∷ [])
set_on_longer below older newest tower new long =
    set_on (below ++ older ∷ []) newest tower new (all_more (λ chunk. 2 * length newest ≤ length chunk) below older
    (all_weaker (λ chunk. IsAbove chunk older) (λ chunk. 2 * length newest ≤ length chunk) (λ chunk h. let twice : 2 * length older ≤ length chunk = h.1 in omega arith) below (each_end IsAbove below older tower.above)) long)

-- while chunks are merged: what is left of a tower, and the newest chunk, have the entries that the two had
pub record Pile (start : List (List Entry)) (first : List Entry) (chunks : List (List Entry)) (newest : List Entry) : Type 0 where
  pub tower : IsTower chunks
  pub new : IsNewest chunks newest
  pub same : IsPermutation (entries_of start ++ first) (entries_of chunks ++ newest)

same_newer : (old es fs : List Entry) → IsPermutation es fs → AreNewer old es → AreNewer old fs
same_newer old es fs same newer e f at_e at_f = newer e f at_e (among_contained es f (Contains-permutation fs es f (IsPermutation-sym es fs same) (contains_among fs f at_f)))

newer_both : (old es fs : List Entry) → AreNewer old es → AreNewer old fs → AreNewer old (es ++ fs)
newer_both old es fs h k e f at_e at_f = elim (among_append es fs f at_f) [ inl m ↦ h e f at_e m | inr m ↦ k e f at_e m ]

filled_same : (es chunk : List Entry) → 0 < length es → IsChunkOf es chunk → IsFilled chunk
filled_same es chunk some is = (is.arranged, let len : length chunk ≡ length es = length_permutation es chunk is.same in omega arith)

pub last_is_older : (below : List (List Entry)) (older newest : List Entry) → IsNewest (below ++ older ∷ []) newest → AreNewer older newest
last_is_older below older newest new = all_end (λ chunk. AreNewer chunk newest) below older new.newer

pub merged_pile : (start : List (List Entry)) (first : List Entry) (below : List (List Entry)) (older newest merged : List Entry) → Pile start first (below ++ older ∷ []) newest → IsChunkOf (older ++ newest) merged → Pile start first below merged
merged_pile start first below older newest merged pile is = record {
  tower = record { filled = all_front IsFilled below (older ∷ []) pile.tower.filled; above = each_front IsAbove below older pile.tower.above };
  new = record { filled = filled_same (older ++ newest) merged some is; newer = all_among (λ chunk. AreNewer chunk merged) below is_older };
  same = IsPermutation-trans (entries_of start ++ first) (entries_of below ++ (older ++ newest)) (entries_of below ++ merged) (subst (IsPermutation (entries_of start ++ first)) regrouped pile.same) (IsPermutation-append_right (entries_of below) (older ++ newest) merged is.same);
}
  where
    some : 0 < length (older ++ newest)
    some = let full : 0 < length newest = pile.new.filled.1 in omega (arith, length-append older newest)

    is_older : (chunk : List Entry) → Among chunk below → AreNewer chunk merged
    is_older chunk m =
        let by_older : AreNewer chunk older = (among_all (λ c. IsAbove c older) below chunk (each_end IsAbove below older pile.tower.above) m).0 in
        let by_newest : AreNewer chunk newest = among_all (λ c. AreNewer c newest) (below ++ older ∷ []) chunk pile.new.newer (among_left below (older ∷ []) chunk m) in
        same_newer chunk (older ++ newest) merged is.same (newer_both chunk older newest by_older by_newest)

    regrouped : entries_of (below ++ older ∷ []) ++ newest ≡ entries_of below ++ (older ++ newest)
    regrouped = ap (λ l. l ++ newest) (entries_more below older) ∙ append_assoc (entries_of below) older newest

-- a chunk of entries that are newer than all of a tower
pub is_newest : (chunks : List (List Entry)) (entries chunk : List Entry) → AreNewer (entries_of chunks) entries → 0 < length entries → IsChunkOf entries chunk → IsNewest chunks chunk
is_newest chunks entries chunk newer some is = record {
  filled = filled_same entries chunk some is;
  newer = all_among (λ c. AreNewer c chunk) chunks (λ c m. same_newer c entries chunk is.same (λ e f at_e at_f. newer e f (among_flat_map (λ c. c) chunks c e m at_e) at_f));
}
