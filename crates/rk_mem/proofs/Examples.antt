-- Worked examples: what a chunk of a few entries is, and how many chunks there may be.
use Rattle.std.proofs.Common.{◌≡◌, ℕ, ◌+◌, ◌^◌, ◌≤◌, List, [], ◌∷◌, length, refl, lit<, inl, inr, arith}
use Rattle.std.specs.Prelude.{codes}
use Rattle.std.proofs.lemmas.List.Sorted.{IsPermutation-swap, IsPermutation-trans}
use Rattle.rk_model.specs.declared.op.Op.{Op}
use Rattle.rk_model.specs.declared.op.Op.TheVariants.{Put, Del, RangeDel}
use Rattle.rk_model.specs.declared.op.Entry.{Entry}
use Rattle.rk_mem.specs.Chunks.{NumbersRise, AreNewer, IsChunkOf}
use Rattle.rk_mem.specs.Memory.{AreChunksOf}

abbrev entry : ℕ → Op → Entry
entry n op = record { op = op; seq = n }

abbrev put_b : Entry
put_b = entry 1 (Put (codes "b") (codes "x"))

abbrev delete : Entry
delete = entry 2 (RangeDel (codes "a") (codes "c"))

abbrev put_a : Entry
put_a = entry 3 (Put (codes "a") (codes "y"))

abbrev delete_b : Entry
delete_b = entry 4 (Del (codes "b"))

numbers_rise : NumbersRise (put_b ∷ delete ∷ put_a ∷ delete_b ∷ [])
numbers_rise = refl

points_in_order_and_then_range_entries : IsChunkOf (put_b ∷ delete ∷ put_a ∷ delete_b ∷ []) (put_a ∷ delete_b ∷ put_b ∷ delete ∷ [])
points_in_order_and_then_range_entries = record {
  same =
      IsPermutation-trans _ (put_a ∷ delete ∷ put_b ∷ delete_b ∷ []) _ (IsPermutation-swap _ _ 0 2 (lit< tt) (lit< tt) refl)
      (IsPermutation-swap _ _ 1 3 (lit< tt) (lit< tt) refl);
  arranged = record { parts = refl; in_order = refl };
  ranges = refl;
}

put_a_is_newer : AreNewer (put_b ∷ delete ∷ []) (put_a ∷ [])
put_a_is_newer e f (inl p) (inl q) = rw (p, q) (lit< tt)
put_a_is_newer e f (inr (inl p)) (inl q) = rw (p, q) (lit< tt)
put_a_is_newer e f (inr (inr m)) (inl q) = absurd m
put_a_is_newer e f at_e (inr m) = absurd m

three_entries_in_two_chunks : AreChunksOf (put_b ∷ delete ∷ put_a ∷ []) ((put_b ∷ delete ∷ []) ∷ (put_a ∷ []) ∷ [])
three_entries_in_two_chunks = record {
  all = refl;
  arranged = (record { parts = refl; in_order = refl }, (record { parts = refl; in_order = refl }, tt));
  newer = ((put_a_is_newer, tt), (tt, tt));
  few = omega arith;
}

three_entries_are_in_no_three_chunks : (es a b c : List Entry) → length es ≡ 3 → AreChunksOf es (a ∷ b ∷ c ∷ []) → ⊥
three_entries_are_in_no_three_chunks es a b c three are = let few : 2 ^ 3 ≤ length es + 1 = are.few in omega arith
