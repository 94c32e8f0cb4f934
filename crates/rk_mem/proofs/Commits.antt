-- Entries that are numbered as they come.
use Rattle.std.proofs.Common.{◌≡◌, ◌⊎◌, ℕ, ◌+◌, ◌<◌, ◌≤◌, true, List, [], ◌∷◌, ◌++◌, length, refl, inl, inr, arith}
use Rattle.std.specs.Prelude.{nat_lt}
use Rattle.std.proofs.lemmas.Bool.{and_parts}
use Rattle.std.proofs.lemmas.Bool.Decides.{nat_tests}
use Rattle.std.proofs.lemmas.List.{length_push}
use Rattle.std.proofs.lemmas.List.Sorted.{IsPermutation-sym, Contains-permutation}
use Rattle.rk_model.specs.Lists.{Among}
use Rattle.rk_model.specs.Sources.{ascends}
use Rattle.rk_model.specs.declared.op.Entry.{Entry}
use Rattle.rk_model.proofs.Members.{among_append, among_contained, contains_among}
use Rattle.rk_mem.specs.Chunks.{NumbersRise}
use Rattle.rk_mem.specs.Memory.{Memory, IsGrown}

-- numbers that rise, from the first on
pub record FollowOn (first : ℕ) (es : List Entry) : Type 0 where
  pub rise : NumbersRise es
  pub within : (e : Entry) → Among e es → (first ≤ e.seq) × (e.seq < first + length es)

rise_more : (es : List Entry) (e : Entry) → NumbersRise es → ((f : Entry) → Among f es → f.seq < e.seq) → NumbersRise (es ++ e ∷ [])
rise_more [] e h below = refl
rise_more (x ∷ []) e h below = let less : x.seq < e.seq = below x (inl refl) in let is : nat_lt x.seq e.seq ≡ true = grind (arith, nat_tests) in rw is refl
rise_more (x ∷ y ∷ es) e h below =
    let parts = and_parts (nat_lt x.seq y.seq) (ascends (λ e f. nat_lt e.seq f.seq) (y ∷ es)) h in
    rw parts.0 (rise_more (y ∷ es) e parts.1 (λ f at. below f (inr at)))

pub follow_on_more : (first : ℕ) (es : List Entry) (e : Entry) → FollowOn first es → e.seq ≡ first + length es → FollowOn first (es ++ e ∷ [])
follow_on_more first es e so_far is = record {
  rise = rise_more es e so_far.rise (λ f at. let here : f.seq < first + length es = (so_far.within f at).1 in omega arith);
  within = λ f at. elim (among_append es (e ∷ []) f at) [ inl m ↦ before f m | inr m ↦ last f m ];
}
  where
    longer : length (es ++ e ∷ []) ≡ length es + 1
    longer = length_push es e

    before : (f : Entry) → Among f es → (first ≤ f.seq) × (f.seq < first + length (es ++ e ∷ []))
    before f m = let here : (first ≤ f.seq) × (f.seq < first + length es) = so_far.within f m in (here.0, omega (arith, longer, here.1))

    last : (f : Entry) → Among f (e ∷ []) → (first ≤ f.seq) × (f.seq < first + length (es ++ e ∷ []))
    last f (inl same) = rw same (omega (arith, is), omega (arith, is, longer))
    last f (inr m) = absurd m

-- the entries of a memtable that has grown are old or new
pub grown_among : (before : Memory) (entries : List Entry) (bytes : ℕ) (now : Memory) → IsGrown before entries bytes now → (e : Entry) → Among e now.entries → Among e before.entries ⊎ Among e entries
grown_among before entries bytes now grown e at_e =
    among_append before.entries entries e (among_contained (before.entries ++ entries) e (Contains-permutation now.entries (before.entries ++ entries) e (IsPermutation-sym (before.entries ++ entries) now.entries grown.same) (contains_among now.entries e at_e)))
