-- Numbers of files, rising.
use Rattle.std.proofs.Common.{◌≡◌, ℕ, zero, suc, ◌+◌, ◌≤◌, ◌<◌, List, [], ◌∷◌, length, Option, Some, None, get_or, ◌⊎◌, refl, sym, ◌∙◌, ap, subst, arith, inl, inr, ⊎_elim}
use Rattle.std.specs.Prelude.{IsSome}
use Rattle.std.specs.List.{AllByRecursion}
use Rattle.std.proofs.lemmas.Bool.Decides.{eqb_tells, leb_tells}
use Rattle.std.proofs.lemmas.Grind.{get_or_default_zero}
use Rattle.rk_outside.specs.Disks.{Files, FilesStayBut}
use Rattle.rk_outside.specs.Vaults.{NumbersRise, AreNumbers}
use Rattle.rk_opening.specs.Stores.{first_table}
use Rattle.rk_opening.specs.Openings.{IsLeast}

each_at : (P : ℕ → Type 0) (ns : List ℕ) → AllByRecursion P ns → (i : ℕ) → i < length ns → P (get_or ns i 0)
each_at P [] all i less = absurd (omega (arith, less))
each_at P (n ∷ ns) all zero less = all.0
each_at P (n ∷ ns) all (suc i) less = each_at P ns all.1 i (omega (arith, less))

rises : (ns : List ℕ) → NumbersRise ns → (i j : ℕ) → i < j → j < length ns → get_or ns i 0 < get_or ns j 0
rises [] rising i j below less = absurd (omega (arith, less))
rises (n ∷ ns) rising i zero below less = absurd (omega (arith, below))
rises (n ∷ ns) rising zero (suc j) below less = each_at (λ m. n < m) ns rising.0 j (omega (arith, less))
rises (n ∷ ns) rising (suc i) (suc j) below less = rises ns rising.1 i j (omega (arith, below)) (omega (arith, less))

-- none of the first so many numbers is a table's
abbrev pub NoneBefore : List ℕ → ℕ → Type 0
NoneBefore ns i = (j : ℕ) → j < i → get_or ns j 0 < first_table

-- where a file is there, its number has a place
pub place : (files : Files) (ns : List ℕ) (f : ℕ) → AreNumbers files ns → IsSome (files f) → (j : ℕ) × (j < length ns) × (get_or ns j 0 ≡ f)
place files ns f are there =
    let c = (are.there f).1 there in
    (c.0, c.1, sym (get_or_default_zero ns c.0 f c.1) ∙ c.2)

-- a file that isn't among the numbers isn't there
absent : (file : Option (List ℕ)) → (IsSome file → ⊥) → file ≡ None
absent None not = refl
absent (Some bytes) not = absurd (not refl)

pub none_is_there : (files : Files) (ns : List ℕ) (f : ℕ) → AreNumbers files ns → ((j : ℕ) → j < length ns → get_or ns j 0 ≡ f → ⊥) → files f ≡ None
none_is_there files ns f are not = absent (files f) (λ there. let p = place files ns f are there in not p.0 p.1 p.2)

-- the first that is a table's is the least one
pub least_found : (files : Files) (ns : List ℕ) (i : ℕ) → AreNumbers files ns → NoneBefore ns i → i < length ns → first_table ≤ get_or ns i 0 → IsLeast files (Some (get_or ns i 0))
least_found files ns i are none less above = record {
  is_table = above;
  there = (are.there (get_or ns i 0)).0 (i, less, get_or_default_zero ns i (get_or ns i 0) less);
  least = λ f table below. none_is_there files ns f are (λ j less' same. ⊎_elim
      (λ from. ⊎_elim
      (λ e. absurd (omega (arith, subst (λ k. get_or ns k 0 ≡ f) e.1 same, below)))
      (λ e. absurd (omega (arith, rises ns are.rising i j (omega (arith, from.1, e.1)) less', same, below)))
      (eqb_tells j i))
      (λ before. absurd (omega (arith, none j before.1, same, table)))
      (leb_tells i j));
}

pub none_found : (files : Files) (ns : List ℕ) → AreNumbers files ns → NoneBefore ns (length ns) → IsLeast files None
none_found files ns are none = λ f table. none_is_there files ns f are (λ j less same. absurd (omega (arith, none j less, same, table)))

-- Removal of the tables among the numbers, up to a place: such a file is as it was or none, and those that were passed are none
pub record RemovedUpTo (ns : List ℕ) (i : ℕ) (old new : Files) : Type 0 where
  pub some : (f : ℕ) → (new f ≡ old f) ⊎ (new f ≡ None)
  pub passed : (j : ℕ) → j < i → first_table ≤ get_or ns j 0 → new (get_or ns j 0) ≡ None

pub none_passed : (ns : List ℕ) (files : Files) → RemovedUpTo ns 0 files files
none_passed ns files = record { some = λ f. inl refl; passed = λ j less. absurd (omega (arith, less)) }

-- a number that is no table's is passed
pub passed_over : (ns : List ℕ) (i : ℕ) (old new : Files) → RemovedUpTo ns i old new → get_or ns i 0 < first_table → RemovedUpTo ns (i + 1) old new
passed_over ns i old new so_far below = record {
  some = so_far.some;
  passed = λ j less table. ⊎_elim
      (λ e. absurd (omega (arith, below, subst (λ k. first_table ≤ get_or ns k 0) e.1 table)))
      (λ e. so_far.passed j (omega (arith, less, e.1)) table)
      (eqb_tells j i);
}

-- a table was removed
pub one_more_removed : (ns : List ℕ) (i file : ℕ) (old mid new : Files) → get_or ns i 0 ≡ file → RemovedUpTo ns i old mid → new file ≡ None → FilesStayBut file mid new → RemovedUpTo ns (i + 1) old new
one_more_removed ns i file old mid new at so_far gone others = record {
  some = λ f. ⊎_elim
      (λ e. inr (subst (λ k. new k ≡ None) (sym e.1) gone))
      (λ e. ⊎_elim (λ same. inl (others f e.1 ∙ same)) (λ none. inr (others f e.1 ∙ none)) (so_far.some f))
      (eqb_tells f file);
  passed = λ j less table. ⊎_elim
      (λ e. subst (λ k. new k ≡ None) (sym (ap (λ k. get_or ns k 0) e.1 ∙ at)) gone)
      (λ e. ⊎_elim
      (λ same. subst (λ k. new k ≡ None) (sym same.1) gone)
      (λ other. others (get_or ns j 0) other.1 ∙ so_far.passed j (omega (arith, less, e.1)) table)
      (eqb_tells (get_or ns j 0) file))
      (eqb_tells j i);
}

pub all_removed : (ns : List ℕ) (old new : Files) → AreNumbers old ns → RemovedUpTo ns (length ns) old new → (f : ℕ) → first_table ≤ f → new f ≡ None
all_removed ns old new are removed f table = ⊎_elim (λ same. same ∙ was_none same) (λ none. none) (removed.some f)
  where
    was_none : new f ≡ old f → old f ≡ None
    was_none same = none_is_there old ns f are (λ j less at.
        some_is_none (old f) (subst IsSome (ap old at) (there j less)) (sym same ∙ subst (λ k. new k ≡ None) at (removed.passed j less (omega (arith, at, table)))))
      where
        there : (j : ℕ) → j < length ns → IsSome (old (get_or ns j 0))
        there j less = (are.there (get_or ns j 0)).0 (j, less, get_or_default_zero ns j (get_or ns j 0) less)

        some_is_none : (file : Option (List ℕ)) → IsSome file → file ≡ None → ⊥
        some_is_none None some none = absurd cc
        some_is_none (Some bytes) some none = absurd cc
