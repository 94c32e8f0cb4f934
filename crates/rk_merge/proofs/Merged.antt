-- A union is sorted where its parts are and none of their items tie, and a sorted list is told by its items.
use Rattle.std.proofs.Common.{◌≡◌, Bool, true, false, List, [], ◌∷◌, refl, ap, sym, ◌∙◌, inl, inr, cond, Ordering, is_lt, is_eq}
use Rattle.std.proofs.lemmas.Bool.{true_from_ne_false, true≢false}
use Rattle.std.specs.List.{list_all}
use Rattle.std.specs.Cmp.{IsTotalOrder}
use Rattle.rk_key.proofs.TotalOrders.{lt_itself, lt_back, apart}
use Rattle.rk_model.proofs.Orders.{entry_total}
use Rattle.rk_model.specs.Covers.{is_point}
use Rattle.rk_model.specs.Sources.{ascends}
use Rattle.rk_merge.specs.Unions.{Among, AmongAny, insert_by, merge, union}
use Rattle.rk_merge.specs.Laws.{union_of, UnionIsSorted, UnionHasTheirs, SameEntriesSameList, OrderDoesNotMatter}
use Rattle.rk_model.proofs.Members.{Ascending, all_among, every_from, every_gives, same_ascending}
use Rattle.rk_merge.proofs.Lists.{and_parts, and_true, ascends_tail, ascends_first, ascends_cons}
use Rattle.rk_merge.proofs.Unions.{Same, insert_has, merge_has}

module _ {A : Type 0} {cmp : A → A → Ordering} (o : IsTotalOrder cmp) where
  abbrev Before : A → A → Bool
  Before a b = is_lt (cmp a b)

  -- an item comes before those of a list that it does not come behind
  abbrev Comparable : A → List A → Type 0
  Comparable x ys = (z : A) → Among z ys → is_lt (cmp z x) ≡ false → is_lt (cmp x z) ≡ true

  insert_sorted : (x : A) (ys : List A) → ascends Before ys ≡ true → Comparable x ys → ascends Before (insert_by Before x ys) ≡ true
  insert_sorted x [] up apart = refl
  insert_sorted x (y ∷ ys) up apart = go (is_lt (cmp y x)) refl (insert_sorted x ys (ascends_tail Before y ys up) (λ w m. apart w (inr m)))
    where
      go : (b : Bool) → is_lt (cmp y x) ≡ b → ascends Before (insert_by Before x ys) ≡ true → ascends Before (cond b (y ∷ insert_by Before x ys) (x ∷ y ∷ ys)) ≡ true
      go true e ih = ascends_cons o y _ ih (λ z m. elim ((insert_has Before x ys z).0 m) [ inl q ↦ ap (λ w. is_lt (cmp y w)) q ∙ e | inr n ↦ ascends_first o y ys up z n ])
      go false e ih = and_true _ _ (apart y (inl refl) e) up

  pub merge_sorted : (xs ys : List A) → ascends Before xs ≡ true → ascends Before ys ≡ true → ((x z : A) → Among x xs → Among z ys → is_eq (cmp x z) ≡ false) → ascends Before (merge Before xs ys) ≡ true
  merge_sorted [] ys up up' none = up'
  merge_sorted (x ∷ xs) ys up up' none =
      insert_sorted x (merge Before xs ys) (merge_sorted xs ys (ascends_tail Before x xs up) up' (λ a z m n. none a z (inr m) n)) (λ z m not_behind.
      elim ((merge_has Before xs ys z).0 m) [
        | inl n ↦ ascends_first o x xs up z n
        | inr n ↦ true_from_ne_false (is_lt (cmp x z)) (λ e. true≢false (sym (apart o x z (none x z (inl refl) n) e) ∙ not_behind))
      ])

  strictly : (xs : List A) → ascends Before xs ≡ true → Ascending Before xs
  strictly [] up = tt
  strictly (x ∷ xs) up = (all_among _ xs (ascends_first o x xs up), strictly xs (ascends_tail Before x xs up))

-- ---- points

merge_all : {A : Type 0} (before : A → A → Bool) (p : A → Bool) (xs ys : List A) → list_all p xs ≡ true → list_all p ys ≡ true → list_all p (merge before xs ys) ≡ true
merge_all before p xs ys all all' = every_from p _ (λ z m. elim ((merge_has before xs ys z).0 m) [ inl n ↦ every_gives p xs z all n | inr n ↦ every_gives p ys z all' n ])

theirs : {A : Type 0} (before : A → A → Bool) (xss : List (List A)) (z : A) → Same (Among z (union before xss)) (AmongAny z xss)
theirs before [] z = (λ m. m, λ m. m)
theirs before (xs ∷ xss) z =
    let first = merge_has before xs (union before xss) z in
    let rest = theirs before xss z in (
      λ m. elim (first.0 m) [ inl n ↦ inl n | inr n ↦ inr (rest.0 n) ],
      λ m. first.1 (elim m [ inl n ↦ inl n | inr n ↦ inr (rest.1 n) ]),
    )

pub union_has_theirs : UnionHasTheirs
union_has_theirs ess e = theirs _ ess e

pub union_is_sorted : UnionIsSorted
union_is_sorted [] all none = refl
union_is_sorted (es ∷ ess) all none =
    let mine = and_parts (list_all (λ e. is_point e.op) es) _ all.0 in
    let others = and_parts (list_all (λ e. is_point e.op) (union_of ess)) _ (union_is_sorted ess all.1 none.1) in
    and_true _ _ (merge_all _ (λ e. is_point e.op) es (union_of ess) mine.0 others.0)
    (merge_sorted entry_total es (union_of ess) mine.1 others.1 (λ e f m n. none.0 e f m ((theirs _ ess f).0 n)))

pub same_entries_same_list : SameEntriesSameList
same_entries_same_list es fs up up' to from =
    same_ascending _ (lt_back entry_total) (lt_itself entry_total) es fs (strictly entry_total es (and_parts _ _ up).1) (strictly entry_total fs (and_parts _ _ up').1) to from

pub order_does_not_matter : OrderDoesNotMatter
order_does_not_matter ess fss up up' to from =
    same_entries_same_list (union_of ess) (union_of fss) up up' (λ e m. (theirs _ fss e).1 (to e ((theirs _ ess e).0 m))) (λ e m. (theirs _ ess e).1 (from e ((theirs _ fss e).0 m)))
