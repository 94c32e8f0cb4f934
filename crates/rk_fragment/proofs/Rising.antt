-- The written ends rise, and have each start and end.
use Rattle.std.proofs.Common.{◌≡◌, ℕ, Bool, true, false, cond, List, [], ◌∷◌, refl, sym, ◌∙◌, ◌⊎◌, inl, inr}
use Rattle.std.specs.declared.cmp.Ordering.{Ordering}
use Rattle.std.specs.declared.cmp.Ordering.TheVariants.{Less, Equal, Greater}
use Rattle.std.specs.List.{AllByRecursion, flat_map}
use Rattle.std.specs.Ordering.{is_lt, is_eq, match_ordering}
use Rattle.std.specs.BTreeSet as set
use Rattle.rk_key.specs.Keys.{key_cmp}
use Rattle.rk_model.specs.Spans.{op_ends, insert_key, sorted_keys, KeysRise}
use Rattle.rk_model.specs.declared.op.Entry.{Entry}
use Rattle.rk_model.specs.Lists.{Among}
use Rattle.rk_model.proofs.Lists.{all_weaker}
use Rattle.rk_model.proofs.Members.{all_among, among_left, among_right}
use Rattle.rk_model.proofs.SortedKeys.{among_sorted}
use Rattle.rk_fragment.specs.Fragments.{written}
use Rattle.rk_fragment.proofs.Order.{lt, lt_trans, apart, alike}

-- an insert into a set of keys is the insert of the definition
pub insert_is : (x : List ℕ) (ks : List (List ℕ)) → set.insert_key key_cmp ks x ≡ insert_key x ks
insert_is x [] = refl
insert_is x (y ∷ ys) = rw (insert_is x ys) (go (key_cmp x y))
  where
    go : (o : Ordering) → match_ordering o (x ∷ y ∷ ys) (y ∷ ys) (y ∷ insert_key x ys) ≡ cond (is_lt o) (x ∷ y ∷ ys) (cond (is_eq o) (y ∷ ys) (y ∷ insert_key x ys))
    go Less = refl
    go Equal = refl
    go Greater = refl

all_insert : (P : List ℕ → Type 0) (x : List ℕ) (ks : List (List ℕ)) → P x → AllByRecursion P ks → AllByRecursion P (insert_key x ks)
all_insert P x [] p h = (p, tt)
all_insert P x (y ∷ ys) p h = go (lt x y) (is_eq (key_cmp x y)) (all_insert P x ys p h.1)
  where
    go : (s t : Bool) → AllByRecursion P (insert_key x ys) → AllByRecursion P (cond s (x ∷ y ∷ ys) (cond t (y ∷ ys) (y ∷ insert_key x ys)))
    go true t ih = (p, h)
    go false true ih = h
    go false false ih = (h.0, ih)

insert_rises : (x : List ℕ) (ks : List (List ℕ)) → KeysRise ks → KeysRise (insert_key x ks)
insert_rises x [] h = (tt, tt)
insert_rises x (y ∷ ys) h = go (lt x y) (is_eq (key_cmp x y)) refl refl (insert_rises x ys h.1)
  where
    go : (s t : Bool) → lt x y ≡ s → is_eq (key_cmp x y) ≡ t → KeysRise (insert_key x ys) → KeysRise (cond s (x ∷ y ∷ ys) (cond t (y ∷ ys) (y ∷ insert_key x ys)))
    go true t e f ih = ((e, all_weaker (λ z. lt y z ≡ true) (λ z. lt x z ≡ true) (λ z m. lt_trans x y z e m) ys h.0), h)
    go false true e f ih = h
    go false false e f ih = (all_insert (λ z. lt y z ≡ true) x ys (apart x y e f) h.0, ih)

pub sorted_rises : (xs : List (List ℕ)) → KeysRise (sorted_keys xs)
sorted_rises [] = tt
sorted_rises (x ∷ xs) = insert_rises x (sorted_keys xs) (sorted_rises xs)

-- an equal key is there
abbrev pub IsIn : List ℕ → List (List ℕ) → Type 0
IsIn k [] = ⊥
IsIn k (b ∷ bs) = (key_cmp k b ≡ Equal) ⊎ IsIn k bs

among_in : (k b : List ℕ) (bs : List (List ℕ)) → key_cmp k b ≡ Equal → Among b bs → IsIn k bs
among_in k b [] e m = absurd m
among_in k b (c ∷ cs) e (inl p) = inl (rw (sym p) e)
among_in k b (c ∷ cs) e (inr m) = inr (among_in k b cs e m)

-- each start and end is there
abbrev pub EndsIn : List (List ℕ) → List Entry → Type 0
EndsIn bs es = AllByRecursion (λ e. AllByRecursion (λ k. IsIn k bs) (op_ends e.op)) es

-- those of some among all
ends_among : (all : List (List ℕ)) (es : List Entry) → ((k : List ℕ) → Among k (flat_map (λ e. op_ends e.op) es) → IsIn k all) → EndsIn all es
ends_among all [] h = tt
ends_among all (e ∷ es) h = (
  all_among (λ k. IsIn k all) (op_ends e.op) (λ k m. h k (among_left (op_ends e.op) (flat_map (λ e. op_ends e.op) es) k m)),
  ends_among all es (λ k m. h k (among_right (op_ends e.op) (flat_map (λ e. op_ends e.op) es) k m)),
)

pub ends_in : (es : List Entry) → EndsIn (written es) es
ends_in es = ends_among (written es) es (λ k m. let (b, like) = among_sorted (flat_map (λ e. op_ends e.op) es) k m in among_in k b (written es) like.1 like.0)

-- a key below the first of keys that rise is below each of them
pub below_all : (x k b : List ℕ) (bs : List (List ℕ)) → KeysRise (b ∷ bs) → IsIn k (b ∷ bs) → lt x b ≡ true → lt x k ≡ true
below_all x k b bs h (inl e) l = alike x k b e ∙ l
below_all x k b [] h (inr m) l = absurd m
below_all x k b (c ∷ cs) h (inr m) l = below_all x k c cs h.1 m (lt_trans x b c l h.0.0)
