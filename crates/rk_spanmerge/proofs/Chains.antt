-- Proper lists of spans, and what is seen of one from next to a key. A span is seen from its near end on, which a
-- step in the direction reaches first.
use Rattle.std.proofs.Common.{◌≡◌, ℕ, Bool, true, false, not, ◌&&◌, cond, List, [], ◌∷◌, ◌++◌, Option, Some, None, refl, ap, sym, ◌∙◌, ◌⊎◌, inl, inr}
use Rattle.std.specs.Prelude.{filter}
use Rattle.std.specs.List.{list_all, flat_map}
use Rattle.std.specs.Option.{option_or}
use Rattle.std.proofs.lemmas.Bool.{true_from_ne_false, and_right, cases_Bool, not-true}
use Rattle.std.proofs.lemmas.List.{append-nil}
use Rattle.rk_key.specs.Laws.{key_cmp-total}
use Rattle.rk_key.proofs.TotalOrders.{lt_itself, lt_back, lt_trans, ge_trans, lt_ge}
use Rattle.rk_model.specs.Lists.{none_of}
use Rattle.rk_model.specs.Operations.{within}
use Rattle.rk_model.specs.Sources.{ascends, is_extent, are_extents}
use Rattle.rk_model.specs.declared.span.Span.{Span}
use Rattle.rk_fragment.specs.Fragments.{keys_over}
use Rattle.rk_merge.specs.Unions.{Among}
use Rattle.rk_merge.specs.Cuts.{first_behind, last_before, near_cut}
use Rattle.rk_merge.proofs.Lists.{and_parts, ascends_tail}
use Rattle.rk_spanmerge.specs.Merges.{left_end}
use Rattle.rk_spanmerge.specs.Moves.{lt, takes, outside, is_past, end_seen, keys_met, first_end, NoneNearer}

pub true_false : (b : Bool) → b ≡ true → b ≡ false → ⊥
true_false b p q = cc

-- keys in the order of a direction
pub past_itself : (forward : Bool) (x : List ℕ) → is_past forward x x ≡ false
past_itself true x = lt_itself key_cmp-total x
past_itself false x = lt_itself key_cmp-total x

pub past_back : (forward : Bool) (x y : List ℕ) → is_past forward x y ≡ true → is_past forward y x ≡ false
past_back true x y p = lt_back key_cmp-total x y p
past_back false x y p = lt_back key_cmp-total y x p

pub past_trans : (forward : Bool) (x y z : List ℕ) → is_past forward x y ≡ true → is_past forward y z ≡ true → is_past forward x z ≡ true
past_trans true x y z p q = lt_trans key_cmp-total x y z p q
past_trans false x y z p q = lt_trans key_cmp-total z y x q p

pub upto_trans : (forward : Bool) (x y z : List ℕ) → is_past forward x y ≡ false → is_past forward y z ≡ false → is_past forward x z ≡ false
upto_trans true x y z p q = ge_trans key_cmp-total x y z p q
upto_trans false x y z p q = ge_trans key_cmp-total z y x q p

pub past_upto : (forward : Bool) (x y z : List ℕ) → is_past forward x y ≡ true → is_past forward z y ≡ false → is_past forward x z ≡ true
past_upto forward x y z p q = true_from_ne_false _ (λ r. true_false _ p (upto_trans forward x z y r q))

pub upto_past : (forward : Bool) (x y z : List ℕ) → is_past forward y x ≡ false → is_past forward y z ≡ true → is_past forward x z ≡ true
upto_past forward x y z p q = true_from_ne_false _ (λ r. true_false _ q (upto_trans forward y x z p r))

-- next to a key the near end, or the far one where the near one isn't beyond the key
pub end_is : (forward : Bool) (x : List ℕ) (s : Span) → end_seen forward x s ≡ cond (is_past forward x (left_end (not forward) s)) (left_end (not forward) s) (left_end forward s)
end_is true x s = refl
end_is false x s = refl

-- a span before others
pub record LeadsIn (s : Span) (ss : List Span) : Type 0 where
  pub proper : lt s.start s.end ≡ true
  pub keyed : none_of s.keys ≡ false
  pub later : (t : Span) → Among t ss → lt t.start s.end ≡ false

abbrev pub Chain : List Span → Type 0
Chain [] = Unit {0}
Chain (s ∷ ss) = LeadsIn s ss × Chain ss

abbrev apart : Span → Span → Bool
apart s t = not (lt t.start s.end)

later_all : (s : Span) (ss : List Span) → Chain ss → ascends apart (s ∷ ss) ≡ true → (t : Span) → Among t ss → lt t.start s.end ≡ false
later_all s [] h up t m = absurd m
later_all s (u ∷ us) h up t (inl e) = rw e (not-true _ (and_parts (apart s u) _ up).0)
later_all s (u ∷ us) h up t (inr m) =
    let mid = ge_trans key_cmp-total u.end u.start s.end (lt_back key_cmp-total u.start u.end h.0.proper) (not-true _ (and_parts (apart s u) _ up).0) in
    ge_trans key_cmp-total t.start u.end s.end (h.0.later t m) mid

chain_from : (ss : List Span) → list_all is_extent ss ≡ true → ascends apart ss ≡ true → Chain ss
chain_from [] all up = tt
chain_from (s ∷ ss) all up =
    let here = and_parts (is_extent s) (list_all is_extent ss) all in
    let facts = and_parts (lt s.start s.end) (not (none_of s.keys)) here.0 in
    let rest = chain_from ss here.1 (ascends_tail apart s ss up) in
    (record { proper = facts.0; keyed = not-true _ facts.1; later = later_all s ss rest up }, rest)

pub chain_of : (ss : List Span) → are_extents ss ≡ true → Chain ss
chain_of ss e = let parts = and_parts (list_all is_extent ss) (ascends apart ss) e in chain_from ss parts.0 parts.1

pub proper_of : (ss : List Span) → Chain ss → (t : Span) → Among t ss → (lt t.start t.end ≡ true) × (none_of t.keys ≡ false)
proper_of [] h t m = absurd m
proper_of (s ∷ ss) h t (inl e) = rw e (h.0.proper, h.0.keyed)
proper_of (s ∷ ss) h t (inr m) = proper_of ss h.1 t m

pub proper_in : (forward : Bool) (t : Span) → lt t.start t.end ≡ true → is_past forward (left_end (not forward) t) (left_end forward t) ≡ true
proper_in true t p = p
proper_in false t p = p

-- what is seen is the first, in the direction, of those that are live
abbrev pub Follows : Bool → Span → Span → Type 0
Follows forward s t = is_past forward (left_end (not forward) t) (left_end forward s) ≡ false

abbrev pub Seen : Bool → (Span → Bool) → List Span → Option Span → Type 0
Seen forward live ss None = (t : Span) → Among t ss → live t ≡ false
Seen forward live ss (Some s) = Among s ss × (live s ≡ true) × ((t : Span) → Among t ss → live t ≡ true → (t ≡ s) ⊎ Follows forward s t)

seen_first : (live : Span → Bool) (ss : List Span) → Chain ss → Seen true live ss (first_behind (λ t. not (live t)) ss)
seen_first live [] h = λ t m. absurd m
seen_first live (u ∷ us) h = go (live u) refl (first_behind (λ t. not (live t)) us) (seen_first live us h.1)
  where
    go : (b : Bool) → live u ≡ b → (p : Option Span) → Seen true live us p → Seen true live (u ∷ us) (cond (not b) p (Some u))
    go true e p ih = (inl refl, e, λ t m l. elim m [ inl q ↦ inl q | inr n ↦ inr (h.0.later t n) ])
    go false e None ih = λ t m. elim m [ inl q ↦ ap live q ∙ e | inr n ↦ ih t n ]
    go false e (Some s) ih = (inr ih.0, ih.1, λ t m l. elim m [ inl q ↦ absurd (true_false _ l (ap live q ∙ e)) | inr n ↦ ih.2 t n l ])

seen_last : (live : Span → Bool) → ((s t : Span) → lt t.start s.start ≡ false → live s ≡ false → live t ≡ false) → (ss : List Span) → Chain ss → Seen false live ss (last_before live ss)
seen_last live falls [] h = λ t m. absurd m
seen_last live falls (u ∷ us) h = go (live u) refl (last_before live us) (seen_last live falls us h.1)
  where
    go : (b : Bool) → live u ≡ b → (p : Option Span) → Seen false live us p → Seen false live (u ∷ us) (cond b (option_or p (Some u)) None)
    go true e None ih = (inl refl, e, λ t m l. elim m [ inl q ↦ inl q | inr n ↦ absurd (true_false _ l (ih t n)) ])
    go true e (Some s) ih = (inr ih.0, ih.1, λ t m l. elim m [ inl q ↦ inr (rw q (h.0.later s ih.0)) | inr n ↦ ih.2 t n l ])
    go false e p ih = λ t m. elim m [ inl q ↦ ap live q ∙ e | inr n ↦ falls u t (ge_trans key_cmp-total t.start u.end u.start (h.0.later t n) (lt_back key_cmp-total u.start u.end h.0.proper)) e ]

pub seen : (forward : Bool) (x : List ℕ) (ss : List Span) → Chain ss → Seen forward (λ t. is_past forward x (left_end forward t)) ss (near_cut forward (takes forward x) ss)
seen true x ss h = seen_first (λ t. lt x t.end) ss h
seen false x ss h = seen_last (λ t. lt t.start x) (λ s t later e. ge_trans key_cmp-total t.start s.start x later e) ss h

pub seen_outside : (forward : Bool) (ss : List Span) → Chain ss → Seen forward (λ t. true) ss (near_cut forward (outside forward) ss)
seen_outside true ss h = seen_first (λ t. true) ss h
seen_outside false ss h = seen_last (λ t. true) (λ s t later e. e) ss h

-- the range keys over a key
pub keys_over_cons : (s : Span) (ss : List Span) (x : List ℕ) → keys_over (s ∷ ss) x ≡ cond (within s.start s.end x) s.keys [] ++ keys_over ss x
keys_over_cons s ss x =
    let rest = filter (λ s. within s.start s.end x) ss in
    elim (within s.start s.end x) as (λ w. flat_map (λ s. s.keys) (cond w (s ∷ rest) rest) ≡ cond w s.keys [] ++ keys_over ss x) [ true ↦ refl | false ↦ refl ]

pub none_over : (x : List ℕ) (ss : List Span) → ((t : Span) → Among t ss → within t.start t.end x ≡ false) → keys_over ss x ≡ []
none_over x [] h = refl
none_over x (s ∷ ss) h = keys_over_cons s ss x ∙ ap (λ b. cond b s.keys [] ++ keys_over ss x) (h s (inl refl)) ∙ none_over x ss (λ t m. h t (inr m))

-- they are those of the one span that it lies in
alone : (x : List ℕ) (s : Span) (ss : List Span) → Chain ss → Among s ss → ((t : Span) → Among t ss → within t.start t.end x ≡ true → t ≡ s) → keys_over ss x ≡ cond (within s.start s.end x) s.keys []
alone x s [] h m one = absurd m
alone x s (u ∷ us) h m one = keys_over_cons u us x ∙ go m (λ n. alone x s us h.1 n (λ t k. one t (inr k)))
  where
    twice : Among u us → ⊥
    twice n = true_false _ h.0.proper (h.0.later u n)

    out : (t : Span) → (within t.start t.end x ≡ true → ⊥) → within t.start t.end x ≡ false
    out t f = elim (cases_Bool (within t.start t.end x)) [ inl e ↦ absurd (f e) | inr e ↦ e ]

    go : Among s (u ∷ us) → (Among s us → keys_over us x ≡ cond (within s.start s.end x) s.keys []) → cond (within u.start u.end x) u.keys [] ++ keys_over us x ≡ cond (within s.start s.end x) s.keys []
    go (inl e) ih =
        let none = none_over x us (λ t n. out t (λ w. let q : t ≡ u = one t (inr n) w ∙ e in twice (rw (← q) n))) in
        rw (none, e) (append-nil (cond (within u.start u.end x) u.keys []))
    go (inr n) ih = rw (out u (λ w. twice (rw (one u (inl refl) w) n))) (ih n)

-- a span that reaches over a key in a direction, and a key in whose place another one serves for that
abbrev pub meets : Bool → List ℕ → Span → Bool
meets forward x t = not (is_past forward x (left_end (not forward) t)) && is_past forward x (left_end forward t)

-- no end of a span that counts is nearer
abbrev pub Both : Bool → (List ℕ → Bool) → Option (List ℕ) → Span → Type 0
Both forward counts found t = NoneNearer forward counts found (left_end (not forward) t) × NoneNearer forward counts found (left_end forward t)

pub serves : (forward : Bool) (x e : List ℕ) (t : Span) → is_past forward x e ≡ true → Both forward (is_past forward x) (Some e) t → within t.start t.end (first_end forward x e) ≡ meets forward x t
serves true x e t past n = refl
serves false x e t past n = go (lt t.end x) (lt t.start x) refl refl
  where
    go : (a b : Bool) → lt t.end x ≡ a → lt t.start x ≡ b → not (lt e t.start) && lt e t.end ≡ not a && b
    go true b p q = and_right _ _ (n.0 p)
    go false true p q = rw (n.1 q, lt_ge key_cmp-total e x t.end past p) refl
    go false false p q = rw (lt_ge key_cmp-total e x t.start past q) refl

pub met_is : (forward : Bool) (x z : List ℕ) (ss : List Span) → Chain ss → ((t : Span) → Among t ss → within t.start t.end z ≡ meets forward x t) → keys_over ss z ≡ keys_met forward x (near_cut forward (takes forward x) ss)
met_is forward x z ss h same = go (near_cut forward (takes forward x) ss) (seen forward x ss h)
  where
    met : (f : Bool) (s : Span) (b : Bool) → is_past f x (left_end f s) ≡ true → cond (meets f x s) s.keys [] ≡ keys_met f x (Some s)
    met true s b e = elim (lt x s.start) as (λ w. cond (not w && lt x s.end) s.keys [] ≡ cond w [] s.keys) [ true ↦ refl | false ↦ ap (λ v. cond v s.keys []) e ]
    met false s b e = elim (lt s.end x) as (λ w. cond (not w && lt s.start x) s.keys [] ≡ cond w [] s.keys) [ true ↦ refl | false ↦ ap (λ v. cond v s.keys []) e ]

    one : (s : Span) → is_past forward x (left_end forward s) ≡ true → (t : Span) → meets forward x t ≡ true → (t ≡ s) ⊎ Follows forward s t → t ≡ s
    one s live t w (inl e) = e
    one s live t w (inr f) = absurd (true_false _ (past_upto forward x (left_end forward s) (left_end (not forward) t) live f) (not-true _ (and_parts (not (is_past forward x (left_end (not forward) t))) _ w).0))

    go : (c : Option Span) → Seen forward (λ t. is_past forward x (left_end forward t)) ss c → keys_over ss z ≡ keys_met forward x c
    go None w = none_over z ss (λ t m. same t m ∙ and_right _ _ (w t m))
    go (Some s) w =
        let mine = alone z s ss h w.0 (λ t m i. let j = sym (same t m) ∙ i in one s w.1 t j (w.2 t m (and_parts (not (is_past forward x (left_end (not forward) t))) _ j).1)) in
        mine ∙ ap (λ b. cond b s.keys []) (same s w.0) ∙ met forward s true w.1
