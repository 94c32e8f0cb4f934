-- The pool of the spans of all sources, and a merge of them that is told.
use Prim.Native.Nat.{zero, suc}
use Rattle.std.proofs.Common.{◌≡◌, ℕ, ◌<◌, length, get_or, Bool, true, false, ◌&&◌, cond, List, [], ◌∷◌, ◌++◌, Option, Some, None, is_some, unwrap_or, IfSome, map, refl, ap, ◌∙◌, inl, inr, subst, arith}
use Rattle.std.specs.Prelude.{IsTrue, filter}
use Rattle.std.specs.List.{flat_map}
use Rattle.std.proofs.lemmas.Grind.{flat_map-append}
use Rattle.rk_model.proofs.Positions.{filter-append}
use Rattle.rk_key.specs.Keys.{IsKey}
use Rattle.rk_key.specs.KeyTests.{is_key}
use Rattle.rk_key.proofs.KeyTests.{key_by_test}
use Rattle.rk_model.specs.Operations.{within}
use Rattle.rk_model.specs.Lists.{none_of}
use Rattle.rk_model.specs.ItemLaws.{are-extents}
use Rattle.rk_model.specs.Items.{keyed_extents, keyed_spans}
use Rattle.rk_model.specs.Sources.{are_spans}
use Rattle.rk_model.specs.Standings.{Listing}
use Rattle.rk_model.specs.declared.span.Span.{Span}
use Rattle.rk_model.proofs.Members.{all_among, every_gives, among_append, among_map, among_flat_map}
use Rattle.rk_fragment.specs.Fragments.{keys_over}
use Rattle.rk_merge.specs.Unions.{Among}
use Rattle.rk_merge.specs.Pools.{told_items, all_told}
use Rattle.rk_merge.proofs.Lists.{and_parts, at_among}
use Rattle.rk_spanmerge.specs.Merges.{span_ends, pooled, united, are_distinct, cut_spans}
use Rattle.rk_spanmerge.specs.Moves.{lt}
use Rattle.rk_spanmerge.proofs.Chains.{Chain, chain_of, proper_of}
use Rattle.rk_spanmerge.proofs.Cutting.{distinct_keys, ends_from}

-- what holds of a merge that is told
pub if_told : {A : Type 0} {P : A → Type 0} (u : Option A) → ((x : A) → u ≡ Some x → P x) → IfSome u P
if_told None f = tt
if_told (Some x) f = f x refl

pub told_if : {A : Type 0} (P : A → Type 0) (u : Option A) (x : A) → u ≡ Some x → IfSome u P → P x
told_if P None x e w = cc
told_if P (Some y) x e w = let q : y ≡ x = cc in subst P q w

told_list : {A : Type 0} (h : Option (List A)) (P : List A → Type 0) → is_some h ≡ true → IfSome h P → P (unwrap_or h [])
told_list None P e w = cc
told_list (Some xs) P e w = w

pub record Whole (ls : List (Listing Span)) (spans : List Span) : Type 0 where
  pub told : all_told ls ≡ true
  pub chain : Chain spans
  pub is : cut_spans (pooled ls) ≡ spans

pub whole : (ls : List (Listing Span)) (spans : List Span) → united ls ≡ Some spans → Whole ls spans
whole ls spans e = go (all_told ls) (keyed_spans (cut_spans (pooled ls))) refl refl e
  where
    go : (a b : Bool) → all_told ls ≡ a → keyed_spans (cut_spans (pooled ls)) ≡ b → cond a (cond b (Some (cut_spans (pooled ls))) None) None ≡ Some spans → Whole ls spans
    go true true p q e = let is : cut_spans (pooled ls) ≡ spans = cc in record { told = p; chain = subst Chain is (chain_of (cut_spans (pooled ls)) (are-extents (cut_spans (pooled ls)) (and_parts (are_spans (cut_spans (pooled ls))) _ q).0)); is = is }
    go true false p q e = cc
    go false b p q e = cc

pub told_at : {S : Type 0} (listing : S → Listing Span) (ss : List S) → all_told (map listing ss) ≡ true → (k : ℕ) (d : S) → k < length ss → is_some (listing (get_or ss k d)).held ≡ true
told_at listing ss e k d h = every_gives (λ l. is_some l.held) (map listing ss) (listing (get_or ss k d)) e (among_map listing ss (get_or ss k d) (at_among ss k d h))

-- the pool of spans: what holds of the spans of each source holds of it
pub in_pool : {S : Type 0} (listing : S → Listing Span) (ss : List S) (k : ℕ) (d : S) (t : Span) → k < length ss → Among t (told_items (listing (get_or ss k d))) → Among t (pooled (map listing ss))
in_pool listing ss k d t h m = among_flat_map told_items (map listing ss) (listing (get_or ss k d)) t (among_map listing ss (get_or ss k d) (at_among ss k d h)) m

pub all_pool : {S : Type 0} (listing : S → Listing Span) (P : Span → Type 0) (ss : List S) → ((k : ℕ) (d : S) → k < length ss → (t : Span) → Among t (told_items (listing (get_or ss k d))) → P t) → (t : Span) → Among t (pooled (map listing ss)) → P t
all_pool listing P [] h t m = absurd m
all_pool listing P (s ∷ ss) h t m =
    let rest = all_pool listing P ss (λ k d l u n. h (suc k) d (omega arith) u n) t in
    elim (among_append (told_items (listing s)) (pooled (map listing ss)) t m) [ inl n ↦ h zero s (omega arith) t n | inr n ↦ rest n ]

pub keys_over_append : (x : List ℕ) (ss ts : List Span) → keys_over (ss ++ ts) x ≡ keys_over ss x ++ keys_over ts x
keys_over_append x ss ts = ap (flat_map (λ s. s.keys)) (filter-append (λ s. within s.start s.end x) ss ts) ∙ flat_map-append (λ (s : Span). s.keys) (filter (λ s. within s.start s.end x) ss) (filter (λ s. within s.start s.end x) ts)

-- the lists of sources that are told
module _ {S : Type 0} (listing : S → Listing Span) (sorted : (s : S) → IfSome (listing s).held (λ xs. IsTrue (keyed_extents xs))) (ss : List S) where
  keyed_at : all_told (map listing ss) ≡ true → (k : ℕ) (d : S) → k < length ss → keyed_extents (told_items (listing (get_or ss k d))) ≡ true
  keyed_at told k d h = told_list (listing (get_or ss k d)).held (λ l. keyed_extents l ≡ true) (told_at listing ss told k d h) (sorted (get_or ss k d))

  pub chain_at : all_told (map listing ss) ≡ true → (k : ℕ) (d : S) → k < length ss → Chain (told_items (listing (get_or ss k d)))
  chain_at told k d h = chain_of _ (and_parts _ _ (keyed_at told k d h)).0

  pool_distinct : all_told (map listing ss) ≡ true → are_distinct (span_ends (pooled (map listing ss))) ≡ true
  pool_distinct told = distinct_keys (span_ends (pooled (map listing ss))) (all_among IsKey _ (λ k m.
      let f = ends_from true (pooled (map listing ss)) k m in
      let keys = and_parts _ _ (all_pool listing (λ t. is_key t.start && is_key t.end ≡ true) ss (λ k d h t m. every_gives (λ s. is_key s.start && is_key s.end) _ t (and_parts _ _ (keyed_at told k d h)).1 m) f.0 f.1) in
      elim f.2 [ inl e ↦ rw e (key_by_test f.0.start keys.0) | inr e ↦ rw e (key_by_test f.0.end keys.1) ]))

  -- a merge of them that is told
  pub record Unites (spans : List Span) : Type 0 where
    pub at : united (map listing ss) ≡ Some spans
    pub whole : Whole (map listing ss) spans
    pub distinct : are_distinct (span_ends (pooled (map listing ss))) ≡ true
    pub proper : (t : Span) → Among t (pooled (map listing ss)) → (lt t.start t.end ≡ true) × (none_of t.keys ≡ false)

  pub when_told : {P : List Span → Type 0} → ((spans : List Span) → Unites spans → P spans) → IfSome (united (map listing ss)) P
  when_told f = if_told (united (map listing ss)) (λ spans u.
      let w = whole (map listing ss) spans u in
      f spans (record { at = u; whole = w; distinct = pool_distinct w.told; proper = all_pool listing _ ss (λ k d h t m. proper_of _ (chain_at w.told k d h) t m) }))
