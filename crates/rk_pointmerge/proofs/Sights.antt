-- What outdates an entry, and what doesn't.
use Rattle.std.proofs.Common.{get_or, ◌≡◌, ℕ, zero, suc, ◌<◌, ◌≤◌, Bool, true, false, not, ◌&&◌, List, [], ◌∷◌, Option, Some, None, Ordering, Less, Equal, Greater, refl, ap, sym, ◌∙◌, ◌⊎◌, inl, inr, arith, lt-ltb, le-leb, nat_lt, nat_le, slice_get}
use Rattle.std.proofs.lemmas.Bool.{and_parts, and_from, and_left, and_right, cases_lt, cases_order, false_from_ne_true, ltb-true, leb-true, lt-leb}
use Rattle.std.proofs.lemmas.Cmp.{alike_right, eq_by_cmp_equiv, nat_cmp_total, ranked}
use Rattle.std.proofs.lemmas.List.Folds.{list_any_at, list_any_none}
use Rattle.std.proofs.lemmas.Option.{IfSome_then, same_Some, slice_get_within, slice_get-get_or, get_or_from_slice_get}
use Rattle.std.specs.List.Sorted.{IsPartitionedBy}
use Rattle.std.specs.Ordering.{is_lt, is_eq, eq_by_cmp, nat_cmp, ordering_then}
use Rattle.std.specs.Cmp.{IsEquivalence}
use Rattle.rk_key.specs.Keys.{key_cmp}
use Rattle.rk_key.specs.Laws.{key_cmp-total}
use Rattle.rk_key.proofs.TotalOrders.{lt_back, less_is, eq_is}
use Rattle.rk_model.specs.Cuts.{count_before}
use Rattle.rk_model.specs.Items.{point_takes}
use Rattle.rk_model.specs.Sources.{op_key, entry_cmp, ascends}
use Rattle.rk_model.specs.declared.op.Entry.{Entry}
use Rattle.rk_model.specs.declared.cut.Cut.{Cut}
use Rattle.rk_model.specs.declared.cut.Cut.TheVariants.{Start, Below, Past, End}
use Rattle.rk_model.proofs.Gaps.{taken_before, before_taken}
use Rattle.rk_model.proofs.Orders.{entry_total}
use Rattle.rk_merge.proofs.Counts.{slice_among}
use Rattle.rk_merge.proofs.Lists.{ascends_tail, ascends_first}
use Rattle.rk_pointmerge.specs.Merges.{comes_before}
use Rattle.rk_pointmerge.specs.Visibles.{outdates, is_visible, is_put, one_key, is_kept, LooksPast, Skips}

abbrev pub Ascends : List Entry → Type 0
Ascends es = ascends (λ e f. is_lt (entry_cmp e f)) es ≡ true

keys : IsEquivalence (eq_by_cmp key_cmp)
keys = eq_by_cmp_equiv key_cmp-total

one_back : (d e : Entry) → one_key d e ≡ true → one_key e d ≡ true
one_back d e one = keys.symm (op_key e.op) (op_key d.op) ∙ one

-- over one key the newer comes first
before_newer : (f e : Entry) → one_key f e ≡ true → comes_before f e ≡ true → e.seq < f.seq
before_newer f e one before = ranked e.seq f.seq Less (sym (less_is nat_cmp_total e.seq f.seq (rw (eq_is key_cmp-total (op_key f.op) (op_key e.op) one) at before)))

-- between two entries over one key are only such
squeeze : (d e f : Entry) → comes_before d e ≡ true → comes_before e f ≡ true → one_key d f ≡ true → one_key d e ≡ true
squeeze d e f before after one = go (key_cmp (op_key d.op) (op_key e.op)) refl before
  where
    go : (o : Ordering) → key_cmp (op_key d.op) (op_key e.op) ≡ o → is_lt (ordering_then o (nat_cmp e.seq d.seq)) ≡ true → is_eq o ≡ true
    go Less r h =
        let less : key_cmp (op_key f.op) (op_key e.op) ≡ Less = sym (key_cmp-total.congr (op_key d.op) (op_key f.op) (op_key e.op) (eq_is key_cmp-total (op_key d.op) (op_key f.op) one)) ∙ r in
        let back = rw less at (lt_back entry_total e f after) in
        cc
    go Equal r h = refl
    go Greater r h = cc

in_order : (es : List Entry) → Ascends es → (i j : ℕ) (d e : Entry) → i < j → slice_get es i ≡ Some d → slice_get es j ≡ Some e → comes_before d e ≡ true
in_order [] up i j d e h p q = cc
in_order (x ∷ xs) up i zero d e h p q = absurd (omega arith)
in_order (x ∷ xs) up zero (suc j) d e h p q = rw (← same_Some x d p) (ascends_first entry_total x xs up e (slice_among xs j e q))
in_order (x ∷ xs) up (suc i) (suc j) d e h p q = in_order xs (ascends_tail _ x xs up) i j d e (omega arith) p q

pub visible_parts : (n : ℕ) (es : List Entry) (e : Entry) → is_visible n es e ≡ true → (is_put e.op ≡ true) × (e.seq ≤ n)
visible_parts n es e h = let two = and_parts (is_put e.op) (nat_le e.seq n) (and_parts (is_put e.op && nat_le e.seq n) _ h).0 in (two.0, leb-true e.seq n two.1)

module _ (n : ℕ) (es : List Entry) (up : Ascends es) where
  -- by an entry before it, over the same key and numbered at most n
  pub hidden_by : (j g : ℕ) (d e : Entry) → j < g → slice_get es j ≡ Some d → slice_get es g ≡ Some e → d.seq ≤ n → one_key d e ≡ true → is_visible n es e ≡ false
  hidden_by j g d e h p q old one =
      let newer = before_newer d e one (in_order es up j g d e h p q) in
      let by : outdates n d e ≡ true = and_from (one_key d e && nat_le d.seq n) _ (and_from (one_key d e) _ one (le-leb d.seq n old)) (lt-ltb e.seq d.seq newer) in
      and_right (is_put e.op && nat_le e.seq n) _ (ap not (list_any_at (λ f. outdates n f e) es j d (slice_get_within es j d p) (rw (get_or_from_slice_get es j d d p) by)))

  -- by no other
  pub shown_first : (g : ℕ) (e : Entry) → slice_get es g ≡ Some e → is_put e.op ≡ true → e.seq ≤ n → ((j : ℕ) (d : Entry) → j < g → slice_get es j ≡ Some d → d.seq ≤ n → one_key d e ≡ true → ⊥) → is_visible n es e ≡ true
  shown_first g e q put old first =
      and_from (is_put e.op && nat_le e.seq n) _ (and_from (is_put e.op) _ put (le-leb e.seq n old)) (ap not (list_any_none (λ f. outdates n f e) es (λ j f h. false_from_ne_true _ (none j (get_or es j f) (slice_get-get_or es j f h)))))
    where
      none : (j : ℕ) (f : Entry) → slice_get es j ≡ Some f → outdates n f e ≡ true → ⊥
      none j f p by =
          let (both, less) = and_parts (one_key f e && nat_le f.seq n) (nat_lt e.seq f.seq) by in
          let (one, low) = and_parts (one_key f e) (nat_le f.seq n) both in
          let newer = ltb-true e.seq f.seq less in
          elim (cases_order j g) [
            | inl i ↦ let same = same_Some f e (sym p ∙ ap (slice_get es) i ∙ q) in let no = ap (λ (x : Entry). x.seq) same in omega arith
            | inr (inl h) ↦ first j f h p (leb-true f.seq n low) one
            | inr (inr h) ↦ let no = before_newer e f (one_back f e one) (in_order es up g j e f h q p) in omega arith
          ]

  -- what stands between an entry and one over its key
  beside : (j g : ℕ) (d e f : Entry) → j < suc g → slice_get es j ≡ Some d → slice_get es g ≡ Some e → slice_get es (suc g) ≡ Some f → one_key d f ≡ true → (one_key e f ≡ true) × (e.seq ≤ d.seq)
  beside j g d e f h p q r one = elim (cases_lt j g) [ inl low ↦ inner low | inr high ↦ rw (← same_Some d e (sym p ∙ ap (slice_get es) (let i : j ≡ g = omega arith in i) ∙ q)) (one, omega arith) ]
    where
      inner : j < g → (one_key e f ≡ true) × (e.seq ≤ d.seq)
      inner low =
          let before = in_order es up j g d e low p q in
          let left = squeeze d e f before (in_order es up g (suc g) e f (omega arith) q r) one in
          let newer = before_newer d e left before in
          (sym (keys.congr (op_key d.op) (op_key e.op) (op_key f.op) left) ∙ one, omega arith)

  pub shown_behind : (g : ℕ) (d e : Entry) → slice_get es g ≡ Some d → slice_get es (suc g) ≡ Some e → is_put e.op ≡ true → e.seq ≤ n → (d.seq ≤ n → one_key d e ≡ true → ⊥) → is_visible n es e ≡ true
  shown_behind g d e p q put old not_by = shown_first (suc g) e q put old (λ j f h r low one. let (right, older) = beside j g f d e h r p q one in not_by (omega arith) right)

  -- on the way forward
  pub skips_hidden : (key key' : Option (List ℕ)) (g : ℕ) (e : Entry) → Skips n es key g → slice_get es g ≡ Some e → LooksPast n e key key' true → is_visible n es e ≡ false
  skips_hidden key key' g e skips at (inl (same, inl new)) = and_left (is_put e.op && nat_le e.seq n) _ (and_right (is_put e.op) _ (lt-leb e.seq n new))
  skips_hidden None key' g e skips at (inl (same, inr old)) = cc
  skips_hidden (Some k) key' g e skips at (inl (same, inr old)) =
      let (j, d, h, p, is, low) = skips.kept in
      hidden_by j g d e h p at low (one_back e d (rw is old))
  skips_hidden key key' g e skips at (inr (same, del, old)) = and_left (is_put e.op && nat_le e.seq n) _ (and_left (is_put e.op) _ del)

  pub skips_shown : (key key' : Option (List ℕ)) (g : ℕ) (e : Entry) → Skips n es key g → slice_get es g ≡ Some e → LooksPast n e key key' false → is_visible n es e ≡ true
  skips_shown key key' g e skips at (same, other, put, old) = shown_first g e at put old (λ j d h p low one. let w = skips.split j d e h p at low one in cc)

  -- an entry is left whose key is kept, or that is too new
  split_on : (key : Option (List ℕ)) (g : ℕ) (e : Entry) → slice_get es g ≡ Some e → (n < e.seq) ⊎ (is_kept key (op_key e.op) ≡ true)
      → (j : ℕ) (d f : Entry) → j < suc g → slice_get es j ≡ Some d → slice_get es (suc g) ≡ Some f → d.seq ≤ n → one_key d f ≡ true → is_kept key (op_key f.op) ≡ true
  split_on key g e at (inl new) j d f h p q low one = let (right, older) = beside j g d e f h p at q one in absurd (omega arith)
  split_on None g e at (inr kept) j d f h p q low one = cc
  split_on (Some k) g e at (inr kept) j d f h p q low one = sym (keys.congr (op_key e.op) (op_key f.op) k (beside j g d e f h p at q one).0) ∙ kept

  pub skips_past : (g : ℕ) (e : Entry) → slice_get es g ≡ Some e → e.seq ≤ n → Skips n es (Some (op_key e.op)) (suc g)
  skips_past g e at old = record { kept = (g, e, omega arith, at, refl, old); split = split_on (Some (op_key e.op)) g e at (inr (keys.refl (op_key e.op))) }

  pub skips_on : (key key' : Option (List ℕ)) (g : ℕ) (e : Entry) → Skips n es key g → slice_get es g ≡ Some e → LooksPast n e key key' true → Skips n es key' (suc g)
  skips_on key key' g e skips at (inr (same, del, old)) = rw same (skips_past g e at old)
  skips_on key key' g e skips at (inl (same, why)) = rw same (record {
    kept = IfSome_then key skips.kept (λ k w. let (j, d, h, p, is, low) = w in (j, d, omega arith, p, is, low));
    split = split_on key g e at why;
  })

-- from a cut no key is on both sides
pub cut_alike : (cut : Cut (List ℕ)) (d e : Entry) → one_key d e ≡ true → point_takes cut d ≡ point_takes cut e
cut_alike Start d e one = refl
cut_alike (Below k) d e one = ap is_lt (key_cmp-total.congr (op_key d.op) (op_key e.op) k (eq_is key_cmp-total (op_key d.op) (op_key e.op) one))
cut_alike (Past k) d e one = ap (λ o. not (is_lt o)) (alike_right key_cmp-total (op_key d.op) (op_key e.op) k (eq_is key_cmp-total (op_key d.op) (op_key e.op) one))
cut_alike End d e one = refl

pub skips_start : (n : ℕ) (es : List Entry) (t : Entry → Bool) → IsPartitionedBy t es → ((d e : Entry) → one_key d e ≡ true → t d ≡ t e) → Skips n es None (count_before t es)
skips_start n es t first alike = record { kept = tt; split = λ j d e h p q low one. let w = before_taken t es _ e first q (sym (alike d e one) ∙ taken_before t es j d p h) in absurd (omega arith) }
