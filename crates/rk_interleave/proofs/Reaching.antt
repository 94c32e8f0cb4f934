-- A seek of a key forward: where a span is over it, and where none is.
use Rattle.std.proofs.Common.{◌≡◌, ◌≢◌, add-one, ℕ, ◌≤◌, Bool, true, false, not, List, [], ◌∷◌, length, cond, ◌+◌, Option, Some, None, refl, sym, ap, ◌∙◌, subst, ◌⊎◌, inl, inr, arith, if◌then◌else◌, option_map}
use Rattle.std.specs.Prelude.{IsTrue}
use Rattle.std.specs.List.{slice_get}
use Rattle.std.specs.Ordering.{is_lt, is_eq}
use Rattle.std.proofs.lemmas.Bool.{and_parts, true≢false}
use Rattle.std.proofs.lemmas.Option.{same_Some}
use Rattle.rk_key.specs.Keys.{IsKey, key_cmp}
use Rattle.rk_key.proofs.Equality.{same_key_from_eq}
use Rattle.rk_laws.proofs.Order.{key_total, lt_itself, ge_trans}
use Rattle.rk_laws.proofs.Widest.{span_of_each_cover}
use Rattle.rk_merge.proofs.Counts.{slice_among}
use Rattle.rk_model.specs.Covers.{cover, put_value}
use Rattle.rk_model.specs.Cuts.{count_before}
use Rattle.rk_model.specs.Items.{point_takes, span_takes, keyed_points}
use Rattle.rk_model.specs.ItemLaws.{spans-first}
use Rattle.rk_model.specs.Lists.{Among, none_of}
use Rattle.rk_model.specs.Moves.{sought}
use Rattle.rk_model.specs.Operations.{within}
use Rattle.rk_model.specs.Sources.{op_key}
use Rattle.rk_model.specs.Spans.{in_bounds, WidestSpan, widest_span}
use Rattle.rk_model.specs.declared.cursor.Cursor.TheVariants.{At}
use Rattle.rk_model.specs.declared.op.Entry.{Entry}
use Rattle.rk_model.specs.declared.span.Span.{Span}
use Rattle.rk_model.specs.declared.span.SuffixValue.{SuffixValue}
use Rattle.rk_model.specs.declared.options.IterOptions.{IterOptions}
use Rattle.rk_model.specs.declared.cut.Cut.TheVariants.{Below, Past}
use Rattle.rk_model.proofs.Gaps.{behind_untaken}
use Rattle.rk_span_laws.specs.Given.{given, AreShown, is_hidden, span_over, as_widest}
use Rattle.rk_interleave.specs.Settling.{has_begun, seen_value}
use Rattle.rk_interleave.specs.Standing.{arrived}
use Rattle.rk_interleave.proofs.Cutting.{over_cut, not_is}
use Rattle.rk_interleave.proofs.Orders.{Rises, Farther, below_key, puts_rise, reach, spans_rise}
use Rattle.rk_interleave.proofs.Parts.{IsPart, cut_ahead}
use Rattle.rk_interleave.proofs.Near.{in_order, Settled, IsSeen, first_of_all, over_is, over_none}
use Rattle.rk_interleave.proofs.Found.{value_on, value_of_point, no_value, key_of_point}
use Rattle.rk_span_laws.proofs.Giving.{span_is_the_one_over}

-- the item at the gap of a cut is not taken
not_taken : {A : Type 0} (t : A → Bool) (xs : List A) (d : A) → slice_get xs (count_before t xs) ≡ Some d → t d ≡ false
not_taken t [] d at = cc
not_taken {A} t (x ∷ xs) d at = go (t x) refl (λ there. not_taken t xs d there) at
  where
    go : (b : Bool) → t x ≡ b → (slice_get xs (count_before t xs) ≡ Some d → t d ≡ false) → slice_get (x ∷ xs) (cond b (count_before t xs + 1) 0) ≡ Some d → t d ≡ false
    go true e rest at = rest (rw (add-one) at at)
    go false e rest at = ap t (sym (same_Some x d at)) ∙ e

module _ (n : ℕ) (o : IterOptions) (ps : List Entry) (ss : List Span) (sh : AreShown n o ps ss) (k : List ℕ) (key : IsKey k) (inside : in_bounds o k ≡ true) where
  -- where no span is over the key, its cover is empty
  pub sought_off : span_over ss k ≡ None → sought (given ps ss) o k ≡ arrived true (Below k) (given ps ss) o
  sought_off none = rw inside (go (cover (given ps ss) k) refl)
    where
      widest : widest_span (given ps ss) o k ≡ None
      widest = span_is_the_one_over n o ps ss sh k key inside ∙ ap (option_map as_widest) none

      go : (c : List SuffixValue) → cover (given ps ss) k ≡ c → (if none_of c then arrived true (Below k) (given ps ss) o else At k) ≡ arrived true (Below k) (given ps ss) o
      go [] is = refl
      go (p ∷ c) is = absurd (there (span_of_each_cover (given ps ss) o k inside some))
        where
          some : cover (given ps ss) k ≢ []
          some e = let f = sym e ∙ is in cc

          there : (s : WidestSpan) × ((widest_span (given ps ss) o k ≡ Some s) × (within s.start s.end k ≡ true) × (s.cover ≡ cover (given ps ss) k)) → ⊥
          there (s, at) = let f = sym widest ∙ at.0 in cc

  -- and where one is, it isn't
  pub sought_in : (u : Span) → span_over ss k ≡ Some u → sought (given ps ss) o k ≡ At k
  sought_in u is = rw inside (go (none_of (cover (given ps ss) k)) refl)
    where
      widest : widest_span (given ps ss) o k ≡ Some (as_widest u)
      widest = span_is_the_one_over n o ps ss sh k key inside ∙ ap (option_map as_widest) is

      go : (b : Bool) → none_of (cover (given ps ss) k) ≡ b → (if b then arrived true (Below k) (given ps ss) o else At k) ≡ At k
      go true e = let none : widest_span (given ps ss) o k ≡ None = rw e refl in let f = sym none ∙ widest in cc
      go false e = refl

  -- no span that the cut lets stand is over the key, where the first of them begins behind it
  pub none_over_key : (xs : List Entry) (g h : ℕ) → Rises below_key xs → Settled true (Below k) o xs ss g h → has_begun true (Past k) (slice_get ss h) ≡ false → span_over ss k ≡ None
  none_over_key xs g h rise st off = over_none ss k (λ s m over. each s m over (first_of_all true (Below k) o xs ss g h rise (in_order ss sh.ordered) tt st s m (over_cut true (Below k) tt s k on over)))
    where
      on : not (is_lt (key_cmp k k)) ≡ true
      on = rw (lt_itself key_total k) refl

      each : (s : Span) → Among s ss → within s.start s.end k ≡ true → IsSeen true (slice_get ss h) s → ⊥
      each s m over (u, (at, inl same)) =
          let low = (and_parts (not (is_lt (key_cmp k s.start))) _ over).0 in
          let out : not (is_lt (key_cmp k u.start)) ≡ false = rw at at off in
          true≢false (sym low ∙ ap (λ w. not (is_lt (key_cmp k w.start))) same ∙ out)
      each s m over (u, (at, inr far)) =
          let low : is_lt (key_cmp k s.start) ≡ false = not_is _ true (and_parts (not (is_lt (key_cmp k s.start))) _ over).0 in
          let high : is_lt (key_cmp k u.end) ≡ true = not_is _ false (st.on h u at (omega arith)) in
          true≢false (sym high ∙ ge_trans key_total k s.start u.end low (not_is _ true far))

  -- the span that is seen at the key, and has begun, is over it
  pub over_key : (u : Span) → slice_get ss (count_before (span_takes true (Below k)) ss) ≡ Some u → has_begun true (Past k) (Some u) ≡ true → within u.start u.end k ≡ true
  over_key u at begun =
      let on = cut_ahead true (span_takes true (Below k)) ss (count_before (span_takes true (Below k)) ss) u (spans-first true (Below k) ss sh.ordered) at (omega arith) in
      let high : is_lt (key_cmp k u.end) ≡ true = not_is _ false on in
      rw (begun, high) refl

  pub over_it : (u : Span) → slice_get ss (count_before (span_takes true (Below k)) ss) ≡ Some u → has_begun true (Past k) (Some u) ≡ true → span_over ss k ≡ Some u
  over_it u at begun = over_is ss (spans_rise ss sh.ordered) u k (slice_among ss _ u at) (over_key u at begun)

  -- a point on the key is the one that is seen there
  module _ (keyed : IsTrue (keyed_points ps)) (xs : List Entry) (part : IsPart o ps xs) (rise : Rises below_key xs) (within_xs : count_before (point_takes (Below k)) xs ≤ length xs) where
    point_at : (e : Entry) → Among e ps → is_eq (key_cmp (op_key e.op) k) ≡ true → slice_get xs (count_before (point_takes (Below k)) xs) ≡ Some e
    point_at e m tie =
        let same = same_key_from_eq (op_key e.op) k (key_of_point ps keyed e m) key tie in
        let (i, at) = part.all e m (rw same inside) in
        let low = behind_untaken (point_takes (Below k)) xs i e at (rw same (lt_itself key_total k)) in
        let (d, far) = reach true below_key xs rise (count_before (point_takes (Below k)) xs) within_xs i e at low in
        far.0 ∙ ap Some (sym (go d same far.0 far.1))
      where
        go : (d : Entry) → op_key e.op ≡ k → slice_get xs (count_before (point_takes (Below k)) xs) ≡ Some d → (e ≡ d) ⊎ Farther true below_key d e → e ≡ d
        go d same at (inl it) = it
        go d same at (inr less) =
            let less' : is_lt (key_cmp (op_key d.op) k) ≡ true = ap (λ w. is_lt (key_cmp (op_key d.op) w)) (sym same) ∙ less in
            let i = below_count d at in absurd (true≢false (sym less' ∙ i))
          where
            below_count : (d : Entry) → slice_get xs (count_before (point_takes (Below k)) xs) ≡ Some d → is_lt (key_cmp (op_key d.op) k) ≡ false
            below_count d at = not_taken (point_takes (Below k)) xs d at

    pub value_at_key : (p : Option Entry) → slice_get xs (count_before (point_takes (Below k)) xs) ≡ p → (over : Option Span) → over ≡ span_over ss k → seen_value o p over k ≡ (if is_hidden o ss k then None else value_on ps k)
    value_at_key p at over is = rw is (go (is_hidden o ss k) refl p at)
      where
        go : (hid : Bool) → is_hidden o ss k ≡ hid → (p : Option Entry) → slice_get xs (count_before (point_takes (Below k)) xs) ≡ p → seen_value o p (span_over ss k) k ≡ (if is_hidden o ss k then None else value_on ps k)
        go true e None at = rw e refl
        go false e None at = rw e (sym (no_value ps k (λ d m tie. let f = sym at ∙ point_at d m tie in cc)))
        go hid e (Some d) at = tied (is_eq (key_cmp (op_key d.op) k)) refl hid e
          where
            among : Among d ps
            among = let (j, of) = part.of (count_before (point_takes (Below k)) xs) d at in slice_among ps j d of.0

            tied : (b : Bool) → is_eq (key_cmp (op_key d.op) k) ≡ b → (hid : Bool) → is_hidden o ss k ≡ hid → seen_value o (Some d) (span_over ss k) k ≡ (if is_hidden o ss k then None else value_on ps k)
            tied true tie true e = rw (tie, e) refl
            tied true tie false e =
                let same = same_key_from_eq (op_key d.op) k (key_of_point ps keyed d among) key tie in
                rw (tie, e) (sym (subst (λ w. value_on ps w ≡ put_value d.op) same (value_of_point ps (puts_rise ps sh.single) d among)))
            tied false out true e = rw (out, e) refl
            tied false out false e = rw (out, e) (sym (no_value ps k (λ d' m tie. let ed : d' ≡ d = same_Some _ _ (sym (point_at d' m tie) ∙ at) in true≢false (sym tie ∙ ap (λ c. is_eq (key_cmp (op_key c.op) k)) ed ∙ out))))
