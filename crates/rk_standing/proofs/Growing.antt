-- Entries that stand for a history, with those of more commits behind them.
use Rattle.std.proofs.Common.{◌≡◌, ◌⊎◌, ℕ, ◌+◌, ◌<◌, ◌≤◌, false, List, [], ◌∷◌, ◌++◌, length, IsPermutation, refl, ap, sym, subst, ◌∙◌, inl, inr, nat_le, arith, append-nil, append_assoc}
use Rattle.std.specs.List.{All}
use Rattle.std.proofs.lemmas.Bool.{lt-leb}
use Rattle.std.proofs.lemmas.List.{length-append}
use Rattle.std.proofs.lemmas.List.Elements.{All-append, All-weaker, All-from_recursion, recursion_from_All, filter-append}
use Rattle.std.proofs.lemmas.List.Sorted.{All-permutation}
use Rattle.rk_key.specs.Keys.{IsKey}
use Rattle.rk_model.specs.Lists.{Among}
use Rattle.rk_model.specs.Operations.{History, entries, last, numbered, operations, NumbersDiffer}
use Rattle.rk_model.specs.Covers.{upto, over}
use Rattle.rk_model.specs.Kept.{cells}
use Rattle.rk_model.specs.declared.op.Entry.{Entry}
use Rattle.rk_model.proofs.Lists.{filter_none}
use Rattle.rk_model.proofs.Members.{all_among, among_all}
use Rattle.rk_mem.specs.Chunks.{AreNewer}
use Rattle.rk_mem.specs.Memory.{EachTwo}
use Rattle.rk_laws.specs.Newer.{NumberedBelow}
use Rattle.rk_merge_laws.specs.Chunks.{all_of}
use Rattle.rk_memstore.specs.Agreement.{IsSeen, Agrees}
use Rattle.rk_memstore.proofs.Numberings.{numbered_both, numbered_within, none_above_last}
use Rattle.rk_memstore.proofs.Orders.{Same, same_of_cells, cells_of_same, upto_all, same_newer, same_permuted, differ_newer, differ_permuted}

operations_both : (h more : History) → operations (h ++ more) ≡ operations h ++ operations more
operations_both [] more = refl
operations_both (c ∷ cs) more = ap (λ l. c ++ l) (operations_both cs more) ∙ sym (append_assoc c (operations cs) (operations more))

pub last_both : (h more : History) → last (h ++ more) ≡ last h + length (operations more)
last_both h more = ap length (operations_both h more) ∙ length-append (operations h) (operations more)

pub entries_both : (h more : History) → entries (h ++ more) ≡ entries h ++ numbered (last h + 1) (operations more)
entries_both h more =
    ap (numbered 1) (operations_both h more)
    ∙ numbered_both 1 (operations h) (operations more)
    ∙ ap (λ k. numbered 1 (operations h) ++ numbered k (operations more)) (omega arith)

module _ (old new : List (List Entry)) (h more : History) (live : List ℕ) (agrees : Agrees old h live) (within : (n : ℕ) → Among n live → n ≤ last h)
    (permuted : IsPermutation (all_of old ++ numbered (last h + 1) (operations more)) (all_of new)) (layered : EachTwo AreNewer new) where
  added : List Entry
  added = numbered (last h + 1) (operations more)

  end : ℕ
  end = last h + length (operations more)

  added_within : All (λ e. e.seq ≤ end) added
  unfolding added end
  added_within = All-from_recursion (λ e. e.seq ≤ end) added (all_among (λ e. e.seq ≤ end) added (λ e at. omega (arith, (numbered_within (last h + 1) (operations more) e at).1)))

  up : (es : List Entry) → All (λ e. e.seq ≤ last h) es → All (λ e. e.seq ≤ end) (es ++ added)
  unfolding end
  up es all = All-append (λ e. e.seq ≤ end) es added (All-weaker (λ e. e.seq ≤ last h) (λ e. e.seq ≤ end) (λ e le. omega (arith, le)) es all) added_within

  new_within : All (λ e. e.seq ≤ end) (all_of new)
  unfolding added
  new_within = All-permutation (λ e. e.seq ≤ end) (all_of old ++ added) (all_of new) permuted (up (all_of old) agrees.none_above)

  above : (e f : Entry) → Among e (all_of old) → Among f added → e.seq < f.seq
  unfolding added
  above e f at_e at_f =
      let below : e.seq ≤ last h = among_all (λ g. g.seq ≤ last h) (all_of old) e (recursion_from_All (λ g. g.seq ≤ last h) (all_of old) agrees.none_above) at_e in
      omega (arith, below, (numbered_within (last h + 1) (operations more) f at_f).0)

  below_next : (es : List Entry) → All (λ e. e.seq ≤ last h) es → NumberedBelow (last h + 1) es
  below_next es all = All-weaker (λ e. e.seq ≤ last h) (λ e. e.seq < last h + 1) (λ e le. omega (arith, le)) es all

  same_before : (n : ℕ) → IsSeen h live n → (x : List ℕ) → IsKey x → Same (upto n (all_of old)) (upto n (entries h)) x
  same_before n seen x key = same_of_cells (all_of old) (entries h) n x (agrees.same n seen x key)

  same_whole : (x : List ℕ) → IsKey x → Same (all_of old) (entries h) x
  same_whole x key =
      subst (λ l. Same l (entries h) x) (upto_all (last h) (all_of old) agrees.none_above)
      (subst (λ l. Same (upto (last h) (all_of old)) l x) (upto_all (last h) (entries h) (none_above_last h))
      (same_before (last h) (inl refl) x key))

  none_added : (n : ℕ) → n ≤ last h → (es : List Entry) → upto n (es ++ added) ≡ upto n es
  unfolding added
  none_added n le es = filter-append (λ e. nat_le e.seq n) es added ∙ ap (λ l. upto n es ++ l) none ∙ append-nil (upto n es)
    where
      past : (e : Entry) → Among e added → nat_le e.seq n ≡ false
      past e at = lt-leb e.seq n (omega (arith, le, (numbered_within (last h + 1) (operations more) e at).0))

      none : upto n added ≡ []
      none = filter_none (λ e. nat_le e.seq n) added (all_among (λ e. nat_le e.seq n ≡ false) added past)

  same_to : (n : ℕ) (x : List ℕ) → (n ≡ end) ⊎ Among n live → IsKey x → Same (upto n (all_of old ++ added)) (upto n (entries h ++ added)) x
  unfolding added
  same_to n x (inl now) key =
      let whole : Same (all_of old ++ added) (entries h ++ added) x =
      same_newer (last h + 1) (operations more) (all_of old) (entries h) x (below_next (all_of old) agrees.none_above) (below_next (entries h) (none_above_last h)) (same_whole x key) in
      subst (λ l. Same l (upto n (entries h ++ added)) x) (sym (all_to (all_of old ++ added) (up (all_of old) agrees.none_above)))
      (subst (λ l. Same (all_of old ++ added) l x) (sym (all_to (entries h ++ added) (up (entries h) (none_above_last h)))) whole)
    where
      all_to : (es : List Entry) → All (λ e. e.seq ≤ end) es → upto n es ≡ es
      all_to es all = ap (λ k. upto k es) now ∙ upto_all end es all
  same_to n x (inr is_live) key =
      let le : n ≤ last h = within n is_live in
      subst (λ l. Same l (upto n (entries h ++ added)) x) (sym (none_added n le (all_of old)))
      (subst (λ l. Same (upto n (all_of old)) l x) (sym (none_added n le (entries h))) (same_before n (inr is_live) x key))

  differ : (x : List ℕ) → NumbersDiffer (over x (all_of old ++ added))
  unfolding added
  differ x = differ_newer x (all_of old) (last h + 1) (operations more) above (agrees.once x)

  same_now : (n : ℕ) → IsSeen (h ++ more) live n → (x : List ℕ) → IsKey x → cells (all_of new) n x ≡ cells (entries (h ++ more)) n x
  unfolding added end
  same_now n seen x key =
      sym (cells_of_same (all_of old ++ added) (all_of new) n x (same_permuted n x (all_of old ++ added) (all_of new) permuted (differ x)))
      ∙ cells_of_same (all_of old ++ added) (entries h ++ added) n x (same_to n x (elim seen [ inl now ↦ inl (now ∙ last_both h more) | inr is_live ↦ inr is_live ]) key)
      ∙ ap (λ es. cells es n x) (sym (entries_both h more))

  -- the entries stand for the history with the commits
  pub agrees_on : Agrees new (h ++ more) live
  unfolding added end
  agrees_on = record {
    same = same_now;
    once = λ x. differ_permuted x (all_of old ++ added) (all_of new) permuted (differ x);
    layered = layered;
    none_above = subst (λ n. All (λ e. e.seq ≤ n) (all_of new)) (sym (last_both h more)) new_within;
  }
