-- What operations that have joined the memtables of a store make of what it stands for.
use Rattle.std.specs.Prelude.{if◌then◌else◌}
use Rattle.std.proofs.Common.{◌≡◌, ◌⊎◌, ℕ, ◌+◌, ◌<◌, ◌≤◌, Bool, true, false, not, List, [], ◌∷◌, ◌++◌, length, IsPermutation, refl, ap, sym, subst, ◌∙◌, inl, inr, nat_le, arith, append-nil, append_assoc}
use Rattle.std.specs.List.{All}
use Rattle.std.proofs.lemmas.Bool.{lt-leb}
use Rattle.std.proofs.lemmas.List.Elements.{All-append, All-weaker, All-from_recursion, recursion_from_All, filter-append}
use Rattle.std.proofs.lemmas.List.Sorted.{IsPermutation-append_right, All-permutation}
use Rattle.rk_key.specs.Keys.{IsKey}
use Rattle.rk_model.specs.Lists.{Among}
use Rattle.rk_model.specs.Operations.{entries, last, numbered, NumbersDiffer}
use Rattle.rk_model.specs.Histories.{AreCommits}
use Rattle.rk_model.specs.Covers.{upto, over}
use Rattle.rk_model.specs.Kept.{cells}
use Rattle.rk_model.specs.declared.op.Op.{Op}
use Rattle.rk_model.specs.declared.op.Entry.{Entry}
use Rattle.rk_model.proofs.Lists.{filter_none}
use Rattle.rk_model.proofs.Members.{all_among, among_all, among_left, among_right}
use Rattle.rk_mem.specs.Chunks.{AreNewer}
use Rattle.rk_mem.specs.Memory.{Memory, nothing, IsGrown, EachTwo}
use Rattle.rk_mem.proofs.Commits.{grown_among}
use Rattle.rk_laws.specs.Newer.{NumberedBelow}
use Rattle.rk_laws.specs.SameCells.{WellFormed, op_keys}
use Rattle.rk_merge_laws.specs.Chunks.{all_of}
use Rattle.rk_machine.specs.State.{State}
use Rattle.rk_machine.specs.Sizes.{batch_size}
use Rattle.rk_machine.specs.declared.limits.TheConstants.{MOST_NUMBER}
use Rattle.rk_memstore.specs.Agreement.{IsSeen, Agrees}
use Rattle.rk_memstore.specs.Standing.{MemSeen, IsMemStore, StandsInMemory, HasItsBytes, parts}
use Rattle.rk_memstore.specs.Joining.{has_room, HasJoined, PreparedSeen, IsPrepared}
use Rattle.rk_memstore.proofs.Numberings.{numbered_within, entries_push, last_push, none_above_last, commits_push}
use Rattle.rk_memstore.proofs.Orders.{Same, same_of_cells, cells_of_same, upto_all, same_newer, same_permuted, differ_newer, differ_permuted}

-- where there is room for a batch of a size, or no memtable is frozen
abbrev pub MayJoin : MemSeen → ℕ → Type 0
MayJoin c size = (c.frozen.bytes ≡ 0) ⊎ (has_room c size ≡ true)

-- a memtable that is not frozen has no entry
none_frozen : (c : MemSeen) (size : ℕ) → IsMemStore c → MayJoin c size → has_room c size ≡ false → c.frozen.entries ≡ []
none_frozen c size keeps (inl none) full = keeps.frozen none
none_frozen c size keeps (inr room) full = cc

-- operations that are numbered on are newer than all entries
pub numbered_newer : (c : MemSeen) (ops : List Op) → IsMemStore c → AreNewer c.active.entries (numbered (c.last + 1) ops)
numbered_newer c ops keeps e f at_e at_f =
    let at : Among e (all_of (parts c)) = among_right c.frozen.entries (c.active.entries ++ []) e (among_left c.active.entries [] e at_e) in
    let below : e.seq ≤ c.last = among_all (λ g. g.seq ≤ c.last) (all_of (parts c)) e (recursion_from_All (λ g. g.seq ≤ c.last) (all_of (parts c)) keeps.within) at in
    omega (arith, below, (numbered_within (c.last + 1) ops f at_f).0)

pub grown_by : (before now : Memory) (es fs : List Entry) (size bytes : ℕ) → es ≡ fs → size ≡ bytes → IsGrown before es size now → IsGrown before fs bytes now
grown_by before now es fs size bytes same sized grown = subst (λ l. IsGrown before l bytes now) same (subst (λ k. IsGrown before es k now) sized grown)

-- all entries after, in some order, are those before and the new ones
permuted_by : (b : Bool) (active frozen active' frozen' : Memory) (es : List Entry) (size : ℕ) → (b ≡ false → frozen.entries ≡ []) →
    IsGrown (if b then active else nothing) es size active' → frozen' ≡ (if b then frozen else active) →
    IsPermutation (all_of (frozen.entries ∷ active.entries ∷ []) ++ es) (all_of (frozen'.entries ∷ active'.entries ∷ []))
permuted_by true active frozen active' frozen' es size none grown froze =
    rw (froze, append-nil active.entries, append-nil active'.entries, append_assoc frozen.entries active.entries es)
    (IsPermutation-append_right frozen.entries (active.entries ++ es) active'.entries grown.same)
permuted_by false active frozen active' frozen' es size none grown froze =
    rw (froze, none refl, append-nil active.entries, append-nil active'.entries)
    (IsPermutation-append_right active.entries es active'.entries grown.same)

-- those of the active memtable stay newer than those of the frozen one
newer_by : (b : Bool) (active frozen active' frozen' : Memory) (es : List Entry) (size : ℕ) → AreNewer frozen.entries active.entries → ((e f : Entry) → Among e (frozen.entries ++ active.entries) → Among f es → e.seq < f.seq) →
    IsGrown (if b then active else nothing) es size active' → frozen' ≡ (if b then frozen else active) → AreNewer frozen'.entries active'.entries
newer_by true active frozen active' frozen' es size layered above grown froze e f at_e at_f =
    let at : Among e frozen.entries = subst (λ (t : Memory). Among e t.entries) froze at_e in
    elim (grown_among active es size active' grown f at_f) [
      | inl old ↦ layered e f at old
      | inr new ↦ above e f (among_left frozen.entries active.entries e at) new
    ]
newer_by false active frozen active' frozen' es size layered above grown froze e f at_e at_f =
    let at : Among e active.entries = subst (λ (t : Memory). Among e t.entries) froze at_e in
    elim (grown_among nothing es size active' grown f at_f) [
      | inl none ↦ absurd none
      | inr new ↦ above e f (among_right frozen.entries active.entries e at) new
    ]

module _ (old new : MemSeen) (ops : List Op) (keeps : IsMemStore old) (joined : HasJoined old new ops) (may : MayJoin old (batch_size ops)) where
  permuted : IsPermutation (all_of (parts old) ++ numbered (old.last + 1) ops) (all_of (parts new))
  permuted = permuted_by (has_room old (batch_size ops)) old.active old.frozen new.active new.frozen (numbered (old.last + 1) ops) (batch_size ops) (none_frozen old (batch_size ops) keeps may) joined.active joined.frozen

  added_within : All (λ e. e.seq ≤ new.last) (numbered (old.last + 1) ops)
  added_within = All-from_recursion (λ e. e.seq ≤ new.last) (numbered (old.last + 1) ops) (all_among (λ e. e.seq ≤ new.last) (numbered (old.last + 1) ops) (λ e at. omega (arith, (numbered_within (old.last + 1) ops e at).1, joined.last)))

  all_within : All (λ e. e.seq ≤ new.last) (all_of (parts old) ++ numbered (old.last + 1) ops)
  all_within = All-append (λ e. e.seq ≤ new.last) (all_of (parts old)) (numbered (old.last + 1) ops) (All-weaker (λ e. e.seq ≤ old.last) (λ e. e.seq ≤ new.last) (λ e le. omega (arith, le, joined.last)) (all_of (parts old)) keeps.within) added_within

  now_within : All (λ e. e.seq ≤ new.last) (all_of (parts new))
  now_within = All-permutation (λ e. e.seq ≤ new.last) (all_of (parts old) ++ numbered (old.last + 1) ops) (all_of (parts new)) permuted all_within

  old_below : (e : Entry) → Among e (all_of (parts old)) → e.seq ≤ old.last
  old_below e at = among_all (λ f. f.seq ≤ old.last) (all_of (parts old)) e (recursion_from_All (λ f. f.seq ≤ old.last) (all_of (parts old)) keeps.within) at

  above : (e f : Entry) → Among e (all_of (parts old)) → Among f (numbered (old.last + 1) ops) → e.seq < f.seq
  above e f at_e at_f = omega (arith, old_below e at_e, (numbered_within (old.last + 1) ops f at_f).0)

  -- the store keeps what a store keeps
  pub joined_core : new.last ≤ MOST_NUMBER → 1 ≤ batch_size ops → IsMemStore new
  joined_core fits some = record {
    within = now_within;
    keyed = All-permutation (λ e. All IsKey (op_keys e.op)) (all_of (parts old) ++ numbered (old.last + 1) ops) (all_of (parts new)) permuted (All-append (λ e. All IsKey (op_keys e.op)) (all_of (parts old)) (numbered (old.last + 1) ops) keeps.keyed joined.keyed);
    active = λ none. absurd (omega (arith, joined.active.added, none, some));
    frozen = subst HasItsBytes (sym joined.frozen) (kept (has_room old (batch_size ops)));
    live = subst (All (λ n. n ≤ new.last)) (sym joined.live) (All-weaker (λ n. n ≤ old.last) (λ n. n ≤ new.last) (λ n le. omega (arith, le, joined.last)) old.live keeps.live);
    number = fits;
    snapshots = rw joined.live keeps.snapshots;
  }
    where
      kept : (b : Bool) → HasItsBytes (if b then old.frozen else old.active)
      kept true = keeps.frozen
      kept false = keeps.active

  module _ (m : State) (stands : StandsInMemory old m) where
    -- the entries of the history up to now
    history_below : All (λ e. e.seq ≤ old.last) (entries m.history)
    history_below = subst (λ n. All (λ e. e.seq ≤ n) (entries m.history)) (sym stands.last) (none_above_last m.history)

    entries_now : entries (m.history ++ ops ∷ []) ≡ entries m.history ++ numbered (old.last + 1) ops
    entries_now = entries_push m.history ops ∙ ap (λ n. entries m.history ++ numbered (n + 1) ops) (sym stands.last)

    last_now : new.last ≡ last (m.history ++ ops ∷ [])
    last_now = joined.last ∙ ap (λ n. n + length ops) stands.last ∙ sym (last_push m.history ops)

    history_within : All (λ e. e.seq ≤ new.last) (entries m.history ++ numbered (old.last + 1) ops)
    history_within = All-append (λ e. e.seq ≤ new.last) (entries m.history) (numbered (old.last + 1) ops) (All-weaker (λ e. e.seq ≤ old.last) (λ e. e.seq ≤ new.last) (λ e le. omega (arith, le, joined.last)) (entries m.history) history_below) added_within

    below_next : (es : List Entry) → All (λ e. e.seq ≤ old.last) es → NumberedBelow (old.last + 1) es
    below_next es all = All-weaker (λ e. e.seq ≤ old.last) (λ e. e.seq < old.last + 1) (λ e le. omega (arith, le)) es all

    -- at the number that was the last one, and at the live ones
    same_before : (n : ℕ) → IsSeen m.history m.live n → (x : List ℕ) → IsKey x → Same (upto n (all_of (parts old))) (upto n (entries m.history)) x
    same_before n seen x key = same_of_cells (all_of (parts old)) (entries m.history) n x (stands.agrees.same n seen x key)

    same_whole : (x : List ℕ) → IsKey x → Same (all_of (parts old)) (entries m.history) x
    same_whole x key =
        subst (λ l. Same l (entries m.history) x) (upto_all old.last (all_of (parts old)) keeps.within)
        (subst (λ l. Same (upto old.last (all_of (parts old))) l x) (upto_all old.last (entries m.history) history_below)
        (same_before old.last (inl stands.last) x key))

    -- none of the new entries comes up to a number from before
    none_added : (n : ℕ) → n ≤ old.last → (es : List Entry) → upto n (es ++ numbered (old.last + 1) ops) ≡ upto n es
    none_added n le es = filter-append (λ e. nat_le e.seq n) es (numbered (old.last + 1) ops) ∙ ap (λ l. upto n es ++ l) none ∙ append-nil (upto n es)
      where
        past : (e : Entry) → Among e (numbered (old.last + 1) ops) → nat_le e.seq n ≡ false
        past e at = lt-leb e.seq n (omega (arith, le, (numbered_within (old.last + 1) ops e at).0))

        none : upto n (numbered (old.last + 1) ops) ≡ []
        none = filter_none (λ e. nat_le e.seq n) (numbered (old.last + 1) ops) (all_among (λ e. nat_le e.seq n ≡ false) (numbered (old.last + 1) ops) past)

    same_to : (n : ℕ) (x : List ℕ) → (n ≡ new.last) ⊎ Among n m.live → IsKey x → Same (upto n (all_of (parts old) ++ numbered (old.last + 1) ops)) (upto n (entries m.history ++ numbered (old.last + 1) ops)) x
    same_to n x (inl now) key =
        let whole : Same (all_of (parts old) ++ numbered (old.last + 1) ops) (entries m.history ++ numbered (old.last + 1) ops) x =
        same_newer (old.last + 1) ops (all_of (parts old)) (entries m.history) x (below_next (all_of (parts old)) keeps.within) (below_next (entries m.history) history_below) (same_whole x key) in
        subst (λ l. Same l (upto n (entries m.history ++ numbered (old.last + 1) ops)) x) (sym (all_to (all_of (parts old) ++ numbered (old.last + 1) ops) all_within))
        (subst (λ l. Same (all_of (parts old) ++ numbered (old.last + 1) ops) l x) (sym (all_to (entries m.history ++ numbered (old.last + 1) ops) history_within)) whole)
      where
        all_to : (es : List Entry) → All (λ e. e.seq ≤ new.last) es → upto n es ≡ es
        all_to es all = ap (λ k. upto k es) now ∙ upto_all new.last es all
    same_to n x (inr live) key =
        let le : n ≤ old.last = live_within n live in
        subst (λ l. Same l (upto n (entries m.history ++ numbered (old.last + 1) ops)) x) (sym (none_added n le (all_of (parts old))))
        (subst (λ l. Same (upto n (all_of (parts old))) l x) (sym (none_added n le (entries m.history))) (same_before n (inr live) x key))
      where
        live_within : (n : ℕ) → Among n m.live → n ≤ old.last
        live_within n at = among_all (λ k. k ≤ old.last) m.live n (recursion_from_All (λ k. k ≤ old.last) m.live (All-permutation (λ k. k ≤ old.last) old.live m.live stands.live keeps.live)) at

    differ_now : (x : List ℕ) → NumbersDiffer (over x (all_of (parts old) ++ numbered (old.last + 1) ops))
    differ_now x = differ_newer x (all_of (parts old)) (old.last + 1) ops above (stands.agrees.once x)

    same_now : (n : ℕ) → IsSeen (m.history ++ ops ∷ []) m.live n → (x : List ℕ) → IsKey x → cells (all_of (parts new)) n x ≡ cells (entries (m.history ++ ops ∷ [])) n x
    same_now n seen x key =
        sym (cells_of_same (all_of (parts old) ++ numbered (old.last + 1) ops) (all_of (parts new)) n x (same_permuted n x (all_of (parts old) ++ numbered (old.last + 1) ops) (all_of (parts new)) permuted (differ_now x)))
        ∙ cells_of_same (all_of (parts old) ++ numbered (old.last + 1) ops) (entries m.history ++ numbered (old.last + 1) ops) n x (same_to n x (elim seen [ inl now ↦ inl (now ∙ sym last_now) | inr live ↦ inr live ]) key)
        ∙ ap (λ es. cells es n x) (sym entries_now)

    layered_now : EachTwo AreNewer (parts new)
    layered_now = ((newer_by (has_room old (batch_size ops)) old.active old.frozen new.active new.frozen (numbered (old.last + 1) ops) (batch_size ops) stands.agrees.layered.0.0 above_both joined.active joined.frozen, tt), (tt, tt))
      where
        above_both : (e f : Entry) → Among e (old.frozen.entries ++ old.active.entries) → Among f (numbered (old.last + 1) ops) → e.seq < f.seq
        above_both e f at_e at_f = above e f (subst (λ l. Among e (old.frozen.entries ++ l)) (sym (append-nil old.active.entries)) at_e) at_f

    -- the memtables stand for the history with the commit
    joined_agrees : Agrees (parts new) (m.history ++ ops ∷ []) m.live
    joined_agrees = record {
      same = same_now;
      once = λ x. differ_permuted x (all_of (parts old) ++ numbered (old.last + 1) ops) (all_of (parts new)) permuted (differ_now x);
      layered = layered_now;
      none_above = subst (λ n. All (λ e. e.seq ≤ n) (all_of (parts new))) last_now now_within;
    }

    joined_keyed : WellFormed (entries (m.history ++ ops ∷ []))
    joined_keyed = subst WellFormed (sym entries_now) (All-append (λ e. All IsKey (op_keys e.op)) (entries m.history) (numbered (old.last + 1) ops) stands.keyed joined.keyed)

    -- the store stands for a state with one more commit, whose memtables have the sizes
    pub joined_stands : (m' : State) → 1 ≤ length ops → m'.history ≡ m.history ++ ops ∷ [] → m'.live ≡ m.live → new.active.bytes ≡ m'.memory.active → new.frozen.bytes ≡ m'.memory.frozen → StandsInMemory new m'
    joined_stands m' some history live active frozen = record {
      commits = subst AreCommits (sym history) (commits_push m.history ops stands.commits some);
      keyed = subst (λ h. WellFormed (entries h)) (sym history) joined_keyed;
      agrees = subst (λ h. Agrees (parts new) h m'.live) (sym history) (subst (λ l. Agrees (parts new) (m.history ++ ops ∷ []) l) (sym live) joined_agrees);
      active = active;
      frozen = frozen;
      last = last_now ∙ ap last (sym history);
      live = subst (λ l. IsPermutation l m'.live) (sym joined.live) (subst (λ l. IsPermutation old.live l) (sym live) stands.live);
    }

-- Operations are made ready by the growth of a memtable.
module _ (old : MemSeen) (ops : List Op) (keyed : WellFormed (numbered (old.last + 1) ops)) where
  -- where there is room
  pub ready_active : (now : Memory) → has_room old (batch_size ops) ≡ true → IsGrown old.active (numbered (old.last + 1) ops) (batch_size ops) now →
      IsPrepared old ops (record { active = now; freezes = false })
  ready_active now room grown = record {
    active = subst (λ b. IsGrown (if b then old.active else nothing) (numbered (old.last + 1) ops) (batch_size ops) now) (sym room) grown;
    keyed = keyed;
    freezes = ap not (sym room);
  }

  -- where there is none, and the active memtable is to be frozen
  pub ready_new : (now : Memory) → has_room old (batch_size ops) ≡ false → IsGrown nothing (numbered (old.last + 1) ops) (batch_size ops) now →
      IsPrepared old ops (record { active = now; freezes = true })
  ready_new now full grown = record {
    active = subst (λ b. IsGrown (if b then old.active else nothing) (numbered (old.last + 1) ops) (batch_size ops) now) (sym full) grown;
    keyed = keyed;
    freezes = ap not (sym full);
  }

-- operations that were made ready join the memtables
pub joins_ready : (old : MemSeen) (ops : List Op) (p : PreparedSeen) (frozen : Memory) → IsPrepared old ops p → frozen ≡ (if p.freezes then old.active else old.frozen) →
    HasJoined old (record old { active = p.active; frozen = frozen; last = old.last + length ops }) ops
joins_ready old ops p frozen ready is = record {
  active = ready.active;
  keyed = ready.keyed;
  frozen = is ∙ ap (λ b. if b then old.active else old.frozen) ready.freezes ∙ turned (has_room old (batch_size ops));
  last = refl;
  live = refl;
}
  where
    turned : (b : Bool) → (if not b then old.active else old.frozen) ≡ (if b then old.frozen else old.active)
    turned true = refl
    turned false = refl
