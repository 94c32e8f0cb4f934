-- Splitting and joining passes keep the rule, and what the last pass knows.
use Rattle.std.proofs.Common.{◌≡◌, ◌≢◌, ℕ, zero, suc, ◌<◌, ◌≤◌, ◌⊎◌, inl, inr, ⊎_elim, Bool, true, false, true≢false, List, [], ◌∷◌, ◌++◌, length, set, refl, sym, ap, ◌∙◌, subst, arith, eq-eqb, ne_eqb, Some}
use Rattle.std.specs.Prelude.{Option, ◌==◌, if◌then◌else◌}
use mathlib.Core.Logic.{dite}
use mathlib.Core.Option as maybe
use mathlib.Core.List.{append-nil}
use native.Mathlib.Decide.{ℕ_discrete}
use lib.ListN.{get_elem?}
use Rattle.atomic_table.specs.Table.{State, step, keeps, Allows, Splits, Joins, Final, Seen}
use Rattle.atomic_table.proofs.Lists.{at_set, set_else, at_snoc, at_longer}
use Rattle.rk_lock.specs.declared.view.View.{View}
use Rattle.rk_lock.specs.declared.view.Stage.{Stage}
use Rattle.rk_lock.specs.declared.view.Stage.TheVariants.{Fresh, Outside, Waiting, Called, Inside, Counted, Returned, Spent}
use Rattle.rk_lock.specs.Histories.{Among, IsPrefix, longer, shorter, total, hits, without, IsNumbered}
use Rattle.rk_lock.specs.Views.{spent, new_name, split_from, split_off, joined, compared, is_live, named, times_out}
use Rattle.rk_lock.specs.Plays.{matched, StandsFrom}
use Rattle.rk_lock.specs.Rule.{phase_of, IsHome, Lies, FitsStage, Fits, Ruled}
use Rattle.rk_lock.specs.Laws.{IsAlone}
use Rattle.rk_lock.proofs.Lists.{among_left, among_right, among_either, prefix_same, prefix_none, prefix_of_longer, prefix_whole, longer_shorter, total_set, total_same, total_append, total_at, total_some, among_at, at_old, hits_is, hits_itself, same_itself, among_without, without_hits, numbered_among}
use Rattle.rk_lock.proofs.Steps.{fits_set, here_after, live_not_spent, staged, stays, lies_within, rests}

module _ {T E O : Type 0} (ticket : E → ℕ) (stands : T → O → List E → Type 0) where
  abbrev V : Type 0
  V = View T E O

  abbrev St : Type 0
  St = State (Option T) V

  abbrev R : St → Type 0
  R = Ruled ticket stands

  -- a split changes no other view
  after_set : (vs : List (View T E O)) (id k : ℕ) (v w d : View T E O) → get_elem? vs id ≡ maybe.some v → get_elem? vs k ≡ maybe.some d
      → (x : View T E O) × (get_elem? (set vs id w) k ≡ maybe.some x) × (((k ≡ id) × (x ≡ w)) ⊎ ((k ≢ id) × (x ≡ d)))
  after_set vs id k v w d here there = dite (ℕ_discrete k id)
      (λ same. (w, ap (get_elem? (set vs id w)) same ∙ here_after ticket stands vs id v w here, inl (same, refl)))
      (λ other. (d, set_else vs id k w other ∙ there, inr (other, refl)))

  pub splits : (id : ℕ) (v : View T E O) → v.stage ≡ Outside → Splits (Ruled ticket stands) id v (split_from v) (split_off v)
  splits id v is s r here = record {
    origin = r.origin;
    log = r.log;
    next = r.next;
    turn = r.turn;
    owner = r.owner;
    phase = r.phase;
    words = r.words;
    bound = r.bound;
    numbered = r.numbered;
    lies = r.lies;
    held = λ u less e.
        let d = r.drawn r.turn less in let a = after_set s.views id (r.owner r.turn) v (split_from v) d.0 here d.1 in
        let same = at_old (set s.views id (split_from v)) (split_off v) a.0 u (r.owner r.turn) a.1 e in ⊎_elim
        (λ (t : (r.owner r.turn ≡ id) × ((split_from v) ≡ u)). r.held v less (ap (get_elem? s.views) t.0 ∙ here) ∙ ap (λ (x : View T E O). phase_of x.stage) t.1)
        (λ (t : (r.owner r.turn ≢ id) × (get_elem? s.views (r.owner r.turn) ≡ maybe.some u)). r.held u less t.1)
        (at_set s.views id (r.owner r.turn) (split_from v) u same);
    drawn = λ t less. let d = r.drawn t less in let a = after_set s.views id (r.owner t) v (split_from v) d.0 here d.1 in (
      a.0,
      at_longer (set s.views id (split_from v)) ((split_off v) ∷ []) (r.owner t) a.0 a.1,
      ⊎_elim
          (λ (k : (r.owner t ≡ id) × (a.0 ≡ (split_from v))). subst (λ (x : View T E O). Among t x.tickets) (sym k.1)
          (subst (λ (x : View T E O). Among t x.tickets) (maybe.some-injective d.0 v (sym d.1 ∙ (ap (get_elem? s.views) k.0 ∙ here))) d.2))
          (λ (k : (r.owner t ≢ id) × (a.0 ≡ d.0)). subst (λ (x : View T E O). Among t x.tickets) (sym k.1) d.2) a.2,
    );
    fits = λ j u e. ⊎_elim
        (λ was. fits_set ticket stands (Fits ticket stands r.origin r.log r.turn r.next r.owner) s.views id (split_from v) mine (λ i x _. r.fits i x) j u was)
        (λ (new : (split_off v) ≡ u). subst ((Fits ticket stands r.origin r.log r.turn r.next r.owner) j) new (theirs j))
        (at_snoc (set s.views id (split_from v)) (split_off v) u j e);
    names = λ n. count n;
  }
    where
      mine : (Fits ticket stands r.origin r.log r.turn r.next r.owner) id (split_from v)
      mine = let f = r.fits id v here in record {
        seen = f.seen;
        noted = f.noted;
        mine = f.mine;
        done = f.done;
        stage = f.stage;
        deeper = λ n a. ⊎_elim (λ (e : n ≡ new_name v). let k : length n ≡ length (new_name v) = ap length e in omega arith) (λ (b : Among n v.out). f.deeper n b) a;
        first = f.first;
        gone = λ e. absurd (live_not_spent ticket stands v.stage (ap is_live is) e);
      }

      theirs : (j : ℕ) → (Fits ticket stands r.origin r.log r.turn r.next r.owner) j (split_off v)
      theirs j = let f = r.fits id v here in record {
        seen = f.seen;
        noted = prefix_none r.log;
        mine = λ t a. absurd a;
        done = λ t a. absurd a;
        stage = ((staged ticket stands s r id v Outside here is).0, λ t a. absurd a);
        deeper = λ n a. absurd a;
        first = λ _ e. absurd (no_name e);
        gone = λ e. absurd (live_not_spent ticket stands Outside refl e);
      }
        where
          no_name : new_name v ≡ [] → ⊥
          no_name e = let k : length (new_name v) ≡ 0 = ap length e in omega arith

      count : (n : List ℕ) → total (named n) ((set s.views id (split_from v)) ++ (split_off v) ∷ []) ≡ total (times_out n) ((set s.views id (split_from v)) ++ (split_off v) ∷ [])
      count n =
          let a = total_append (named n) (set s.views id (split_from v)) ((split_off v) ∷ []) in let b = total_append (times_out n) (set s.views id (split_from v)) ((split_off v) ∷ []) in
          let c = total_same (named n) s.views id v (split_from v) here refl in let d = total_set (times_out n) s.views id v (split_from v) here in let e = r.names n in omega arith

  abbrev owner_after : (ℕ → ℕ) → ℕ → ℕ → ℕ → ℕ
  owner_after owner other id t = if owner t == other then id else owner t

  owner_new : (owner : ℕ → ℕ) (other id t : ℕ) → owner t ≡ other → owner_after owner other id t ≡ id
  owner_new owner other id t e = ap (λ (b : Bool). if b then id else owner t) (eq-eqb (owner t) other e)

  owner_old : (owner : ℕ → ℕ) (other id t : ℕ) → owner t ≢ other → owner_after owner other id t ≡ owner t
  owner_old owner other id t n = ap (λ (b : Bool). if b then id else owner t) (ne_eqb (owner t) other n)

  -- the ticket that is served is not one of a pass that is outside
  not_served : (s : St) (r : R s) (id : ℕ) (v : V) → get_elem? s.views id ≡ maybe.some v → v.stage ≡ Outside → r.turn < r.next → r.owner r.turn ≢ id
  not_served s r id v here is less own = let d = r.drawn r.turn less in let it : d.0 ≡ v = maybe.some-injective d.0 v (sym d.1 ∙ (ap (get_elem? s.views) own ∙ here)) in
      let l : r.turn < r.turn = (staged ticket stands s r id v Outside here is).1 r.turn (subst (λ (x : V). Among r.turn x.tickets) it d.2) in omega arith

  pub joins : (id : ℕ) (v : V) (other : ℕ) (w : V) → v.stage ≡ Outside → w.stage ≡ Outside → Among w.name v.out → Joins R id v other w (joined v w) spent
  joins id v other w is out_ among s r here apart_ there = record {
    origin = r.origin;
    log = r.log;
    next = r.next;
    turn = r.turn;
    owner = owner_after r.owner other id;
    phase = r.phase;
    words = r.words;
    bound = r.bound;
    numbered = r.numbered;
    lies = r.lies;
    held = λ u less e. let n = not_served s r id v here is less in let m = not_served s r other w was out_ less in
        r.held u less (sym (set_else s.views id (r.owner r.turn) (joined v w) n) ∙ (sym (set_else (set s.views id (joined v w)) other (r.owner r.turn) spent m) ∙ (ap (get_elem? (set (set s.views id (joined v w)) other spent)) (sym (owner_old r.owner other id r.turn m)) ∙ e)));
    drawn = λ t less. let d = r.drawn t less in dite (ℕ_discrete (r.owner t) other)
        (λ theirs. (
          (joined v w),
          ap (get_elem? (set (set s.views id (joined v w)) other spent)) (owner_new r.owner other id t theirs) ∙ now_here,
          among_right t v.tickets w.tickets (subst (λ (x : V). Among t x.tickets) (maybe.some-injective d.0 w (sym d.1 ∙ (ap (get_elem? s.views) theirs ∙ was))) d.2),
        ))
        (λ n. dite (ℕ_discrete (r.owner t) id)
        (λ mine. (
          (joined v w),
          ap (get_elem? (set (set s.views id (joined v w)) other spent)) (owner_old r.owner other id t n ∙ mine) ∙ now_here,
          among_left t v.tickets w.tickets (subst (λ (x : V). Among t x.tickets) (maybe.some-injective d.0 v (sym d.1 ∙ (ap (get_elem? s.views) mine ∙ here))) d.2),
        ))
        (λ m. (d.0, ap (get_elem? (set (set s.views id (joined v w)) other spent)) (owner_old r.owner other id t n) ∙ (set_else (set s.views id (joined v w)) other (r.owner t) spent n ∙ (set_else s.views id (r.owner t) (joined v w) m ∙ d.1)), d.2)));
    fits = fits_set ticket stands (Fits ticket stands r.origin r.log r.turn r.next (owner_after r.owner other id)) (set s.views id (joined v w)) other spent none (λ j u n e. ⊎_elim
        (λ (x : (j ≡ id) × ((joined v w) ≡ u)). subst (λ (y : ℕ × V). (Fits ticket stands r.origin r.log r.turn r.next (owner_after r.owner other id)) y.0 y.1) (λ i. (sym x.0 i, x.1 i)) mine_fits)
        (λ (x : (j ≢ id) × (get_elem? s.views j ≡ maybe.some u)). others j u n (r.fits j u x.1))
        (at_set s.views id j (joined v w) u e));
    names = count;
  }
    where
      was : get_elem? s.views other ≡ maybe.some w
      was = sym (set_else s.views id other (joined v w) apart_) ∙ there

      now_here : get_elem? (set (set s.views id (joined v w)) other spent) id ≡ maybe.some (joined v w)
      now_here = set_else (set s.views id (joined v w)) other id spent (λ e. apart_ (sym e)) ∙ here_after ticket stands s.views id v (joined v w) here

      none : (Fits ticket stands r.origin r.log r.turn r.next (owner_after r.owner other id)) other spent
      none = record {
        seen = prefix_none r.log;
        noted = prefix_none r.log;
        mine = λ t a. absurd a;
        done = λ t a. absurd a;
        stage = refl;
        deeper = λ n a. absurd a;
        first = λ e _. absurd (true≢false (sym e));
        gone = λ _. refl;
      }

      others : (j : ℕ) (u : V) → j ≢ other → Fits ticket stands r.origin r.log r.turn r.next r.owner j u → (Fits ticket stands r.origin r.log r.turn r.next (owner_after r.owner other id)) j u
      others j u n k = record {
        seen = k.seen;
        noted = k.noted;
        mine = λ t a. let m = k.mine t a in (m.0, owner_old r.owner other id t (λ e. n (sym m.1 ∙ e)) ∙ m.1);
        done = k.done;
        stage = k.stage;
        deeper = k.deeper;
        first = k.first;
        gone = k.gone;
      }

      mine_fits : (Fits ticket stands r.origin r.log r.turn r.next (owner_after r.owner other id)) id (joined v w)
      mine_fits = let f = r.fits id v here in let h = r.fits other w was in record {
        seen = longer_shorter (λ a b. IsPrefix a r.log) v.seen w.seen (λ _. h.seen) (λ _. f.seen);
        noted = longer_shorter (λ a b. IsPrefix b r.log) v.seen w.seen (λ _. f.seen) (λ _. h.seen);
        mine = λ t a. ⊎_elim (λ b. let m = f.mine t b in (m.0, owner_old r.owner other id t (λ e. apart_ (sym e ∙ m.1)) ∙ m.1)) (λ b. let m = h.mine t b in (m.0, owner_new r.owner other id t m.1)) (among_either t v.tickets w.tickets a);
        done = λ t a less. longer_shorter (λ x y. t < length x) v.seen w.seen
            (λ le. ⊎_elim (λ b. let l = f.done t b less in omega arith) (λ b. h.done t b less) (among_either t v.tickets w.tickets a))
            (λ le. ⊎_elim (λ b. f.done t b less) (λ b. let l = h.done t b less in omega arith) (among_either t v.tickets w.tickets a));
        stage = subst (λ st. FitsStage ticket stands r.origin r.log r.turn (joined v w).tickets (joined v w).seen v.origin st) (sym is) (
          (staged ticket stands s r id v Outside here is).0,
          λ t a. ⊎_elim (λ b. (staged ticket stands s r id v Outside here is).1 t b) (λ b. (staged ticket stands s r other w Outside was out_).1 t b) (among_either t v.tickets w.tickets a),
        );
        deeper = λ n a. ⊎_elim (λ b. f.deeper n (among_without n w.name v.out b)) (λ b. let x = f.deeper w.name among in let y = h.deeper n b in omega arith) (among_either n (without w.name v.out) w.out a);
        first = f.first;
        gone = λ e. absurd (live_not_spent ticket stands v.stage (ap is_live is) e);
      }

      count : (n : List ℕ) → total (named n) (set (set s.views id (joined v w)) other spent) ≡ total (times_out n) (set (set s.views id (joined v w)) other spent)
      count n =
          let a = total_same (named n) s.views id v (joined v w) here refl in let b = total_set (named n) (set s.views id (joined v w)) other w spent there in
          let c = total_set (times_out n) s.views id v (joined v w) here in let d = total_set (times_out n) (set s.views id (joined v w)) other w spent there in
          let e = r.names n in let x = total_append (hits n) (without w.name v.out) w.out in let y = without_hits n w.name v.out among in
          let z : named n w ≡ hits n w.name = ap (λ st. if is_live st then hits n w.name else 0) out_ in omega arith

  pub compares : (slots id : ℕ) (me : Rattle.rk_lock.specs.Plays.Holder T E O) → length me.0.noted ≤ length me.0.seen → Allows R slots id me 1 (λ n. n) (matched (step slots 1 0 0 maybe.none) me)
  compares slots id me le s r _ here _ = let v = me.0 in let f = r.fits id v here in (
    compared v,
    keeps,
    tt,
    stays ticket stands s r 1 id me.1 v (compared v) here refl refl refl refl refl record {
      seen = f.seen;
      noted = prefix_none r.log;
      mine = f.mine;
      done = f.done;
      stage = f.stage;
      deeper = f.deeper;
      first = f.first;
      gone = f.gone;
    },
    (refl, prefix_of_longer v.noted v.seen r.log f.noted f.seen le),
  )

  spent_stage : (st : Stage T E) → is_live st ≡ false → st ≡ Spent
  spent_stage (Fresh x) e = absurd (true≢false e)
  spent_stage Outside e = absurd (true≢false e)
  spent_stage (Waiting t) e = absurd (true≢false e)
  spent_stage (Called t kept) e = absurd (true≢false e)
  spent_stage (Inside t kept) e = absurd (true≢false e)
  spent_stage (Counted t) e = absurd (true≢false e)
  spent_stage (Returned t) e = absurd (true≢false e)
  spent_stage Spent e = refl

  live_or_spent : (st : Stage T E) → (is_live st ≡ true) ⊎ (st ≡ Spent)
  live_or_spent st = by_test (is_live st) refl
    where
      by_test : (b : Bool) → is_live st ≡ b → (is_live st ≡ true) ⊎ (st ≡ Spent)
      by_test true e = inl e
      by_test false e = inr (spent_stage st e)

  -- a live pass with a name is out with another live pass, whose name is shorter
  parent : (s : St) (r : R s) (j : ℕ) (u : V) (k : ℕ) (ks : List ℕ) → get_elem? s.views j ≡ maybe.some u → is_live u.stage ≡ true → u.name ≡ k ∷ ks
      → (i : ℕ) × (p : V) × (get_elem? s.views i ≡ maybe.some p) × Among u.name p.out
  parent s r j u k ks at_ live is =
      let n : List ℕ = k ∷ ks in
      let one : named n u ≡ 1 = ap (λ b. if b then hits n u.name else 0) live ∙ (ap (hits n) is ∙ hits_itself k ks) in
      let a = total_at (named n) s.views j u at_ in let b = r.names n in
      let p = total_some (times_out n) s.views (omega arith) in
      let m = total_some (hits n) p.1.out p.3 in
      let same : m.1 ≡ u.name = sym (hits_is n m.1 m.3) ∙ sym is in
      (p.0, p.1, p.2, subst (λ x. Among x p.1.out) same (among_at p.1.out m.0 m.1 m.2))

  none_live : (s : St) (r : R s) (id : ℕ) (v : V) → IsAlone s.views id v → (fuel j : ℕ) (u : V) → get_elem? s.views j ≡ maybe.some u → is_live u.stage ≡ true → length u.name < fuel → j ≡ id
  none_live s r id v alone zero j u at_ live less = absurd (omega arith)
  none_live s r id v alone (suc fuel) j u at_ live less = by_name (λ i p e l n. none_live s r id v alone fuel i p e l n) u.name refl
    where
      by_name : ((i : ℕ) (p : V) → get_elem? s.views i ≡ maybe.some p → is_live p.stage ≡ true → length p.name < fuel → i ≡ id) → (n : List ℕ) → u.name ≡ n → j ≡ id
      by_name up [] is = (r.fits j u at_).first live is ∙ sym ((r.fits id v alone.here).first (ap is_live alone.outside) alone.first)
      by_name up (k ∷ ks) is = let p = parent s r j u k ks at_ live is in let f = r.fits p.0 p.1 p.2 in let deep = f.deeper u.name p.3 in ⊎_elim
          (λ (l : is_live p.1.stage ≡ true). let same : p.0 ≡ id = up p.0 p.1 p.2 l (omega arith) in
          let it : p.1 ≡ v = maybe.some-injective p.1 v (sym p.2 ∙ (ap (get_elem? s.views) same ∙ alone.here)) in
          absurd (subst (Among u.name) (ap (λ (x : V). x.out) it ∙ alone.none_out) p.3))
          (λ (g : p.1.stage ≡ Spent). absurd (subst (Among u.name) (f.gone g) p.3))
          (live_or_spent p.1.stage)

  -- no other pass is live
  pub others_spent : (s : St) (r : R s) (id : ℕ) (v : V) → IsAlone s.views id v → (j : ℕ) (u : V) → get_elem? s.views j ≡ maybe.some u → j ≢ id → u.stage ≡ Spent
  others_spent s r id v alone j u at_ n = ⊎_elim (λ (l : is_live u.stage ≡ true). absurd (n (none_live s r id v alone (suc (length u.name)) j u at_ l (omega arith)))) (λ e. e) (live_or_spent u.stage)

  -- every ticket is its own
  pub owns_all : (s : St) (r : R s) (id : ℕ) (v : V) → IsAlone s.views id v → (t : ℕ) → t < r.next → Among t v.tickets
  owns_all s r id v alone t less = let d = r.drawn t less in dite (ℕ_discrete (r.owner t) id)
      (λ same. subst (λ (x : V). Among t x.tickets) (maybe.some-injective d.0 v (sym d.1 ∙ (ap (get_elem? s.views) same ∙ alone.here))) d.2)
      (λ n. absurd (subst (Among t) (staged ticket stands s r (r.owner t) d.0 Spent d.1 (others_spent s r id v alone (r.owner t) d.0 d.1 n)) d.2))

  -- all tickets are served
  pub all_served : (s : St) (r : R s) (id : ℕ) (v : V) → IsAlone s.views id v → r.turn ≡ r.next
  all_served s r id v alone = let w = (lies_within ticket stands r.origin r.log r.turn r.next s.homes r.phase r.lies).1 in dite (ℕ_discrete r.turn r.next) (λ e. e)
      (λ n. let less : r.turn < r.next = omega arith in let l : r.turn < r.turn = (staged ticket stands s r id v Outside alone.here alone.outside).1 r.turn (owns_all s r id v alone r.turn less) in absurd (omega arith))

  at_rest : (s : St) (r : R s) (id : ℕ) (v : V) → IsAlone s.views id v → (length r.log ≡ r.turn) × (r.turn ≤ r.next) × IsHome ticket stands r.origin r.log s.homes
  at_rest s r id v alone = subst (Lies ticket stands r.origin r.log r.turn r.next s.homes) (rests ticket stands r.origin r.log r.turn r.next s.homes r.phase r.lies (all_served s r id v alone)) r.lies

  -- it has seen the whole history
  pub seen_all : (s : St) (r : R s) (id : ℕ) (v : V) → IsAlone s.views id v → r.log ≡ v.seen
  seen_all s r id v alone = let f = r.fits id v alone.here in prefix_whole v.seen r.log f.seen (by_length (length r.log) refl)
    where
      by_length : (k : ℕ) → length r.log ≡ k → length r.log ≤ length v.seen
      by_length zero e = omega arith
      by_length (suc k) e = let long = (at_rest s r id v alone).0 in let all = all_served s r id v alone in
          let l : k < length v.seen = (r.fits id v alone.here).done k (owns_all s r id v alone k (omega arith)) (omega arith) in omega arith

  -- the value is at home, and stands for what the pass has seen
  pub is_home : (s : St) (r : R s) (id : ℕ) (v : V) → IsAlone s.views id v → (x : T) × (s.homes ≡ maybe.some (Some x) ∷ []) × StandsFrom stands v.origin x v.seen
  is_home s r id v alone = let h = (at_rest s r id v alone).2 in let known = (staged ticket stands s r id v Outside alone.here alone.outside).0 in
      (h.0, h.1, subst (λ (z : Option O × List E). StandsFrom stands z.0 h.0 z.1) (λ i. (sym known i, seen_all s r id v alone i)) h.2)

  -- its tickets are those below the length of what it has seen, and each event has one of them
  pub its_tickets : (s : St) (r : R s) (id : ℕ) (v : V) → IsAlone s.views id v → ((t : ℕ) → t < length v.seen → Among t v.tickets) × ((t : ℕ) → Among t v.tickets → t < length v.seen)
  its_tickets s r id v alone =
      let long : length r.log ≡ r.turn = (at_rest s r id v alone).0 in let all = all_served s r id v alone in let same : length r.log ≡ length v.seen = ap length (seen_all s r id v alone) in (
        (λ t l. owns_all s r id v alone t (omega arith)),
        (λ t a. let l : t < r.next = ((r.fits id v alone.here).mine t a).0 in omega arith),
      )

  pub its_events : (s : St) (r : R s) (id : ℕ) (v : V) → IsAlone s.views id v → (e : E) → Among e v.seen → Among (ticket e) v.tickets
  its_events s r id v alone e a = let all = seen_all s r id v alone in
      let l = numbered_among ticket 0 r.log e r.numbered (subst (Among e) (sym all) a) in let same : length r.log ≡ length v.seen = ap length all in
      (its_tickets s r id v alone).0 (ticket e) (omega arith)

  pub tickets_apart : (s : St) → R s → (i j : ℕ) (u v : V) (t : ℕ) → get_elem? s.views i ≡ maybe.some u → get_elem? s.views j ≡ maybe.some v → Among t u.tickets → Among t v.tickets → i ≡ j
  tickets_apart s r i j u v t at_i at_j a b = sym ((r.fits i u at_i).mine t a).1 ∙ ((r.fits j v at_j).mine t b).1

  pub one_history : (s : St) (r : R s) → IsNumbered ticket 0 r.log × ((j : ℕ) (v : V) → get_elem? s.views j ≡ maybe.some v → IsPrefix v.seen r.log)
      × ((j : ℕ) (v : V) → get_elem? s.views j ≡ maybe.some v → v.stage ≡ Outside → v.origin ≡ Some r.origin)
  one_history s r = (r.numbered, (λ j v e. (r.fits j v e).seen), (λ j v e is. (staged ticket stands s r j v Outside e is).0))

  pub last_has_all : (s : St) (r : R s) (id : ℕ) (v : V) → IsAlone s.views id v
      → ((j : ℕ) (u : V) → get_elem? s.views j ≡ maybe.some u → j ≢ id → u.stage ≡ Spent) × ((t : ℕ) → t < r.next → Among t v.tickets) × ((e : E) → Among e r.log → Among (ticket e) v.tickets)
  last_has_all s r id v alone = (others_spent s r id v alone, owns_all s r id v alone, λ e a. its_events s r id v alone e (subst (Among e) (seen_all s r id v alone) a))

  -- what the slot of a closed table has
  pub ends : (id : ℕ) (v : V) (words : List ℕ) (slots : List (Option T)) → Final (Seen R id v) words slots → v.stage ≡ Outside → v.name ≡ [] → v.out ≡ []
      → ((x : T) × (get_elem? slots 0 ≡ maybe.some (Some x)) × StandsFrom stands v.origin x v.seen)
      × ((t : ℕ) → (t < length v.seen → Among t v.tickets) × (Among t v.tickets → t < length v.seen))
      × ((e : E) → Among e v.seen → Among (ticket e) v.tickets)
      × IsNumbered ticket 0 v.seen
  ends id v words slots last outside first none_out =
      let s = last.0 in let r = last.1.0 in
      let alone : IsAlone s.views id v = record { here = last.1.1; outside = outside; first = first; none_out = none_out } in
      let home = is_home s r id v alone in let own = its_tickets s r id v alone in (
        (home.0, last.4 0 (Some home.0) (ap (λ (hs : List (maybe.Option (Option T))). get_elem? hs 0) home.1), home.2),
        (λ t. (own.0 t, own.1 t)),
        its_events s r id v alone,
        subst (IsNumbered ticket 0) (seen_all s r id v alone) r.numbered,
      )

-- both histories begin the longer
pub both_begin : {A : Type 0} (xs ys : List A) → IsPrefix (shorter xs ys) (longer xs ys) → IsPrefix xs (longer xs ys) × IsPrefix ys (longer xs ys)
both_begin xs ys = longer_shorter (λ a b. IsPrefix b a → IsPrefix xs a × IsPrefix ys a) xs ys (λ _ p. (p, prefix_same ys)) (λ _ p. (prefix_same xs, p))

pub shorter_first : {A : Type 0} (xs ys : List A) → length (shorter xs ys) ≤ length (longer xs ys)
shorter_first xs ys = longer_shorter (λ a b. length b ≤ length a) xs ys (λ l. l) (λ l. l)

-- where the name that was noted last is taken back, with no other, the names are as before
pub back_again : (n : List ℕ) (names rest : List (List ℕ)) → rest ≡ [] → without n (n ∷ names) ++ rest ≡ names
back_again n names rest none = ap (λ (b : Bool). (if b then names else n ∷ without n names) ++ rest) (same_itself n) ∙ (ap (λ r. names ++ r) none ∙ append-nil names)

-- a pass that takes back what it split off last is out with the same passes as before
pub rejoined : {T E O : Type 0} (v a b w : View T E O) → w ≡ compared (joined a b) → a.name ≡ v.name → a.out ≡ new_name v ∷ v.out → b.name ≡ new_name v → b.out ≡ [] → (w.name ≡ v.name) × (w.out ≡ v.out)
rejoined v a b w is name out other none =
    (ap (λ (x : View _ _ _). x.name) is ∙ name, ap (λ (x : View _ _ _). x.out) is ∙ ((λ i. without (other i) (out i) ++ b.out) ∙ back_again (new_name v) v.out b.out none))
