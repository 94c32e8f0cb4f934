-- Each step of a turn keeps the rule.
use Rattle.std.proofs.Common.{◌≡◌, ◌≢◌, ℕ, zero, suc, ◌+◌, ◌%◌, ◌^◌, ◌<◌, ◌≤◌, inl, inr, ⊎_elim, Bool, true, true≢false, eqb, List, [], ◌∷◌, ◌++◌, length, get_or, set, refl, sym, ap, ◌∙◌, subst, arith, length-append, eq-eqb, ne_eqb, Some, None}
use Rattle.std.specs.Prelude.{Option, ◌==◌, if◌then◌else◌}
use mathlib.Core.Logic.{dite}
use mathlib.Core.Option as maybe
use native.Mathlib.Decide.{ℕ_discrete}
use lib.ListN.{get_elem?}
use lib.Seq.{set-get_or}
use prog.Atomic.{either}
use Rattle.atomic_table.specs.Table.{State, Me, Act, step, keeps, takes, gives, stepped, Allows, homes_after, opening}
use Rattle.atomic_table.proofs.Lists.{at_set, set_else}
use Rattle.rk_lock.specs.declared.view.View.{View}
use Rattle.rk_lock.specs.declared.view.Stage.{Stage}
use Rattle.rk_lock.specs.declared.view.Stage.TheVariants.{Fresh, Outside, Waiting, Called, Inside, Counted, Returned, Spent}
use Rattle.rk_lock.specs.Histories.{Among, IsPrefix, IsNumbered, total, hits}
use Rattle.rk_lock.specs.Views.{fresh, founded, drawn, at, counted, is_live, ticket_of, kept_of, named, times_out}
use Rattle.rk_lock.specs.Plays.{Holder, StandsFrom, found_origin, drew, looked, took, AddsOne, added, gave, served}
use Rattle.rk_lock.specs.Passes.{entered}
use Rattle.rk_lock.specs.Rule.{Phase, Resting, Working, Adding, Back, phase_of, IsDue, IsServed, Lies, FitsStage, Fits, Ruled}
use Rattle.rk_lock.proofs.Lists.{prefix_same, prefix_trans, prefix_more, numbered_more, total_same}

module _ {T E O : Type 0} (ticket : E → ℕ) (stands : T → O → List E → Type 0) where
  abbrev V : Type 0
  V = View T E O

  abbrev St : Type 0
  St = State (Option T) V

  abbrev R : St → Type 0
  R = Ruled ticket stands

  abbrev Homes : Type 0
  Homes = List (maybe.Option (Option T))

  pub fits_set : (K : ℕ → V → Type 0) (vs : List V) (id : ℕ) (w : V) → K id w → ((j : ℕ) (u : V) → j ≢ id → get_elem? vs j ≡ maybe.some u → K j u)
      → (j : ℕ) (u : V) → get_elem? (set vs id w) j ≡ maybe.some u → K j u
  fits_set K vs id w mine others j u e = ⊎_elim (λ (t : (j ≡ id) × (w ≡ u)). subst (λ (x : ℕ × V). K x.0 x.1) (λ i. (sym t.0 i, t.1 i)) mine)
      (λ (t : (j ≢ id) × (get_elem? vs j ≡ maybe.some u)). others j u t.0 t.1) (at_set vs id j w u e)

  pub here_after : (vs : List V) (id : ℕ) (v w : V) → get_elem? vs id ≡ maybe.some v → get_elem? (set vs id w) id ≡ maybe.some w
  here_after [] id v w e = absurd (maybe.some-ne-none v (sym e))
  here_after (x ∷ xs) zero v w e = refl
  here_after (x ∷ xs) (suc id) v w e = here_after xs id v w e

  abbrev FitsAt : (s : St) → R s → List E → ℕ → ℕ → V → Type 0
  FitsAt s r log turn j v = Fits ticket stands r.origin log turn r.next r.owner j v

  -- one view changes, and no ticket changes its owner
  moved : (s : St) (r : R s) (id : ℕ) (v w : V) (ws : List ℕ) (hs : Homes) (log : List E) (turn : ℕ) (phase : Phase)
      → get_elem? s.views id ≡ maybe.some v
      → w.tickets ≡ v.tickets → w.name ≡ v.name → w.out ≡ v.out → is_live w.stage ≡ is_live v.stage
      → ws ≡ r.next ∷ turn ∷ length log ∷ []
      → IsNumbered ticket 0 log
      → Lies ticket stands r.origin log turn r.next hs phase
      → (turn < r.next → r.owner turn ≡ id → phase ≡ phase_of w.stage)
      → ((u : V) → turn < r.next → r.owner turn ≢ id → get_elem? s.views (r.owner turn) ≡ maybe.some u → phase ≡ phase_of u.stage)
      → FitsAt s r log turn id w
      → ((j : ℕ) (u : V) → j ≢ id → get_elem? s.views j ≡ maybe.some u → FitsAt s r log turn j u)
      → R record { words = ws; homes = hs; views = set s.views id w }
  moved s r id v w ws hs log turn phase here tickets name out live words numbered lies mine_held others_held mine others = record {
    origin = r.origin;
    log = log;
    next = r.next;
    turn = turn;
    owner = r.owner;
    phase = phase;
    words = words;
    bound = r.bound;
    numbered = numbered;
    lies = lies;
    held = λ u less e. ⊎_elim
        (λ (t : (r.owner turn ≡ id) × (w ≡ u)). mine_held less t.0 ∙ ap (λ (x : V). phase_of x.stage) t.1)
        (λ (t : (r.owner turn ≢ id) × (get_elem? s.views (r.owner turn) ≡ maybe.some u)). others_held u less t.0 t.1)
        (at_set s.views id (r.owner turn) w u e);
    drawn = λ t less. let d = r.drawn t less in dite (ℕ_discrete (r.owner t) id)
        (λ same. let is : d.0 ≡ v = maybe.some-injective d.0 v (sym d.1 ∙ (ap (get_elem? s.views) same ∙ here)) in
        (w, subst (λ (k : ℕ). get_elem? (set s.views id w) k ≡ maybe.some w) (sym same) (here_after s.views id v w here), subst (Among t) (ap (λ (x : V). x.tickets) is ∙ sym tickets) d.2))
        (λ other. (d.0, set_else s.views id (r.owner t) w other ∙ d.1, d.2));
    fits = fits_set (FitsAt s r log turn) s.views id w mine others;
    names = λ n. total_same (named n) s.views id v w here (λ i. if live i then hits n (name i) else 0) ∙ (r.names n ∙ sym (total_same (times_out n) s.views id v w here (ap (total (hits n)) out)));
  }

  pub live_not_spent : (st : Stage T E) → is_live st ≡ true → st ≢ Spent
  live_not_spent st live e = true≢false (sym live ∙ ap is_live e)

  -- a pass that goes to another stage
  restaged : (origin : O) (log : List E) (turn next : ℕ) (owner : ℕ → ℕ) (j : ℕ) (v : V) (st : Stage T E) → Fits ticket stands origin log turn next owner j v
      → is_live v.stage ≡ true → is_live st ≡ true → FitsStage ticket stands origin log turn v.tickets v.seen v.origin st → Fits ticket stands origin log turn next owner j (at st v)
  restaged origin log turn next owner j v st f was live stage = record {
    seen = f.seen;
    noted = f.noted;
    mine = f.mine;
    done = f.done;
    stage = stage;
    deeper = f.deeper;
    first = λ _. f.first was;
    gone = λ e. absurd (live_not_spent st live e);
  }

  -- a step that changes nothing but a view
  pub stays : (s : St) (r : R s) (i id : ℕ) (cs : List (ℕ × Option T)) (v w : V) → get_elem? s.views id ≡ maybe.some v
      → w.tickets ≡ v.tickets → w.name ≡ v.name → w.out ≡ v.out → is_live w.stage ≡ is_live v.stage → phase_of w.stage ≡ phase_of v.stage
      → FitsAt s r r.log r.turn id w → R (stepped s i (get_or s.words i 0) id cs w keeps)
  stays s r i id cs v w here tickets name out live same fits = subst (λ (ws : List ℕ). R record { words = ws; homes = s.homes; views = set s.views id w }) (sym (set-get_or s.words i 0))
      (moved s r id v w s.words s.homes r.log r.turn r.phase here tickets name out live r.words r.numbered r.lies
      (λ less mine. r.held v less (ap (get_elem? s.views) mine ∙ here) ∙ sym same) (λ u less _ e. r.held u less e) fits (λ j u _ e. r.fits j u e))

  -- the others' views fit while the pass of this turn goes on
  others_fit : (origin : O) (log more : List E) (turn turn' next : ℕ) (owner : ℕ → ℕ) (j id : ℕ) (u : V) → owner turn ≡ id → j ≢ id
      → turn ≤ length log → length log ≤ length more → length more ≤ turn + 1 → turn ≤ turn' → turn' ≤ turn + 1 → IsPrefix log more
      → Fits ticket stands origin log turn next owner j u → Fits ticket stands origin more turn' next owner j u
  others_fit origin log more turn turn' next owner j id u own apart long longer short from to pre f = record {
    seen = prefix_trans u.seen log more f.seen pre;
    noted = prefix_trans u.noted log more f.noted pre;
    mine = f.mine;
    done = λ t a l. let n : t ≢ turn = not_turn t a in f.done t a (omega arith);
    stage = fits_stage u.stage f.stage;
    deeper = f.deeper;
    first = f.first;
    gone = f.gone;
  }
    where
      not_turn : (t : ℕ) → Among t u.tickets → t ≢ turn
      not_turn t a e = apart (sym (f.mine t a).1 ∙ (ap owner e ∙ own))

      due : (t : ℕ) → IsDue turn u.tickets t → IsDue turn' u.tickets t
      due t d = record {
        own = d.own;
        later = (let n : t ≢ turn = not_turn t d.own in let l : turn ≤ t = d.later in omega arith);
        others = λ x a n. (let l : x < turn = d.others x a n in omega arith);
      }

      never : {Z : Type 0} → (t : ℕ) → IsServed turn u.tickets t → Z
      never t h = absurd (not_turn t h.0.own h.1)

      fits_stage : (st : Stage T E) → FitsStage ticket stands origin log turn u.tickets u.seen u.origin st → FitsStage ticket stands origin more turn' u.tickets u.seen u.origin st
      fits_stage (Fresh x) h = h
      fits_stage Outside h = (h.0, λ t a. (let l : t < turn = h.1 t a in omega arith))
      fits_stage (Waiting t) h = (h.0, due t h.1)
      fits_stage (Called t kept) h = never t h.1
      fits_stage (Inside t kept) h = never t h.1
      fits_stage (Counted t) h = never t h.1
      fits_stage (Returned t) h = never t h.1
      fits_stage Spent h = h

  lies_more : (o : O) (log : List E) (turn next next' : ℕ) (hs : Homes) (phase : Phase) → next ≤ next' → Lies ticket stands o log turn next hs phase → Lies ticket stands o log turn next' hs phase
  lies_more o log turn next next' hs Resting le h = (h.0, (let l : turn ≤ next = h.1 in omega arith), h.2)
  lies_more o log turn next next' hs Working le h = (h.0, (let l : turn < next = h.1 in omega arith), h.2)
  lies_more o log turn next next' hs Adding le h = (h.0, (let l : turn < next = h.1 in omega arith), h.2)
  lies_more o log turn next next' hs Back le h = (h.0, (let l : turn < next = h.1 in omega arith), h.2)

  pub lies_within : (o : O) (log : List E) (turn next : ℕ) (hs : Homes) (phase : Phase) → Lies ticket stands o log turn next hs phase → (length log ≤ next) × (turn ≤ next)
  lies_within o log turn next hs Resting h = let a : length log ≡ turn = h.0 in let b : turn ≤ next = h.1 in (omega arith, omega arith)
  lies_within o log turn next hs Working h = let a : length log ≡ turn = h.0 in let b : turn < next = h.1 in (omega arith, omega arith)
  lies_within o log turn next hs Adding h = let a : length log ≡ turn + 1 = h.0 in let b : turn < next = h.1 in (omega arith, omega arith)
  lies_within o log turn next hs Back h = let a : length log ≡ turn + 1 = h.0 in let b : turn < next = h.1 in (omega arith, omega arith)

  -- where all tickets are served, the value is at home
  pub rests : (o : O) (log : List E) (turn next : ℕ) (hs : Homes) (phase : Phase) → Lies ticket stands o log turn next hs phase → turn ≡ next → phase ≡ Resting
  rests o log turn next hs Resting h e = refl
  rests o log turn next hs Working h e = let b : turn < next = h.1 in absurd (omega arith)
  rests o log turn next hs Adding h e = let b : turn < next = h.1 in absurd (omega arith)
  rests o log turn next hs Back h e = let b : turn < next = h.1 in absurd (omega arith)

  -- what the stage of a pass says
  pub staged : (s : St) (r : R s) (id : ℕ) (v : V) (st : Stage T E) → get_elem? s.views id ≡ maybe.some v → v.stage ≡ st → FitsStage ticket stands r.origin r.log r.turn v.tickets v.seen v.origin st
  staged s r id v st here is = subst (FitsStage ticket stands r.origin r.log r.turn v.tickets v.seen v.origin) is (r.fits id v here).stage

  -- where the value is, while the pass with the ticket that is served is at this stage
  placed : (s : St) (r : R s) (id : ℕ) (v : V) (st : Stage T E) → get_elem? s.views id ≡ maybe.some v → v.stage ≡ st → Among r.turn v.tickets
      → (r.owner r.turn ≡ id) × (r.turn < r.next) × Lies ticket stands r.origin r.log r.turn r.next s.homes (phase_of st)
  placed s r id v st here is own = let m = (r.fits id v here).mine r.turn own in
      (m.1, m.0, subst (Lies ticket stands r.origin r.log r.turn r.next s.homes) (r.held v m.0 (ap (get_elem? s.views) m.1 ∙ here) ∙ ap phase_of is) r.lies)

  word_is : (s : St) (r : R s) (i : ℕ) → get_or s.words i 0 ≡ get_or (r.next ∷ r.turn ∷ length r.log ∷ []) i 0
  word_is s r i = ap (λ (ws : List ℕ). get_or ws i 0) r.words

  abbrev M : Type 0
  M = Holder T E O

  pub founds : (slots id : ℕ) (me : M) (x : T) → me.0.stage ≡ Fresh x → Allows R slots id me 0 (λ n. n) (found_origin ticket stands (step slots 0 0 0 maybe.none) me)
  founds slots id me x is s r _ here _ = let f = r.fits id me.0 here in let h = staged s r id me.0 (Fresh x) here is in let w : V = founded r.origin me.0 in (
    w,
    keeps,
    tt,
    stays s r 0 id me.1 me.0 w here refl refl refl (sym (ap is_live is)) (sym (ap phase_of is)) record {
      seen = f.seen;
      noted = f.noted;
      mine = f.mine;
      done = f.done;
      stage = (refl, λ t a. absurd (subst (Among t) h.0 a));
      deeper = f.deeper;
      first = λ _. f.first (ap is_live is);
      gone = λ e. absurd (live_not_spent Outside refl e);
    },
    λ y e. (r.origin, refl, (staged s r id me.0 (Fresh y) here e).1),
  )

  pub looks : (slots id : ℕ) (me : M) (t : ℕ) → me.0.stage ≡ Waiting t → Allows R slots id me 1 (λ n. n) (looked ticket stands (step slots 1 0 0 maybe.none) me)
  looks slots id me t is s r _ here _ = let v = me.0 in let f = r.fits id v here in dite (ℕ_discrete (get_or s.words 1 0) t)
      (λ hit. let h = staged s r id v (Waiting t) here is in let same : r.turn ≡ t = sym (word_is s r 1) ∙ hit in
      let p = placed s r id v (Waiting t) here is (subst (λ k. Among k v.tickets) (sym same) h.1.own) in let w : V = at (Called t r.log) v in (
        w,
        keeps,
        tt,
        stays s r 1 id me.1 v w here refl refl refl (sym (ap is_live is)) (sym (ap phase_of is))
            (restaged r.origin r.log r.turn r.next r.owner id v (Called t r.log) f (ap is_live is) refl (h.0, (h.1, sym same), refl)),
        λ t' is'. (
          (λ hit'. let u : t' ≡ t = sym hit' ∙ hit in (r.log, (λ i. (at (Called (sym u i) r.log) v, me.1)), f.seen, p.2.0 ∙ (same ∙ sym u), r.numbered)),
          λ not. absurd (not (hit ∙ waits is is')),
        ),
      ))
      (λ miss. (v, keeps, tt, stays s r 1 id me.1 v v here refl refl refl refl refl f, λ t' is'. ((λ hit'. absurd (miss (hit' ∙ sym (waits is is')))), λ _. refl)))
    where
      waits : {st : Stage T E} {a b : ℕ} → st ≡ Waiting a → st ≡ Waiting b → a ≡ b
      waits p q = ap ticket_of (sym p ∙ q)

  -- a step of the pass whose turn it is, in which the number served stays
  works : (s : St) (r : R s) (id : ℕ) (v w : V) (ws : List ℕ) (hs : Homes) (more : List E) → get_elem? s.views id ≡ maybe.some v
      → w.tickets ≡ v.tickets → w.name ≡ v.name → w.out ≡ v.out → is_live w.stage ≡ is_live v.stage
      → r.owner r.turn ≡ id → r.turn ≤ length r.log → length r.log ≤ length more → length more ≤ r.turn + 1 → IsPrefix r.log more
      → ws ≡ r.next ∷ r.turn ∷ length more ∷ []
      → IsNumbered ticket 0 more
      → Lies ticket stands r.origin more r.turn r.next hs (phase_of w.stage)
      → FitsAt s r more r.turn id w
      → R record { words = ws; homes = hs; views = set s.views id w }
  works s r id v w ws hs more here tickets name out live own long longer short pre words numbered lies fits =
      moved s r id v w ws hs more r.turn (phase_of w.stage) here tickets name out live words numbered lies (λ _ _. refl) (λ u _ other _. absurd (other own)) fits
      (λ j u apart e. others_fit r.origin r.log more r.turn r.turn r.next r.owner j id u own apart long longer short (omega arith) (omega arith) pre (r.fits j u e))

  from_origin : (known : Option O) (origin : O) (x : T) (events : List E) → known ≡ Some origin → stands x origin events → StandsFrom stands known x events
  from_origin known origin x events is h = subst (λ k. StandsFrom stands k x events) (sym is) h

  at_origin : (known : Option O) (origin : O) (x : T) (events : List E) → known ≡ Some origin → StandsFrom stands known x events → stands x origin events
  at_origin known origin x events is h = subst (λ k. StandsFrom stands k x events) is h

  same_called : {st : Stage T E} {t t' : ℕ} {kept kept' : List E} → st ≡ Called t kept → st ≡ Called t' kept' → (t ≡ t') × (kept ≡ kept')
  same_called p q = (ap ticket_of (sym p ∙ q), ap kept_of (sym p ∙ q))

  same_inside : {st : Stage T E} {t t' : ℕ} {kept kept' : List E} → st ≡ Inside t kept → st ≡ Inside t' kept' → (t ≡ t') × (kept ≡ kept')
  same_inside p q = (ap ticket_of (sym p ∙ q), ap kept_of (sym p ∙ q))

  pub takes_value : (slots id : ℕ) (me : M) (t : ℕ) (kept : List E) → me.0.stage ≡ Called t kept → Allows R slots id me 2 (λ n. n) (took ticket stands (step slots 2 0 0 maybe.none) me)
  takes_value slots id me t kept is s r _ here _ =
      let v = me.0 in let f = r.fits id v here in let h = staged s r id v (Called t kept) here is in
      let own : Among r.turn v.tickets = subst (λ k. Among k v.tickets) h.1.1 h.1.0.own in
      let p = placed s r id v (Called t kept) here is own in let l = p.2 in let home = l.2 in let x : T = home.0 in
      let w : V = at (Inside t kept) v in let long : length r.log ≡ r.turn = l.0 in (
        w,
        takes 0 (Some x),
        ap (λ (hs : Homes). get_elem? hs 0) home.1,
        subst (λ (ws : List ℕ). R record { words = ws; homes = set s.homes 0 maybe.none; views = set s.views id w }) (sym (set-get_or s.words 2 0))
            (works s r id v w s.words (set s.homes 0 maybe.none) r.log here refl refl refl (sym (ap is_live is)) p.0 (omega arith) (omega arith) (omega arith) (prefix_same r.log) r.words r.numbered
            (long, p.1, ap (λ (hs : Homes). set hs 0 maybe.none) home.1)
            (restaged r.origin r.log r.turn r.next r.owner id v (Inside t kept) f (ap is_live is) refl (h.0, h.1, h.2))),
        λ t' kept' is'. let same = same_called is is' in
            (x, (λ i. (at (Inside (same.0 i) (same.1 i)) v, (0, Some x) ∷ me.1)), from_origin v.origin r.origin x kept' h.0 (subst (stands x r.origin) (sym h.2 ∙ same.1) home.2)),
      )

  pub counts : (slots id : ℕ) (me : M) (t : ℕ) (kept : List E) (x : T) (told : E → Type 0) → me.0.stage ≡ Inside t kept → me.1 ≡ (0, Some x) ∷ []
      → ((e : E) × AddsOne ticket stands me.0.origin t kept x e × told e)
      → Allows R slots id me 2 (λ n. (n + 1) % 2 ^ 64) (added ticket stands told (step slots 2 1 0 maybe.none) me)
  counts slots id me t kept x told is has adds s r _ here _ =
      let v = me.0 in let f = r.fits id v here in let h = staged s r id v (Inside t kept) here is in let e = adds.0 in
      let own : Among r.turn v.tickets = subst (λ k. Among k v.tickets) h.1.1 h.1.0.own in
      let p = placed s r id v (Inside t kept) here is own in let l = p.2 in let long : length r.log ≡ r.turn = l.0 in let less : r.turn < r.next = p.1 in let bound = r.bound in
      let more : List E = r.log ++ e ∷ [] in let longer : length more ≡ length r.log + 1 = length-append r.log (e ∷ []) in
      let now : get_or s.words 2 0 ≡ length r.log = word_is s r 2 in
      let up : (get_or s.words 2 0 + 1) % 18446744073709551616 ≡ length more = omega arith in
      let w : V = counted t (kept ++ e ∷ []) v in let seen : kept ++ e ∷ [] ≡ more = ap (λ (k : List E). k ++ e ∷ []) h.2 in (
        w,
        keeps,
        tt,
        works s r id v w (set s.words 2 ((get_or s.words 2 0 + 1) % 2 ^ 64)) s.homes more here refl refl refl (sym (ap is_live is)) p.0 (omega arith) (omega arith) (omega arith) (e ∷ [], refl)
            (ap (λ (ws : List ℕ). set ws 2 ((get_or s.words 2 0 + 1) % 2 ^ 64)) r.words ∙ ap (λ (k : ℕ). r.next ∷ r.turn ∷ k ∷ []) up)
            (numbered_more ticket 0 r.log e r.numbered (let number : ticket e ≡ t = adds.1.0 in let turn : t ≡ r.turn = h.1.1 in omega arith))
            ((omega arith), p.1, l.2)
            record {
              seen = subst (IsPrefix (kept ++ e ∷ [])) seen (prefix_same (kept ++ e ∷ []));
              noted = prefix_more v.noted r.log (e ∷ []) f.noted;
              mine = f.mine;
              done = λ u a less'. subst (λ (k : List E). u < length k) (sym seen) less';
              stage = (h.0, h.1, seen);
              deeper = f.deeper;
              first = λ _. f.first (ap is_live is);
              gone = λ g. absurd (live_not_spent (Counted t) refl g);
            },
        λ t' kept' x' is' has'. let same = same_inside is is' in let value : x ≡ x' = same_value (sym has ∙ has') in (
          e,
          subst (λ (z : ℕ × List E × T). AddsOne ticket stands v.origin z.0 z.1 z.2 e) (λ i. (same.0 i, same.1 i, value i)) adds.1,
          adds.2,
          (λ i. (counted (same.0 i) (same.1 i ++ e ∷ []) v, me.1)),
        ),
      )
    where
      value_or : T → List (ℕ × Option T) → T
      value_or y [] = y
      value_or y (c ∷ cs) = Rattle.std.specs.Option.unwrap_or c.1 y

      same_value : {x x' : T} → ◌≡◌ {A = List (ℕ × Option T)} ((0, Some x) ∷ []) ((0, Some x') ∷ []) → x ≡ x'
      same_value {x} {x'} q = ap (value_or x) q

  pub gives_back : (slots id : ℕ) (me : M) (t : ℕ) (x : T) → me.0.stage ≡ Counted t → me.1 ≡ (0, Some x) ∷ [] → StandsFrom stands me.0.origin x me.0.seen
      → Allows R slots id me 2 (λ n. n) (gave (step slots 2 0 0 maybe.none) me)
  gives_back slots id me t x is has good s r _ here _ =
      let v = me.0 in let f = r.fits id v here in let h = staged s r id v (Counted t) here is in
      let own : Among r.turn v.tickets = subst (λ k. Among k v.tickets) h.1.1 h.1.0.own in
      let p = placed s r id v (Counted t) here is own in let l = p.2 in let long : length r.log ≡ r.turn + 1 = l.0 in
      let w : V = at (Returned t) v in let hs : Homes = homes_after s.homes me.1 gives in
      let home : hs ≡ maybe.some (Some x) ∷ [] = ap (λ (cs : List (ℕ × Option T)). homes_after s.homes cs gives) has ∙ ap (λ (k : Homes). set k 0 (maybe.some (Some x))) l.2 in (
        w,
        gives,
        tt,
        subst (λ (ws : List ℕ). R record { words = ws; homes = hs; views = set s.views id w }) (sym (set-get_or s.words 2 0))
            (works s r id v w s.words hs r.log here refl refl refl (sym (ap is_live is)) p.0 (omega arith) (omega arith) (omega arith) (prefix_same r.log) r.words r.numbered
            (long, p.1, (x, home, subst (stands x r.origin) h.2 (at_origin v.origin r.origin x v.seen h.0 good)))
            (restaged r.origin r.log r.turn r.next r.owner id v (Returned t) f (ap is_live is) refl (h.0, h.1, h.2))),
        λ t' is'. λ i. (at (Returned (ap ticket_of (sym is ∙ is') i)) v, Rattle.atomic_table.specs.Table.rest me.1),
      )

  idle_phase : (o : O) (log : List E) (turn next : ℕ) (owner : ℕ → ℕ) (j id : ℕ) (u : V) → owner turn ≡ id → j ≢ id → Fits ticket stands o log turn next owner j u → phase_of u.stage ≡ Resting
  idle_phase o log turn next owner j id u own apart f = by_stage u.stage f.stage
    where
      never : {Z : Type 0} → (t : ℕ) → IsServed turn u.tickets t → Z
      never t h = absurd (apart (sym (f.mine t h.0.own).1 ∙ (ap owner h.1 ∙ own)))

      by_stage : (st : Stage T E) → FitsStage ticket stands o log turn u.tickets u.seen u.origin st → phase_of st ≡ Resting
      by_stage (Fresh x) h = refl
      by_stage Outside h = refl
      by_stage (Waiting t) h = refl
      by_stage (Called t kept) h = refl
      by_stage (Inside t kept) h = never t h.1
      by_stage (Counted t) h = never t h.1
      by_stage (Returned t) h = never t h.1
      by_stage Spent h = refl

  pub serves : (slots id : ℕ) (me : M) (t : ℕ) → me.0.stage ≡ Returned t → Allows R slots id me 1 (λ n. (n + 1) % 2 ^ 64) (served (step slots 1 1 0 maybe.none) me)
  serves slots id me t is s r _ here _ =
      let v = me.0 in let f = r.fits id v here in let h = staged s r id v (Returned t) here is in
      let own : Among r.turn v.tickets = subst (λ k. Among k v.tickets) h.1.1 h.1.0.own in
      let p = placed s r id v (Returned t) here is own in let l = p.2 in let long : length r.log ≡ r.turn + 1 = l.0 in let less : r.turn < r.next = p.1 in let bound = r.bound in
      let now : get_or s.words 1 0 ≡ r.turn = word_is s r 1 in
      let up : (get_or s.words 1 0 + 1) % 18446744073709551616 ≡ r.turn + 1 = omega arith in
      let w : V = at Outside v in let after : ℕ = r.turn + 1 in (
        w,
        keeps,
        tt,
        moved s r id v w (set s.words 1 ((get_or s.words 1 0 + 1) % 2 ^ 64)) s.homes r.log after Resting here refl refl refl (sym (ap is_live is))
            (ap (λ (ws : List ℕ). set ws 1 ((get_or s.words 1 0 + 1) % 2 ^ 64)) r.words ∙ ap (λ (k : ℕ). r.next ∷ k ∷ length r.log ∷ []) up)
            r.numbered
            (long, (omega arith), l.2)
            (λ _ _. refl)
            (λ u less' other e. sym (idle_phase r.origin r.log r.turn r.next r.owner (r.owner after) id u p.0 other (r.fits (r.owner after) u e)))
            record {
              seen = f.seen;
              noted = f.noted;
              mine = f.mine;
              done = f.done;
              stage = (
                h.0,
                λ u a. dite (ℕ_discrete u t)
                    (λ same. let turn : t ≡ r.turn = h.1.1 in omega arith) (λ other. let l' : u < r.turn = h.1.0.others u a other in omega arith),
              );
              deeper = f.deeper;
              first = λ _. f.first (ap is_live is);
              gone = λ g. absurd (live_not_spent Outside refl g);
            }
            (λ j u apart e. others_fit r.origin r.log r.log r.turn after r.next r.owner j id u p.0 apart (omega arith) (omega arith) (omega arith) (omega arith) (omega arith) (prefix_same r.log) (r.fits j u e)),
        refl,
      )

  abbrev owner_after : (ℕ → ℕ) → ℕ → ℕ → ℕ → ℕ
  owner_after owner old id t = if t == old then id else owner t

  owner_new : (owner : ℕ → ℕ) (old id t : ℕ) → t ≡ old → owner_after owner old id t ≡ id
  owner_new owner old id t e = ap (λ (b : Bool). if b then id else owner t) (eq-eqb t old e)

  owner_old : (owner : ℕ → ℕ) (old id t : ℕ) → t ≢ old → owner_after owner old id t ≡ owner t
  owner_old owner old id t n = ap (λ (b : Bool). if b then id else owner t) (ne_eqb t old n)

  -- a pass outside draws the next ticket
  draws_next : (s : St) (r : R s) (id old : ℕ) (cs : List (ℕ × Option T)) (v : V) → get_elem? s.views id ≡ maybe.some v → v.stage ≡ Outside → r.next ≡ old → old < 18446744073709551615
      → R (stepped s 0 (old + 1) id cs (drawn old v) keeps)
  draws_next s r id old cs v here is now room =
      let f = r.fits id v here in let h = staged s r id v Outside here is in let w : V = drawn old v in
      let in_ = lies_within r.origin r.log r.turn r.next s.homes r.phase r.lies in let log_in : length r.log ≤ r.next = in_.0 in let turn_in : r.turn ≤ r.next = in_.1 in
      let owner : ℕ → ℕ = owner_after r.owner old id in
      let before : (t : ℕ) → t < r.next → owner t ≡ r.owner t = λ t l. owner_old r.owner old id t (λ e. omega arith) in record {
        origin = r.origin;
        log = r.log;
        next = old + 1;
        turn = r.turn;
        owner = owner;
        phase = r.phase;
        words = ap (λ (ws : List ℕ). set ws 0 (old + 1)) r.words;
        bound = omega arith;
        numbered = r.numbered;
        lies = lies_more r.origin r.log r.turn r.next (old + 1) s.homes r.phase (omega arith) r.lies;
        held = λ u less e. dite (ℕ_discrete r.turn old)
            (λ all. rests r.origin r.log r.turn r.next s.homes r.phase r.lies (all ∙ sym now) ∙ new_one u (ap (get_elem? (set s.views id w)) (sym (owner_new r.owner old id r.turn all)) ∙ e))
            (λ some_left. let l : r.turn < r.next = omega arith in let same = before r.turn l in ⊎_elim
            (λ (t : (r.owner r.turn ≡ id) × (w ≡ u)). absurd (not_mine f.mine h.1 l t.0))
            (λ (t : (r.owner r.turn ≢ id) × (get_elem? s.views (r.owner r.turn) ≡ maybe.some u)). r.held u l t.1)
            (at_set s.views id (r.owner r.turn) w u (ap (get_elem? (set s.views id w)) (sym same) ∙ e)));
        drawn = λ t less. dite (ℕ_discrete t old)
            (λ new. (w, ap (get_elem? (set s.views id w)) (owner_new r.owner old id t new) ∙ here_after s.views id v w here, inl new))
            (λ other. let l : t < r.next = omega arith in let d = r.drawn t l in dite (ℕ_discrete (r.owner t) id)
            (λ same. let it : d.0 ≡ v = maybe.some-injective d.0 v (sym d.1 ∙ (ap (get_elem? s.views) same ∙ here)) in
            (w, ap (get_elem? (set s.views id w)) (before t l ∙ same) ∙ here_after s.views id v w here, inr (subst (λ (x : V). Among t x.tickets) it d.2)))
            (λ apart. (d.0, ap (get_elem? (set s.views id w)) (before t l) ∙ (set_else s.views id (r.owner t) w apart ∙ d.1), d.2)));
        fits = fits_set (Fits ticket stands r.origin r.log r.turn (old + 1) owner) s.views id w
            record {
              seen = f.seen;
              noted = f.noted;
              mine = λ t a. ⊎_elim (λ (e : t ≡ old). ((omega arith), owner_new r.owner old id t e))
                  (λ (b : Among t v.tickets). let m = f.mine t b in let l : t < r.next = m.0 in ((omega arith), before t l ∙ m.1)) a;
              done = λ t a less. ⊎_elim (λ (e : t ≡ old). absurd (omega arith)) (λ (b : Among t v.tickets). f.done t b less) a;
              stage = (h.0, record { own = inl refl; later = omega arith; others = λ t a n. ⊎_elim (λ (e : t ≡ old). absurd (n e)) (λ (b : Among t v.tickets). h.1 t b) a });
              deeper = f.deeper;
              first = λ _. f.first (ap is_live is);
              gone = λ g. absurd (live_not_spent (Waiting old) refl g);
            }
            (λ j u apart e. let k = r.fits j u e in record {
              seen = k.seen;
              noted = k.noted;
              mine = λ t a. let m = k.mine t a in let l : t < r.next = m.0 in ((omega arith), before t l ∙ m.1);
              done = k.done;
              stage = k.stage;
              deeper = k.deeper;
              first = k.first;
              gone = k.gone;
            });
        names = λ n. total_same (named n) s.views id v w here (λ i. if is_live (sym is i) then hits n v.name else 0) ∙ (r.names n ∙ sym (total_same (times_out n) s.views id v w here refl));
      }
    where
      new_one : (u : V) → get_elem? (set s.views id (drawn old v)) id ≡ maybe.some u → Resting ≡ phase_of u.stage
      new_one u e = ap (λ (x : V). phase_of x.stage) (maybe.some-injective (drawn old v) u (sym (here_after s.views id v (drawn old v) here) ∙ e))

      not_mine : {Z : Type 0} → ((t : ℕ) → Among t v.tickets → (t < r.next) × (r.owner t ≡ id)) → ((t : ℕ) → Among t v.tickets → t < r.turn) → r.turn < r.next → r.owner r.turn ≡ id → Z
      not_mine mine served l own = let d = r.drawn r.turn l in let it : d.0 ≡ v = maybe.some-injective d.0 v (sym d.1 ∙ (ap (get_elem? s.views) own ∙ here)) in
          let less : r.turn < r.turn = served r.turn (subst (λ (x : V). Among r.turn x.tickets) it d.2) in absurd (omega arith)

  pub draws : (slots id : ℕ) (me : M) (old : ℕ) → me.0.stage ≡ Outside → old < 18446744073709551615
      → Allows R slots id me 0 (λ n. either (eqb n old) (old + 1) n) (drew (step slots 0 old (old + 1) maybe.none) me)
  draws slots id me old is room s r _ here _ = let v = me.0 in let n : ℕ = get_or s.words 0 0 in dite (ℕ_discrete n old)
      (λ hit. let now : r.next ≡ old = sym (word_is s r 0) ∙ hit in let h = staged s r id v Outside here is in let f = r.fits id v here in (
        drawn old v,
        keeps,
        tt,
        subst (λ b. R (stepped s 0 (either b (old + 1) n) id me.1 (drawn old v) keeps)) (sym (eq-eqb n old hit)) (draws_next s r id old me.1 v here is now room),
        ((λ _. (refl, λ t a. let l : t < r.next = (f.mine t a).0 in omega arith)), λ not. absurd (not hit)),
      ))
      (λ miss. (
        v,
        keeps,
        tt,
        subst (λ b. R (stepped s 0 (either b (old + 1) n) id me.1 v keeps)) (sym (ne_eqb n old miss)) (stays s r 0 id me.1 v v here refl refl refl refl refl (r.fits id v here)),
        ((λ hit. absurd (miss hit)), λ _. refl),
      ))

  pub opens : (x : T) (o : O) → stands x o [] → R (opening (0 ∷ 0 ∷ 0 ∷ []) (Some x ∷ []) (fresh x))
  opens x o good = record {
    origin = o;
    log = [];
    next = 0;
    turn = 0;
    owner = λ _. 0;
    phase = Resting;
    words = refl;
    bound = omega arith;
    numbered = tt;
    lies = (refl, (omega arith), (x, refl, good));
    held = λ v l _. absurd (omega arith);
    drawn = λ t l. absurd (omega arith);
    fits = one;
    names = λ n. refl;
  }
    where
      one : (j : ℕ) (v : V) → get_elem? (fresh x ∷ []) j ≡ maybe.some v → Fits ticket stands o [] 0 0 (λ _. 0) j v
      one zero v e = subst (Fits ticket stands o [] 0 0 (λ _. 0) 0) (maybe.some-injective (fresh x) v e) record {
        seen = prefix_same [];
        noted = prefix_same [];
        mine = λ t a. absurd a;
        done = λ t a. absurd a;
        stage = (refl, good);
        deeper = λ n a. absurd a;
        first = λ _ _. refl;
        gone = λ _. refl;
      }
      one (suc j) v e = absurd (maybe.some-ne-none v (sym e))

  -- what a turn begins with, in the words of the view after
  pub entering : (v w : V) (x : T) (t : ℕ) (history : List E) → w ≡ entered t history v → IsPrefix v.seen history → StandsFrom stands v.origin x history → length history ≡ t → IsNumbered ticket 0 history → ((u : ℕ) → Among u v.tickets → u < t)
      → (w ≡ entered (ticket_of w.stage) (kept_of w.stage) v) × IsPrefix v.seen (kept_of w.stage) × StandsFrom stands v.origin x (kept_of w.stage)
      × (ticket_of w.stage ≡ length (kept_of w.stage)) × IsNumbered ticket 0 (kept_of w.stage) × ((u : ℕ) → Among u v.tickets → u < ticket_of w.stage)
  entering v w x t history is pre good long numbered above =
      let P : ℕ × List E → Type 0 = λ z. (w ≡ entered z.0 z.1 v) × IsPrefix v.seen z.1 × StandsFrom stands v.origin x z.1 × (z.0 ≡ length z.1) × IsNumbered ticket 0 z.1 × ((u : ℕ) → Among u v.tickets → u < z.0) in
      subst P (λ i. (ticket_of (sym is i).stage, kept_of (sym is i).stage)) (is, pre, good, sym long, numbered, above)

-- a value that stands for one list stands for another where it does so from each origin
pub stands_more : {T E O : Type 0} (stands : T → O → List E → Type 0) (known : Option O) (x y : T) (xs ys : List E) → ((o : O) → stands x o xs → stands y o ys) → StandsFrom stands known x xs → StandsFrom stands known y ys
stands_more stands None x y xs ys more h = h
stands_more stands (Some o) x y xs ys more h = more o h
