-- Lines on batches, and commits: what they do to a session, and to the state that it stands for.
use Rattle.std.proofs.Common.{◌≡◌, ℕ, false, List, [], ◌∷◌, ◌++◌, map, length, set, get_or, None, arith, ap, sym, ◌∙◌, refl, subst, length-append, append-nil, IsPermutation, inl, inr, ⊎_elim}
use Rattle.std.proofs.Math.Seq.{get_or-append_seam, set-append_seam}
use Rattle.std.specs.Prelude.{◌≢◌, unwrap_or, Ok, Err}
use Rattle.rk_model.specs.Named.{named, with_named}
use Rattle.rk_model.specs.declared.op.Op.{Op}
use Rattle.rk_batch.specs.Checks.{Check, AllPass, IsRefusal, checks}
use Rattle.rk_batch.specs.Checks.{IsFirst as IsFirstOf}
use Rattle.rk_batch.specs.declared.error.BatchError.{BatchError}
use Rattle.rk_batch.specs.declared.error.BatchError.TheVariants.{Memory}
use Rattle.rk_machine.specs.State.{State}
use Rattle.rk_machine.specs.Events.{Commit as commits, Reply}
use Rattle.rk_machine.specs.Machine.{Step}
use Rattle.rk_memstore.specs.Standing.{StandsInMemory}
use Rattle.rk_memstore.specs.Answers.{StepsFrom}
use Rattle.rk_script.specs.Naming.{is_called}
use Rattle.rk_program.specs.Replies.{refused_text, Tells}
use Rattle.rk_program.specs.Standing.{StandsFor, DidSo, AreAt, IsPlaceOf, IsGiven, batches, numbers}
use Rattle.rk_program.specs.Transcript.{SessionState, with_batch, batch_of, left_by, DoesOp, DoesCommit}
use Rattle.rk_program.specs.declared.session.Session.{Session}
use Rattle.rk_program.specs.declared.session.Writer.{Writer}
use Rattle.rk_program.proofs.NameLemmas.{map-snoc}
use Rattle.rk_program.proofs.Naming.{IsFirst, IsFirst-named, IsFirst-set, named-absent, with_named-absent}
use Rattle.rk_program.proofs.Told.{commit_live, commit_iterators}

abbrev pub writer_name : Writer → List ℕ
writer_name w = w.name

abbrev pub writer_batch : Writer → List Op
writer_batch w = w.batch

-- The place of a writer.

pub IsPlaceOf-found : (ws : List Writer) (name : List ℕ) (i : ℕ) → IsFirst writer_name ws name i → IsPlaceOf ws ws name i
IsPlaceOf-found ws name i first = record {
  within = first.within;
  called = first.here;
  batch = λ d. sym (ap (λ found. unwrap_or found []) (IsFirst-named writer_name writer_batch ws name i d first));
  put = λ w same. IsFirst-set writer_name writer_batch ws name i w first same;
}

at_end : (ws : List Writer) (name : List ℕ) (w : Writer) → is_called name (map writer_name ws) ≡ false → w.name ≡ name → w.batch ≡ []
    → IsPlaceOf ws (ws ++ w ∷ []) name (length ws)
at_end ws name w absent called empty = record {
  within = omega (arith, length-append ws (w ∷ []));
  called = λ d. ap writer_name (get_or-append_seam ws w [] d) ∙ called;
  batch = λ d. ap writer_batch (get_or-append_seam ws w [] d) ∙ (empty
      ∙ ap (λ found. unwrap_or found []) (sym (named-absent writer_name writer_batch name ws absent)));
  put = λ y same. ap batches (set-append_seam ws w [] y) ∙ (map-snoc (λ x. (writer_name x, writer_batch x)) ws y
      ∙ (ap (λ n. batches ws ++ (n, y.batch) ∷ []) same ∙ sym (with_named-absent writer_name writer_batch name y.batch ws absent)));
}

pub IsPlaceOf-new : (ws new : List Writer) (name : List ℕ) (w : Writer) (i : ℕ) → is_called name (map writer_name ws) ≡ false
    → w.name ≡ name → w.batch ≡ [] → new ≡ ws ++ w ∷ [] → i ≡ length ws → IsPlaceOf ws new name i
IsPlaceOf-new ws new name w i absent called empty more is = rw (more, is) (at_end ws name w absent called empty)

-- An operation that is given to a batch.

pub stands_with_batch : {V : Type 0} (old new : Session V) (w : List ℕ) (ops : List Op) (s : SessionState) → StandsFor old s
    → new.mem ≡ old.mem → new.snapshots.items ≡ old.snapshots.items → new.iterators.items ≡ old.iterators.items
    → batches new.writers.items ≡ with_named w ops (batches old.writers.items)
    → StandsFor new (with_batch w ops s)
stands_with_batch old new w ops s stands same_mem same_snapshots same_iterators put = record {
  mem = subst (λ c. StandsInMemory c s.state) (sym same_mem) stands.mem;
  running = stands.running;
  batches = put ∙ ap (with_named w ops) stands.batches;
  snapshots = ap numbers same_snapshots ∙ stands.snapshots;
  live = stands.live;
  iterators = subst (λ is. AreAt is s.state.iterators) (sym same_iterators) stands.iterators;
}

-- a writer's batch is that of the state
is_batch : {V : Type 0} (old : Session V) (w : List ℕ) (mid : List Writer) (i : ℕ) (x : Writer) (s : SessionState)
    → StandsFor old s → IsPlaceOf old.writers.items mid w i → x ≡ get_or mid i x → x.batch ≡ batch_of w s
is_batch old w mid i x s stands place is = ap writer_batch is ∙ (place.batch x ∙ ap (λ bs. unwrap_or (named w bs) []) stands.batches)

pub added_does : {T V : Type 0} (u : T) (old new : Session V) (w : List ℕ) (o : Op) (mid : List Writer) (i : ℕ) (x y : Writer) (before now : List ℕ) (s : SessionState)
    → StandsFor old s → IsPlaceOf old.writers.items mid w i → x ≡ get_or mid i x → y.name ≡ x.name
    → IsGiven {T = T} x.batch y.batch o (Ok u)
    → new.mem ≡ old.mem → new.snapshots.items ≡ old.snapshots.items → new.iterators.items ≡ old.iterators.items
    → new.writers.items ≡ set mid i y → now ≡ before
    → DidSo (DoesOp s w o) before now new
added_does {T = T} u old new w o mid i x y before now s stands place is same_name given same_mem same_snapshots same_iterators put said =
    let batch : x.batch ≡ batch_of w s = is_batch old w mid i x s stands place is in
    let called : y.name ≡ w = same_name ∙ (ap writer_name is ∙ place.called x) in
    let P : List Op → Type 0 = λ ops. AllPass (checks ops o) in
    let passes : AllPass (checks (batch_of w s) o) = subst P batch given.passes in (
      [],
      with_batch w (batch_of w s ++ o ∷ []) s,
      inl (passes, refl, refl),
      stands_with_batch old new w (batch_of w s ++ o ∷ []) s stands same_mem same_snapshots same_iterators
          (ap batches put ∙ (place.put y called ∙ ap (λ b. with_named w b (batches old.writers.items)) (given.added ∙ ap (λ b. b ++ o ∷ []) batch))),
      said ∙ sym (append-nil before),
    )

the_first : (ops : List Check) (e : BatchError) → IsRefusal ops e → e ≢ Memory → IsFirstOf ops e
the_first ops e refusal other = ⊎_elim (λ (h : e ≡ Memory). absurd (other h)) (λ (h : IsFirstOf ops e). h) refusal

pub refused_op_does : {V : Type 0} (T : Type 0) (old new : Session V) (w : List ℕ) (o : Op) (mid : List Writer) (i : ℕ) (x y : Writer) (e : BatchError) (before now : List ℕ) (s : SessionState)
    → StandsFor old s → IsPlaceOf old.writers.items mid w i → x ≡ get_or mid i x → y.name ≡ x.name
    → IsGiven {T = T} x.batch y.batch o (Err e)
    → new.mem ≡ old.mem → new.snapshots.items ≡ old.snapshots.items → new.iterators.items ≡ old.iterators.items
    → new.writers.items ≡ set mid i y → e ≢ Memory → now ≡ before ++ refused_text w e
    → DidSo (DoesOp s w o) before now new
refused_op_does T old new w o mid i x y e before now s stands place is same_name given same_mem same_snapshots same_iterators put other said =
    let batch : x.batch ≡ batch_of w s = is_batch old w mid i x s stands place is in
    let called : y.name ≡ w = same_name ∙ (ap writer_name is ∙ place.called x) in
    let P : List Op → Type 0 = λ ops. IsFirstOf (checks ops o) e in
    let first : IsFirstOf (checks (batch_of w s) o) e = subst P batch (the_first (checks x.batch o) e given.refusal other) in (
      refused_text w e,
      with_batch w (batch_of w s) s,
      inr (e, first, refl, refl),
      stands_with_batch old new w (batch_of w s) s stands same_mem same_snapshots same_iterators
          (ap batches put ∙ (place.put y called ∙ ap (λ b. with_named w b (batches old.writers.items)) (given.same ∙ batch))),
      said,
    )

-- A commit, whatever the reply: what is left of the batch is what the reply leaves.

pub commit_does : {V : Type 0} (old new : Session V) (w : List ℕ) (mid : List Writer) (i : ℕ) (x y : Writer) (reply : Reply) (before now : List ℕ) (s : SessionState)
    → StandsFor old s → IsPlaceOf old.writers.items mid w i → x ≡ get_or mid i x → y.name ≡ x.name → y.batch ≡ left_by reply x.batch
    → ((m : State) → m.halted ≡ None → StandsInMemory old.mem m → StepsFrom m new.mem (commits x.batch false) reply)
    → new.snapshots.items ≡ old.snapshots.items → new.iterators.items ≡ old.iterators.items
    → new.writers.items ≡ set mid i y → Tells before now w reply
    → DidSo (DoesCommit s w) before now new
commit_does old new w mid i x y reply before now s stands place is same_name left steps same_snapshots same_iterators put tells =
    let batch : x.batch ≡ batch_of w s = is_batch old w mid i x s stands place is in
    let called : y.name ≡ w = same_name ∙ (ap writer_name is ∙ place.called x) in
    let stepped = steps s.state stands.running stands.mem in
    let m = stepped.0 in
    let step : Step s.state (commits (batch_of w s) false) reply m = subst (λ ops. Step s.state (commits ops false) reply m) batch stepped.1 in (
      tells.0,
      record { state = m; batches = with_named w (left_by reply (batch_of w s)) s.batches; snapshots = s.snapshots },
      (reply, step, tells.1, refl, refl),
      record {
        mem = stepped.2;
        running = stepped.3 ∙ stands.running;
        batches = ap batches put ∙ (place.put y called ∙ (ap (λ b. with_named w b (batches old.writers.items)) (left ∙ ap (left_by reply) batch)
            ∙ ap (with_named w (left_by reply (batch_of w s))) stands.batches));
        snapshots = ap numbers same_snapshots ∙ stands.snapshots;
        live = subst (λ l. IsPermutation (map (λ p. p.1) s.snapshots) l) (sym (commit_live s.state (batch_of w s) false reply m step)) stands.live;
        iterators = subst (λ is. AreAt is m.iterators) (sym same_iterators)
            (subst (λ os. AreAt old.iterators.items os) (sym (commit_iterators s.state (batch_of w s) false reply m step)) stands.iterators);
      },
      tells.2,
    )
