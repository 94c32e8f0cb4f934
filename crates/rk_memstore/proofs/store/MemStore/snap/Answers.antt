use Rattle.std.proofs.Common.{◌≡◌, ◌≤◌, ◌<◌, ℕ, List, length, Result, Ok, Err, ap, sym, subst, arith}
use Rattle.rk_outside.specs.declared.error.StoreError.{StoreError}
use Rattle.rk_outside.specs.declared.error.StoreError.TheVariants.{TooManySnaps, Memory}
use Rattle.rk_machine.specs.Events.{Snap, Number, Refused}
use Rattle.rk_memstore.specs.Standing.{MemSeen}
use Rattle.rk_memstore.specs.Answers.{IsStep, reply_of}
use Rattle.rk_memstore.proofs.Live.{snap_done, snap_fails, snap_refused}
use Rattle.rk_memstore.proofs.store.MemStore.snap.Goals.{in-Ok, in-Err}
use Rattle.rk_memstore.proofs.store.MemStore.snap.Goals as goal

pub returns-then-len-ge-MOST_SNAPSHOTS-clause-step :
    goal.returns-then-len-ge-MOST_SNAPSHOTS-clause-step
returns-then-len-ge-MOST_SNAPSHOTS-clause-step c =
    let live : c.self.inside.live.items ≡ c.args.self.now.live = ap (λ (seen : MemSeen). seen.live) c.self.view_is in
    let many : length c.args.self.now.live ≡ c.len-then-len-ge-MOST_SNAPSHOTS.result = omega (arith, ap length live, c.len-then-len-ge-MOST_SNAPSHOTS.ensures) in
    let full : 1000 ≤ length c.args.self.now.live = omega (arith, ap length live, c.len.ensures, c.if-len-ge-MOST_SNAPSHOTS.true) in
    subst (λ (k : ℕ). IsStep c.args.self.now c.args.self.now Snap (Refused (TooManySnaps k))) many (snap_refused c.args.self.now full)

pub returns-clause-step : goal.returns-clause-step
returns-clause-step c =
    let fields = c.self.inside in
    let old : MemSeen = record { active = fields.active; frozen = fields.frozen; last = fields.last; live = fields.live.items } in
    let now : MemSeen = record old { live = c.push.new.self.items } in
    let few : length fields.live.items < 1000 = omega (arith, c.len.ensures, c.if-len-ge-MOST_SNAPSHOTS.false) in
    let said : (r : Result ℕ StoreError) → c.match-push.result ≡ r → IsStep old now Snap (reply_of Number r) → IsStep old now Snap (reply_of Number c.match-push.result) =
    λ r is. subst (λ (q : Result ℕ StoreError). IsStep old now Snap (reply_of Number q)) (sym {A = Result ℕ StoreError} is) in
    let step : IsStep old now Snap (reply_of Number c.match-push.result) = elim c.match-push.branch [
      | in-Ok w ↦ said (Ok fields.last) w.result-is (subst (λ (live : List ℕ). IsStep old (record old { live = live }) Snap (Number fields.last)) (sym {A = List ℕ} w.in-Ok.ensures.items) (snap_done old few))
      | in-Err w ↦ said (Err Memory) w.result-is (subst (λ (live : List ℕ). IsStep old (record old { live = live }) Snap (Refused Memory)) (sym {A = List ℕ} w.in-Err.ensures.items) (snap_fails old few))
    ] in
    subst (λ (seen : MemSeen). IsStep seen now Snap (reply_of Number c.match-push.result)) c.self.view_is step
