use Rattle.std.proofs.Common.{rules, ◌≡◌, ℕ, ◌+◌, ◌%◌, List, [], ◌∷◌, ◌++◌, length, length-append, arith, refl, sym, ap, subst}
use Rattle.std.specs.Prelude.{Option, sum_by}
use Rattle.std.proofs.lemmas.List.Sums.{sum_by-append}
use Rattle.rk_store_tests.specs.declared.turns.Added.{Added}
use Rattle.rk_store_tests.specs.declared.turns.Tally.{Tally}
use Rattle.rk_lock.specs.Views.{ticket_of, kept_of}
use Rattle.rk_lock.specs.Plays.{StandsFrom}
use Rattle.rk_lock.specs.Passes.{view}
use Rattle.rk_lock.proofs.Steps.{stands_more}
use Rattle.rk_store_tests.proofs.turns.add.Goals as goal

abbrev Stands : Tally → ℕ → List Added → Type 0
Stands t start events = (t.sum ≡ (start + sum_by (λ (e : Added). e.amount) events) % 18446744073709551616) × (t.count ≡ length events % 18446744073709551616)

adds : (start : ℕ) (t : Tally) (amount : ℕ) (events : List Added) (e : Added) → e.amount ≡ amount → Stands t start events
    → Stands (record { sum = (t.sum + amount) % 18446744073709551616; count = (t.count + 1) % 18446744073709551616; last = amount }) start (events ++ e ∷ [])
adds start t amount events e is h =
    let a : t.sum ≡ (start + sum_by (λ (e : Added). e.amount) events) % 18446744073709551616 = h.0 in let b : t.count ≡ length events % 18446744073709551616 = h.1 in
    (omega (arith, sum_by-append (λ (e : Added). e.amount) events (e ∷ [])), omega (arith, length-append events (e ∷ [])))

pub leave-requires-send-T : goal.leave-requires-send-T
leave-requires-send-T g c κs =
    let n = c.enter-tally.ensures in let w = view c.enter-tally.new.pass in let t : Tally = c.enter-tally.result in
    let e : Added = record { ticket = ticket_of w.stage; amount = c.args.amount } in
    let known : (view c.args.pass.now).origin ≡ w.origin = sym (ap (λ v. v.origin) n.entered) in
    let was : StandsFrom Stands w.origin t (kept_of w.stage) = subst (λ (o : Option ℕ). StandsFrom Stands o t (kept_of w.stage)) known n.stands in
    let more : Tally = record { sum = (t.sum + c.args.amount) % 18446744073709551616; count = (t.count + 1) % 18446744073709551616; last = c.args.amount } in
    (search rules, (search rules, (search rules, (search rules, (n.pass, (refl, stands_more Stands w.origin t more (kept_of w.stage) (kept_of w.stage ++ e ∷ []) (λ start h. adds start t c.args.amount (kept_of w.stage) e refl h) was))))))
