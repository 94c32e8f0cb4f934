-- What is pinned shows what the history gives.
use Rattle.std.proofs.Common.{◌≡◌, ℕ, Bool, true, false, cond, not, ◌==◌, List, Option, Some, None, Result, Ok, Err, IfOk, MatchResult, refl, ap, sym, subst, ◌∙◌, inl, inr, nat_le}
use Rattle.std.specs.List.{All}
use Rattle.std.specs.Option.{option_map_or}
use Rattle.std.proofs.lemmas.Bool.{eqb-true}
use Rattle.std.proofs.lemmas.List.Elements.{All-filter}
use Rattle.rk_key.specs.Keys.{IsKey}
use Rattle.rk_model.specs.Lists.{Among}
use Rattle.rk_model.specs.Operations.{entries, NumbersDiffer}
use Rattle.rk_model.specs.Covers.{over, upto}
use Rattle.rk_model.specs.Kept.{cells}
use Rattle.rk_model.specs.declared.op.Entry.{Entry}
use Rattle.rk_model.proofs.Members.{any_gives}
use Rattle.rk_laws.specs.SameCells.{WellFormed, op_keys}
use Rattle.rk_merge_laws.specs.Chunks.{all_of}
use Rattle.rk_machine.specs.State.{State}
use Rattle.rk_machine.specs.Events.{Reply}
use Rattle.rk_machine.specs.Snapshots.{is_live}
use Rattle.rk_machine.specs.Iterators.{open_due}
use Rattle.rk_memstore.specs.Agreement.{IsSeen}
use Rattle.rk_memstore.specs.Standing.{MemSeen, IsMemStore, StandsInMemory, parts}
use Rattle.rk_memstore.specs.Answers.{Shows}

abbrev value_or : {T F : Type 0} → T → Result T F → T
value_or d (Ok t) = t
value_or d (Err e) = d

-- What holds of what was found holds of what is answered, where that is the same but for the error.
pub of_answer : {T E F : Type 0} (P : T → Type 0) (found : Result T E) (answer : Result T F) (error : F) (t : T) → IfOk found P → answer ≡ Ok t → MatchResult found (λ u. answer ≡ Ok u) (λ _. answer ≡ Err error) → P t
of_answer P (Ok u) answer error t holds is said = subst P (ap (value_or t) (sym said ∙ is)) holds
of_answer P (Err e) answer error t holds is said = cc

-- a number that may be pinned is one at which the history is seen
pub seen_at : (c : MemSeen) (m : State) (at : Option ℕ) (n : ℕ) → StandsInMemory c m → n ≡ option_map_or (λ k. k) at c.last → open_due m at ≡ None → IsSeen m.history m.live n
seen_at c m None n stands is none_due = inl (is ∙ stands.last)
seen_at c m (Some k) n stands is none_due = inr (subst (λ j. Among j m.live) (eqb-true found.0 k found.1.1 ∙ sym is) found.1.0)
  where
    by : (b : Bool) (reply : Reply) → cond (not b) (Some reply) None ≡ None → b ≡ true
    by true reply h = refl
    by false reply h = cc

    found : (a : ℕ) × (Among a m.live × ((a == k) ≡ true))
    found = any_gives (λ j. j == k) m.live (by (is_live m k) _ none_due)

pub shown : (c : MemSeen) (m : State) (n : ℕ) (chunks : List (List Entry)) → IsMemStore c → StandsInMemory c m → IsSeen m.history m.live n → all_of chunks ≡ all_of (parts c) → Shows (record { number = n; chunks = chunks }) (entries m.history)
shown c m n chunks keeps stands seen all = record {
  differ = λ x. subst (λ es. NumbersDiffer (over x es)) (sym all) (stands.agrees.once x);
  cells = λ o bounds. record {
    covered = record {
      first = upto_keyed (all_of chunks) (subst WellFormed (sym all) keeps.keyed);
      second = upto_keyed (entries m.history) stands.keyed;
      bounds = bounds;
      covers = λ x key inside. ap (λ c. c.1) (same x key);
    };
    points = λ x key inside. ap (λ c. c.0) (same x key);
  };
}
  where
    upto_keyed : (es : List Entry) → WellFormed es → WellFormed (upto n es)
    upto_keyed es keyed = All-filter (λ e. nat_le e.seq n) (λ e. All IsKey (op_keys e.op)) es keyed

    same : (x : List ℕ) → IsKey x → cells (all_of chunks) n x ≡ cells (entries m.history) n x
    same x key = ap (λ es. cells es n x) all ∙ stands.agrees.same n seen x key
