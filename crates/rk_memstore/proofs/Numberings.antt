-- Operations that are numbered on from a number, and the entries of a history with one more commit.
use Rattle.std.proofs.Common.{◌≡◌, ℕ, ◌+◌, ◌<◌, ◌≤◌, true, List, [], ◌∷◌, ◌++◌, length, get_or, take, refl, ap, sym, ◌∙◌, inl, inr, arith, append_assoc, append-nil}
use Rattle.std.specs.Prelude.{nat_lt, IsTrue}
use Rattle.std.specs.List.{All}
use Rattle.std.proofs.lemmas.Bool.{lt-ltb}
use Rattle.std.proofs.lemmas.List.{length-append, take_more, length-take-le}
use Rattle.std.proofs.lemmas.List.Folds.{list_all-append}
use Rattle.std.proofs.lemmas.List.Elements.{All-from_recursion}
use Rattle.rk_model.specs.Lists.{Among}
use Rattle.rk_model.specs.Items.{are_keyed, has_keys}
use Rattle.rk_model.specs.Operations.{History, operations, numbered, entries, last}
use Rattle.rk_model.specs.Histories.{AreCommits}
use Rattle.rk_model.specs.declared.op.Op.{Op}
use Rattle.rk_model.specs.declared.op.Entry.{Entry}
use Rattle.rk_model.proofs.Members.{all_among, every_gives}
use Rattle.rk_mem.specs.Chunks.{NumbersRise}
use Rattle.rk_laws.specs.SameCells.{WellFormed}
use Rattle.rk_merge_laws.proofs.Shown.{well_formed, op_keyed}

pub numbered_both : (m : ℕ) (ops more : List Op) → numbered m (ops ++ more) ≡ numbered m ops ++ numbered (m + length ops) more
numbered_both m [] more = ap (λ k. numbered k more) (omega arith)
numbered_both m (op ∷ ops) more = ap (λ es. record { op = op; seq = m } ∷ es) (numbered_both (m + 1) ops more ∙ ap (λ k. numbered (m + 1) ops ++ numbered k more) (omega arith))

pub numbered_within : (m : ℕ) (ops : List Op) (e : Entry) → Among e (numbered m ops) → (m ≤ e.seq) × (e.seq < m + length ops)
numbered_within m [] e at = absurd at
numbered_within m (op ∷ ops) e (inl is) = let s : e.seq ≡ m = ap (λ (f : Entry). f.seq) is in (omega (arith, s), omega (arith, s))
numbered_within m (op ∷ ops) e (inr more) = let rest = numbered_within (m + 1) ops e more in (omega (arith, rest.0), omega (arith, rest.1))

pub numbered_rise : (m : ℕ) (ops : List Op) → NumbersRise (numbered m ops)
numbered_rise m [] = refl
numbered_rise m (op ∷ []) = refl
numbered_rise m (op ∷ next ∷ ops) = let less : nat_lt m (m + 1) ≡ true = lt-ltb m (m + 1) (omega arith) in rw less (numbered_rise (m + 1) (next ∷ ops))

pub numbered_length : (m : ℕ) (ops : List Op) → length (numbered m ops) ≡ length ops
numbered_length m [] = refl
numbered_length m (op ∷ ops) = let rest = numbered_length (m + 1) ops in omega (arith, rest)

-- one more operation
pub numbered_more : (m : ℕ) (ops : List Op) (i : ℕ) (op d : Op) → i < length ops → op ≡ get_or ops i d → numbered m (take (i + 1) ops) ≡ numbered m (take i ops) ++ record { op = op; seq = m + i } ∷ []
numbered_more m ops i op d less is =
    ap (numbered m) (take_more ops i d less ∙ ap (λ o. take i ops ++ o ∷ []) (sym is))
    ∙ numbered_both m (take i ops) (op ∷ [])
    ∙ ap (λ k. numbered m (take i ops) ++ record { op = op; seq = m + k } ∷ []) (length-take-le i ops (omega arith))

pub keyed_more : (es : List Entry) (e : Entry) → IsTrue (are_keyed es) → IsTrue (has_keys e.op) → IsTrue (are_keyed (es ++ e ∷ []))
keyed_more es e keyed one = list_all-append (λ f. has_keys f.op) es (e ∷ []) ∙ rw (keyed, one) refl

-- entries whose keys are keys
pub keyed_well : (es : List Entry) → IsTrue (are_keyed es) → WellFormed es
keyed_well es keyed = well_formed es (λ e at. op_keyed e.op (every_gives (λ f. has_keys f.op) es e keyed at))

-- a history with one more commit
operations_push : (h : History) (ops : List Op) → operations (h ++ ops ∷ []) ≡ operations h ++ ops
operations_push [] ops = append-nil ops
operations_push (c ∷ cs) ops = ap (λ l. c ++ l) (operations_push cs ops) ∙ sym (append_assoc c (operations cs) ops)

pub last_push : (h : History) (ops : List Op) → last (h ++ ops ∷ []) ≡ last h + length ops
last_push h ops = ap length (operations_push h ops) ∙ length-append (operations h) ops

pub entries_push : (h : History) (ops : List Op) → entries (h ++ ops ∷ []) ≡ entries h ++ numbered (last h + 1) ops
entries_push h ops =
    ap (numbered 1) (operations_push h ops)
    ∙ numbered_both 1 (operations h) ops
    ∙ ap (λ k. numbered 1 (operations h) ++ numbered k ops) (omega arith)

pub none_above_last : (h : History) → All (λ e. e.seq ≤ last h) (entries h)
none_above_last h = All-from_recursion (λ e. e.seq ≤ last h) (entries h) (all_among (λ e. e.seq ≤ last h) (entries h) (λ e at. omega (arith, (numbered_within 1 (operations h) e at).1)))

pub commits_push : (h : History) (ops : List Op) → AreCommits h → 1 ≤ length ops → AreCommits (h ++ ops ∷ [])
commits_push [] ops all some = (some, tt)
commits_push (c ∷ cs) ops all some = (all.0, commits_push cs ops all.1 some)
