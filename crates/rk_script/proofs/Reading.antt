-- What is read line after line, and the lines so far before it.
use Rattle.std.proofs.Common.{◌≡◌, ℕ, ◌+◌, ◌++◌, Bool, true, false, cond, List, [], ◌∷◌, Option, Some, Result, Ok, Err, refl, sym, ap, subst, ◌∙◌, append_assoc}
use Rattle.rk_script.specs.Lines.{LinesLeft, first_line, behind_line, past_line, remaining, after_event, IsNextKept, IsNextLine}
use Rattle.rk_script.specs.Script.{Names, BadLine, accepted_event, names_after, before_lines, with_line, read_from}
use Rattle.rk_script.specs.Words.{lines, is_skipped}
use Rattle.rk_script.specs.declared.line.Event.{Event}
use Rattle.rk_script.specs.declared.line.Line.{Line}
use Rattle.rk_script.specs.declared.line.Why.{Why}
use Rattle.rk_script.proofs.Cutting.{cuts}

-- ---- a line after the other

at_first : (n : ℕ) (names : Names) (line : List ℕ) (rest : List (List ℕ)) (skipped : Bool) → is_skipped line ≡ skipped → read_from n names (line ∷ rest) ≡ cond skipped (read_from (n + 1) names rest) (with_line n (accepted_event names line) (λ event. read_from (n + 1) (names_after names event) rest))
at_first n names line rest skipped is =
    ap (λ b. cond b (read_from (n + 1) names rest) (with_line n (accepted_event names line) (λ event. read_from (n + 1) (names_after names event) rest))) is

pub past_skipped : (old new : LinesLeft) (line : List ℕ) → line ≡ first_line old.left → new ≡ past_line old → is_skipped line ≡ true → remaining old ≡ remaining new
past_skipped old new line is moved skipped =
    cuts (old.number + 1) old.names old.left ∙ at_first (old.number + 1) old.names (first_line old.left) (lines (behind_line old.left)) true (ap is_skipped (sym is) ∙ skipped) ∙ ap remaining (sym moved)

pub at_kept : (old new : LinesLeft) (line : List ℕ) → line ≡ first_line old.left → new ≡ past_line old → is_skipped line ≡ false → IsNextKept old new (Some line)
at_kept old new line is moved kept =
    cuts (old.number + 1) old.names old.left ∙ at_first (old.number + 1) old.names (first_line old.left) (lines (behind_line old.left)) false (ap is_skipped (sym is) ∙ kept)
    ∙ ap (λ l. with_line (old.number + 1) (accepted_event old.names l) (λ event. remaining (after_event (past_line old) event))) (sym is)
    ∙ ap (λ l. with_line l.number (accepted_event l.names line) (λ event. remaining (after_event l event))) (sym moved)

-- ---- the next line, its words read

abbrev following : LinesLeft → Result Event Why → Result (List Line) BadLine
following l event = with_line l.number event (λ event. remaining (after_event l event))

-- what is seen of the cursor, once it stands behind the line
pub takes : (old kept seen : LinesLeft) (line : List ℕ) (event : Event) (names : Names) → IsNextKept old kept (Some line) → seen ≡ kept → accepted_event seen.names line ≡ Ok event → names ≡ names_after seen.names event
    → remaining old ≡ before_lines (record { number = seen.number; event = event }) (remaining (record seen { names = names }))
takes old kept seen line event names is same read then =
    is ∙ ap (λ l. following l (accepted_event l.names line)) (sym same) ∙ ap (following seen) read
    ∙ ap (λ ns. before_lines (record { number = seen.number; event = event }) (remaining (record seen { names = ns }))) (sym then)

pub refuses : (old kept seen : LinesLeft) (line : List ℕ) (why : Why) → IsNextKept old kept (Some line) → seen ≡ kept → accepted_event seen.names line ≡ Err why → remaining old ≡ Err (record { line = seen.number; why = why })
refuses old kept seen line why is same read =
    is ∙ ap (λ l. following l (accepted_event l.names line)) (sym same) ∙ ap (following seen) read

-- ---- the lines so far

abbrev pub with_front : List Line → Result (List Line) BadLine → Result (List Line) BadLine
with_front front (Ok lines) = Ok (front ++ lines)
with_front front (Err bad) = Err bad

one_line : (front : List Line) (line : Line) (read : Result (List Line) BadLine) → with_front (front ++ line ∷ []) read ≡ with_front front (before_lines line read)
one_line front line (Ok lines) = ap Ok (append_assoc front (line ∷ []) lines)
one_line front line (Err bad) = refl

pub one_more : (front : List Line) (old new whole : Result (List Line) BadLine) (next : Option Line) (line : Line) → IsNextLine old new (Ok next) → next ≡ Some line → with_front front old ≡ whole → with_front (front ++ line ∷ []) new ≡ whole
one_more front old new whole next line is some so_far =
    let next_is : old ≡ before_lines line new = subst (λ n. IsNextLine old new (Ok n)) some is in
    one_line front line new ∙ ap (with_front front) (sym next_is) ∙ so_far
