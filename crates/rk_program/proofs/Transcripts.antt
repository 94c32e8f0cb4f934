-- Transcripts of some first lines, and one line more.
use Rattle.std.proofs.Common.{◌≡◌, ℕ, Bool, false, Some, None, List, [], ◌∷◌, ◌++◌, length, take, Option, arith, ap, sym, ◌∙◌, refl, subst, append_assoc, append-nil}
use Rattle.std.proofs.Math.Seq.{take-length, take-append_seam}
use Rattle.std.proofs.KnownBytes.{Appends-nil, Appends-trans, Appends-kept}
use Rattle.std.specs.Io.KnownBytes.{Appends, Keeps}
use Rattle.std.specs.Prelude.{Result, Ok, Err, IsOk, OnOk, is_err}
use Rattle.rk_outside.specs.Sinks.{AppendsPrefix}
use Rattle.rk_script.specs.Script.{BadLine, no_names, before_lines, script, IsScriptRefusal}
use Rattle.rk_script.specs.Words.{lines as script_lines}
use Rattle.rk_script.specs.declared.line.Line.{Line}
use Rattle.rk_script.specs.declared.line.ScriptError.{ScriptError}
use Rattle.rk_script.specs.declared.line.ScriptError.TheVariants as refusals
use Rattle.rk_program.specs.Transcript.{SessionState, begin, Does, IsTranscript, AreAccepted, names_of}
use Rattle.rk_script.specs.Lines.{IsNextLine}
use Rattle.rk_program.specs.Standing.{StandsFor, Did}
use Rattle.rk_program.specs.Ends.{Wrote, WrotePart}
use Rattle.rk_program.specs.declared.session.Session.{Session}
use Rattle.rk_program.proofs.OutputLemmas.{IsWritten, IsWritten-part}
use Rattle.rk_program.proofs.EndLemmas.{read_from-accepted}
use Rattle.rk_program.proofs.NameLemmas.{names_of-Does}

pub IsTranscript-one_more : (s : SessionState) (lines : List Line) (line : Line) (text more : List ℕ) (m e : SessionState)
    → IsTranscript s lines text m → Does m line.event more e → IsTranscript s (lines ++ line ∷ []) (text ++ more) e
IsTranscript-one_more s [] line text more m e t d =
    let Q : SessionState → Type 0 = λ from. Does from line.event more e in
    let here : Does s line.event more e = subst Q t.1 d in
    (more, [], e, here, (refl, refl), rw (t.0) (grind (arith, append-nil more)))
IsTranscript-one_more s (first ∷ lines) line text more m e t d =
    (t.0, t.1 ++ more, t.2, t.3, IsTranscript-one_more t.2 lines line t.1 more m e t.4 d, rw t.5 (append_assoc t.0 t.1 more))

-- What stands when some first lines are done, and the rest is to come
pub record SoFar {V : Type 0} (session : Session V) (before now : Option (List ℕ)) (done rest : List Line) : Type 0 where
  pub text : List ℕ
  pub state : SessionState
  pub transcript : IsTranscript begin done text state
  pub stands : StandsFor session state
  pub accepted : AreAccepted (names_of state) rest
  pub added : Appends before now text

pub SoFar-none : {V : Type 0} (session : Session V) (a : Option (List ℕ)) (lines : List Line) → StandsFor session begin → AreAccepted (names_of begin) lines → SoFar session a a [] lines
SoFar-none session a lines stands accepted =
    record { text = []; state = begin; transcript = (refl, refl); stands = stands; accepted = accepted; added = Appends-nil a }

-- one line more is done, and its replies were written
pub SoFar-more : {V : Type 0} (old new : Session V) (a b c : Option (List ℕ)) (done rest : List Line) (line : Line) (text : List ℕ)
    → (so_far : SoFar old a b done (line ∷ rest)) → (e : SessionState) → Does so_far.state line.event text e → StandsFor new e → Appends b c text
    → SoFar new a c (done ++ line ∷ []) rest
SoFar-more old new a b c done rest line text so_far e does stands added = record {
  text = so_far.text ++ text;
  state = e;
  transcript = IsTranscript-one_more begin done line so_far.text text so_far.state e so_far.transcript does;
  stands = stands;
  accepted = rw (names_of-Does so_far.state line.event text e does) so_far.accepted.1;
  added = Appends-trans a b c so_far.text text so_far.added added;
}

pub SoFar-all : {V : Type 0} (session : Session V) (a b c : Option (List ℕ)) (lines rest : List Line) → SoFar session a b lines rest → Keeps b c → Wrote a c lines
SoFar-all session a b c lines rest so_far kept = (so_far.text, so_far.state, so_far.transcript, Appends-kept a b c so_far.text so_far.added kept)

whole-part : (a b : Option (List ℕ)) (text : List ℕ) → Appends a b text → AppendsPrefix a b text
whole-part a b text added = (length text, omega arith, rw (take-length text) added)

-- no more was written than for the lines that are done
pub SoFar-part : {V : Type 0} (session : Session V) (a b c : Option (List ℕ)) (done rest : List Line) → SoFar session a b done rest → Keeps b c → WrotePart a c (done ++ rest)
SoFar-part session a b c done rest so_far kept = (
  length done,
  so_far.text,
  so_far.state,
  rw (take-append_seam done rest) so_far.transcript,
  whole-part a c so_far.text (Appends-kept a b c so_far.text so_far.added kept),
)

-- some of one line's replies were written too
pub SoFar-more_part : {V : Type 0} (session : Session V) (a b c : Option (List ℕ)) (done rest : List Line) (line : Line) (text : List ℕ)
    → (so_far : SoFar session a b done (line ∷ rest)) → (e : SessionState) → Does so_far.state line.event text e → AppendsPrefix b c text → WrotePart a c (done ++ line ∷ rest)
SoFar-more_part session a b c done rest line text so_far e does part =
    let written : IsWritten a b (so_far.text ++ text) text = record { done = so_far.text; joined = refl; added = so_far.added } in
    let upto : take (length (done ++ line ∷ [])) (done ++ line ∷ rest) ≡ done ++ line ∷ [] =
    ap (take (length (done ++ line ∷ []))) (sym (append_assoc done (line ∷ []) rest)) ∙ take-append_seam (done ++ line ∷ []) rest in (
      length (done ++ line ∷ []),
      so_far.text ++ text,
      e,
      rw upto (IsTranscript-one_more begin done line so_far.text text so_far.state e so_far.transcript does),
      IsWritten-part a b c (so_far.text ++ text) text written part,
    )

-- What stands before each turn of the loop over the lines of a file
pub record Going {V : Type 0} (session : Session V) (before now : Option (List ℕ)) (file : List ℕ) (left : Result (List Line) BadLine) : Type 0 where
  pub done : List Line
  pub rest : List Line
  pub left_is : left ≡ Ok rest
  pub file_is : script file ≡ Ok (done ++ rest)
  pub so_far : SoFar session before now done rest

-- at the beginning
pub Going-begun : {V : Type 0} (session : Session V) (a : Option (List ℕ)) (file : List ℕ) (left : Result (List Line) BadLine)
    → StandsFor session begin → left ≡ script file → IsOk (script file) → Going session a a file left
Going-begun session a file left stands is ok = of (script file) refl ok where
  of : (read : Result (List Line) BadLine) → script file ≡ read → IsOk read → Going session a a file left
  of (Ok lines) e ok = record {
    done = [];
    rest = lines;
    left_is = is ∙ e;
    file_is = e;
    so_far = SoFar-none session a lines stands (read_from-accepted 1 no_names (script_lines file) lines e);
  }
  of (Err bad) e ok = cc

-- the next line of those that are left
pub record IsNext {V : Type 0} (session : Session V) (before now : Option (List ℕ)) (file : List ℕ) (left : Result (List Line) BadLine) (line : Line) : Type 0 where
  pub done : List Line
  pub rest : List Line
  pub left_is : left ≡ Ok rest
  pub file_is : script file ≡ Ok (done ++ line ∷ rest)
  pub so_far : SoFar session before now done (line ∷ rest)

pub Going-next : {V : Type 0} (session : Session V) (a b : Option (List ℕ)) (file : List ℕ) (old new : Result (List Line) BadLine) (line : Line)
    → Going session a b file old → old ≡ before_lines line new → IsNext session a b file new line
Going-next session a b file old new line g is = of new refl where
  of : (n : Result (List Line) BadLine) → new ≡ n → IsNext session a b file new line
  of (Ok rest) e =
      let whole : Ok g.rest ≡ Ok (line ∷ rest) = sym g.left_is ∙ is ∙ ap (before_lines line) e in
      let same : g.rest ≡ line ∷ rest = cc in record {
        done = g.done;
        rest = rest;
        left_is = e;
        file_is = g.file_is ∙ ap (λ r. Ok (g.done ++ r)) same;
        so_far = subst (λ r. SoFar session a b g.done r) same g.so_far;
      }
  of (Err bad) e = let wrong : Ok g.rest ≡ Err bad = sym g.left_is ∙ is ∙ ap (before_lines line) e in cc

-- and once it is done
pub IsNext-done : {V : Type 0} (old new : Session V) (a b c : Option (List ℕ)) (file : List ℕ) (left : Result (List Line) BadLine) (line : Line) (text : List ℕ)
    → (n : IsNext old a b file left line) → (e : SessionState) → Does n.so_far.state line.event text e → StandsFor new e → Appends b c text → Going new a c file left
IsNext-done old new a b c file left line text n e does stands added = record {
  done = n.done ++ line ∷ [];
  rest = n.rest;
  left_is = n.left_is;
  file_is = n.file_is ∙ ap Ok (sym (append_assoc n.done (line ∷ []) n.rest));
  so_far = SoFar-more old new a b c n.done n.rest line text n.so_far e does stands added;
}

-- the lines of a file are these alone
lines_are : (file : List ℕ) (all lines : List Line) → script file ≡ Ok all → script file ≡ Ok lines → all ≡ lines
lines_are file all lines p q = let same : Ok all ≡ Ok lines = sym p ∙ q in cc

pub Going-all : {V : Type 0} (session : Session V) (a b c : Option (List ℕ)) (file : List ℕ) (left : Result (List Line) BadLine)
    → Going session a b file left → left ≡ Ok [] → Keeps b c → (lines : List Line) → script file ≡ Ok lines → Wrote a c lines
Going-all session a b c file left g over kept lines is =
    let none : Ok g.rest ≡ Ok [] = sym g.left_is ∙ over in
    let empty : g.rest ≡ [] = cc in
    let all : g.done ++ g.rest ≡ lines = lines_are file _ lines g.file_is is in
    let these : g.done ≡ lines = sym (append-nil g.done) ∙ ap (λ r. g.done ++ r) (sym empty) ∙ all in
    subst (λ ls. Wrote a c ls) these (SoFar-all session a b c g.done g.rest g.so_far kept)

pub Going-part : {V : Type 0} (session : Session V) (a b c : Option (List ℕ)) (file : List ℕ) (left : Result (List Line) BadLine)
    → Going session a b file left → Keeps b c → (lines : List Line) → script file ≡ Ok lines → WrotePart a c lines
Going-part session a b c file left g kept lines is =
    subst (λ ls. WrotePart a c ls) (lines_are file _ lines g.file_is is) (SoFar-part session a b c g.done g.rest g.so_far kept)

pub IsNext-part : {V : Type 0} (session : Session V) (a b c : Option (List ℕ)) (file : List ℕ) (left : Result (List Line) BadLine) (line : Line)
    → IsNext session a b file left line → Keeps b c → (lines : List Line) → script file ≡ Ok lines → WrotePart a c lines
IsNext-part session a b c file left line n kept lines is =
    subst (λ ls. WrotePart a c ls) (lines_are file _ lines n.file_is is) (SoFar-part session a b c n.done (line ∷ n.rest) n.so_far kept)

pub IsNext-more_part : {V : Type 0} (session : Session V) (a b c : Option (List ℕ)) (file : List ℕ) (left : Result (List Line) BadLine) (line : Line) (text : List ℕ)
    → (n : IsNext session a b file left line) → (e : SessionState) → Does n.so_far.state line.event text e → AppendsPrefix b c text
    → (lines : List Line) → script file ≡ Ok lines → WrotePart a c lines
IsNext-more_part session a b c file left line text n e does part lines is =
    subst (λ ls. WrotePart a c ls) (lines_are file _ lines n.file_is is) (SoFar-more_part session a b c n.done n.rest line text n.so_far e does part)

-- lines that are left are of the grammar
pub Going-good : {V : Type 0} (session : Session V) (a b : Option (List ℕ)) (file : List ℕ) (left : Result (List Line) BadLine) (error : ScriptError)
    → Going session a b file left → IsScriptRefusal left error → error ≡ refusals.Memory
Going-good session a b file left refusals.Memory g bad = refl
Going-good session a b file left (refusals.BadLine line why) g bad = let good : left ≡ Ok g.rest = g.left_is in cc

-- what a cursor answers that has a line before it
pub next_is : (old new : Result (List Line) BadLine) (next : Option Line) (line : Line) → IsNextLine old new (Ok next) → next ≡ Some line → old ≡ before_lines line new
next_is old new next line is some = subst (λ n. IsNextLine old new (Ok n)) some is

-- and what it answers at the end
pub end_is : (old new : Result (List Line) BadLine) (next : Option Line) → IsNextLine old new (Ok next) → next ≡ None → old ≡ Ok []
end_is old new next is none = (subst (λ n. IsNextLine old new (Ok n)) none is).0

-- what was done where no error was answered
pub not_err : {T E : Type 0} (P : Type 0) (result : Result T E) (failed : Bool) → failed ≡ is_err result → failed ≡ false → OnOk result P → P
not_err P (Ok t) failed is off p = p
not_err P (Err e) failed is off p = cc

-- what a line has written into room that was empty
pub record HasDone {V : Type 0} (s : SessionState) (line : Line) (text : List ℕ) (session : Session V) : Type 0 where
  pub after : SessionState
  pub does : Does s line.event text after
  pub stands : StandsFor session after

pub done_into_nothing : {V : Type 0} (s : SessionState) (line : Line) (before now : List ℕ) (session : Session V) → before ≡ [] → Did s line.event before now session → HasDone s line now session
done_into_nothing s line before now session none did =
    let same : did.0 ≡ now = sym (did.4 ∙ ap (λ b. b ++ did.0) none) in
    record { after = did.1; does = subst (λ text. Does s line.event text did.1) same did.2; stands = did.3 }
