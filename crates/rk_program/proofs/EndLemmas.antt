-- The words of the command line, and the lines of a file that was read.
use Rattle.std.proofs.Common.{◌≡◌, ℕ, ◌+◌, ◌≤◌, ◌<◌, Bool, true, false, List, [], ◌∷◌, length, Option, arith, ap, sym, refl, subst, get_or, Global}
use Rattle.std.specs.List.{list_all}
use Rattle.std.specs.Prelude.{String, codes, nat_eq, Result, Ok, Err, IsTrue, if◌then◌else◌, ◌&&◌}
use Rattle.std.specs.Cmp.Lexicographic.{pointwise}
use Rattle.std.specs.String.{string_bytes}
use Rattle.rk_script.proofs.Texts.{same_bytes_is}
use Rattle.rk_script.specs.Checks.{checked}
use Rattle.rk_script.specs.Grammar.{event_of, and_then}
use Rattle.rk_script.specs.Script.{read_from, BadLine, Names, names_after, is_accepted, are_live, is_free, has_room, name_checks, accepted_event, with_line, before_lines}
use Rattle.rk_script.specs.Words.{is_skipped, is_printable, words, lines}
use Rattle.rk_script.specs.declared.line.Event.{Event}
use Rattle.rk_script.specs.declared.line.Line.{Line as ScriptLine}
use Rattle.rk_script.specs.declared.line.Why.{Why}
use Rattle.rk_script.specs.declared.line.Why.TheVariants.{Byte, NoName, Taken, TooMany}
use Rattle.rk_program.specs.Transcript.{AreAccepted}
use Rattle.rk_program.specs.Causes.{are_words}

-- Lines that were read are accepted one after the other.

accepted_from_event : (names : Names) (event e : Event) → checked (name_checks names event) event ≡ Ok e → IsTrue (is_accepted names e)
accepted_from_event names event e h = at (are_live names event) (is_free names event) (has_room names event) refl h where
  at : (a b c : Bool) → is_accepted names event ≡ (a && b && c)
      → checked ((a, NoName) ∷ (b, Taken) ∷ (c, TooMany) ∷ []) event ≡ Ok e → IsTrue (is_accepted names e)
  at true true true is h = let same : event ≡ e = cc in let P : Event → Type 0 = λ x. is_accepted names x ≡ true in subst P same is
  at true true false is h = cc
  at true false c is h = cc
  at false b c is h = cc

accepted_from_line : (names : Names) (line : List ℕ) (event : Event) → accepted_event names line ≡ Ok event → IsTrue (is_accepted names event)
accepted_from_line names line event h = at (list_all is_printable line) (event_of (words line)) h where
  at : (t : Bool) (found : Result Event Why)
      → (if t then and_then (λ e. checked (name_checks names e) e) found else Err Byte) ≡ Ok event → IsTrue (is_accepted names event)
  at true (Ok e) h = accepted_from_event names e event h
  at true (Err why) h = cc
  at false found h = cc

pub read_from-accepted : (n : ℕ) (names : Names) (raw : List (List ℕ)) (ls : List ScriptLine) → read_from n names raw ≡ Ok ls → AreAccepted names ls
read_from-accepted n names [] ls h = let none : [] ≡ ls = cc in subst (AreAccepted names) none tt
read_from-accepted n names (line ∷ raw) ls h =
    at_line (is_skipped line) (accepted_event names line) refl h (λ xs. read_from-accepted (n + 1) names raw xs) (λ event xs. read_from-accepted (n + 1) (names_after names event) raw xs) where
      at_event : (event : Event) → IsTrue (is_accepted names event) → (rest : Result (List ScriptLine) BadLine) → read_from (n + 1) (names_after names event) raw ≡ rest
          → before_lines (record { number = n; event = event }) rest ≡ Ok ls
          → ((xs : List ScriptLine) → read_from (n + 1) (names_after names event) raw ≡ Ok xs → AreAccepted (names_after names event) xs)
          → AreAccepted names ls
      at_event event is (Ok rest) e h later =
          let same : record { number = n; event = event } ∷ rest ≡ ls = cc in
          subst (AreAccepted names) same (is, later rest e)
      at_event event is (Err bad) e h later = cc

      at_line : (t : Bool) (found : Result Event Why) → accepted_event names line ≡ found
          → (if t then read_from (n + 1) names raw else with_line n found (λ event. read_from (n + 1) (names_after names event) raw)) ≡ Ok ls
          → ((xs : List ScriptLine) → read_from (n + 1) names raw ≡ Ok xs → AreAccepted names xs)
          → ((event : Event) (xs : List ScriptLine) → read_from (n + 1) (names_after names event) raw ≡ Ok xs → AreAccepted (names_after names event) xs)
          → AreAccepted names ls
      at_line true found e h skipped taken = skipped ls h
      at_line false (Err why) e h skipped taken = cc
      at_line false (Ok event) e h skipped taken =
          at_event event (accepted_from_line names line event e) (read_from (n + 1) (names_after names event) raw) refl h (taken event)

-- The words.

one_item : {A : Type 0} (xs : List A) (x : A) → 1 ≤ length xs → length xs < 2 → x ≡ get_or xs 0 x → xs ≡ x ∷ []
one_item [] x some few is = absurd (omega arith)
one_item (y ∷ []) x some few is = ap (λ z. z ∷ []) (sym is)
one_item (y ∷ z ∷ zs) x some few is = absurd (omega arith)

pub one_word : (words : List (String Global)) (word : String Global) (text : List ℕ) → 1 ≤ length words → length words < 2
    → word ≡ get_or words 0 word → text ≡ string_bytes word → pointwise nat_eq text (codes "run") ≡ are_words words
one_word words word text some few is spelled =
    rw (one_item words word some few is, spelled) (same_bytes_is (string_bytes word) (codes "run"))
