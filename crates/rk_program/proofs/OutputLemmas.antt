-- Bytes that are written in several turns.
use Rattle.std.proofs.Common.{◌≡◌, ℕ, ◌+◌, ◌≤◌, List, ◌++◌, length, take, drop, Option, arith, ap, sym, ◌∙◌, append_assoc, length-append}
use Rattle.std.proofs.lemmas.List.{take-append-drop}
use Rattle.std.proofs.Math.Seq.{take-append-add, take-append_seam}
use Rattle.std.proofs.KnownBytes.{Appends-trans, Appends-kept}
use Rattle.std.specs.Io.KnownBytes.{Appends, Keeps}
use Rattle.rk_outside.specs.Sinks.{AppendsPrefix}

-- what was written is what stands before the rest
pub record IsWritten (before now : Option (List ℕ)) (bytes rest : List ℕ) : Type 0 where
  pub done : List ℕ
  pub joined : bytes ≡ done ++ rest
  pub added : Appends before now done

pub IsWritten-more : (a b c : Option (List ℕ)) (bytes rest : List ℕ) (n : ℕ) → IsWritten a b bytes rest → Appends b c (take n rest) → IsWritten a c bytes (drop n rest)
IsWritten-more a b c bytes rest n w more = record {
  done = w.done ++ take n rest;
  joined = w.joined ∙ (ap (λ r. w.done ++ r) (sym (take-append-drop n rest)) ∙ sym (append_assoc w.done (take n rest) (drop n rest)));
  added = Appends-trans a b c w.done (take n rest) w.added more;
}

pub IsWritten-part : (a b c : Option (List ℕ)) (bytes rest : List ℕ) → IsWritten a b bytes rest → AppendsPrefix b c rest → AppendsPrefix a c bytes
IsWritten-part a b c bytes rest w part =
    let within : length w.done + part.0 ≤ length bytes = rw w.joined (rw (length-append w.done rest) (omega (arith, part.1))) in
    let same : take (length w.done + part.0) bytes ≡ w.done ++ take part.0 rest = rw w.joined (take-append-add w.done rest part.0) in
    (length w.done + part.0, within, rw same (Appends-trans a b c w.done (take part.0 rest) w.added part.2))

pub IsWritten-kept : (a b c : Option (List ℕ)) (bytes rest : List ℕ) → IsWritten a b bytes rest → Keeps b c → AppendsPrefix a c bytes
IsWritten-kept a b c bytes rest w kept =
    let within : length w.done ≤ length bytes = rw w.joined (rw (length-append w.done rest) (omega arith)) in
    let same : take (length w.done) bytes ≡ w.done = rw w.joined (take-append_seam w.done rest) in
    (length w.done, within, rw same (Appends-kept a b c w.done w.added kept))
