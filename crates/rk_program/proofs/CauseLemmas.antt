-- What a part of a call did and why it failed, told of the whole call.
use Rattle.std.proofs.Common.{◌≡◌, ℕ, ◌+◌, ◌≤◌, List, ◌++◌, length, Option, arith, ◌∙◌}
use Rattle.std.specs.Io.KnownBytes.{Consumes}
use Rattle.std.proofs.KnownBytes.{Consumes-trans}
use Rattle.std.proofs.lemmas.List.{length-append}
use Rattle.rk_outside.specs.Causes.{Rose}
use Rattle.rk_program.specs.Ends.{IsNoFile}
use Rattle.rk_program.specs.Input.{IsSourceRefusal, TookAtMost}
use Rattle.rk_program.specs.declared.cause.Cause.{Cause}
use Rattle.rk_program.specs.declared.cause.Cause.TheVariants.{SourceFault, Memory}

Rose-earlier : (first between now : ℕ) → first ≤ between → Rose between now → Rose first now
Rose-earlier first between now later rose = omega arith

-- a piece of a source that was not read
pub IsNoFile-piece : (lb ln : Option (List ℕ)) (first between now : ℕ) (cause : Cause) → between ≡ first → IsSourceRefusal between now cause → IsNoFile lb ln first now cause
IsNoFile-piece lb ln first between now (SourceFault faults) same h = (Rose-earlier first between now (omega (arith, same)) h.0, h.1)
IsNoFile-piece lb ln first between now Memory same h = h ∙ same
IsNoFile-piece lb ln first between now other same h = absurd h

-- a first part of the source's bytes was taken, and then some more
pub took_more : (a b c : Option (List ℕ)) (file : List ℕ) (m most : ℕ) → length file + m ≤ most → Consumes a b file → TookAtMost b c m → TookAtMost a c most
took_more a b c file m most le one two =
    let len = length-append file two.0 in
    let within = two.2 in
    (file ++ two.0, Consumes-trans a b c file two.0 one two.1, omega arith)
