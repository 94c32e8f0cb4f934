-- What a function that reads a line answers, against the definition of what it reads.
use Rattle.std.specs.Prelude.{◌≡◌, Result, Ok, Err}
use Rattle.rk_script.specs.declared.error.LineError.{LineError}
use Rattle.rk_script.specs.declared.error.LineError.TheVariants.{Memory, Bad}
use Rattle.rk_script.specs.declared.line.Why.{Why}

-- there is no memory, which says nothing, or the definition refuses for the same cause
abbrev pub Refuses : {A : Type 0} → Result A Why → LineError → Type 0
Refuses read Memory = Unit {0}
Refuses read (Bad why) = read ≡ Err why

-- what was answered, seen by view, is what the definition gives, where there is memory
abbrev pub ReadsAs : {A B : Type 0} → (A → B) → Result A LineError → Result B Why → Type 0
ReadsAs view (Ok a) read = read ≡ Ok (view a)
ReadsAs view (Err error) read = Refuses read error

abbrev pub ReadsSame : {A : Type 0} → Result A LineError → Result A Why → Type 0
ReadsSame result read = ReadsAs (λ a. a) result read
