use Rattle.std.proofs.Common.{ℕ, ◌≤◌, false, List, length, Option, Some, None, refl, sym, arith, inl, inr}
use Rattle.std.proofs.Math.Seq.{take-length}
use Rattle.rk_outside.specs.Causes.{Rose}
use Rattle.rk_outside.specs.Disks.{Disk, Change, Write, Cut, Sync, Remove, Changes, MayRead}

-- what is asked of a cut
abbrev pub IsNoLonger : Change → Option (List ℕ) → Type 0
IsNoLonger (Cut len) (Some bytes) = len ≤ length bytes
IsNoLonger change file = Unit {0}

-- a change that failed may have left what reads give as it was
pub stays : (change : Change) (file : Option (List ℕ)) → IsNoLonger change file → MayRead change file file
stays (Write at bytes) None asked = tt
stays (Write at bytes) (Some old) asked = record { before = refl; after = refl; no_shorter = omega arith; no_longer = omega arith }
stays (Cut len) None asked = refl
stays (Cut len) (Some old) asked = record { no_shorter = asked; front = sym (take-length old) }
stays Sync file asked = refl
stays Remove file asked = inl refl

-- a vault that can't note a change does nothing and counts it
pub starved : (d : Disk) (file : ℕ) (change : Change) (before now : ℕ) → before ≤ now → Rose before now → IsNoLonger change (d.files file) → Changes file change false before now d d
starved d file change before now later rose asked = record {
  later = later;
  kept = λ ok. let bad : ⊥ = cc in absurd bad;
  told = record { files = refl; moments = refl };
  files = λ tells. record { this = stays change (d.files file) asked; others = λ f ne. refl };
  moments = λ tells tells'. inr (rose, record { files = λ f. refl; moments = refl });
}
