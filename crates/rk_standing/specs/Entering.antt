-- What a vault is to be for an opening.
use Rattle.std.specs.Prelude.{ℕ, ◌≤◌, length, take}
use Rattle.rk_outside.specs.Disks.{Disk, IsHonest, EachImage}
use Rattle.rk_model.specs.Histories.{AreCommits}
use Rattle.rk_model.specs.Operations.{History, entries, last}
use Rattle.rk_laws.specs.SameCells.{WellFormed}
use Rattle.rk_standing.specs.Stands.{Stands, StandsForFirst}

-- A history whose keys are keys, of which what reads give stands for some first commits, and a number that no image of now is
-- below. Over a vault that is settled on a history that is the history, and both are its whole.
pub record StandsAtEntry (g : History) (k least : ℕ) (d : Disk) : Type 0 where
  pub commits : AreCommits g
  pub keyed : WellFormed (entries g)
  pub some_of : k ≤ length g
  pub not_above : least ≤ last (take k g)
  pub reads : Stands d.files (take k g)
  pub images : IsHonest d → EachImage d (StandsForFirst least g)
