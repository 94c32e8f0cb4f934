-- What is due behind groups, which the contracts of private functions cite.
use Rattle.std.specs.Prelude.{◌≡◌, ℕ, ◌+◌, List, ◌++◌}
use Rattle.std.specs.Option.{option_map}
use Rattle.rk_model.specs.Lists.{last_of}
use Rattle.rk_log.specs.Groups.{group_end}
use Rattle.rk_log.specs.Logs.{due_behind, later}
use Rattle.rk_log.specs.declared.group.Logged.{Logged}
use Rattle.rk_log.specs.declared.rules.Due.{Due}

-- it is due behind the groups of a log, and those of the other log that are taken before them
pub record IsDue (flushed : ℕ) (others before : List Logged) (due : Due) : Type 0 where
  pub flushed_is : due.flushed ≡ flushed
  pub in_log : due.in_log ≡ option_map (λ g. group_end g.group) (last_of before)
  pub in_turn : due.in_turn ≡ due_behind (flushed + 1) (others ++ later flushed before)
