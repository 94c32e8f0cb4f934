-- Worked examples: where a history may end, and what of it comes up to a number. Each is computed.
use Rattle.std.proofs.Common.{◌≡◌, List, [], ◌∷◌, refl}
use Rattle.std.specs.Prelude.{codes}
use Rattle.rk_model.specs.Covers.{upto}
use Rattle.rk_model.specs.Histories.{ends, ends_after, part_to}
use Rattle.rk_model.specs.Operations.{History, entries, last}
use Rattle.rk_model.specs.declared.op.Op.{Op}
use Rattle.rk_model.specs.declared.op.Op.TheVariants.{Put, Del, RangeDel}

-- commits of two operations, of one, and of three
abbrev two : List Op
two = Put (codes "a") (codes "x") ∷ Put (codes "b") (codes "y") ∷ []

abbrev one : List Op
one = Del (codes "a") ∷ []

abbrev three : List Op
three = Put (codes "c") (codes "z") ∷ RangeDel (codes "a") (codes "c") ∷ Put (codes "a") [] ∷ []

abbrev commits : History
commits = two ∷ one ∷ three ∷ []

no_commits_end_at_0 : ends [] ≡ 0 ∷ []
no_commits_end_at_0 = refl

a_history_ends_before_all_commits_and_behind_each : ends commits ≡ 0 ∷ 2 ∷ 3 ∷ 6 ∷ []
a_history_ends_before_all_commits_and_behind_each = refl

ends_go_on_behind_a_number : ends_after 2 (one ∷ three ∷ []) ≡ 2 ∷ 3 ∷ 6 ∷ []
ends_go_on_behind_a_number = refl

-- where it may end more than once at a number, a commit is empty
an_empty_commit_ends_where_it_begins : ends (two ∷ [] ∷ one ∷ []) ≡ 0 ∷ 2 ∷ 2 ∷ 3 ∷ []
an_empty_commit_ends_where_it_begins = refl

nothing_comes_up_to_0 : part_to 0 commits ≡ []
nothing_comes_up_to_0 = refl

at_an_end_all_commits_before_it : (part_to 2 commits ≡ two ∷ []) × (part_to 3 commits ≡ two ∷ one ∷ []) × (part_to 6 commits ≡ commits)
at_an_end_all_commits_before_it = (refl, refl, refl)

within_a_commit_none_of_it : (part_to 1 commits ≡ []) × (part_to 5 commits ≡ two ∷ one ∷ [])
within_a_commit_none_of_it = (refl, refl)

-- a later commit that is shorter doesn't come in the place of one that is too long
no_commit_is_left_out : part_to 1 (two ∷ one ∷ []) ≡ []
no_commit_is_left_out = refl

beyond_the_last_number_all : part_to 9 commits ≡ commits
beyond_the_last_number_all = refl

an_empty_commit_comes_up_to_its_end : part_to 2 (two ∷ [] ∷ one ∷ []) ≡ two ∷ [] ∷ []
an_empty_commit_comes_up_to_its_end = refl

the_part_to_an_end_has_the_entries_up_to_it : (entries (part_to 3 commits) ≡ upto 3 (entries commits)) × (last (part_to 3 commits) ≡ 3)
the_part_to_an_end_has_the_entries_up_to_it = (refl, refl)

-- the second entry is among those up to 2, and is no whole commit with those up to 1
within_a_commit_fewer : (entries (part_to 1 commits) ≡ []) × (upto 1 (entries commits) ≡ record { op = Put (codes "a") (codes "x"); seq = 1 } ∷ [])
within_a_commit_fewer = (refl, refl)

the_part_to_an_end_ends_there : ends (part_to 3 commits) ≡ 0 ∷ 2 ∷ 3 ∷ []
the_part_to_an_end_ends_there = refl
