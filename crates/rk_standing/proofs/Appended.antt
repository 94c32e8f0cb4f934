-- What an append to a log leaves stands for the history, or for it with the commits of its group.
use Rattle.std.proofs.Common.{◌≡◌, ◌⊎◌, ℕ, ◌+◌, ◌<◌, ◌≤◌, Bool, Ok, List, ◌++◌, length, take, refl, sym, subst, ◌∙◌, arith, inr, ⊎_elim}
use Rattle.std.proofs.lemmas.List.{length-append, take_all}
use Rattle.std.proofs.Math.Seq.{take-append_seam}
use Rattle.rk_outside.specs.Disks.{Files}
use Rattle.rk_pieces.specs.Pieces.{then_do}
use Rattle.rk_model.specs.Operations.{History, last, operations}
use Rattle.rk_gate.specs.Calls.{in_journal}
use Rattle.rk_log.specs.Groups.{GroupSeen, IsGroupOf}
use Rattle.rk_log.specs.Logs.{groups_in, by_the_rules}
use Rattle.rk_manifest.proofs.Images.{same_version}
use Rattle.rk_opening.specs.Stores.{StoreSeen, store_of}
use Rattle.rk_wal.specs.Following.{IsReady, with_group}
use Rattle.rk_wal.specs.Writing.{HasStoreOf, HasMore}
use Rattle.rk_wal.proofs.OneMore.{one_group_more}
use Rattle.rk_standing.specs.Stands.{Stands, StandsForFirst}
use Rattle.rk_standing.specs.Growing.{TakesMore}
use Rattle.rk_standing.proofs.GroupMore.{group_stands}
use Rattle.rk_standing.proofs.Growing.{last_both}

same_store : (old files : Files) → HasStoreOf old files → store_of files ≡ store_of old
same_store old files is = λ i.
    then_do (same_version old files is.manifest i) (λ version.
    then_do (then_do (in_journal 1 (then_do (is.first i) groups_in)) (λ log1. then_do (in_journal 2 (then_do (is.second i) groups_in)) (λ log2.
    by_the_rules version.flushed_upto (record { first = log1; second = log2 }))))
    (λ logs. Ok (record { version = version; logs = logs })))

-- the group of commits, from the number behind the last one on
abbrev pub group_of : History → History → GroupSeen
group_of h commits = record { first = last h + 1; batches = commits }

module _ (t : Bool) (old : Files) (s : StoreSeen) (h : History) (takes : TakesMore t old s h) where
  pub takes_same : (files : Files) → HasStoreOf old files → TakesMore t files s h
  takes_same files is = record {
    head = is.head ∙ takes.head;
    holds = same_store old files is ∙ takes.holds;
    stands = takes.stands;
    flushed = takes.flushed;
    ready = takes.ready;
  }

  module _ (payload : List ℕ) (commits : History) (spelled : IsGroupOf payload (group_of h commits)) (within : last h + length (operations commits) < 72057594037927936) where
    pub takes_more : (files : Files) → HasMore t payload old files → (more : StoreSeen) × TakesMore t files more (h ++ commits)
    takes_more files has =
        let found = one_group_more t payload (group_of h commits) (last h + 1) old files s takes.holds takes.ready (omega (arith, takes.flushed)) spelled (record { begins = refl; within = omega (arith, within) }) has in
        let at = found.0 in
        let end : last h + 1 + length (operations commits) ≡ last (h ++ commits) + 1 = omega (arith, last_both h commits) in (
          _,
          record {
            head = has.head ∙ takes.head;
            holds = found.1;
            stands = group_stands t s (record { at = at; group = group_of h commits }) h takes.stands takes.ready refl takes.flushed found.2;
            flushed = omega (arith, takes.flushed, last_both h commits);
            ready = subst (IsReady s.version.flushed_upto t (with_group t (record { at = at; group = group_of h commits }) s.logs)) end found.2;
          },
        )

    first_same : (files : Files) → HasStoreOf old files → StandsForFirst (last h) (h ++ commits) files
    first_same files is =
        let now = takes_same files is in
        let part : take (length h) (h ++ commits) ≡ h = take-append_seam h commits in
        record {
          commits = length h;
          some_of = omega (arith, length-append h commits);
          not_below = subst (λ g. last h ≤ last g) (sym part) (omega arith);
          stands = subst (Stands files) (sym part) (inr (record { store = s; head = now.head; holds = now.holds; stands = now.stands }));
        }

    first_more : (files : Files) → HasMore t payload old files → StandsForFirst (last h) (h ++ commits) files
    first_more files has =
        let now = takes_more files has in
        let part : take (length (h ++ commits)) (h ++ commits) ≡ h ++ commits = take_all (length (h ++ commits)) (h ++ commits) (omega arith) in
        record {
          commits = length (h ++ commits);
          some_of = omega arith;
          not_below = subst (λ g. last h ≤ last g) (sym part) (omega (arith, last_both h commits));
          stands = subst (Stands files) (sym part) (inr (record { store = now.0; head = now.1.head; holds = now.1.holds; stands = now.1.stands }));
        }

    pub first_either : (files : Files) → HasStoreOf old files ⊎ HasMore t payload old files → StandsForFirst (last h) (h ++ commits) files
    first_either files = ⊎_elim (first_same files) (first_more files)
