-- A store that is recovered: its manifest is read, files of tables are removed, its logs are read, and each is then settled.
use Rattle.std.specs.Prelude.{IsTrue, ◌<◌}
use Rattle.std.proofs.Common.{◌≡◌, ℕ, true, Option, None, List, Ok, sym, ap, subst, ◌∙◌, arith, inl, ⊎_elim}
use Rattle.std.proofs.lemmas.Bool.Decides.{eqb_tells}
use Rattle.rk_outside.specs.Disks.{Files, Disk, TellsFiles, IsHonest, FilesStayBut, IsImageBut, moment}
use Rattle.rk_outside.proofs.Runs.{still_told, leaves_on, leaves_less}
use Rattle.rk_outside.proofs.Steps.{now_since}
use Rattle.rk_pieces.specs.Pieces.{then_do}
use Rattle.rk_gate.specs.Calls.{ChangesFile, in_journal}
use Rattle.rk_manifest.specs.Manifests.{manifest_in}
use Rattle.rk_log.specs.Logs.{LogsSeen, logs_in, log_of, by_the_rules}
use Rattle.rk_log.specs.declared.group.Logged.{Logged}
use Rattle.rk_opening.specs.Stores.{StoreSeen, has_magic, kept, settled}
use Rattle.rk_opening.specs.Openings.{IsAlike, IsOpened, Holds}
use Rattle.rk_opening.specs.Changing.{ChangesOnly, IsTable, IsImageBesides}
use Rattle.rk_opening.specs.Settling.{MayBeSettled, FrontStays, IsSettledCopy, Leaves}
use Rattle.rk_opening.specs.Syncing.{IsSettledAt}
use Rattle.rk_opening.proofs.Alike.{HaveLogs, have_logs, settled_store, copy_is_alike, same_is_alike, copy_of_front}
use Rattle.rk_opening.proofs.Several.{none_changed, settled_through}

not_table : (f : ℕ) → f < 5 → IsTable f → ⊥
not_table f below table = absurd (omega (arith, below, table))

-- a crash leaves of the head, the logs and the manifest what reads give
abbrev pub FrontIsSettled : Disk → Type 0
FrontIsSettled d = (f : ℕ) → f < 5 → IsSettledAt f d

leaves_weaker : (a b : Disk) (P Q : Files → Type 0) → (TellsFiles a → (files : Files) → P files → Q files) → Leaves a b P → Leaves a b Q
leaves_weaker a b P Q weaken one = record {
  told = one.told;
  reads = λ tells. weaken tells b.files (one.reads tells);
  honest = one.honest;
  crash = λ honest. leaves_less a b P Q (weaken honest.tells_files) (one.crash honest);
}

-- where only files of tables changed
front_stays : (a b : Disk) → FrontIsSettled a → ChangesOnly IsTable a b → Leaves a b (FrontStays a.files)
front_stays a b here one = record {
  told = one.told;
  reads = λ tells f below. one.others tells f (not_table f below);
  honest = one.honest;
  crash = λ honest. leaves_less a b (IsImageBesides IsTable a) (FrontStays a.files)
      (λ image is f below. is.others f (not_table f below) ∙ here f below honest is.before is.is_image)
      (one.crash honest);
}

-- A store with a head, of which a crash leaves what reads give
pub record IsThere (d : Disk) : Type 0 where
  pub head : TellsFiles d → has_magic (d.files 0) ≡ true
  pub settled : FrontIsSettled d

-- what stands behind the removal of tables, and behind a call that left the disk
pub tables_changed : (a b : Disk) → IsThere a → ChangesOnly IsTable a b → Leaves a b (IsAlike a.files)
tables_changed a b there one = leaves_weaker a b (FrontStays a.files) (IsAlike a.files)
    (λ tells files stays. same_is_alike a.files files (there.head tells) stays)
    (front_stays a b there.settled one)

pub nothing_changed : (a b : Disk) → IsThere a → b ≡ a → Leaves a b (IsAlike a.files)
nothing_changed a b there same = tables_changed a b there (subst (ChangesOnly IsTable a) (sym same) (none_changed IsTable a))

-- what a call does between two others that leave the disk
pub between : (R : Disk → Disk → Type 0) (a b c d : Disk) → b ≡ a → d ≡ c → R b c → R a d
between R a b c d first second one = subst (λ x. R x d) first (subst (R b) (sym second) one)

pub still_settled : (a b : Disk) → IsThere a → (IsHonest b → IsHonest a) → ChangesOnly IsTable a b → FrontIsSettled b
still_settled a b there back one f below honest image now =
    let before = back honest in
    let run = (front_stays a b there.settled one).crash before in
    run.each image (now_since b.moments (moment a) image run.later now) f below ∙ sym (one.others before.tells_files f (not_table f below))

-- what was read of a store: its version, and then, behind the removal of tables, its logs
pub record IsRead (a b : Disk) (s : StoreSeen) : Type 0 where
  pub there : IsThere a
  pub tables : ChangesOnly IsTable a b
  pub manifest : TellsFiles a → manifest_in a.files ≡ Ok s.version
  pub logs : TellsFiles b → logs_in s.version.flushed_upto b.files ≡ Ok s.logs

-- the two readings left the disk as it was
pub is_read : (a b c d : Disk) (s : StoreSeen) → IsThere a → b ≡ a → d ≡ c → ChangesOnly IsTable b c
    → (TellsFiles a → manifest_in a.files ≡ Ok s.version) → (TellsFiles c → logs_in s.version.flushed_upto c.files ≡ Ok s.logs) → IsRead a d s
is_read a b c d s there first second tables manifest logs = record {
  there = there;
  tables = between (ChangesOnly IsTable) a b c d first second tables;
  manifest = manifest;
  logs = subst (λ x. TellsFiles x → logs_in s.version.flushed_upto x.files ≡ Ok s.logs) (sym second) logs;
}

same_logs : (flushed : ℕ) (old files : Files) → FrontStays old files → logs_in flushed files ≡ logs_in flushed old
same_logs flushed old files stays = λ i.
    then_do (in_journal 1 (log_of (stays 1 (omega arith) i))) (λ log1. then_do (in_journal 2 (log_of (stays 2 (omega arith) i))) (λ log2.
    by_the_rules flushed (record { first = log1; second = log2 })))

had_logs : (a b : Disk) (s : StoreSeen) → IsRead a b s → TellsFiles a → logs_in s.version.flushed_upto a.files ≡ Ok s.logs
had_logs a b s read tells =
    sym (same_logs s.version.flushed_upto a.files b.files (λ f below. read.tables.others tells f (not_table f below)))
    ∙ read.logs (subst IsTrue (sym read.tables.told.files) tells)

-- where P goes on through a change of one file, it is left behind one that leaves Q of that file
one_file : (a b c : Disk) (file : ℕ) (P : Files → Type 0) (Q : Option (List ℕ) → Type 0)
    → (TellsFiles a → (before files : Files) → P before → FilesStayBut file before files → Q (files file) → P files)
    → Leaves a b P → ChangesFile file b c Q → (TellsFiles b → Q (c.files file)) → Leaves a c P
one_file a b c file P Q both so_far one reads = record {
  told = still_told a b c so_far.told one.told;
  reads = λ tells.
      let still = subst IsTrue (sym so_far.told.files) tells in
      both tells b.files c.files (so_far.reads tells) (one.others still) (reads still);
  honest = λ honest. one.honest (so_far.honest honest);
  crash = λ honest.
      let run = so_far.crash honest in
      leaves_on a b c P run (leaves_less b c (IsImageBut b file Q) P
      (λ image is. both honest.tells_files is.before image (run.each is.before (now_since b.moments (moment a) is.before run.later is.is_image)) is.others is.this)
      (one.crash (so_far.honest honest)));
}

-- the log of a file was settled, or it was refused
pub record SettlesLog (file flushed : ℕ) (groups : List Logged) (old new : Disk) : Type 0 where
  pub disk : ChangesFile file old new (MayBeSettled flushed groups (old.files file))
  pub reads : TellsFiles old → MayBeSettled flushed groups (old.files file) (new.files file)

-- the logs as they were, or emptied, and all else below the tables as before
abbrev IsCopy : Disk → StoreSeen → Files → Type 0
IsCopy a s = IsSettledCopy s.version.flushed_upto s.logs a.files

first_copy : (a b c : Disk) (s : StoreSeen) → IsRead a b s → SettlesLog 1 s.version.flushed_upto s.logs.first b c → Leaves a c (IsCopy a s)
first_copy a b c s read one =
    let flushed = s.version.flushed_upto in
    one_file a b c 1 (IsCopy a s) (MayBeSettled flushed s.logs.first (b.files 1))
    (λ tells before files copy others this. record {
      head = others 0 (λ e. absurd (omega (arith, e))) ∙ copy.head;
      first = subst (λ old. MayBeSettled flushed s.logs.first old (files 1)) (read.tables.others tells 1 (not_table 1 (omega arith))) this;
      second = subst (MayBeSettled flushed s.logs.second (a.files 2)) (sym (others 2 (λ e. absurd (omega (arith, e))))) copy.second;
      third = others 3 (λ e. absurd (omega (arith, e))) ∙ copy.third;
      fourth = others 4 (λ e. absurd (omega (arith, e))) ∙ copy.fourth;
    })
    (leaves_weaker a b (FrontStays a.files) (IsCopy a s) (λ tells. copy_of_front flushed s.logs a.files) (front_stays a b read.there.settled read.tables))
    one.disk one.reads

second_stays : (a b c : Disk) (s : StoreSeen) → IsRead a b s → SettlesLog 1 s.version.flushed_upto s.logs.first b c → TellsFiles a → c.files 2 ≡ a.files 2
second_stays a b c s read one tells =
    one.disk.others (subst IsTrue (sym read.tables.told.files) tells) 2 (λ e. absurd (omega (arith, e)))
    ∙ read.tables.others tells 2 (not_table 2 (omega arith))

second_copy : (a b c d : Disk) (s : StoreSeen) → IsRead a b s
    → SettlesLog 1 s.version.flushed_upto s.logs.first b c → SettlesLog 2 s.version.flushed_upto s.logs.second c d → Leaves a d (IsCopy a s)
second_copy a b c d s read one two =
    let flushed = s.version.flushed_upto in
    one_file a c d 2 (IsCopy a s) (MayBeSettled flushed s.logs.second (c.files 2))
    (λ tells before files copy others this. record {
      head = others 0 (λ e. absurd (omega (arith, e))) ∙ copy.head;
      first = subst (MayBeSettled flushed s.logs.first (a.files 1)) (sym (others 1 (λ e. absurd (omega (arith, e))))) copy.first;
      second = subst (λ old. MayBeSettled flushed s.logs.second old (files 2)) (second_stays a b c s read one tells) this;
      third = others 3 (λ e. absurd (omega (arith, e))) ∙ copy.third;
      fourth = others 4 (λ e. absurd (omega (arith, e))) ∙ copy.fourth;
    })
    (first_copy a b c s read one) two.disk two.reads

copies_alike : (a b d : Disk) (s : StoreSeen) → IsRead a b s → Leaves a d (IsCopy a s) → Leaves a d (IsAlike a.files)
copies_alike a b d s read leaves = leaves_weaker a d (IsCopy a s) (IsAlike a.files)
    (λ tells files copy. copy_is_alike a.files files s.version s.logs (read.manifest tells) (had_logs a b s read tells) (read.there.head tells) copy)
    leaves

-- what stands behind the first log, whatever its settling answered, and then behind the second one
pub first_tried : (a b c : Disk) (s : StoreSeen) → IsRead a b s → SettlesLog 1 s.version.flushed_upto s.logs.first b c → Leaves a c (IsAlike a.files)
first_tried a b c s read one = copies_alike a b c s read (first_copy a b c s read one)

pub second_tried : (a b c d : Disk) (s : StoreSeen) → IsRead a b s
    → SettlesLog 1 s.version.flushed_upto s.logs.first b c → SettlesLog 2 s.version.flushed_upto s.logs.second c d → Leaves a d (IsAlike a.files)
second_tried a b c d s read one two = copies_alike a b d s read (second_copy a b c d s read one two)

-- the log of a file was settled, and has these groups
pub record HasSettled (file flushed : ℕ) (had has : List Logged) (old new : Disk) : Type 0 where
  pub log : SettlesLog file flushed had old new
  pub groups : has ≡ kept flushed had
  pub stays : TellsFiles old → log_of (old.files file) ≡ Ok had → log_of (new.files file) ≡ Ok has
  pub there : IsSettledAt file new

-- one file more that was settled
one_settled : (file flushed : ℕ) (had has : List Logged) (old new : Disk) → HasSettled file flushed had has old new → (IsHonest new → IsHonest old) → FrontIsSettled old → FrontIsSettled new
one_settled file flushed had has old new one back front f below = ⊎_elim
    (λ e. subst (λ g. IsSettledAt g new) (sym e.1) one.there)
    (λ e. settled_through old new file f (MayBeSettled flushed had (old.files file)) e.1 back one.log.disk (front f below))
    (eqb_tells f file)

pub settled_behind_first : (a b c : Disk) (s : StoreSeen) (has : List Logged) → IsRead a b s → HasSettled 1 s.version.flushed_upto s.logs.first has b c
    → (IsHonest b → IsHonest a) → (IsHonest c → IsHonest b) → FrontIsSettled c
settled_behind_first a b c s has read one back again =
    one_settled 1 s.version.flushed_upto s.logs.first has b c one again (still_settled a b read.there back read.tables)

-- both logs were settled
pub record IsRecovered (a b c d : Disk) (s : StoreSeen) (now : LogsSeen) : Type 0 where
  pub read : IsRead a b s
  pub first : HasSettled 1 s.version.flushed_upto s.logs.first now.first b c
  pub second : HasSettled 2 s.version.flushed_upto s.logs.second now.second c d

settled_now : (a b c d : Disk) (s : StoreSeen) (now : LogsSeen) → IsRecovered a b c d s now → record { version = s.version; logs = now } ≡ settled s
settled_now a b c d s now r = λ i. record { version = s.version; logs = record { first = r.first.groups i; second = r.second.groups i } }

pub settled_behind_both : (a b c d : Disk) (s : StoreSeen) (now : LogsSeen) → IsRecovered a b c d s now
    → (IsHonest b → IsHonest a) → (IsHonest c → IsHonest b) → (IsHonest d → IsHonest c) → FrontIsSettled d
settled_behind_both a b c d s now r back again last =
    one_settled 2 s.version.flushed_upto s.logs.second now.second c d r.second last (settled_behind_first a b c s now.first r.read r.first back again)

pub is_opened : (a b c d : Disk) (s : StoreSeen) (now : LogsSeen) → IsRecovered a b c d s now → TellsFiles a → IsOpened a.files (record { version = s.version; logs = now })
is_opened a b c d s now r tells = record {
  before = s;
  held = inl (r.read.there.head tells, rw (r.read.manifest tells, had_logs a b s r.read tells));
  is_settled = settled_now a b c d s now r;
}

-- no file of a table is left
abbrev pub NoTables : Disk → Disk → Type 0
NoTables old new = TellsFiles old → (f : ℕ) → IsTable f → new.files f ≡ None

pub holds : (a b c d : Disk) (s : StoreSeen) (now : LogsSeen) → IsRecovered a b c d s now → NoTables a b → TellsFiles a → Holds d.files (record { version = s.version; logs = now })
holds a b c d s now r removed tells = record {
  head = ap has_magic copy.head ∙ r.read.there.head tells;
  store = settled_store a.files d.files s.version s.logs (r.read.manifest tells) (had_logs a b s r.read tells) copy.third copy.fourth
      (ap log_of (r.second.log.disk.others tells_c 1 (λ e. absurd (omega (arith, e)))) ∙ r.first.stays tells_b had.first ∙ ap Ok r.first.groups)
      (r.second.stays tells_c (ap log_of (r.first.log.disk.others tells_b 2 (λ e. absurd (omega (arith, e)))) ∙ had.second) ∙ ap Ok r.second.groups)
      ∙ ap Ok (sym (settled_now a b c d s now r));
  no_tables = λ f table.
      r.second.log.disk.others tells_c f (λ e. absurd (omega (arith, e, table)))
      ∙ r.first.log.disk.others tells_b f (λ e. absurd (omega (arith, e, table)))
      ∙ removed tells f table;
}
  where
    tells_b : TellsFiles b
    tells_b = subst IsTrue (sym r.read.tables.told.files) tells

    tells_c : TellsFiles c
    tells_c = subst IsTrue (sym r.first.log.disk.told.files) tells_b

    copy : IsCopy a s d.files
    copy = (second_copy a b c d s r.read r.first.log r.second.log).reads tells

    had : HaveLogs s.version.flushed_upto b.files s.logs
    had = have_logs s.version.flushed_upto b.files s.logs (r.read.logs tells_b)
