-- What an opening leaves, from what its parts leave: syncs, a store that is made where there is none, and a recovery.
use Rattle.std.specs.Prelude.{IsTrue, IsSome}
use Rattle.std.proofs.Common.{◌≡◌, ℕ, ◌≤◌, true, Ok, sym, ◌∙◌, ap, subst, inl, inr, ⊎_elim}
use Rattle.std.proofs.lemmas.Bool.{false≢true}
use Rattle.rk_outside.specs.Disks.{Files, Disk, TellsFiles, TellsAlike, IsHonest, IsImageNow, LeavesOnly, moment}
use Rattle.rk_outside.proofs.Runs.{leaves_on, leaves_less}
use Rattle.rk_outside.proofs.Steps.{now_since}
use Rattle.rk_opening.specs.Stores.{StoreSeen, IsUnmade, has_magic, new_store, store_of, AreAlike}
use Rattle.rk_opening.specs.Openings.{HoldsStore, IsOpened, IsAlike, IsMade, MayBeMade, MayBeNew, MayBeLeft, Reads, StaysOrIsNew, UnusedStay}
use Rattle.rk_opening.specs.Settling.{FrontStays, Leaves}
use Rattle.rk_opening.specs.Syncing.{OnlySyncs}
use Rattle.rk_opening.proofs.Alike.{front_is_alike}
use Rattle.rk_opening.proofs.Refusals.{TellsOn}

-- files that are all as they were
abbrev Same : Files → Files → Type 0
Same old new = (f : ℕ) → new f ≡ old f

front_of : (old new : Files) → Same old new → FrontStays old new
front_of old new same f below = same f

alike_from : (old new files : Files) → Same old new → IsAlike new files → IsAlike old files
alike_from old new files same is = record {
  had_head = sym (ap has_magic (same 0)) ∙ is.had_head;
  head = is.head;
  alike = subst (λ r. AreAlike r (store_of files)) (front_is_alike old new (front_of old new same)) is.alike;
}

unmade_from : (old new : Files) → Same old new → IsUnmade new → IsUnmade old
unmade_from old new same un = record {
  head = sym (ap has_magic (same 0)) ∙ un.head;
  no_tables = λ f table. sym (same f) ∙ un.no_tables f table;
}

made_from : (files image : Files) → store_of files ≡ Ok new_store → IsAlike files image → IsMade image
made_from files image new is = record { head = is.head; store = subst (λ r. AreAlike r (store_of image)) new is.alike }

unmade_has_no_head : {A : Type 0} (files : Files) → IsUnmade files → has_magic (files 0) ≡ true → A
unmade_has_no_head files un head = absurd (false≢true (sym un.head ∙ head))

-- behind the syncs
module _ (a b : Disk) (syncs : OnlySyncs a b) where
  pub synced_told : TellsFiles a → TellsFiles b
  synced_told tells = subst IsTrue (sym syncs.told.files) tells

  pub reads_synced : TellsFiles a → (new : Files) → Reads b.files new → Reads a.files new
  reads_synced tells new = ⊎_elim
      (λ same. inl (λ f. same f ∙ syncs.reads tells f))
      (⊎_elim
      (λ alike. inr (inl (alike_from a.files b.files new (syncs.reads tells) alike)))
      (λ un. inr (inr (unmade_from a.files b.files (syncs.reads tells) un.0, un.1))))

  image_synced : IsHonest a → (image : Files) → IsImageNow b image → IsImageNow a image
  image_synced honest image now = (syncs.crash honest).each image (now_since b.moments (moment a) image (syncs.crash honest).later now)

  made_synced : IsHonest a → (image : Files) → MayBeMade b image → MayBeMade a image
  made_synced honest image = ⊎_elim
      (λ un. inl (record { head = un.head; before = un.before; is_image = image_synced honest un.before un.is_image; had_no_head = un.had_no_head; others = un.others }))
      inr

  new_synced : IsHonest a → (image : Files) → MayBeNew b image → MayBeLeft a image
  new_synced honest image = ⊎_elim
      (λ now. inl (image_synced honest image now))
      (λ made. inr (inr (sym (ap has_magic (syncs.reads honest.tells_files 0)) ∙ made.0, made_synced honest image made.1)))

  pub leaves_synced : IsHonest a → LeavesOnly a b (MayBeLeft a)
  leaves_synced honest = leaves_less a b (IsImageNow a) (MayBeLeft a) (λ image now. inl now) (syncs.crash honest)

  pub leaves_new : (c : Disk) → IsHonest a → (IsHonest b → LeavesOnly b c (MayBeNew b)) → LeavesOnly a c (MayBeLeft a)
  leaves_new c honest crash = leaves_on a b c (MayBeLeft a) (leaves_synced honest)
      (leaves_less b c (MayBeNew b) (MayBeLeft a) (new_synced honest) (crash (syncs.honest honest)))

  -- behind the recovery of what was there, or of what was made
  module _ (c : Disk) (told : TellsAlike b c) (store : TellsFiles b → StaysOrIsNew b.files c.files) where
    tells_c : TellsFiles a → TellsFiles c
    tells_c tells = subst IsTrue (sym told.files) (synced_told tells)

    recovered_image : IsHonest a → (image : Files) → IsAlike c.files image → MayBeLeft a image
    recovered_image honest image is = ⊎_elim
        (λ stays. inr (inl (alike_from a.files c.files image (λ f. stays.1 f ∙ syncs.reads honest.tells_files f) is)))
        (λ new. inr (inr (
          sym (ap has_magic (syncs.reads honest.tells_files 0)) ∙ new.0.head,
          inr (made_from c.files image new.1 is),
        )))
        (store (synced_told honest.tells_files))

    pub leaves_recovered : (d : Disk) → IsHonest a → (IsHonest b → IsHonest c × LeavesOnly b c (MayBeNew b)) → Leaves c d (IsAlike c.files) → LeavesOnly a d (MayBeLeft a)
    leaves_recovered d honest crash leaves =
        let run = crash (syncs.honest honest) in
        leaves_on a c d (MayBeLeft a) (leaves_new c honest (λ h. run.1))
        (leaves_less c d (IsAlike c.files) (MayBeLeft a) (recovered_image honest) (leaves.crash run.0))

    pub reads_recovered : TellsFiles a → (d : Disk) → Leaves c d (IsAlike c.files) → Reads a.files d.files
    reads_recovered tells d leaves =
        let is = leaves.reads (tells_c tells) in
        ⊎_elim
        (λ stays. inr (inl (alike_from a.files c.files d.files (λ f. stays.1 f ∙ syncs.reads tells f) is)))
        (λ new. inr (inr (unmade_from a.files b.files (syncs.reads tells) new.0, inr (made_from c.files d.files new.1 is))))
        (store (synced_told tells))

    held_by : (h : StoreSeen) → TellsFiles a → HoldsStore c.files h → has_magic (c.files 0) ≡ true → HoldsStore a.files h
    held_by h tells held head = ⊎_elim
        (λ stays.
        let same : Same a.files c.files = λ f. stays.1 f ∙ syncs.reads tells f in
        ⊎_elim
        (λ is. inl (sym (ap has_magic (same 0)) ∙ is.0, sym (front_is_alike a.files c.files (front_of a.files c.files same)) ∙ is.1))
        (λ un. unmade_has_no_head c.files un.0 head)
        held)
        (λ new. ⊎_elim
        (λ is. inr (unmade_from a.files b.files (syncs.reads tells) new.0, cc (is.1, new.1)))
        (λ un. unmade_has_no_head c.files un.0 head)
        held)
        (store (synced_told tells))

    pub opened_from : (s : StoreSeen) → TellsFiles a → has_magic (c.files 0) ≡ true → IsOpened c.files s → IsOpened a.files s
    opened_from s tells head is = record { before = is.before; held = held_by is.before tells is.held head; is_settled = is.is_settled }

    pub unused_through : (d : Disk) → TellsFiles a → UnusedStay c.files d.files → UnusedStay a.files d.files
    unused_through d tells unused f above below = unused f above below ∙ from_b f above ∙ syncs.reads tells f
      where
        from_b : (f : ℕ) → 5 ≤ f → c.files f ≡ b.files f
        from_b f above = ⊎_elim (λ stays. stays.1 f) (λ new. new.2 f above) (store (synced_told tells))

-- what a part says of files that are the same
pub tells_same : (a b : Disk) → (TellsFiles a → TellsFiles b) → (TellsFiles a → Same a.files b.files) → TellsOn (λ Says. TellsFiles b → Says) (λ Says. TellsFiles a → Says) b.files a.files
tells_same a b still same = record {
  bad = λ file at bad tells.
      let is = bad (still tells) in
      (sym (ap has_magic (same tells 0)) ∙ is.0, sym (front_is_alike a.files b.files (front_of a.files b.files (same tells))) ∙ is.1);
  none = λ file none tells.
      let is = none (still tells) in (
        sym (ap has_magic (same tells 0)) ∙ is.0,
        record {
          is_table = is.1.is_table;
          there = subst IsSome (same tells file) is.1.there;
          least = λ f table below. sym (same tells f) ∙ is.1.least f table below;
        },
      );
}

-- what the recovery says of what was there, or was made
pub tells_recovered : (a b c : Disk) → OnlySyncs a b → TellsAlike b c → (TellsFiles b → StaysOrIsNew b.files c.files) → (TellsFiles b → has_magic (c.files 0) ≡ true)
    → TellsOn (λ Says. TellsFiles c → Says) (λ Says. TellsFiles a → Says) c.files a.files
tells_recovered a b c syncs told store head = record {
  bad = λ file at bad tells.
      let is = bad (still tells) in
      ⊎_elim
      (λ stays.
      let same : Same a.files c.files = λ f. stays.1 f ∙ syncs.reads tells f in
      (sym (ap has_magic (same 0)) ∙ is.0, sym (front_is_alike a.files c.files (front_of a.files c.files same)) ∙ is.1))
      (λ new. absurd cc)
      (store (synced_told a b syncs tells));
  none = λ file none tells. absurd (false≢true (sym (none (still tells)).0 ∙ head (synced_told a b syncs tells)));
}
  where
    still : TellsFiles a → TellsFiles c
    still tells = subst IsTrue (sym told.files) (synced_told a b syncs tells)
