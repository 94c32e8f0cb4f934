-- Where points are shown.
use Rattle.std.proofs.Common.{◌≡◌, ℕ, Bool, true, false, not, ◌&&◌, List, [], Option, Some, None, Contains, refl, ap, sym, ◌∙◌, inl, inr, if◌then◌else◌}
use Rattle.std.specs.Option.{option_map_or}
use Rattle.std.specs.List.{list_any}
use Rattle.std.specs.Ordering.{is_lt}
use Rattle.rk_key.specs.Keys.{suffix, suffix_cmp}
use Rattle.rk_model.specs.Covers.{point, cover}
use Rattle.rk_model.specs.Lists.{none_of}
use Rattle.rk_model.specs.Positions.{hides, is_masked, shown}
use Rattle.rk_model.specs.declared.op.Entry.{Entry}
use Rattle.rk_model.specs.declared.span.SuffixValue.{SuffixValue}
use Rattle.rk_model.specs.declared.options.IterOptions.{IterOptions}
use Rattle.rk_laws.specs.Masks.{ShownAtOwnSuffix, ShownBeforeMask, ShownWithoutSuffix, ShownWithoutMask}
use Rattle.rk_model.proofs.Members.{contains_among, none_any}

shown_from : (es : List Entry) (o : IterOptions) (x : List ℕ) → is_masked es o x ≡ false → shown es o x ≡ point es x
shown_from es o x h = ap (λ b. if b then None else point es x) h

-- whether a mask hides a key under a cover
abbrev hidden : List ℕ → List SuffixValue → List ℕ → Bool
hidden x c m = not (none_of m) && not (none_of (suffix x)) && list_any (hides m (suffix x)) c

unmasked : (es : List Entry) (o : IterOptions) (x : List ℕ) → ((m : List ℕ) → o.mask ≡ Some m → hidden x (cover es x) m ≡ false) → is_masked es o x ≡ false
unmasked es o x h = go o.mask refl
  where
    go : (k : Option (List ℕ)) → o.mask ≡ k → option_map_or (hidden x (cover es x)) k false ≡ false
    go None e = refl
    go (Some m) e = h m e

and_false : (b : Bool) → (b && false) ≡ false
and_false true = refl
and_false false = refl

nothing_hides : (x m : List ℕ) (c : List SuffixValue) → ((r : SuffixValue) → Contains c r → hides m (suffix x) r ≡ false) → hidden x c m ≡ false
nothing_hides x m c h = ap (λ b. not (none_of m) && not (none_of (suffix x)) && b) (none_any (hides m (suffix x)) c (λ r i. h r (contains_among c r i))) ∙ and_false (not (none_of m) && not (none_of (suffix x)))

pub shown_at_own_suffix : ShownAtOwnSuffix
shown_at_own_suffix es o x h = shown_from es o x (unmasked es o x (λ m e. nothing_hides x m (cover es x) (λ r i. rw (h r i) (and_false (not (is_lt (suffix_cmp r.suffix m)))))))

pub shown_before_mask : ShownBeforeMask
shown_before_mask es o x m e h = shown_from es o x (unmasked es o x (λ k f. nothing_hides x k (cover es x) (λ r i.
    let p : m ≡ k = cc in
    let q : is_lt (suffix_cmp r.suffix k) ≡ true = sym (ap (λ z. is_lt (suffix_cmp r.suffix z)) p) ∙ h r i in
    rw q refl)))

pub shown_without_suffix : ShownWithoutSuffix
shown_without_suffix es o x h = shown_from es o x (unmasked es o x (λ m e. rw h (blank (not (none_of m)) (list_any (hides m []) (cover es x)))))
  where
    blank : (a b : Bool) → (a && false && b) ≡ false
    blank true b = refl
    blank false b = refl

pub shown_without_mask : ShownWithoutMask
shown_without_mask es o x (inl e) = shown_from es o x (unmasked es o x (λ m f. absurd cc))
shown_without_mask es o x (inr e) = shown_from es o x (unmasked es o x (λ m f. let p : [] ≡ m = cc in rw (← p) refl))
