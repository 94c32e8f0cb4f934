-- Laws of masks.
use Rattle.std.specs.Prelude.{◌≡◌, ℕ, true, false, ◌⊎◌, List, [], Contains, Some, None}
use Rattle.std.specs.Ordering.{is_lt}
use Rattle.rk_key.specs.Keys.{suffix, suffix_cmp}
use Rattle.rk_model.specs.Covers.{point, cover}
use Rattle.rk_model.specs.Positions.{shown}
use Rattle.rk_model.specs.declared.op.Entry.{Entry}
use Rattle.rk_model.specs.declared.span.SuffixValue.{SuffixValue}
use Rattle.rk_model.specs.declared.options.IterOptions.{IterOptions}

-- a point is shown where no range key over it stands before its own suffix
abbrev pub ShownAtOwnSuffix : Type 0
ShownAtOwnSuffix = (es : List Entry) (o : IterOptions) (x : List ℕ) →
    ((r : SuffixValue) → Contains (cover es x) r → is_lt (suffix_cmp r.suffix (suffix x)) ≡ false) → shown es o x ≡ point es x

-- and where no range key over it stands at the mask or after it
abbrev pub ShownBeforeMask : Type 0
ShownBeforeMask = (es : List Entry) (o : IterOptions) (x m : List ℕ) → o.mask ≡ Some m →
    ((r : SuffixValue) → Contains (cover es x) r → is_lt (suffix_cmp r.suffix m) ≡ true) → shown es o x ≡ point es x

-- a point without a suffix is shown
abbrev pub ShownWithoutSuffix : Type 0
ShownWithoutSuffix = (es : List Entry) (o : IterOptions) (x : List ℕ) → suffix x ≡ [] → shown es o x ≡ point es x

-- without a mask, and under an empty one, each point is shown
abbrev pub ShownWithoutMask : Type 0
ShownWithoutMask = (es : List Entry) (o : IterOptions) (x : List ℕ) → (o.mask ≡ None) ⊎ (o.mask ≡ Some []) → shown es o x ≡ point es x
