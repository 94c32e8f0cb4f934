-- What a cut passes, and what lies on from it.
use Rattle.std.proofs.Common.{◌≡◌, ℕ, Bool, true, false, not, List, refl, sym, ap, ◌∙◌}
use Rattle.std.specs.Ordering.{is_lt}
use Rattle.std.proofs.lemmas.Bool.{and_parts}
use Rattle.rk_key.specs.Keys.{key_cmp}
use Rattle.rk_laws.proofs.Order.{key_total, lt_back, ge_trans, lt_ge, ge_lt}
use Rattle.rk_model.specs.Cuts.{is_passed}
use Rattle.rk_model.specs.Items.{point_takes, span_takes}
use Rattle.rk_model.specs.Operations.{within}
use Rattle.rk_model.specs.Sources.{op_key}
use Rattle.rk_model.specs.declared.op.Entry.{Entry}
use Rattle.rk_model.specs.declared.span.Span.{Span}
use Rattle.rk_model.specs.declared.cut.Cut.{Cut}
use Rattle.rk_model.specs.declared.cut.Cut.TheVariants.{Start, Below, Past, End}
use Rattle.rk_span_laws.specs.Given.{is_sooner}
use Rattle.rk_interleave.specs.Settling.{key_before}
use Rattle.rk_interleave.specs.Standing.{lies_on, beside}

pub not_not : (b : Bool) → not (not b) ≡ b
not_not true = refl
not_not false = refl

pub not_is : (b c : Bool) → not b ≡ c → b ≡ not c
not_is b c e = sym (not_not b) ∙ ap not e

-- a point is passed where its key doesn't lie on
pub point_passed : (forward : Bool) (cut : Cut (List ℕ)) (e : Entry) → is_passed forward (point_takes cut e) ≡ not (lies_on forward cut (op_key e.op))
point_passed true Start e = refl
point_passed true (Below k) e = sym (not_not (is_lt (key_cmp (op_key e.op) k)))
point_passed true (Past k) e = refl
point_passed true End e = refl
point_passed false Start e = refl
point_passed false (Below k) e = refl
point_passed false (Past k) e = refl
point_passed false End e = refl

-- a span that is passed at a cut is passed at each key on from it
pub span_gone : (forward : Bool) (cut : Cut (List ℕ)) (s : Span) (y : List ℕ) → lies_on forward cut y ≡ true → is_passed forward (span_takes forward cut s) ≡ true → is_passed forward (span_takes forward (beside forward y) s) ≡ true
span_gone true Start s y on gone = cc
span_gone true (Below k) s y on gone = ap not (ge_trans key_total y k s.end (not_is _ true on) (not_is _ true gone))
span_gone true (Past k) s y on gone = ap not (ge_trans key_total y k s.end (lt_back key_total k y on) (not_is _ true gone))
span_gone true End s y on gone = cc
span_gone false Start s y on gone = cc
span_gone false (Below k) s y on gone = ap not (ge_trans key_total s.start k y (not_is _ true gone) (lt_back key_total y k on))
span_gone false (Past k) s y on gone = ap not (ge_trans key_total s.start k y (not_is _ true gone) (not_is _ true on))
span_gone false End s y on gone = cc

-- a point that is passed at a cut is no farther than a key on from it
pub point_gone : (forward : Bool) (cut : Cut (List ℕ)) (x y : List ℕ) → lies_on forward cut y ≡ true → lies_on forward cut x ≡ false → is_sooner forward y x ≡ false
point_gone true Start x y on off = cc
point_gone true (Below k) x y on off = let less : is_lt (key_cmp x k) ≡ true = not_is _ false off in lt_back key_total x y (lt_ge key_total x k y less (not_is _ true on))
point_gone true (Past k) x y on off = ge_trans key_total y k x (lt_back key_total k y on) off
point_gone true End x y on off = cc
point_gone false Start x y on off = cc
point_gone false (Below k) x y on off = ge_trans key_total x k y off (lt_back key_total y k on)
point_gone false (Past k) x y on off = let more : is_lt (key_cmp k x) ≡ true = not_is _ false off in lt_back key_total y x (less k y x (not_is _ true on) more)
  where
    less : (k y x : List ℕ) → is_lt (key_cmp k y) ≡ false → is_lt (key_cmp k x) ≡ true → is_lt (key_cmp y x) ≡ true
    less k y x ge lt = go (is_lt (key_cmp y x)) refl
      where
        go : (b : Bool) → is_lt (key_cmp y x) ≡ b → b ≡ true
        go true e = refl
        go false e = let f = ge_trans key_total k y x ge e in cc
point_gone false End x y on off = cc

-- on the way forward a key stands before a cut where it doesn't lie on
pub before_on : (cut : Cut (List ℕ)) (x : List ℕ) → lies_on true cut x ≡ not (key_before cut x)
before_on Start x = refl
before_on (Below k) x = refl
before_on (Past k) x = sym (not_not (is_lt (key_cmp k x)))
before_on End x = refl

-- on the way backward a span that is not passed begins on from the cut
pub starts_back : (cut : Cut (List ℕ)) (s : Span) → is_passed false (span_takes false cut s) ≡ false → lies_on false cut s.start ≡ true
starts_back Start s on = cc
starts_back (Below k) s on = not_is _ false on
starts_back (Past k) s on = ap not (lt_back key_total s.start k (not_is _ false on))
starts_back End s on = refl

-- behind the end of a span that is not passed forward each key lies on
pub behind_end : (cut : Cut (List ℕ)) (s : Span) (x : List ℕ) → is_passed true (span_takes true cut s) ≡ false → is_lt (key_cmp x s.end) ≡ false → lies_on true cut x ≡ true
behind_end Start s x on beyond = refl
behind_end (Below k) s x on beyond = ap not (lt_back key_total k x (lt_ge key_total k s.end x (not_is _ false on) beyond))
behind_end (Past k) s x on beyond = lt_ge key_total k s.end x (not_is _ false on) beyond
behind_end End s x on beyond = cc

-- backward no cut is past a key
abbrev pub Fits : Bool → Cut (List ℕ) → Type 0
Fits true cut = Unit {0}
Fits false Start = Unit {0}
Fits false (Below k) = Unit {0}
Fits false (Past k) = ⊥
Fits false End = Unit {0}

-- a span over a key on from a cut is not passed there
pub over_cut : (forward : Bool) (cut : Cut (List ℕ)) → Fits forward cut → (s : Span) (x : List ℕ) → lies_on forward cut x ≡ true → within s.start s.end x ≡ true → is_passed forward (span_takes forward cut s) ≡ false
over_cut true cut fit s x on over = go (span_takes true cut s) refl
  where
    go : (b : Bool) → span_takes true cut s ≡ b → b ≡ false
    go true gone = let a : is_lt (key_cmp x s.end) ≡ false = not_is _ true (span_gone true cut s x on gone) in let b = (and_parts (not (is_lt (key_cmp x s.start))) _ over).1 in cc
    go false e = refl
over_cut false Start fit s x on over = cc
over_cut false (Below k) fit s x on over = ap not (ge_lt key_total s.start x k (not_is _ true (and_parts (not (is_lt (key_cmp x s.start))) _ over).0) on)
over_cut false (Past k) fit s x on over = absurd fit
over_cut false End fit s x on over = refl
