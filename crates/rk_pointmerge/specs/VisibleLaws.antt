-- The laws of what is visible as a source.
use Rattle.std.specs.Prelude.{◌≡◌, ℕ, suc, zero, ◌≤◌, Bool, true, false, length, filter, Option, Some, None, option_map, option_and_then, IfSome, IsTrue, is_some, if◌then◌else◌, List, [], ◌∷◌, take}
use Rattle.std.proofs.Common.{arith, refl, ap, cond}
use Rattle.std.specs.Option.{option_map_or}
use Rattle.rk_model.proofs.Orders.{entry_total}
use Rattle.rk_model.specs.Cuts.{item_from}
use Rattle.rk_model.specs.Items.{keyed_points}
use Rattle.rk_model.specs.Standings.{Listing, Standing, IsTold, WalksRise, IsFree}
use Rattle.rk_model.specs.Covers.{is_point}
use Rattle.rk_model.specs.Sources.{op_key}
use Rattle.rk_model.specs.declared.op.Entry.{Entry}
use Rattle.rk_key.specs.KeyTests.{is_key}
use Rattle.rk_merge.proofs.Lists.{and_parts, and_true, all_filter, filter_ascends}
use Rattle.rk_pointmerge.specs.Visibles.{is_visible, visible, place_of, count_to, viewed, viewed_from, sees, stood_at}

module _ {A : Type 0} (p : A → Bool) where
  pub place_rises : (xs : List A) (v w : ℕ) → v ≤ w → place_of p xs v ≤ place_of p xs w
  place_rises [] v w h = omega arith
  place_rises (x ∷ xs) zero zero h = omega arith
  place_rises (x ∷ xs) (suc v) zero h = absurd (omega arith)
  place_rises (x ∷ xs) zero (suc w) h = go (p x) (place_rises xs 0 (suc w) (omega arith))
    where
      go : (b : Bool) → place_of p xs 0 ≤ place_of p xs (suc w) → cond b 0 (suc (place_of p xs 0)) ≤ suc (cond b (place_of p xs w) (place_of p xs (suc w)))
      go true ih = omega arith
      go false ih = omega arith
  place_rises (x ∷ xs) (suc v) (suc w) h = go (p x) (place_rises xs v w (omega arith)) (place_rises xs (suc v) (suc w) h)
    where
      go : (b : Bool) → place_of p xs v ≤ place_of p xs w → place_of p xs (suc v) ≤ place_of p xs (suc w) → suc (cond b (place_of p xs v) (place_of p xs (suc v))) ≤ suc (cond b (place_of p xs w) (place_of p xs (suc w)))
      go true ih ih' = omega arith
      go false ih ih' = omega arith

  pub count_within : (xs : List A) (g : ℕ) → count_to p xs g ≤ length (filter p xs)
  count_within xs zero = omega arith
  count_within [] (suc g) = omega arith
  count_within (x ∷ xs) (suc g) = go (p x) (count_within xs g)
    where
      go : (b : Bool) → count_to p xs g ≤ length (filter p xs) → length (cond b (x ∷ filter p (take g xs)) (filter p (take g xs))) ≤ length (cond b (x ∷ filter p xs) (filter p xs))
      go true ih = omega arith
      go false ih = ih

pub visible-keyed : (n : ℕ) (es : List Entry) → IsTrue (keyed_points es) → IsTrue (keyed_points (visible n es))
visible-keyed n es keyed =
    let (points, keys) = and_parts _ _ keyed in
    let (all, up) = and_parts _ _ points in
    and_true _ _ (and_true _ _ (all_filter (λ e. is_point e.op) (is_visible n es) es all) (filter_ascends entry_total (is_visible n es) es up)) (all_filter (λ e. is_key (op_key e.op)) (is_visible n es) es keys)

pub viewed-ordered : (n : ℕ) (l : Listing Entry) → IfSome l.held (λ es. IsTrue (keyed_points es)) → IfSome (viewed n l).held (λ es. IsTrue (keyed_points es))
viewed-ordered n l ordered = go l.held ordered
  where
    go : (h : Option (List Entry)) → IfSome h (λ es. IsTrue (keyed_points es)) → IfSome (option_map (visible n) h) (λ es. IsTrue (keyed_points es))
    go None w = tt
    go (Some es) w = visible-keyed n es w

pub viewed-told : (n : ℕ) (kept : Option Entry) (facing : Option Bool) (l : Listing Entry) (s : Standing Entry) → IsTold (viewed n l) (viewed_from n kept facing l s)
viewed-told n kept None l s = record { within = none (λ vs v. v ≤ length vs) l.held; shown = none (λ vs v. None ≡ item_from true vs v) l.held; lost = λ e. refl }
  where
    none : (F : List Entry → ℕ → Type 0) (h : Option (List Entry)) → IfSome (option_map (visible n) h) (λ vs. IfSome None (F vs))
    none F None = tt
    none F (Some es) = tt
viewed-told n kept (Some forward) l s = record { within = within l.held s.gap; shown = shown l.held s.gap _; lost = lost s.gap _ _ }
  where
    within : (h : Option (List Entry)) (gap : Option ℕ) → IfSome (option_map (visible n) h) (λ vs. IfSome (option_map (λ g. option_map_or (λ es. sees forward n es kept g) h g) gap) (λ v. v ≤ length vs))
    within None gap = tt
    within (Some es) None = tt
    within (Some es) (Some g) = count_within (is_visible n es) es _

    shown : (h : Option (List Entry)) (gap : Option ℕ) (o : Option Entry) → IfSome (option_map (visible n) h) (λ vs. IfSome (option_map (λ g. option_map_or (λ es. sees forward n es kept g) h g) gap) (λ v. option_and_then (λ g. option_map_or (λ es. item_from forward (visible n es) (sees forward n es kept g)) h o) gap ≡ item_from forward vs v))
    shown None gap o = tt
    shown (Some es) None o = tt
    shown (Some es) (Some g) o = refl

    lost : (gap : Option ℕ) (f : ℕ → ℕ) (o : ℕ → Option Entry) → option_map f gap ≡ None → option_and_then o gap ≡ None
    lost None f o e = refl
    lost (Some g) f o e = cc

pub viewed-rise : (n : ℕ) (l : Listing Entry) → WalksRise l → WalksRise (viewed n l)
viewed-rise n l rise = record { forward = λ told g h le. go l.held refl true g h (λ es. place_rises (is_visible n es) es g h le); backward = λ told g h le. go l.held refl false h g (λ es. back es g h le) }
  where
    back : (es : List Entry) (g h : ℕ) → g ≤ h → stood_at false n es g ≤ stood_at false n es h
    back es zero h le = omega arith
    back es (suc g) zero le = absurd (omega arith)
    back es (suc g) (suc h) le = place_rises (is_visible n es) es g h (omega arith)

    go : (h : Option (List Entry)) → l.held ≡ h → (forward : Bool) (v w : ℕ) → ((es : List Entry) → (if forward then stood_at forward n es v else stood_at forward n es w) ≤ (if forward then stood_at forward n es w else stood_at forward n es v)) → option_map_or (λ es. l.walk_price forward (stood_at forward n es v)) h 0 ≤ option_map_or (λ es. l.walk_price forward (stood_at forward n es w)) h 0
    go None e forward v w le = omega arith
    go (Some es) e true v w le = rise.forward (ap is_some e) _ _ (le es)
    go (Some es) e false v w le = rise.backward (ap is_some e) _ _ (le es)

pub viewed-once : (n : ℕ) (l : Listing Entry) → IsTrue false → IsFree (viewed n l)
viewed-once n l read = let no : false ≡ true = read in cc
