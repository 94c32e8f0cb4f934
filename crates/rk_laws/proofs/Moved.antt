-- Two lists of entries with the same covers and points within the bounds give the same positions and moves.
use Rattle.std.proofs.Common.{◌≡◌, ℕ, Bool, true, false, not, ◌&&◌, List, ◌++◌, filter, Option, Some, None, is_some, IfSome, refl, ap, sym, ◌∙◌, ◌⊎◌, inl, inr, subst, flat_map, option_map, option_and_then, nat_lt, if◌then◌else◌}
use Rattle.std.specs.declared.cmp.Ordering.TheVariants.{Equal}
use Rattle.std.specs.Ordering.{is_lt}
use Rattle.std.specs.Option.{option_map_or}
use Rattle.std.specs.List.{list_any}
use Rattle.std.proofs.lemmas.Bool.{and_parts, and_from}
use Rattle.rk_key.specs.Keys.{IsKey, suffix, key_cmp}
use Rattle.rk_key.proofs.Equality.{same_key}
use Rattle.rk_model.specs.Operations.{is_over}
use Rattle.rk_model.specs.Covers.{over, is_point, newest, put_value, point, cover}
use Rattle.rk_model.specs.Lists.{none_of, Among}
use Rattle.rk_model.specs.Spans.{in_bounds, WidestSpan, widest_span}
use Rattle.rk_model.specs.Positions.{hides, is_masked, shown, put_key, positions, Report, report}
use Rattle.rk_model.specs.Moves.{Move, First, Last, Next, Prev, SeekGe, SeekLt, least, greatest, raised, lowered, sought, moved, span_of, same_span, key_at, span_changed}
use Rattle.rk_model.specs.declared.op.Op.{Op}
use Rattle.rk_model.specs.declared.op.Op.TheVariants.{Put, Del, RangeSet, RangeUnset, RangeDel}
use Rattle.rk_model.specs.declared.op.Entry.{Entry}
use Rattle.rk_model.specs.declared.span.SuffixValue.{SuffixValue}
use Rattle.rk_model.specs.declared.options.IterOptions.{IterOptions}
use Rattle.rk_model.specs.declared.cursor.Cursor.{Cursor}
use Rattle.rk_model.specs.declared.cursor.Cursor.TheVariants.{Fresh, Start, At, End}
use Rattle.rk_laws.specs.SameCells.{op_keys, WellFormed, KeyBounds, GiveSameCovers, GiveSameCells, PositionsOfCells, ReportsOfCells, SeeksKey, MovesOfCells, AtKeyWithin, MovesToKeys, ChangesOfCovers, ViewsOfCells}
use Rattle.rk_model.proofs.Members.{among_append, among_left, among_right, among_filter, filter_among, among_flat_map, flat_map_among, first_among}
use Rattle.rk_laws.proofs.Order.{key_total, eq_is}
use Rattle.rk_model.proofs.SortedKeys.{sorted_among}
use Rattle.rk_laws.proofs.Ends.{lt}
use Rattle.rk_laws.proofs.Agree.{key_of_op, sorted_same, span_ends_shared, span_end_keyed, turned, spans_of_covers}
use Rattle.rk_laws.proofs.Places.{shown_puts, span_ends, Sought, moved_is, cursor_within_bounds}

-- whether a cover hides a key's point
abbrev hidden : IterOptions → List ℕ → List SuffixValue → Bool
hidden o x c = option_map_or (λ m. not (none_of m) && not (none_of (suffix x)) && list_any (hides m (suffix x)) c) o.mask false

pub shown_same : (es fs : List Entry) (o : IterOptions) (x : List ℕ) → cover es x ≡ cover fs x → point es x ≡ point fs x → shown es o x ≡ shown fs o x
shown_same es fs o x e f = ap (λ c. if hidden o x c then None else point es x) e ∙ ap (λ (p : Option (List ℕ)). if hidden o x (cover fs x) then None else p) f

is_some_gives : {X : Type 0} (o : Option X) → is_some o ≡ true → (x : X) × (o ≡ Some x)
is_some_gives None h = cc
is_some_gives (Some x) h = (x, refl)

shown_point : (es : List Entry) (o : IterOptions) (x : List ℕ) → is_some (shown es o x) ≡ true → is_some (point es x) ≡ true
shown_point es o x h = go (is_masked es o x) h
  where
    go : (b : Bool) → is_some (if b then None else point es x) ≡ true → is_some (point es x) ≡ true
    go true h = cc
    go false h = h

-- the put that gave a point its value
point_put : (es : List Entry) (x v : List ℕ) → point es x ≡ Some v → (e : Entry) × ((k : List ℕ) × (Among e es × (Among k (put_key e.op) × (key_cmp k x ≡ Equal))))
point_put es x v h = go (newest points) refl h
  where
    points : List Entry
    points = filter (λ e. is_point e.op) (over x es)

    put_is : (e : Entry) → Among e es → (op : Op) → put_value op ≡ Some v → is_over x op ≡ true → (k : List ℕ) × (Among k (put_key op) × (key_cmp k x ≡ Equal))
    put_is e m (Put key value) g n = (key, (inl refl, eq_is key_total key x n))
    put_is e m (Del key) g n = cc
    put_is e m (RangeSet start end s w) g n = cc
    put_is e m (RangeUnset start end s) g n = cc
    put_is e m (RangeDel start end) g n = cc

    go : (n : Option Entry) → newest points ≡ n → option_and_then (λ e. put_value e.op) n ≡ Some v → (e : Entry) × ((k : List ℕ) × (Among e es × (Among k (put_key e.op) × (key_cmp k x ≡ Equal))))
    go None f g = cc
    go (Some e) f g =
        let a = filter_among (λ d. not (list_any (λ f. nat_lt d.seq f.seq) points)) points e (first_among (filter (λ d. not (list_any (λ f. nat_lt d.seq f.seq) points)) points) e f) in
        let b = filter_among (λ e. is_point e.op) (over x es) e a.0 in
        let c = filter_among (λ e. is_over x e.op) es e b.0 in
        let (k, d) = put_is e c.0 e.op g c.1 in
        (e, (k, (c.0, (d.0, d.1))))

key_of_put : (op : Op) (k : List ℕ) → Among k (put_key op) → Among k (op_keys op)
key_of_put (Put key value) k m = m
key_of_put (Del key) k m = absurd m
key_of_put (RangeSet start end s v) k m = absurd m
key_of_put (RangeUnset start end s) k m = absurd m
key_of_put (RangeDel start end) k m = absurd m

put_keyed : (es : List Entry) (o : IterOptions) → WellFormed es → (a : List ℕ) → Among a (shown_puts es o) → IsKey a
put_keyed es o h a m =
    let n = filter_among (λ x. in_bounds o x && is_some (shown es o x)) (flat_map (λ e. put_key e.op) es) a m in
    let (e, k) = flat_map_among (λ e. put_key e.op) es a n.0 in
    key_of_op es e a h k.0 (key_of_put e.op a k.1)

-- a put with a shown point is one in either list
puts_shared : (es fs : List Entry) (o : IterOptions) → GiveSameCells es fs o → (a : List ℕ) → Among a (shown_puts es o) → Among a (shown_puts fs o)
puts_shared es fs o g a m =
    let n = filter_among (λ x. in_bounds o x && is_some (shown es o x)) (flat_map (λ e. put_key e.op) es) a m in
    let b = and_parts (in_bounds o a) (is_some (shown es o a)) n.1 in
    let ka : IsKey a = put_keyed es o g.covered.first a m in
    let h : is_some (shown fs o a) ≡ true = sym (ap is_some (shown_same es fs o a (g.covered.covers a ka b.0) (g.points a ka b.0))) ∙ b.1 in
    let (v, p) = is_some_gives (point fs a) (shown_point fs o a h) in
    let (e, (k, q)) = point_put fs a v p in
    let same : k ≡ a = same_key k a (key_of_op fs e k g.covered.second q.0 (key_of_put e.op k q.1.0)) ka q.1.1 in
    among_filter (λ x. in_bounds o x && is_some (shown fs o x)) (flat_map (λ e. put_key e.op) fs) a
    (among_flat_map (λ e. put_key e.op) fs e a q.0 (subst (λ z. Among z (put_key e.op)) same q.1.0))
    (and_from (in_bounds o a) (is_some (shown fs o a)) b.0 h)

abbrev places : List Entry → IterOptions → List (List ℕ)
places es o = shown_puts es o ++ span_ends es o

places_shared : (es fs : List Entry) (o : IterOptions) → GiveSameCells es fs o → (a : List ℕ) → Among a (places es o) → Among a (places fs o)
places_shared es fs o g a m = go (among_append (shown_puts es o) (span_ends es o) a m)
  where
    go : Among a (shown_puts es o) ⊎ Among a (span_ends es o) → Among a (places fs o)
    go (inl n) = among_left (shown_puts fs o) (span_ends fs o) a (puts_shared es fs o g a n)
    go (inr n) = among_right (shown_puts fs o) (span_ends fs o) a (span_ends_shared es fs o g.covered a n)

place_keyed : (es : List Entry) (o : IterOptions) → WellFormed es → KeyBounds o → (a : List ℕ) → Among a (places es o) → IsKey a
place_keyed es o h b a m = go (among_append (shown_puts es o) (span_ends es o) a m)
  where
    go : Among a (shown_puts es o) ⊎ Among a (span_ends es o) → IsKey a
    go (inl n) = put_keyed es o h a n
    go (inr n) = span_end_keyed es o h b a n

pub position_keyed : (es : List Entry) (o : IterOptions) → WellFormed es → KeyBounds o → (a : List ℕ) → Among a (positions es o) → IsKey a
position_keyed es o h b a m = place_keyed es o h b a (sorted_among (places es o) a m)

turned_cells : (es fs : List Entry) (o : IterOptions) → GiveSameCells es fs o → GiveSameCells fs es o
turned_cells es fs o g = record { covered = turned es fs o g.covered; points = λ x k i. sym (g.points x k i) }

pub positions_of_cells : PositionsOfCells
positions_of_cells es fs o g = sorted_same (places es o) (places fs o) (place_keyed es o g.covered.first g.covered.bounds) (places_shared es fs o g) (places_shared fs es o (turned_cells es fs o g))

pub reports_of_cells : ReportsOfCells
reports_of_cells es fs o g x k i = both (shown es o x) (shown fs o x) (widest_span es o x) (widest_span fs o x) (shown_same es fs o x (g.covered.covers x k i) (g.points x k i)) (spans_of_covers es fs o g.covered x k i)
  where
    both : (p q : Option (List ℕ)) (s t : Option WidestSpan) → p ≡ q → s ≡ t → ◌≡◌ {A = Report} (record { key = x; value = p; span = s }) (record { key = x; value = q; span = t })
    both p q s t e f = rw (e, f) refl

raised_key : (o : IterOptions) (k : List ℕ) → KeyBounds o → IsKey k → IsKey (raised o.lower k)
raised_key o k b h = go o.lower b.0
  where
    pick : (t : Bool) (l : List ℕ) → IsKey l → IsKey (if t then l else k)
    pick true l i = i
    pick false l i = h

    go : (l : Option (List ℕ)) → IfSome l IsKey → IsKey (raised l k)
    go None i = h
    go (Some l) i = pick (lt k l) l i

sought_same : (es fs : List Entry) (o : IterOptions) → GiveSameCells es fs o → (k : List ℕ) → IsKey k → sought es o k ≡ sought fs o k
sought_same es fs o g k h = go (in_bounds o k) refl
  where
    go : (b : Bool) → in_bounds o k ≡ b → (if not b then End else (if none_of (cover es k) then least (filter (λ p. not (is_lt (key_cmp p k))) (positions es o)) else At k))
        ≡ (if not b then End else (if none_of (cover fs k) then least (filter (λ p. not (is_lt (key_cmp p k))) (positions fs o)) else At k))
    go false e = refl
    go true e =
        ap (λ c. if none_of c then least (filter (λ p. not (is_lt (key_cmp p k))) (positions es o)) else At k) (g.covered.covers k h e)
        ∙ ap (λ ps. if none_of (cover fs k) then least (filter (λ p. not (is_lt (key_cmp p k))) ps) else At k) (positions_of_cells es fs o g)

pub moves_of_cells : MovesOfCells
moves_of_cells es fs o g c First k = ap least (positions_of_cells es fs o g)
moves_of_cells es fs o g c Last k = ap greatest (positions_of_cells es fs o g)
moves_of_cells es fs o g Fresh Next k = ap least (positions_of_cells es fs o g)
moves_of_cells es fs o g Start Next k = ap least (positions_of_cells es fs o g)
moves_of_cells es fs o g (At x) Next k = ap (λ ps. least (filter (λ p. is_lt (key_cmp x p)) ps)) (positions_of_cells es fs o g)
moves_of_cells es fs o g End Next k = refl
moves_of_cells es fs o g Fresh Prev k = ap greatest (positions_of_cells es fs o g)
moves_of_cells es fs o g Start Prev k = refl
moves_of_cells es fs o g (At x) Prev k = ap (λ ps. greatest (filter (λ p. is_lt (key_cmp p x)) ps)) (positions_of_cells es fs o g)
moves_of_cells es fs o g End Prev k = ap greatest (positions_of_cells es fs o g)
moves_of_cells es fs o g c (SeekGe key) k = sought_same es fs o g (raised o.lower key) (raised_key o key g.covered.bounds k)
moves_of_cells es fs o g c (SeekLt key) k = ap (λ ps. greatest (filter (λ p. is_lt (key_cmp p (lowered o.upper key))) ps)) (positions_of_cells es fs o g)

span_of_same : (es fs : List Entry) (o : IterOptions) → GiveSameCovers es fs o → (c : Cursor) → AtKeyWithin o c → span_of es o c ≡ span_of fs o c
span_of_same es fs o g Fresh h = refl
span_of_same es fs o g Start h = refl
span_of_same es fs o g (At x) h = spans_of_covers es fs o g x h.0 h.1
span_of_same es fs o g End h = refl

pub changes_of_covers : ChangesOfCovers
changes_of_covers es fs o g old new h k = both (span_of es o old) (span_of fs o old) (span_of es o new) (span_of fs o new) (span_of_same es fs o g old h) (span_of_same es fs o g new k)
  where
    both : (p q s t : Option WidestSpan) → p ≡ q → s ≡ t → not (same_span p s) ≡ not (same_span q t)
    both p q s t e f = rw (e, f) refl

sought_keyed : (o : IterOptions) (move : Move) (x : List ℕ) → KeyBounds o → SeeksKey move → Sought o move x → IsKey x
sought_keyed o First x b k h = absurd h
sought_keyed o Last x b k h = absurd h
sought_keyed o Next x b k h = absurd h
sought_keyed o Prev x b k h = absurd h
sought_keyed o (SeekGe key) x b k h = subst IsKey h.0 (raised_key o key b k)
sought_keyed o (SeekLt key) x b k h = absurd h

pub moves_to_keys : MovesToKeys
moves_to_keys es o h b c move k = go (moved es o c move) refl
  where
    key_of : (x : List ℕ) → moved es o c move ≡ At x → IsKey x
    key_of x e = elim (moved_is es o c move x e) [ inl m ↦ position_keyed es o h b x m | inr n ↦ sought_keyed o move x b k n ]

    go : (d : Cursor) → moved es o c move ≡ d → AtKeyWithin o d
    go Fresh e = tt
    go Start e = tt
    go (At x) e = (key_of x e, cursor_within_bounds es o c move x e)
    go End e = tt

report_at_same : (es fs : List Entry) (o : IterOptions) → GiveSameCells es fs o → (c : Cursor) → AtKeyWithin o c → option_map (report es o) (key_at c) ≡ option_map (report fs o) (key_at c)
report_at_same es fs o g Fresh h = refl
report_at_same es fs o g Start h = refl
report_at_same es fs o g (At x) h = ap Some (reports_of_cells es fs o g x h.0 h.1)
report_at_same es fs o g End h = refl

pub views_of_cells : ViewsOfCells
views_of_cells es fs o g c before h move k =
    let e = moves_of_cells es fs o g c move k in
    let n = moves_to_keys es o g.covered.first g.covered.bounds c move k in (
      e,
      changes_of_covers es fs o g.covered c (moved es o c move) h n ∙ ap (λ d. span_changed fs o c d) e,
      report_at_same es fs o g (moved es o c move) n ∙ ap (λ d. option_map (report fs o) (key_at d)) e,
    )
