-- The covers of spans that don't meet.
use Rattle.std.proofs.Common.{◌≡◌, ℕ, Bool, true, false, not, ◌&&◌, List, [], ◌∷◌, ◌++◌, refl, ap, sym, ◌∙◌, inl, inr}
use Rattle.std.specs.Prelude.{IsTrue, nat_le}
use Rattle.std.specs.List.{list_all}
use Rattle.std.proofs.lemmas.Bool.{and_parts, and_from, not-true}
use Rattle.std.proofs.lemmas.List.{append-nil}
use Rattle.std.proofs.lemmas.List.Elements.{filter-append}
use Rattle.rk_key.specs.Keys.{IsKey}
use Rattle.rk_key.specs.KeyTests.{is_key}
use Rattle.rk_key.proofs.KeyTests.{key_by_test}
use Rattle.rk_model.specs.Lists.{Among, none_of}
use Rattle.rk_model.specs.Operations.{within, is_over}
use Rattle.rk_model.specs.Covers.{upto, over, cover_of}
use Rattle.rk_model.specs.Sources.{ascends, is_extent, are_extents}
use Rattle.rk_model.specs.Items.{keyed_extents}
use Rattle.rk_model.specs.declared.op.Entry.{Entry}
use Rattle.rk_model.specs.declared.span.Span.{Span}
use Rattle.rk_model.proofs.Lists.{filter_none}
use Rattle.rk_model.proofs.Members.{Ascending, among_all, all_among, filter_among, map_among, every_gives}
use Rattle.rk_coalesce.specs.SpanKeys.{entry_of, span_entries}
use Rattle.rk_coalesce.proofs.EachKey.{is_over_is, upto_over}
use Rattle.rk_laws.proofs.Order.{key_total, lt_back, ge_trans, lt_ge}
use Rattle.rk_laws.proofs.Ends.{lt}
use Rattle.rk_span_laws.specs.Joined.{entries_of}
use Rattle.rk_span_laws.proofs.Ascents.{ascending_from}
use Rattle.rk_span_laws.specs.JoinedLaws.{SpanHasItsCover, NoSpanNoCover}

-- one span ends at or before the start of another
abbrev pub apart : Span → Span → Bool
apart s t = not (lt t.start s.end)

-- a span of a list in order
pub record IsExtent (s : Span) : Type 0 where
  pub proper : lt s.start s.end ≡ true
  pub keyed : none_of s.keys ≡ false
  pub start : IsKey s.start
  pub end : IsKey s.end

pub extent_of : (ss : List Span) → IsTrue (keyed_extents ss) → (s : Span) → Among s ss → IsExtent s
extent_of ss h s m =
    let parts = and_parts (are_extents ss) (list_all (λ s. is_key s.start && is_key s.end) ss) h in
    let all = and_parts (list_all is_extent ss) (ascends apart ss) parts.0 in
    let shape = and_parts (lt s.start s.end) (not (none_of s.keys)) (every_gives is_extent ss s all.0 m) in
    let keys = and_parts (is_key s.start) (is_key s.end) (every_gives (λ s. is_key s.start && is_key s.end) ss s parts.1 m) in
    record { proper = shape.0; keyed = not-true (none_of s.keys) shape.1; start = key_by_test s.start keys.0; end = key_by_test s.end keys.1 }

-- each span of a list in order ends at or before the start of all that follow
apart_goes_on : (s t u : Span) → lt t.start t.end ≡ true → apart s t ≡ true → apart t u ≡ true → apart s u ≡ true
apart_goes_on s t u proper p q =
    let first = not-true (lt t.start s.end) p in
    let past = not-true (lt u.start t.end) q in
    rw (ge_trans key_total u.start t.end s.end past (ge_trans key_total t.end t.start s.end (lt_back key_total t.start t.end proper) first)) refl

pub extents_apart : (ss : List Span) → IsTrue (keyed_extents ss) → Ascending apart ss
extents_apart ss h =
    let parts = and_parts (are_extents ss) (list_all (λ s. is_key s.start && is_key s.end) ss) h in
    ascending_from apart (λ t. lt t.start t.end ≡ true) apart_goes_on ss (λ t m. (extent_of ss h t m).proper) (and_parts (list_all is_extent ss) (ascends apart ss) parts.0).1

below_start : (a b : Bool) → a ≡ true → (not a && b) ≡ false
below_start true b e = refl
below_start false b e = cc

past_end : (a b : Bool) → b ≡ false → (not a && b) ≡ false
past_end true b e = refl
past_end false b e = e

pub within_parts : (start end x : List ℕ) → within start end x ≡ true → (lt x start ≡ false) × (lt x end ≡ true)
within_parts start end x w = let p = and_parts (not (lt x start)) (lt x end) w in (not-true (lt x start) p.0, p.1)

pub within_from : (start end x : List ℕ) → lt x start ≡ false → lt x end ≡ true → within start end x ≡ true
within_from start end x low high = and_from (not (lt x start)) (lt x end) (rw low refl) high

-- a key of a span is in none that is apart from it
later_misses : (s t : Span) (x : List ℕ) → apart s t ≡ true → within s.start s.end x ≡ true → within t.start t.end x ≡ false
later_misses s t x a w = below_start (lt x t.start) (lt x t.end) (lt_ge key_total x s.end t.start (within_parts s.start s.end x w).1 (not-true (lt t.start s.end) a))

earlier_misses : (s t : Span) (x : List ℕ) → apart s t ≡ true → within t.start t.end x ≡ true → within s.start s.end x ≡ false
earlier_misses s t x a w = past_end (lt x s.start) (lt x s.end) (ge_trans key_total x t.start s.end (within_parts t.start t.end x w).0 (not-true (lt t.start s.end) a))

-- a key lies in at most one span
pub one_span : (ss : List Span) → Ascending apart ss → (s t : Span) (x : List ℕ) → Among s ss → Among t ss → within s.start s.end x ≡ true → within t.start t.end x ≡ true → s ≡ t
one_span [] up s t x m n v w = absurd m
one_span (u ∷ us) up s t x (inl e) (inl f) v w = e ∙ sym f
one_span (u ∷ us) up s t x (inl e) (inr n) v w =
    let gone = later_misses s t x (ap (λ z. apart z t) e ∙ among_all (λ t. apart u t ≡ true) us t up.0 n) v in
    cc
one_span (u ∷ us) up s t x (inr m) (inl f) v w =
    let gone = later_misses t s x (ap (λ z. apart z s) f ∙ among_all (λ t. apart u t ≡ true) us s up.0 m) w in
    cc
one_span (u ∷ us) up s t x (inr m) (inr n) v w = one_span us up.1 s t x m n v w

-- the span that a key lies in, or that there is none
pub data SpanAt (ss : List Span) (x : List ℕ) : Type 0 where
  at : (s : Span) → Among s ss → within s.start s.end x ≡ true → SpanAt ss x
  gap : ((s : Span) → Among s ss → within s.start s.end x ≡ false) → SpanAt ss x

pub span_at : (ss : List Span) (x : List ℕ) → SpanAt ss x
span_at [] x = gap (λ s m. absurd m)
span_at (u ∷ us) x = go (within u.start u.end x) refl (span_at us x)
  where
    go : (b : Bool) → within u.start u.end x ≡ b → SpanAt us x → SpanAt (u ∷ us) x
    go true e rest = at u (inl refl) e
    go false e (at s m w) = at s (inr m) w
    go false e (gap none) = gap (λ s m. elim m [ inl k ↦ ap (λ (z : Span). within z.start z.end x) k ∙ e | inr k ↦ none s k ])

-- the entries up to a number over a key are those of the span that it lies in
none_in : (s : Span) (n : ℕ) (x : List ℕ) → within s.start s.end x ≡ false → over x (upto n (span_entries s)) ≡ []
none_in s n x h = filter_none (λ e. is_over x e.op) (upto n (span_entries s)) (all_among (λ e. is_over x e.op ≡ false) (upto n (span_entries s)) each)
  where
    each : (e : Entry) → Among e (upto n (span_entries s)) → is_over x e.op ≡ false
    each e m =
        let (k, i) = map_among (entry_of s) s.keys e (filter_among (λ e. nat_le e.seq n) (span_entries s) e m).0 in
        ap (λ (f : Entry). is_over x f.op) i.1 ∙ is_over_is s.start s.end x k.kind k.suffix k.value ∙ h

over_cons : (n : ℕ) (x : List ℕ) (s : Span) (ss : List Span) → over x (upto n (entries_of (s ∷ ss))) ≡ over x (upto n (span_entries s)) ++ over x (upto n (entries_of ss))
over_cons n x s ss =
    ap (over x) (filter-append (λ e. nat_le e.seq n) (span_entries s) (entries_of ss))
    ∙ filter-append (λ e. is_over x e.op) (upto n (span_entries s)) (upto n (entries_of ss))

none_over : (n : ℕ) (x : List ℕ) (ss : List Span) → ((s : Span) → Among s ss → within s.start s.end x ≡ false) → over x (upto n (entries_of ss)) ≡ []
none_over n x [] h = refl
none_over n x (s ∷ ss) h = over_cons n x s ss ∙ rw (none_in s n x (h s (inl refl)), none_over n x ss (λ t m. h t (inr m))) refl

one_over : (n : ℕ) (x : List ℕ) (ss : List Span) → Ascending apart ss → (s : Span) → Among s ss → within s.start s.end x ≡ true → over x (upto n (entries_of ss)) ≡ upto n (span_entries s)
one_over n x [] up s m w = absurd m
one_over n x (u ∷ us) up s (inl e) w =
    let here : within u.start u.end x ≡ true = rw (sym e) w in
    let rest : over x (upto n (entries_of us)) ≡ [] = none_over n x us (λ t m. later_misses u t x (among_all (λ t. apart u t ≡ true) us t up.0 m) here) in
    over_cons n x u us ∙ rw rest (append-nil (over x (upto n (span_entries u)))) ∙ upto_over u n x here u.keys ∙ ap (λ t. upto n (span_entries t)) (sym e)
one_over n x (u ∷ us) up s (inr m) w =
    let gone : over x (upto n (span_entries u)) ≡ [] = none_in u n x (earlier_misses u s x (among_all (λ t. apart u t ≡ true) us s up.0 m) w) in
    over_cons n x u us ∙ rw gone (one_over n x us up.1 s m w)

pub span_has_its_cover : SpanHasItsCover
span_has_its_cover n ss h s x m w = ap cover_of (one_over n x ss (extents_apart ss h) s m w)

pub no_span_no_cover : NoSpanNoCover
no_span_no_cover n ss x h = ap cover_of (none_over n x ss h)
