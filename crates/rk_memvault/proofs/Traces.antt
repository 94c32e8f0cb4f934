-- What is kept of a file is made of what it has met.
use Rattle.std.proofs.Common.{◌≡◌, ℕ, ◌+◌, ◌-◌, ◌≤◌, ◌<◌, Bool, true, false, ◌&&◌, List, [], ◌++◌, length, take, drop, replicate, Option, Some, None, refl, sym, ◌∙◌, ap, subst, arith, get_or, inl, inr, ⊎_elim, if◌then◌else◌}
use Rattle.std.specs.Prelude.{nat_lt, nat_le}
use Rattle.std.proofs.Math.ListN.{get_or-append}
use Rattle.std.proofs.lemmas.Bool.{or_cases, and_parts, leb-true, ltb-true, false≢true, true≢false}
use Rattle.std.proofs.lemmas.Bool.Decides.{leb_tells}
use Rattle.std.proofs.lemmas.List.{length-append, length-take, length-drop, length-replicate, get_or-replicate, get_or-take, get_or-drop, get_or-append_right}
use Rattle.rk_outside.specs.Disks.{FileFacts, Synced, Changed, Unsynced, IsLeft, is_written, Change, Write, Cut, Sync, Remove, overwritten, done, facts_after, since_sync, after_write, after_cut, after_removal}
use Rattle.rk_outside.proofs.Writes.{overwritten_image}
use Rattle.rk_outside.proofs.Honest.{kept_done}
use Rattle.rk_memvault.specs.Honesty.{kept_undone}
use Rattle.rk_memvault.specs.Images.{Trace, IsFree, IsFilled, IsTraceSince, IsTraceBy, IsTraceOf, seen, settled_trace, trace_after}

-- a fill over bytes: each free place of it holds the fill
over_free : (fill at n : ℕ) (u : Unsynced) (f : List ℕ) → ((i : ℕ) → i < length f → IsFree u i → get_or f i 0 ≡ fill) → (i : ℕ) → i < length (overwritten f at (replicate n fill)) →
    IsFree (after_write true at n u) i → get_or (overwritten f at (replicate n fill)) i 0 ≡ fill
over_free fill at n u f free i lt is =
    let front = take at f in
    let over = replicate n fill in
    let back = drop (at + length over) f in
    let n_is : length over ≡ n = length-replicate n fill in
    let whole = length-take at f in
    let two : length (front ++ over) ≡ length front + length over = length-append front over in
    let all : length (overwritten f at over) ≡ length (front ++ over) + length back = length-append (front ++ over) back in
    let rest = length-drop (at + length over) f in
    ⊎_elim
    (λ e. ⊎_elim
    (λ k.
    let back_at = i - (length front + length over) in
    let there : i ≡ at + length over + back_at = omega (arith, e.1, k.1, lt, all, two, whole, rest) in
    get_or-append_right (front ++ over) back (length front + length over) i 0 two k.1 ∙ get_or-drop (at + length over) f back_at 0
    ∙ ap (λ j. get_or f j 0) (sym there)
    ∙ free i (omega (arith, there, lt, all, two, whole, rest, k.1)) (before i (omega (arith, there, n_is)) is))
    (λ k.
    get_or-append (front ++ over) back 0 i (omega (arith, k.1, two)) ∙ get_or-append_right front over (length front) i 0 refl e.1
    ∙ get_or-replicate n (i - length front) fill 0 (omega (arith, e.1, k.1, n_is)))
    (leb_tells (length front + length over) i))
    (λ e.
    get_or-append (front ++ over) back 0 i (omega (arith, e.1, two)) ∙ get_or-append front over 0 i e.1 ∙ get_or-take at f i 0 (omega (arith, e.1, whole))
    ∙ free i (omega (arith, e.1, whole)) (before_it i (omega (arith, e.1, whole)) is))
    (leb_tells (length front) i)
  where
    was : (i : ℕ) → ((nat_le at i && nat_lt i (at + n)) ≡ true → ⊥) → IsFree (after_write true at n u) i → IsFree u i
    was i out (inl above) = inl above
    was i out (inr written) = ⊎_elim (λ this. absurd (out this)) (λ e. inr e) (or_cases (nat_le at i && nat_lt i (at + n)) (is_written u.writes i) written)

    before : (i : ℕ) → at + n ≤ i → IsFree (after_write true at n u) i → IsFree u i
    before i le is = was i (λ this. absurd (omega (arith, le, ltb-true i (at + n) (and_parts (nat_le at i) (nat_lt i (at + n)) this).1))) is

    before_it : (i : ℕ) → i < at → IsFree (after_write true at n u) i → IsFree u i
    before_it i lt is = was i (λ this. absurd (omega (arith, lt, leb-true at i (and_parts (nat_le at i) (nat_lt i (at + n)) this).0))) is

over_filled : (fill at n : ℕ) (u : Unsynced) (f : List ℕ) → IsFilled fill u f → IsFilled fill (after_write true at n u) (overwritten f at (replicate n fill))
over_filled fill at n u f filled = record {
  left = subst (λ k. IsLeft (after_write true at k u) (overwritten f at (replicate n fill))) (length-replicate n fill) (overwritten_image u at (replicate n fill) f filled.left);
  free = over_free fill at n u f filled.free;
}

nothing_left : (u : Unsynced) (bytes : List ℕ) → u.front ≡ [] → IsLeft u bytes
nothing_left u bytes none =
    let empty : length u.front ≡ 0 = ap length none in
    record { no_shorter = omega (arith, empty); kept = λ i lt not. absurd (omega (arith, lt, empty)) }

made_filled : (fill at n : ℕ) (u : Unsynced) → IsFilled fill (after_write false at n u) (overwritten [] at (replicate n fill))
made_filled fill at n u = record {
  left = nothing_left (after_write false at n u) _ refl;
  free = λ i lt is. over_free fill at n (record { front = []; writes = []; loose = true }) [] (λ j few free. absurd (omega (arith, few))) i lt (inl (omega arith));
}

cut_filled : (fill len : ℕ) (u : Unsynced) (f : List ℕ) → IsFilled fill u f → IsFilled fill (after_cut len u) (take len f)
cut_filled fill len u f filled = record {
  left = kept_done (Cut len) (Some f) (Changed u) filled.left;
  free = λ i lt is.
      get_or-take len f i 0 (omega (arith, lt, length-take len f))
      ∙ filled.free i (omega (arith, lt, length-take len f))
      (⊎_elim (λ above. inl (omega (arith, above, lt, length-take len f, length-take len u.front))) (λ written. inr written) is);
}

removed_filled : (fill : ℕ) (u : Unsynced) (f : List ℕ) → IsFilled fill u f → IsFilled fill (after_removal u) f
removed_filled fill u f filled = record { left = record { no_shorter = filled.left.no_shorter; kept = filled.left.kept }; free = filled.free }

abbrev made : Bool → Bool → List ℕ → List ℕ → List ℕ → Trace
made there loose kept lost filled = record { there = there; loose = loose; kept = kept; lost = lost; filled = filled }

settled : (fill : ℕ) (b : List ℕ) → IsTraceSince fill (since_sync (Synced (Some b))) (settled_trace b)
settled fill b = record {
  loose = refl;
  kept = record { no_shorter = omega arith; kept = λ i lt not. refl };
  lost = refl;
  filled = record {
    left = record { no_shorter = omega arith; kept = λ i lt not. refl };
    free = λ i lt is. ⊎_elim (λ above. absurd (omega (arith, above, lt))) (λ written. absurd (false≢true written)) is;
  };
}

-- what is kept of a file that reads give
since : (fill : ℕ) (facts : FileFacts) (t : Trace) → t.there ≡ true → IsTraceBy fill facts t → IsTraceSince fill (since_sync facts) t
since fill (Synced None) t there is = absurd (true≢false (sym there ∙ ap (λ t. t.there) is))
since fill (Synced (Some b)) t there is = subst (IsTraceSince fill (since_sync (Synced (Some b)))) (sym is) (settled fill b)
since fill (Changed u) t there is = is.0

kept_written : (ok : Bool) (at : ℕ) (bytes : List ℕ) (u : Unsynced) (kept : List ℕ) → IsLeft u kept → IsLeft (after_write true at (length bytes) u) (if ok then overwritten kept at bytes else kept)
kept_written true at bytes u kept left = kept_done (Write at bytes) (Some kept) (Changed u) left
kept_written false at bytes u kept left = kept_undone (Write at bytes) (Some kept) (Changed u) left

kept_cut : (ok : Bool) (len : ℕ) (u : Unsynced) (kept : List ℕ) → IsLeft u kept → IsLeft (after_cut len u) (if ok then take len kept else kept)
kept_cut true len u kept left = kept_done (Cut len) (Some kept) (Changed u) left
kept_cut false len u kept left = kept_undone (Cut len) (Some kept) (Changed u) left

there_by : (fill : ℕ) (change : Change) (ok : Bool) (facts : FileFacts) (loose : Bool) (kept lost filled : List ℕ) → IsTraceBy fill facts (made true loose kept lost filled) →
    IsTraceBy fill (facts_after ok (Some kept) change facts) (trace_after fill change ok (made true loose kept lost filled))
there_by fill (Write at bytes) ok facts loose kept lost filled is =
    let s = since fill facts (made true loose kept lost filled) refl is in (
      record {
        loose = s.loose;
        kept = kept_written ok at bytes (since_sync facts) kept s.kept;
        lost = s.lost;
        filled = over_filled fill at (length bytes) (since_sync facts) filled s.filled;
      },
      λ no. absurd (true≢false no),
    )
there_by fill (Cut len) ok facts loose kept lost filled is =
    let s = since fill facts (made true loose kept lost filled) refl is in (
      record {
        loose = s.loose;
        kept = kept_cut ok len (since_sync facts) kept s.kept;
        lost = ap (take len) s.lost;
        filled = cut_filled fill len (since_sync facts) filled s.filled;
      },
      λ no. absurd (true≢false no),
    )
there_by fill Sync true facts loose kept lost filled is = refl
there_by fill Sync false facts loose kept lost filled is = is
there_by fill Remove ok facts loose kept lost filled is =
    let s = since fill facts (made true loose kept lost filled) refl is in (
      record {
        loose = refl;
        kept = record { no_shorter = s.kept.no_shorter; kept = s.kept.kept };
        lost = s.lost;
        filled = removed_filled fill (since_sync facts) filled s.filled;
      },
      λ no. refl,
    )

away_by : (fill : ℕ) (change : Change) (ok : Bool) (facts : FileFacts) (loose : Bool) (kept lost filled : List ℕ) → IsTraceBy fill facts (made false loose kept lost filled) →
    IsTraceBy fill (facts_after ok None change facts) (trace_after fill change ok (made false loose kept lost filled))
away_by fill (Write at bytes) ok facts loose kept lost filled is = (
  record {
    loose = refl;
    kept = nothing_left (after_write false at (length bytes) (since_sync facts)) _ refl;
    lost = refl;
    filled = made_filled fill at (length bytes) (since_sync facts);
  },
  λ no. refl,
)
away_by fill (Cut len) ok facts loose kept lost filled is = is
away_by fill Sync true facts loose kept lost filled is = refl
away_by fill Sync false facts loose kept lost filled is = is
away_by fill Remove ok facts loose kept lost filled is = is

abbrev pub file_after : Bool → Change → Option (List ℕ) → Option (List ℕ)
file_after true change file = done change file
file_after false change file = file

seen_there : (fill : ℕ) (change : Change) (ok loose : Bool) (kept lost filled : List ℕ) → file_after ok change (Some kept) ≡ seen (trace_after fill change ok (made true loose kept lost filled))
seen_there fill (Write at bytes) true loose kept lost filled = refl
seen_there fill (Write at bytes) false loose kept lost filled = refl
seen_there fill (Cut len) true loose kept lost filled = refl
seen_there fill (Cut len) false loose kept lost filled = refl
seen_there fill Sync true loose kept lost filled = refl
seen_there fill Sync false loose kept lost filled = refl
seen_there fill Remove true loose kept lost filled = refl
seen_there fill Remove false loose kept lost filled = refl

seen_away : (fill : ℕ) (change : Change) (ok loose : Bool) (kept lost filled : List ℕ) → file_after ok change None ≡ seen (trace_after fill change ok (made false loose kept lost filled))
seen_away fill (Write at bytes) true loose kept lost filled = refl
seen_away fill (Write at bytes) false loose kept lost filled = refl
seen_away fill (Cut len) true loose kept lost filled = refl
seen_away fill (Cut len) false loose kept lost filled = refl
seen_away fill Sync true loose kept lost filled = refl
seen_away fill Sync false loose kept lost filled = refl
seen_away fill Remove true loose kept lost filled = refl
seen_away fill Remove false loose kept lost filled = refl

traced_by : (fill : ℕ) (change : Change) (ok : Bool) (facts : FileFacts) (there loose : Bool) (kept lost filled : List ℕ) → IsTraceBy fill facts (made there loose kept lost filled) →
    IsTraceOf fill (file_after ok change (seen (made there loose kept lost filled))) (facts_after ok (seen (made there loose kept lost filled)) change facts)
    (trace_after fill change ok (made there loose kept lost filled))
traced_by fill change ok facts true loose kept lost filled is = record { read = seen_there fill change ok loose kept lost filled; met = there_by fill change ok facts loose kept lost filled is }
traced_by fill change ok facts false loose kept lost filled is = record { read = seen_away fill change ok loose kept lost filled; met = away_by fill change ok facts loose kept lost filled is }

-- after a change, by whether it was done
pub traced : (fill : ℕ) (change : Change) (ok : Bool) (file : Option (List ℕ)) (facts : FileFacts) (t : Trace) → IsTraceOf fill file facts t →
    IsTraceOf fill (file_after ok change file) (facts_after ok file change facts) (trace_after fill change ok t)
traced fill change ok file facts t is =
    subst (λ f. IsTraceOf fill (file_after ok change f) (facts_after ok f change facts) (trace_after fill change ok t)) (sym is.read)
    (traced_by fill change ok facts t.there t.loose t.kept t.lost t.filled is.met)
