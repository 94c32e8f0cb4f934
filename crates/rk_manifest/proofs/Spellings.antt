-- The reading of a payload is the spelling of versions.
use Rattle.std.proofs.Common.{◌≡◌, ℕ, zero, suc, ◌^◌, ◌<◌, Bool, true, false, cond, List, [], ◌∷◌, ◌++◌, length, Some, None, refl, sym, ap, subst, ◌∙◌, append_assoc, arith}
use Rattle.std.specs.Prelude.{All, flat_map, IsTrue, nat_lt, nat_le, ◌==◌, ◌&&◌, not, ◌≤◌}
use Rattle.std.specs.List.{list_all}
use Rattle.std.proofs.lemmas.Bool.{and_parts, ltb-true, leb-true, false≢true}
use Rattle.std.proofs.lemmas.List.{append-nil}
use Rattle.std.proofs.lemmas.List.Elements.{All-nil, All-cons, All-head, All-tail, All-append, All-weaker}
use Rattle.byteorder.specs.Endian.{big_bytes}
use Rattle.rk_pieces.specs.Pieces.{◌>>=◌, big_at, short, short_at, whole, tested, each_pair}
use Rattle.rk_manifest.specs.Versions.{Version, IsVersionOf, flag, flag_at, is_version, is_table_desc, is_bare, are_levels, tables, table_bytes, level_bytes, table_at, tables_at, levels_at, version_at}
use Rattle.rk_manifest.specs.declared.types.TableDesc.{TableDesc}
use Rattle.rk_pieces.proofs.Fields.{IsBytes, rest_fits, bind_some, bind_again, some_is, whole_is, tested_is, spells_4, spells_8, big_takes, big_again, short_takes, short_again}
use Rattle.rk_manifest.proofs.Fields.{flag_takes, flag_again}

-- the bytes are those of the table, and then the rest
pub record TakesTable (bytes : List ℕ) (t : TableDesc) (rest : List ℕ) : Type 0 where
  pub spelled : bytes ≡ table_bytes t ++ rest
  pub file : t.file < 2 ^ 64
  pub size : t.size < 2 ^ 64

joined_5 : (bytes a x b y c z d w e : List ℕ) (f : ℕ) (rest : List ℕ) → bytes ≡ a ++ x → x ≡ b ++ y → y ≡ c ++ z → z ≡ d ++ w → w ≡ f ∷ rest
    → bytes ≡ (a ++ b ++ c ++ d ++ f ∷ []) ++ rest
joined_5 bytes a x b y c z d w e f rest p q r s t = rw (p, q, r, s, t) (simp append_assoc)

pub table_takes : (bytes : List ℕ) (p : TableDesc × List ℕ) → IsBytes bytes → table_at bytes ≡ Some p → TakesTable bytes p.0 p.1
unfolding table_at
table_takes bytes p fits e =
    let f = bind_some (big_at 8 bytes) (λ file. big_at 8 file.1 >>= λ size. short_at size.1 >>= λ lo. short_at lo.1 >>= λ hi. flag_at hi.1 >>= λ closed. Some (record { file = file.0; size = size.0; lo = lo.0; hi = hi.0; closed = closed.0 }, closed.1)) p e in
    let s = bind_some (big_at 8 f.0.1) (λ size. short_at size.1 >>= λ lo. short_at lo.1 >>= λ hi. flag_at hi.1 >>= λ closed. Some (record { file = f.0.0; size = size.0; lo = lo.0; hi = hi.0; closed = closed.0 }, closed.1)) p f.2 in
    let l = bind_some (short_at s.0.1) (λ lo. short_at lo.1 >>= λ hi. flag_at hi.1 >>= λ closed. Some (record { file = f.0.0; size = s.0.0; lo = lo.0; hi = hi.0; closed = closed.0 }, closed.1)) p s.2 in
    let h = bind_some (short_at l.0.1) (λ hi. flag_at hi.1 >>= λ closed. Some (record { file = f.0.0; size = s.0.0; lo = l.0.0; hi = hi.0; closed = closed.0 }, closed.1)) p l.2 in
    let c = bind_some (flag_at h.0.1) (λ closed. Some (record { file = f.0.0; size = s.0.0; lo = l.0.0; hi = h.0.0; closed = closed.0 }, closed.1)) p h.2 in
    let file = big_takes 8 spells_8 bytes f.0.0 f.0.1 fits f.1 in
    let fits_1 = rest_fits bytes (big_bytes 8 f.0.0) f.0.1 fits file.0 in
    let size = big_takes 8 spells_8 f.0.1 s.0.0 s.0.1 fits_1 s.1 in
    let lo = short_takes s.0.1 l.0.0 l.0.1 l.1 in
    let hi = short_takes l.0.1 h.0.0 h.0.1 h.1 in
    let closed = flag_takes h.0.1 c.0.0 c.0.1 c.1 in
    let t : TableDesc = record { file = f.0.0; size = s.0.0; lo = l.0.0; hi = h.0.0; closed = c.0.0 } in
    let taken : TakesTable bytes t c.0.1 = record {
      spelled = joined_5 bytes (big_bytes 8 f.0.0) f.0.1 (big_bytes 8 s.0.0) s.0.1 (short l.0.0) l.0.1 (short h.0.0) h.0.1 [] (flag c.0.0) c.0.1 file.0 size.0 lo hi closed;
      file = file.1;
      size = size.1;
    } in
    subst (λ (q : TableDesc × List ℕ). TakesTable bytes q.0 q.1) (some_is (t, c.0.1) p c.2) taken

apart_5 : (a b c d : List ℕ) (f : ℕ) (rest : List ℕ) → (a ++ b ++ c ++ d ++ f ∷ []) ++ rest ≡ a ++ (b ++ (c ++ (d ++ f ∷ rest)))
apart_5 a b c d f rest = simp append_assoc

pub table_again : (t : TableDesc) (rest : List ℕ) → t.file < 2 ^ 64 → t.size < 2 ^ 64 → table_at (table_bytes t ++ rest) ≡ Some (t, rest)
unfolding table_at
table_again t rest file size =
    ap table_at (apart_5 (big_bytes 8 t.file) (big_bytes 8 t.size) (short t.lo) (short t.hi) (flag t.closed) rest)
    ∙ bind_again (big_at 8 (big_bytes 8 t.file ++ (big_bytes 8 t.size ++ (short t.lo ++ (short t.hi ++ flag t.closed ∷ rest))))) (t.file, big_bytes 8 t.size ++ (short t.lo ++ (short t.hi ++ flag t.closed ∷ rest))) _ (big_again 8 t.file _ file)
    ∙ bind_again (big_at 8 (big_bytes 8 t.size ++ (short t.lo ++ (short t.hi ++ flag t.closed ∷ rest)))) (t.size, short t.lo ++ (short t.hi ++ flag t.closed ∷ rest)) _ (big_again 8 t.size _ size)
    ∙ bind_again (short_at (short t.lo ++ (short t.hi ++ flag t.closed ∷ rest))) (t.lo, short t.hi ++ flag t.closed ∷ rest) _ (short_again t.lo _)
    ∙ bind_again (short_at (short t.hi ++ flag t.closed ∷ rest)) (t.hi, flag t.closed ∷ rest) _ (short_again t.hi _)
    ∙ bind_again (flag_at (flag t.closed ∷ rest)) (t.closed, rest) _ (flag_again t.closed rest)

abbrev pub Small : TableDesc → Type 0
Small t = (t.file < 2 ^ 64) × (t.size < 2 ^ 64)

pub record TakesTables (n : ℕ) (bytes : List ℕ) (ts : List TableDesc) (rest : List ℕ) : Type 0 where
  pub spelled : bytes ≡ flat_map table_bytes ts ++ rest
  pub count : length ts ≡ n
  pub small : All Small ts

pub tables_takes : (n : ℕ) (bytes : List ℕ) (p : List TableDesc × List ℕ) → IsBytes bytes → tables_at n bytes ≡ Some p → TakesTables n bytes p.0 p.1
unfolding tables_at
tables_takes zero bytes p fits e =
    subst (λ (q : List TableDesc × List ℕ). TakesTables zero bytes q.0 q.1) (some_is ([], bytes) p e) (record { spelled = refl; count = refl; small = All-nil Small })
tables_takes (suc n) bytes p fits e =
    let a = bind_some (table_at bytes) (λ table. tables_at n table.1 >>= λ more. Some (table.0 ∷ more.0, more.1)) p e in
    let b = bind_some (tables_at n a.0.1) (λ more. Some (a.0.0 ∷ more.0, more.1)) p a.2 in
    let one = table_takes bytes a.0 fits a.1 in
    let more = tables_takes n a.0.1 b.0 (rest_fits bytes (table_bytes a.0.0) a.0.1 fits one.spelled) b.1 in
    let taken : TakesTables (suc n) bytes (a.0.0 ∷ b.0.0) b.0.1 = record {
      spelled = one.spelled ∙ ap (λ (t : List ℕ). table_bytes a.0.0 ++ t) more.spelled ∙ sym (append_assoc (table_bytes a.0.0) (flat_map table_bytes b.0.0) b.0.1);
      count = ap suc more.count;
      small = All-cons Small a.0.0 b.0.0 (one.file, one.size) more.small;
    } in
    subst (λ (q : List TableDesc × List ℕ). TakesTables (suc n) bytes q.0 q.1) (some_is (a.0.0 ∷ b.0.0, b.0.1) p b.2) taken

pub tables_again : (ts : List TableDesc) (rest : List ℕ) → All Small ts → tables_at (length ts) (flat_map table_bytes ts ++ rest) ≡ Some (ts, rest)
unfolding tables_at
tables_again [] rest small = refl
tables_again (t ∷ ts) rest small =
    let here = All-head Small t ts small in
    ap (tables_at (suc (length ts))) (append_assoc (table_bytes t) (flat_map table_bytes ts) rest)
    ∙ bind_again (table_at (table_bytes t ++ (flat_map table_bytes ts ++ rest))) (t, flat_map table_bytes ts ++ rest) (λ table. tables_at (length ts) table.1 >>= λ more. Some (table.0 ∷ more.0, more.1)) (table_again t (flat_map table_bytes ts ++ rest) here.0 here.1)
    ∙ bind_again (tables_at (length ts) (flat_map table_bytes ts ++ rest)) (ts, rest) (λ more. Some (t ∷ more.0, more.1)) (tables_again ts rest (All-tail Small t ts small))

abbrev pub Few : List TableDesc → Type 0
Few level = length level < 2 ^ 32

pub record TakesLevels (n : ℕ) (bytes : List ℕ) (levels : List (List TableDesc)) (rest : List ℕ) : Type 0 where
  pub spelled : bytes ≡ flat_map level_bytes levels ++ rest
  pub count : length levels ≡ n
  pub few : All Few levels
  pub small : All Small (flat_map (λ level. level) levels)

joined_level : (bytes a x b y c rest : List ℕ) → bytes ≡ a ++ x → x ≡ b ++ y → y ≡ c ++ rest → bytes ≡ ((a ++ b) ++ c) ++ rest
joined_level bytes a x b y c rest p q r = rw (p, q, r) (simp append_assoc)

pub levels_take : (n : ℕ) (bytes : List ℕ) (p : List (List TableDesc) × List ℕ) → IsBytes bytes → levels_at n bytes ≡ Some p → TakesLevels n bytes p.0 p.1
unfolding levels_at
levels_take zero bytes p fits e =
    subst (λ (q : List (List TableDesc) × List ℕ). TakesLevels zero bytes q.0 q.1) (some_is ([], bytes) p e) (record { spelled = refl; count = refl; few = All-nil Few; small = All-nil Small })
levels_take (suc n) bytes p fits e =
    let a = bind_some (big_at 4 bytes) (λ count. tables_at count.0 count.1 >>= λ level. levels_at n level.1 >>= λ more. Some (level.0 ∷ more.0, more.1)) p e in
    let b = bind_some (tables_at a.0.0 a.0.1) (λ level. levels_at n level.1 >>= λ more. Some (level.0 ∷ more.0, more.1)) p a.2 in
    let c = bind_some (levels_at n b.0.1) (λ more. Some (b.0.0 ∷ more.0, more.1)) p b.2 in
    let count = big_takes 4 spells_4 bytes a.0.0 a.0.1 fits a.1 in
    let fits_1 = rest_fits bytes (big_bytes 4 a.0.0) a.0.1 fits count.0 in
    let level = tables_takes a.0.0 a.0.1 b.0 fits_1 b.1 in
    let more = levels_take n b.0.1 c.0 (rest_fits a.0.1 (flat_map table_bytes b.0.0) b.0.1 fits_1 level.spelled) c.1 in
    let counted : bytes ≡ big_bytes 4 (length b.0.0) ++ a.0.1 = subst (λ (k : ℕ). bytes ≡ big_bytes 4 k ++ a.0.1) (sym level.count) count.0 in
    let taken : TakesLevels (suc n) bytes (b.0.0 ∷ c.0.0) c.0.1 = record {
      spelled = joined_level bytes (big_bytes 4 (length b.0.0)) a.0.1 (flat_map table_bytes b.0.0) b.0.1 (flat_map level_bytes c.0.0) c.0.1 counted level.spelled more.spelled;
      count = ap suc more.count;
      few = All-cons Few b.0.0 c.0.0 (subst (λ (k : ℕ). k < 2 ^ 32) (sym level.count) count.1) more.few;
      small = All-append Small b.0.0 (flat_map (λ level. level) c.0.0) level.small more.small;
    } in
    subst (λ (q : List (List TableDesc) × List ℕ). TakesLevels (suc n) bytes q.0 q.1) (some_is (b.0.0 ∷ c.0.0, c.0.1) p c.2) taken

apart_level : (a b c rest : List ℕ) → ((a ++ b) ++ c) ++ rest ≡ a ++ (b ++ (c ++ rest))
apart_level a b c rest = simp append_assoc

front_all : (xs ys : List TableDesc) → All Small (xs ++ ys) → All Small xs × All Small ys
front_all [] ys h = (All-nil Small, h)
front_all (x ∷ xs) ys h =
    let more = front_all xs ys (All-tail Small x (xs ++ ys) h) in
    (All-cons Small x xs (All-head Small x (xs ++ ys) h) more.0, more.1)

pub levels_again : (levels : List (List TableDesc)) (rest : List ℕ) → All Few levels → All Small (flat_map (λ level. level) levels)
    → levels_at (length levels) (flat_map level_bytes levels ++ rest) ≡ Some (levels, rest)
unfolding levels_at
levels_again [] rest few small = refl
levels_again (level ∷ levels) rest few small =
    let parts = front_all level (flat_map (λ l. l) levels) small in
    let after : List ℕ = flat_map level_bytes levels ++ rest in
    ap (levels_at (suc (length levels))) (apart_level (big_bytes 4 (length level)) (flat_map table_bytes level) (flat_map level_bytes levels) rest)
    ∙ bind_again (big_at 4 (big_bytes 4 (length level) ++ (flat_map table_bytes level ++ after))) (length level, flat_map table_bytes level ++ after) (λ count. tables_at count.0 count.1 >>= λ l. levels_at (length levels) l.1 >>= λ more. Some (l.0 ∷ more.0, more.1)) (big_again 4 (length level) (flat_map table_bytes level ++ after) (All-head Few level levels few))
    ∙ bind_again (tables_at (length level) (flat_map table_bytes level ++ after)) (level, after) (λ l. levels_at (length levels) l.1 >>= λ more. Some (l.0 ∷ more.0, more.1)) (tables_again level after parts.0)
    ∙ bind_again (levels_at (length levels) after) (levels, rest) (λ more. Some (level ∷ more.0, more.1)) (levels_again levels rest (All-tail Few level levels few) parts.1)

abbrev pub HasSize : TableDesc → Type 0
HasSize t = t.size < 2 ^ 64

joined_version : (bytes a x b y c : List ℕ) → bytes ≡ a ++ x → x ≡ b ++ y → y ≡ c ++ [] → bytes ≡ (a ++ b) ++ c
joined_version bytes a x b y c p q r = rw (p, q, r) (simp (append_assoc, append-nil))

-- the bytes that are read as a version are its spelling
pub version_takes : (bytes : List ℕ) (v : Version) → IsBytes bytes → version_at bytes ≡ Some v → IsVersionOf bytes v
unfolding version_at
version_takes bytes v fits e =
    let n = bind_some (big_at 8 bytes) (λ next_file. big_at 8 next_file.1 >>= λ flushed_upto. levels_at 4 flushed_upto.1 >>= λ levels. whole levels >>= λ all. tested is_version (record { next_file = next_file.0; flushed_upto = flushed_upto.0; levels = all })) v e in
    let f = bind_some (big_at 8 n.0.1) (λ flushed_upto. levels_at 4 flushed_upto.1 >>= λ levels. whole levels >>= λ all. tested is_version (record { next_file = n.0.0; flushed_upto = flushed_upto.0; levels = all })) v n.2 in
    let l = bind_some (levels_at 4 f.0.1) (λ levels. whole levels >>= λ all. tested is_version (record { next_file = n.0.0; flushed_upto = f.0.0; levels = all })) v f.2 in
    let w = bind_some (whole l.0) (λ all. tested is_version (record { next_file = n.0.0; flushed_upto = f.0.0; levels = all })) v l.2 in
    let next_file = big_takes 8 spells_8 bytes n.0.0 n.0.1 fits n.1 in
    let fits_1 = rest_fits bytes (big_bytes 8 n.0.0) n.0.1 fits next_file.0 in
    let flushed_upto = big_takes 8 spells_8 n.0.1 f.0.0 f.0.1 fits_1 f.1 in
    let fits_2 = rest_fits n.0.1 (big_bytes 8 f.0.0) f.0.1 fits_1 flushed_upto.0 in
    let all = whole_is l.0 w.0 w.1 in
    let levels = subst (λ (q : List (List TableDesc) × List ℕ). TakesLevels 4 f.0.1 q.0 q.1) all (levels_take 4 f.0.1 l.0 fits_2 l.1) in
    let u : Version = record { next_file = n.0.0; flushed_upto = f.0.0; levels = w.0 } in
    let t = tested_is is_version u v w.2 in
    let is : IsVersionOf bytes u = record {
      is_version = t.0;
      sizes = All-weaker Small HasSize (λ x h. h.1) (tables u) levels.small;
      few = levels.few;
      spelled = joined_version bytes (big_bytes 8 n.0.0) n.0.1 (big_bytes 8 f.0.0) f.0.1 (flat_map level_bytes w.0) next_file.0 flushed_upto.0 levels.spelled;
    } in
    subst (IsVersionOf bytes) t.1 is

small_from : (n : ℕ) (ts : List TableDesc) → n < 2 ^ 56 → list_all (is_table_desc n) ts ≡ true → All HasSize ts → All Small ts
small_from n [] few all sizes = All-nil Small
small_from n (t ∷ ts) few all sizes =
    let parts = and_parts (is_table_desc n t) (list_all (is_table_desc n) ts) all in
    let below = and_parts (is_bare t.lo && is_bare t.hi && nat_le 16 t.file) (nat_lt t.file n) parts.0 in
    let file : t.file < n = ltb-true t.file n below.1 in
    All-cons Small t ts (omega arith, All-head HasSize t ts sizes) (small_from n ts few parts.1 (All-tail HasSize t ts sizes))

four : (levels : List (List TableDesc)) → are_levels levels ≡ true → length levels ≡ 4
four [] e = absurd (false≢true e)
four (a ∷ []) e = absurd (false≢true e)
four (a ∷ b ∷ []) e = absurd (false≢true e)
four (a ∷ b ∷ c ∷ []) e = absurd (false≢true e)
four (a ∷ b ∷ c ∷ d ∷ []) e = refl
four (a ∷ b ∷ c ∷ d ∷ x ∷ more) e = absurd (false≢true e)

-- what a version has by its tests
pub record HasBounds (v : Version) : Type 0 where
  pub least : 16 ≤ v.next_file
  pub next_file : v.next_file < 2 ^ 56
  pub flushed_upto : v.flushed_upto < 2 ^ 56
  pub tables : list_all (is_table_desc v.next_file) (tables v) ≡ true
  pub levels : are_levels v.levels ≡ true

pub bounds : (v : Version) → IsTrue (is_version v) → HasBounds v
bounds v h =
    let levels = and_parts _ (are_levels v.levels) h in
    let files = and_parts _ (each_pair (λ s t. not (s.file == t.file)) (tables v)) levels.0 in
    let descs = and_parts _ (list_all (is_table_desc v.next_file) (tables v)) files.0 in
    let flushed = and_parts _ (nat_lt v.flushed_upto 72057594037927936) descs.0 in
    let next = and_parts (nat_le 16 v.next_file) (nat_lt v.next_file 72057594037927936) flushed.0 in
    record {
      least = leb-true 16 v.next_file next.0;
      next_file = ltb-true v.next_file 72057594037927936 next.1;
      flushed_upto = ltb-true v.flushed_upto 72057594037927936 flushed.1;
      tables = descs.1;
      levels = levels.1;
    }

-- the spelling of a version is read as that version
pub version_again : (bytes : List ℕ) (v : Version) → IsVersionOf bytes v → version_at bytes ≡ Some v
unfolding version_at
version_again bytes v h =
    let b = bounds v h.is_version in
    let small = small_from v.next_file (tables v) b.next_file b.tables h.sizes in
    let levels : List ℕ = flat_map level_bytes v.levels in
    let len = four v.levels b.levels in
    let read : levels_at 4 levels ≡ Some (v.levels, []) =
    subst (λ (k : ℕ). levels_at k levels ≡ Some (v.levels, [])) len
    (ap (levels_at (length v.levels)) (sym (append-nil levels)) ∙ levels_again v.levels [] h.few small) in
    ap version_at (h.spelled ∙ append_assoc (big_bytes 8 v.next_file) (big_bytes 8 v.flushed_upto) levels)
    ∙ bind_again (big_at 8 (big_bytes 8 v.next_file ++ (big_bytes 8 v.flushed_upto ++ levels))) (v.next_file, big_bytes 8 v.flushed_upto ++ levels) (λ next_file. big_at 8 next_file.1 >>= λ flushed_upto. levels_at 4 flushed_upto.1 >>= λ levels. whole levels >>= λ all. tested is_version (record { next_file = next_file.0; flushed_upto = flushed_upto.0; levels = all })) (big_again 8 v.next_file (big_bytes 8 v.flushed_upto ++ levels) (omega (arith, b.next_file)))
    ∙ bind_again (big_at 8 (big_bytes 8 v.flushed_upto ++ levels)) (v.flushed_upto, levels) (λ flushed_upto. levels_at 4 flushed_upto.1 >>= λ levels. whole levels >>= λ all. tested is_version (record { next_file = v.next_file; flushed_upto = flushed_upto.0; levels = all })) (big_again 8 v.flushed_upto levels (omega (arith, b.flushed_upto)))
    ∙ bind_again (levels_at 4 levels) (v.levels, []) (λ levels. whole levels >>= λ all. tested is_version (record { next_file = v.next_file; flushed_upto = v.flushed_upto; levels = all })) read
    ∙ ap (λ (t : Bool). cond t (Some v) None) h.is_version
