use Rattle.std.proofs.Common.{◌≡◌, ℕ, ◌+◌, ◌<◌, List, [], ◌∷◌, ◌++◌, length, get_or, take, append_assoc, sym, ap, ◌∙◌}
use Rattle.std.specs.Prelude.{flat_map}
use Rattle.std.proofs.lemmas.List.{flat_map_more, take_more}
use Rattle.byteorder.specs.Endian.{big_bytes}
use Rattle.rk_manifest.specs.Versions.{table_bytes}
use Rattle.rk_manifest.specs.declared.types.TableDesc.{TableDesc}
use Rattle.rk_manifest.proofs.encode.push_level.Goals as goal

-- one table more
more : (old a : List ℕ) (ts : List TableDesc) (i : ℕ) (t : TableDesc) (w x : List ℕ) → i < length ts → t ≡ get_or ts i t
    → w ≡ old ++ (a ++ flat_map table_bytes (take i ts)) → x ≡ w ++ table_bytes t → x ≡ old ++ (a ++ flat_map table_bytes (take (i + 1) ts))
more old a ts i t w x less is so_far added =
    let here : take i ts ++ t ∷ [] ≡ take (i + 1) ts = ap (λ (s : TableDesc). take i ts ++ s ∷ []) is ∙ sym (take_more ts i t less) in
    added ∙ ap (λ (y : List ℕ). y ++ table_bytes t) so_far
    ∙ append_assoc old (a ++ flat_map table_bytes (take i ts)) (table_bytes t)
    ∙ ap (λ (y : List ℕ). old ++ y) (flat_map_more table_bytes a (take i ts) t)
    ∙ ap (λ (ys : List TableDesc). old ++ (a ++ flat_map table_bytes ys)) here

pub loop-table-preserved : goal.loop-table-preserved
loop-table-preserved c =
    let ts = c.deref-table-items.result.now in
    more c.args.out.now.items (big_bytes 4 (length ts)) ts c.loop-table.table-index c.table-item.result c.loop-table.out.items c.push_table.new.out.items c.loop-table-test.true c.table-item.is c.loop-table.invariant c.in_ok-push_table.ensures
