-- What is visible of sources that are cut, when an iterator is opened over them.
use Rattle.std.proofs.Common.{◌≡◌, ℕ, List, [], ◌∷◌, map, None, refl, ap, ◌∙◌}
use Rattle.rk_model.specs.Items.{point_takes}
use Rattle.rk_model.specs.Standings.{Listing}
use Rattle.rk_model.specs.declared.op.Entry.{Entry}
use Rattle.rk_model.specs.declared.options.IterOptions.{IterOptions}
use Rattle.rk_pointmerge.specs.Merges.{Merging as PointMerging, merged as merged_points}
use Rattle.rk_pointmerge.specs.Visibles.{Viewing, viewed, viewing_listing}
use Rattle.rk_sources.specs.Bounds.{Bounding, bounded}
use Rattle.rk_iter.specs.Inside.{bounded_points, inside_points}

module _ {P : Type 0} (listing : P → Listing Entry) (o : IterOptions) where
  abbrev cut : P → Bounding P
  cut p = record { source = p; lower = o.lower; upper = o.upper; facing = None }

  abbrev cut_listing : Bounding P → Listing Entry
  cut_listing b = bounded (λ forward. point_takes) b.lower b.upper (listing b.source)

  abbrev seen_listing : Viewing (PointMerging (Bounding P)) → Listing Entry
  seen_listing v = viewing_listing (λ m. merged_points (map cut_listing m.sources)) v

  cut_listed : (ps : List P) → map cut_listing (map cut ps) ≡ map (bounded_points o) (map listing ps)
  cut_listed [] = refl
  cut_listed (p ∷ ps) = ap (λ ls. bounded_points o (listing p) ∷ ls) (cut_listed ps)

  -- what is visible of a merge of sources that are cut
  pub seen_opened : (n : ℕ) (ps : List P) (bs : List (Bounding P)) (m : PointMerging (Bounding P)) (v w : Viewing (PointMerging (Bounding P))) → w ≡ v
      → seen_listing v ≡ viewed n (merged_points (map cut_listing m.sources)) → merged_points (map cut_listing m.sources) ≡ merged_points (map cut_listing bs) → bs ≡ map cut ps
      → seen_listing w ≡ inside_points n o (map listing ps)
  seen_opened n ps bs m v w is seen merged_is cut_is =
      ap (λ u. seen_listing u) is ∙ seen
      ∙ ap (λ l. viewed n l) (merged_is ∙ ap (λ cs. merged_points (map cut_listing cs)) cut_is ∙ ap (λ ls. merged_points ls) (cut_listed ps))
