-- Entries whose numbers differ.
use Rattle.std.proofs.Common.{◌≡◌, ◌≢◌, Bool, true, false, cond, List, [], ◌∷◌, filter, ap, sym, ◌∙◌, inl, inr}
use Rattle.rk_model.specs.Lists.{Among}
use Rattle.rk_model.specs.Operations.{NumbersDiffer}
use Rattle.rk_model.specs.declared.op.Entry.{Entry}
use Rattle.rk_model.proofs.Lists.{all_filter}
use Rattle.rk_model.proofs.Members.{among_all}

pub some_differ : (t : Entry → Bool) (es : List Entry) → NumbersDiffer es → NumbersDiffer (filter t es)
some_differ t [] h = tt
some_differ t (e ∷ es) h = go (t e) (some_differ t es h.1)
  where
    go : (b : Bool) → NumbersDiffer (filter t es) → NumbersDiffer (cond b (e ∷ filter t es) (filter t es))
    go true ih = (all_filter t (λ f. f.seq ≢ e.seq) es h.0, ih)
    go false ih = ih

-- one number is one entry
pub same_number : (l : List Entry) (e f : Entry) → NumbersDiffer l → Among e l → Among f l → e.seq ≡ f.seq → e ≡ f
same_number [] e f h m i s = absurd m
same_number (x ∷ xs) e f h (inl p) (inl q) s = p ∙ sym q
same_number (x ∷ xs) e f h (inl p) (inr i) s = absurd (among_all (λ g. g.seq ≢ x.seq) xs f h.0 i (sym s ∙ ap (λ (z : Entry). z.seq) p))
same_number (x ∷ xs) e f h (inr m) (inl q) s = absurd (among_all (λ g. g.seq ≢ x.seq) xs e h.0 m (s ∙ ap (λ (z : Entry). z.seq) q))
same_number (x ∷ xs) e f h (inr m) (inr i) s = same_number xs e f h.1 m i s
