-- The newest put or del on a key, as one search of the list.
use Rattle.std.proofs.Common.{◌≡◌, ℕ, ◌∙◌, ap, Bool, List}
use Rattle.std.specs.Prelude.{◌&&◌, not, nat_lt, filter}
use Rattle.std.specs.List.{list_any, find}
use Rattle.rk_model.proofs.Filters.{list_any-filter, filter-filter, find-filter, first_of-filter}
use Rattle.rk_model.specs.Operations.{is_over}
use Rattle.rk_model.specs.Covers.{over, newest, is_point}
use Rattle.rk_model.specs.declared.op.Entry.{Entry}

newest-filter : (p : Entry → Bool) (es : List Entry) → newest (filter p es) ≡ find (λ e. p e && not (list_any (λ f. p f && nat_lt e.seq f.seq) es)) es
newest-filter p es =
    first_of-filter (λ e. not (list_any (λ f. nat_lt e.seq f.seq) (filter p es))) (filter p es)
    ∙ find-filter (λ e. not (list_any (λ f. nat_lt e.seq f.seq) (filter p es))) p es
    ∙ (λ i. find (λ e. p e && not (list_any-filter (λ f. nat_lt e.seq f.seq) p es i)) es)

-- whether an entry is a put or a del on the key, and no other such is newer
abbrev pub is_newest_point : List Entry → List ℕ → Entry → Bool
is_newest_point es x e = is_over x e.op && is_point e.op && not (list_any (λ f. is_over x f.op && is_point f.op && nat_lt e.seq f.seq) es)

pub newest_point_is_found : (es : List Entry) (x : List ℕ) →
    newest (filter (λ e. is_point e.op) (over x es))
    ≡ find (is_newest_point es x) es
newest_point_is_found es x =
    ap newest (filter-filter (λ e. is_point e.op) (λ e. is_over x e.op) es)
    ∙ newest-filter (λ e. is_over x e.op && is_point e.op) es
