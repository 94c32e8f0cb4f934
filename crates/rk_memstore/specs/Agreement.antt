-- When entries stand for a history, whatever was done to them that no iterator can see.
use Rattle.std.specs.Prelude.{◌≡◌, ℕ, ◌≤◌, ◌⊎◌, List}
use Rattle.std.specs.List.{All}
use Rattle.rk_key.specs.Keys.{IsKey}
use Rattle.rk_model.specs.Lists.{Among}
use Rattle.rk_model.specs.Kept.{cells}
use Rattle.rk_model.specs.Operations.{History, entries, last}
use Rattle.rk_model.specs.declared.op.Entry.{Entry}
use Rattle.rk_mem.specs.Chunks.{AreNewer}
use Rattle.rk_mem.specs.Memory.{EachTwo}
use Rattle.rk_merge_laws.specs.Chunks.{all_of, NumbersDifferOver}

-- a number at which the history may be looked at: the last one, or a live one
abbrev pub IsSeen : History → List ℕ → ℕ → Type 0
IsSeen h live n = (n ≡ last h) ⊎ Among n live

-- Entries in parts, the oldest part first, stand for a history with some live numbers: at the last number and at each
-- live one they give at each key what the history gives; over each key no two have one number; those of a part are newer
-- than those of the parts before it; and no number is above the last.
pub record Agrees (parts : List (List Entry)) (h : History) (live : List ℕ) : Type 0 where
  pub same : (n : ℕ) → IsSeen h live n → (x : List ℕ) → IsKey x → cells (all_of parts) n x ≡ cells (entries h) n x
  pub once : NumbersDifferOver parts
  pub layered : EachTwo AreNewer parts
  pub none_above : All (λ e. e.seq ≤ last h) (all_of parts)
