-- Reading undoes printing.
use Rattle.std.specs.Prelude.{◌≡◌, ℕ, ◌<◌, true, List, [], ◌∷◌, All, Some}
use Rattle.std.specs.List.{list_all}
use Rattle.rk_script.specs.Words.{words, is_printable, escaped, escaped_bytes, unescaped}

-- what is printed for bytes may stand in a line, is one word there, and is read as these bytes
pub record IsReadBack (bytes : List ℕ) : Type 0 where
  pub printable : list_all is_printable (escaped bytes) ≡ true
  pub one_word : words (escaped bytes) ≡ escaped bytes ∷ []
  pub read : unescaped (escaped bytes) ≡ Some bytes
  pub read_as_suffix : unescaped (escaped_bytes bytes) ≡ Some bytes

abbrev pub ReadsBackWhatIsPrinted : Type 0
ReadsBackWhatIsPrinted = (bytes : List ℕ) → All (λ b. b < 256) bytes → IsReadBack bytes
