-- What a loop over a word for bytes keeps.
use Rattle.std.proofs.Common.{◌≡◌, ℕ, ◌++◌, ◌==◌, Bool, true, false, cond, List, [], ◌∷◌, Option, Some, None, Err, is_some, option_map, refl, sym, ap, ◌∙◌, append_assoc, append-nil}
use Rattle.std.specs.Prelude.{codes}
use Rattle.std.specs.List.{list_any}
use Rattle.std.specs.Option.{ok_or, unwrap_or}
use Rattle.rk_model.specs.Lists.{none_of}
use Rattle.rk_model.specs.Spans.{same_bytes}
use Rattle.rk_script.specs.Grammar.{bytes_of}
use Rattle.rk_script.specs.declared.line.Why.TheVariants.{Escape}
use Rattle.rk_script.specs.Words.{percent, hex_byte, byte_before, unescaped, unescaped_bytes}
use Rattle.rk_script.proofs.Naming.{or_false}
use Rattle.rk_script.proofs.Texts.{same_bytes-Decides}

-- ---- what a word stands for, where that is something

pub some_bytes : (word : List ℕ) → is_some (unescaped word) ≡ true → unescaped word ≡ Some (unwrap_or (unescaped word) [])
some_bytes word some = at (unescaped word) some where
  at : (o : Option (List ℕ)) → is_some o ≡ true → o ≡ Some (unwrap_or o [])
  at None some = cc
  at (Some bytes) some = refl

pub no_bytes : (word : List ℕ) → is_some (unescaped word) ≡ false → bytes_of word ≡ Err Escape
no_bytes word none = at (unescaped word) none where
  at : (o : Option (List ℕ)) → is_some o ≡ false → ok_or o Escape ≡ Err Escape
  at None none = refl
  at (Some bytes) none = cc

-- ---- byte after byte

one_more : (front : List ℕ) (b : ℕ) (o : Option (List ℕ)) → option_map (λ bs. (front ++ b ∷ []) ++ bs) o ≡ option_map (λ bs. front ++ bs) (byte_before (Some b) o)
one_more front b None = refl
one_more front b (Some bs) = ap Some (append_assoc front (b ∷ []) bs)

-- one more byte is read
pub unescaped_more : (front items rest after word : List ℕ) (b : ℕ) → items ≡ front ++ b ∷ [] → unescaped_bytes rest ≡ byte_before (Some b) (unescaped_bytes after) → option_map (λ bs. front ++ bs) (unescaped_bytes rest) ≡ unescaped_bytes word → option_map (λ bs. items ++ bs) (unescaped_bytes after) ≡ unescaped_bytes word
unescaped_more front items rest after word b pushed read kept =
    ap (λ xs. option_map (λ bs. xs ++ bs) (unescaped_bytes after)) pushed ∙ one_more front b (unescaped_bytes after) ∙ ap (option_map (λ bs. front ++ bs)) (sym read) ∙ kept

-- all bytes of a word that stands for some are read
pub unescaped_done : (front rest word : List ℕ) → is_some (unescaped word) ≡ true → same_bytes word (codes "%-") ≡ false → (none_of rest ≡ false → unescaped_bytes rest ≡ None) → option_map (λ bs. front ++ bs) (unescaped_bytes rest) ≡ unescaped_bytes word → unescaped word ≡ Some front
unescaped_done front [] word some other none kept = rw other (sym kept ∙ ap Some (append-nil front))
unescaped_done front (b ∷ bs) word some other none kept =
    let whole : unescaped word ≡ None = rw other (sym kept ∙ ap (option_map (λ xs. front ++ xs)) (none refl)) in
    let missing : is_some (unescaped word) ≡ false = ap is_some whole in
    cc

is_some-byte_before : (b : ℕ) (o : Option (List ℕ)) → is_some (byte_before (Some b) o) ≡ is_some o
is_some-byte_before b None = refl
is_some-byte_before b (Some bs) = refl

-- one more byte is passed
pub whole_more : (rest after word : List ℕ) (b : ℕ) → unescaped_bytes rest ≡ byte_before (Some b) (unescaped_bytes after) → is_some (unescaped_bytes rest) ≡ is_some (unescaped_bytes word) → is_some (unescaped_bytes after) ≡ is_some (unescaped_bytes word)
whole_more rest after word b read kept = sym (is_some-byte_before b (unescaped_bytes after)) ∙ (ap is_some (sym read) ∙ kept)

-- ---- words without '%'

-- a byte other than '%' stands for itself
pub stands_for_itself : (b : ℕ) (rest : List ℕ) → (b == percent) ≡ false → unescaped_bytes (b ∷ rest) ≡ byte_before (Some b) (unescaped_bytes rest)
stands_for_itself b [] other = ap (λ t. cond t None (Some (b ∷ []))) other
stands_for_itself b (c ∷ []) other = ap (λ t. cond t None (byte_before (Some b) (unescaped_bytes (c ∷ [])))) other
stands_for_itself b (c ∷ d ∷ rest) other =
    ap (λ t. cond t (byte_before (hex_byte c d) (unescaped_bytes rest)) (byte_before (Some b) (unescaped_bytes (c ∷ d ∷ rest)))) other

plain_bytes : (word : List ℕ) → list_any (λ b. b == percent) word ≡ false → unescaped_bytes word ≡ Some word
plain_bytes [] plain = refl
plain_bytes (b ∷ bs) plain =
    let both = or_false (b == percent) (list_any (λ c. c == percent) bs) plain in
    stands_for_itself b bs both.0 ∙ ap (byte_before (Some b)) (plain_bytes bs both.1)

pub stands_for_nothing_else : (word : List ℕ) → list_any (λ b. b == percent) word ≡ false → unescaped word ≡ Some word
stands_for_nothing_else word plain = at (same_bytes word (codes "%-")) refl where
  at : (t : Bool) → same_bytes word (codes "%-") ≡ t → unescaped word ≡ Some word
  at true is = (let same = (same_bytes-Decides word (codes "%-")).0 is in let some : list_any (λ b. b == percent) word ≡ true = ap (list_any (λ b. b == percent)) same in cc)
  at false other = rw other (plain_bytes word plain)
