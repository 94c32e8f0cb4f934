-- Printed bytes are one word, and are read as the same bytes.
use Rattle.std.proofs.Common.{◌≡◌, ℕ, ◌+◌, ◌*◌, ◌/◌, ◌%◌, ◌==◌, ◌<◌, ◌≤◌, Bool, true, false, not, cond, ◌&&◌, List, [], ◌∷◌, ◌++◌, All, Some, option_map, option_and_then, filter, refl, sym, ap, ◌∙◌, arith}
use Rattle.std.specs.Prelude.{codes}
use Rattle.std.specs.List.{list_all}
use Rattle.std.proofs.lemmas.Bool.Decides.{nat_tests}
use Rattle.std.proofs.lemmas.List.Elements.{All-nil, All-cons, All-append, All-weaker, All-head, All-tail}
use Rattle.std.proofs.lemmas.List.Splits.{slice_split_none}
use Rattle.std.proofs.lemmas.Option.{none-some}
use Rattle.rk_model.specs.Lists.{none_of}
use Rattle.rk_model.specs.Spans.{same_bytes}
use Rattle.rk_script.proofs.Escapes.{stands_for_itself}
use Rattle.rk_script.proofs.Texts.{same_bytes-Decides}
use Rattle.rk_script.specs.Words.{space, percent, words, is_printable, is_plain, hex_digit, hex_value, hex_byte, byte_before, escaped_byte, escaped_bytes, escaped, unescaped, unescaped_bytes}
use Rattle.rk_script.specs.Laws.{IsReadBack}

abbrev IsVisible : ℕ → Type 0
IsVisible b = (33 ≤ b) × (b ≤ 126)

plain_is_other : (b : ℕ) → is_plain b ≡ true → (b == percent) ≡ false
plain_is_other b plain = grind (arith, nat_tests)

plain_is_visible : (b : ℕ) → is_plain b ≡ true → (33 ≤ b) × (b ≤ 126)
plain_is_visible b plain = grind (arith, nat_tests)

printable_byte : (b : ℕ) → IsVisible b → is_printable b ≡ true
printable_byte b visible = grind (arith, nat_tests)

not_a_space : (b : ℕ) → IsVisible b → (b == space) ≡ false
not_a_space b visible = grind (arith, nat_tests)

both : (s t : Bool) → s ≡ true → t ≡ true → (s && t) ≡ true
both s t p q = grind arith

-- ---- digits

digit_is_read : (n : ℕ) → n < 16 → hex_value (hex_digit n) ≡ Some n
digit_is_read n small = grind (arith, nat_tests)

digit_is_visible : (n : ℕ) → n < 16 → (33 ≤ hex_digit n) × (hex_digit n ≤ 126)
digit_is_visible n small = grind (arith, nat_tests)

two_digits : (b high low : ℕ) → high < 16 → low < 16 → 16 * high + low ≡ b → hex_byte (hex_digit high) (hex_digit low) ≡ Some b
two_digits b high low h l same =
    ap (option_and_then (λ x. option_map (λ y. 16 * x + y) (hex_value (hex_digit low)))) (digit_is_read high h) ∙ ap (option_map (λ y. 16 * high + y)) (digit_is_read low l) ∙ ap Some same

-- ---- one byte

abbrev printed_byte : (t : Bool) → ℕ → List ℕ
printed_byte t b = cond t (b ∷ []) (percent ∷ hex_digit (b / 16) ∷ hex_digit (b % 16) ∷ [])

byte_is_read : (t : Bool) (b : ℕ) (rest : List ℕ) → is_plain b ≡ t → b < 256 → unescaped_bytes (printed_byte t b ++ rest) ≡ byte_before (Some b) (unescaped_bytes rest)
byte_is_read true b rest plain byte = stands_for_itself b rest (plain_is_other b plain)
byte_is_read false b rest plain byte =
    ap (λ o. byte_before o (unescaped_bytes rest)) (two_digits b (b / 16) (b % 16) (omega arith) (omega arith) (omega arith))

byte_is_visible : (t : Bool) (b : ℕ) → is_plain b ≡ t → b < 256 → All IsVisible (printed_byte t b)
byte_is_visible true b plain byte = All-cons IsVisible b [] (plain_is_visible b plain) (All-nil IsVisible)
byte_is_visible false b plain byte =
    All-cons IsVisible percent (hex_digit (b / 16) ∷ hex_digit (b % 16) ∷ []) (omega arith, omega arith)
    (All-cons IsVisible (hex_digit (b / 16)) (hex_digit (b % 16) ∷ []) (digit_is_visible (b / 16) (omega arith)) (All-cons IsVisible (hex_digit (b % 16)) [] (digit_is_visible (b % 16) (omega arith)) (All-nil IsVisible)))

byte_is_some : (t : Bool) (b : ℕ) (rest : List ℕ) → none_of (printed_byte t b ++ rest) ≡ false
byte_is_some true b rest = refl
byte_is_some false b rest = refl

-- ---- all bytes

bytes_are_read : (bytes : List ℕ) → All (λ b. b < 256) bytes → unescaped_bytes (escaped_bytes bytes) ≡ Some bytes
bytes_are_read [] all = refl
bytes_are_read (b ∷ bytes) all =
    byte_is_read (is_plain b) b (escaped_bytes bytes) refl (All-head (λ b. b < 256) b bytes all) ∙ ap (byte_before (Some b)) (bytes_are_read bytes (All-tail (λ b. b < 256) b bytes all))

bytes_are_visible : (bytes : List ℕ) → All (λ b. b < 256) bytes → All IsVisible (escaped_bytes bytes)
bytes_are_visible [] all = All-nil IsVisible
bytes_are_visible (b ∷ bytes) all =
    All-append IsVisible (escaped_byte b) (escaped_bytes bytes) (byte_is_visible (is_plain b) b refl (All-head (λ b. b < 256) b bytes all)) (bytes_are_visible bytes (All-tail (λ b. b < 256) b bytes all))

-- no bytes are printed as '%-', which is read as no bytes
not_the_mark : (t : Bool) (word bytes : List ℕ) → same_bytes word (codes "%-") ≡ t → unescaped_bytes word ≡ Some bytes → cond t (Some []) (unescaped_bytes word) ≡ Some bytes
not_the_mark true word bytes same read =
    absurd (none-some bytes (sym (ap unescaped_bytes ((same_bytes-Decides word (codes "%-")).0 same)) ∙ read))
not_the_mark false word bytes same read = read

suffix_is_read : (bytes : List ℕ) → All (λ b. b < 256) bytes → unescaped (escaped_bytes bytes) ≡ Some bytes
suffix_is_read bytes all = not_the_mark _ (escaped_bytes bytes) bytes refl (bytes_are_read bytes all)

word_is_read : (bytes : List ℕ) → All (λ b. b < 256) bytes → unescaped (escaped bytes) ≡ Some bytes
word_is_read [] all = refl
word_is_read (b ∷ bytes) all = suffix_is_read (b ∷ bytes) all

word_is_visible : (bytes : List ℕ) → All (λ b. b < 256) bytes → All IsVisible (escaped bytes)
word_is_visible [] all =
    All-cons IsVisible 37 (45 ∷ []) (omega arith, omega arith) (All-cons IsVisible 45 [] (omega arith, omega arith) (All-nil IsVisible))
word_is_visible (b ∷ bytes) all = bytes_are_visible (b ∷ bytes) all

word_is_some : (bytes : List ℕ) → none_of (escaped bytes) ≡ false
word_is_some [] = refl
word_is_some (b ∷ bytes) = byte_is_some (is_plain b) b (escaped_bytes bytes)

visible_is_printable : (word : List ℕ) → All IsVisible word → list_all is_printable word ≡ true
visible_is_printable [] all = refl
visible_is_printable (b ∷ word) all =
    both (is_printable b) (list_all is_printable word) (printable_byte b (All-head IsVisible b word all)) (visible_is_printable word (All-tail IsVisible b word all))

is_one_word : (word : List ℕ) → none_of word ≡ false → All IsVisible word → words word ≡ word ∷ []
is_one_word word some visible =
    ap (filter (λ w. not (none_of w))) (slice_split_none (λ b. b == space) word (All-weaker IsVisible (λ b. (b == space) ≡ false) not_a_space word visible)) ∙ ap (λ t. cond (not t) (word ∷ []) []) some

pub reads_back : (bytes : List ℕ) → All (λ b. b < 256) bytes → IsReadBack bytes
reads_back bytes all = record {
  printable = visible_is_printable (escaped bytes) (word_is_visible bytes all);
  one_word = is_one_word (escaped bytes) (word_is_some bytes) (word_is_visible bytes all);
  read = word_is_read bytes all;
  read_as_suffix = suffix_is_read bytes all;
}
