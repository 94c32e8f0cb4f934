-- Lines and words of a command file, names, and words for bytes.
use Rattle.std.specs.Prelude.{ℕ, ◌+◌, ◌-◌, ◌*◌, ◌/◌, ◌%◌, ◌==◌, nat_le, nat_lt, Bool, true, false, not, ◌&&◌, ◌||◌, List, [], ◌∷◌, length, filter, if◌then◌else◌, Option, Some, None, codes}
use Rattle.std.specs.List.{list_all, flat_map, slice_split}
use Rattle.std.specs.Option.{option_map, option_and_then}
use Rattle.rk_key.specs.KeyTests.{is_digit, is_suffix}
use Rattle.rk_model.specs.Lists.{none_of}
use Rattle.rk_model.specs.Spans.{same_bytes}
use Rattle.rk_script.specs.declared.limits.TheConstants.{MOST_NAME_BYTES}

abbrev pub line_end : ℕ
line_end = 10

abbrev pub space : ℕ
space = 32

-- '%', which begins an escape
abbrev pub percent : ℕ
percent = 37

-- what stands between the separators, one piece more than there are separators
abbrev pub pieces : ℕ → List ℕ → List (List ℕ)
pieces separator bs = slice_split (λ b. b == separator) bs

abbrev pub ends_line : ℕ → Bool
ends_line b = b == line_end

-- a piece behind the last line end is a line too, or an empty one that is skipped
abbrev pub lines : List ℕ → List (List ℕ)
lines file = pieces line_end file

abbrev pub words : List ℕ → List (List ℕ)
words line = filter (λ w. not (none_of w)) (pieces space line)

-- empty, a comment, or spaces alone
abbrev pub is_skipped : List ℕ → Bool
is_skipped [] = true
is_skipped (b ∷ bs) = (b == 35) || list_all (λ c. c == space) (b ∷ bs)

abbrev pub is_printable : ℕ → Bool
is_printable b = nat_le 32 b && nat_le b 126

abbrev pub is_letter : ℕ → Bool
is_letter b = nat_le 97 b && nat_le b 122

-- letters, digits and '_'
abbrev pub is_name_byte : ℕ → Bool
is_name_byte b = is_letter b || is_digit b || (b == 95)

-- one of these bytes at least, the first a letter, and no more than a name has
abbrev pub is_name : List ℕ → Bool
is_name [] = false
is_name (b ∷ bs) = is_letter b && list_all is_name_byte bs && nat_lt (length bs) MOST_NAME_BYTES

-- a hexadecimal digit in lower case
abbrev pub hex_digit : ℕ → ℕ
hex_digit n = if nat_lt n 10 then 48 + n else 87 + n

abbrev pub hex_value : ℕ → Option ℕ
hex_value b = if is_digit b then Some (b - 48) else (if nat_le 97 b && nat_le b 102 then Some (b - 87) else None)

-- a byte that stands for itself where bytes are printed
abbrev pub is_plain : ℕ → Bool
is_plain b = nat_le 33 b && nat_le b 126 && not (b == percent)

abbrev pub escaped_byte : ℕ → List ℕ
escaped_byte b = if is_plain b then b ∷ [] else percent ∷ hex_digit (b / 16) ∷ hex_digit (b % 16) ∷ []

-- bytes as they are printed, but for the empty list
abbrev pub escaped_bytes : List ℕ → List ℕ
escaped_bytes bs = flat_map escaped_byte bs

-- the word that is printed for bytes
abbrev pub escaped : List ℕ → List ℕ
escaped [] = codes "%-"
escaped (b ∷ bs) = escaped_bytes (b ∷ bs)

abbrev pub byte_before : Option ℕ → Option (List ℕ) → Option (List ℕ)
byte_before b bs = option_and_then (λ first. option_map (λ rest. first ∷ rest) bs) b

-- the byte that two hexadecimal digits stand for
abbrev pub hex_byte : ℕ → ℕ → Option ℕ
hex_byte high low = option_and_then (λ h. option_map (λ l. 16 * h + l) (hex_value low)) (hex_value high)

-- '%' and two digits are one byte; any other byte stands for itself
abbrev pub unescaped_bytes : List ℕ → Option (List ℕ)
unescaped_bytes [] = Some []
unescaped_bytes (b ∷ []) = if b == percent then None else Some (b ∷ [])
unescaped_bytes (b ∷ c ∷ []) = if b == percent then None else byte_before (Some b) (unescaped_bytes (c ∷ []))
unescaped_bytes (b ∷ c ∷ d ∷ bs) =
    if b == percent then byte_before (hex_byte c d) (unescaped_bytes bs) else byte_before (Some b) (unescaped_bytes (c ∷ d ∷ bs))

-- the bytes that a word stands for
abbrev pub unescaped : List ℕ → Option (List ℕ)
unescaped word = if same_bytes word (codes "%-") then Some [] else unescaped_bytes word

-- a suffix that may be a mask
abbrev pub is_mask : List ℕ → Bool
is_mask bytes = not (none_of bytes) && is_suffix bytes
