-- Why a line is refused, in one word.
use Rattle.std.specs.Prelude.{ℕ, List, codes}
use Rattle.rk_script.specs.declared.line.Why.{Why}
use Rattle.rk_script.specs.declared.line.Why.TheVariants.{Byte, Word, Count, Name, Escape, Key, Suffix, NoName, Taken, TooMany}

abbrev pub why_text : Why → List ℕ
why_text Byte = codes "Byte"
why_text Word = codes "Word"
why_text Count = codes "Count"
why_text Name = codes "Name"
why_text Escape = codes "Escape"
why_text Key = codes "Key"
why_text Suffix = codes "Suffix"
why_text NoName = codes "NoName"
why_text Taken = codes "Taken"
why_text TooMany = codes "TooMany"
