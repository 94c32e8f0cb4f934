-- What contracts see of the options that are read.
use Rattle.std.specs.Option.{option_copied}
use Rattle.rk_script.specs.Grammar.{OptionWords}
use Rattle.rk_script.specs.declared.iter.Options.{Options}

-- the words that the references point to
abbrev pub words_of : Options → OptionWords
words_of o = record { at = option_copied o.at; lower = option_copied o.lower; upper = option_copied o.upper; mask = option_copied o.mask }
