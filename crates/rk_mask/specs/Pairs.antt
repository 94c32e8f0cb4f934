-- A range key of a span, as a pair of a cover.
use Rattle.rk_model.specs.declared.span.RangeKey.{RangeKey}
use Rattle.rk_model.specs.declared.span.SuffixValue.{SuffixValue}

-- its suffix and value
abbrev pub pair_of : RangeKey → SuffixValue
pair_of k = record { suffix = k.suffix; value = k.value }
