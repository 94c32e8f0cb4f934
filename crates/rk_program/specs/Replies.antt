-- The bytes of a reply, with its line end.
use Rattle.std.specs.Prelude.{◌≡◌, ℕ, List, [], ◌∷◌, ◌++◌, get_or, Option, Some, None, if◌then◌else◌, codes}
use Rattle.std.specs.Fmt.{decimal}
use Rattle.std.specs.List.{flat_map}
use Rattle.std.specs.Option.{option_map, option_map_or}
use Rattle.rk_model.specs.Moves.{View, reported, key_at}
use Rattle.rk_model.specs.Positions.{Report}
use Rattle.rk_model.specs.Spans.{WidestSpan}
use Rattle.rk_model.specs.declared.cursor.Cursor.{Cursor}
use Rattle.rk_model.specs.declared.cursor.Cursor.TheVariants.{Fresh, Start, At, End}
use Rattle.rk_model.specs.declared.span.SuffixValue.{SuffixValue}
use Rattle.rk_key.specs.declared.error.Which.{Which}
use Rattle.rk_key.specs.declared.error.Which.TheVariants as which
use Rattle.rk_outside.specs.declared.error.What.{What}
use Rattle.rk_outside.specs.declared.error.What.TheVariants as what
use Rattle.rk_batch.specs.declared.error.BatchError.{BatchError}
use Rattle.rk_batch.specs.declared.error.BatchError.TheVariants.{Memory, BadKey, EmptySpan, SuffixInBound, TooLong, BadBatch}
use Rattle.rk_outside.specs.declared.error.StoreError.{StoreError}
use Rattle.rk_outside.specs.declared.error.StoreError.TheVariants.{EmptyBatch, SequenceEnd, MemFull}
use Rattle.rk_machine.specs.Events.{Reply, Committed, Number, Released, Opened, Stands, Closed, Refused}
use Rattle.rk_machine.specs.declared.shape.Shape.{Shape}
use Rattle.rk_iter.specs.Iterating.{Iterating}
use Rattle.rk_script.specs.Words.{line_end, escaped, escaped_bytes}

-- the suffix, '=' and the value
abbrev pub pair_text : SuffixValue → List ℕ
pair_text p = codes " " ++ escaped_bytes p.suffix ++ codes "=" ++ escaped p.value

abbrev pub span_text : WidestSpan → List ℕ
span_text s = codes " range " ++ escaped s.start ++ codes " " ++ escaped s.end ++ flat_map pair_text s.cover

abbrev pub point_text : List ℕ → List ℕ
point_text value = codes " point " ++ escaped value

abbrev pub report_text : Report → List ℕ
report_text r = codes " at " ++ escaped r.key ++ option_map_or point_text r.value [] ++ option_map_or span_text r.span []

-- where an iterator stands that is at no key
abbrev pub off_text : Cursor → List ℕ
off_text Fresh = codes " fresh"
off_text Start = codes " start"
off_text (At x) = []
off_text End = codes " end"

abbrev pub changed_text : View → List ℕ
changed_text v = if v.changed then codes " changed" else []

-- where an iterator stands and what it reports there
abbrev pub place_text : View → List ℕ
place_text v = option_map_or report_text (reported v) (off_text v.cursor)

abbrev pub stands_text : List ℕ → View → List ℕ
stands_text name v = name ++ place_text v ++ changed_text v ++ line_end ∷ []

abbrev pub which_text : Which → List ℕ
which_text which.Key = codes "key"
which_text which.Start = codes "start"
which_text which.End = codes "end"
which_text which.Suffix = codes "suffix"

abbrev pub what_text : What → List ℕ
what_text what.Value = codes "value"
what_text what.Ops = codes "ops"
what_text what.Bytes = codes "bytes"

-- why a batch refuses an operation; want of memory ends a run, and bytes that are no batch are not read in one
abbrev pub refusal_text : BatchError → List ℕ
refusal_text Memory = []
refusal_text (BadKey which at) = codes "BadKey " ++ which_text which ++ codes " " ++ decimal at
refusal_text EmptySpan = codes "EmptySpan"
refusal_text (SuffixInBound which) = codes "SuffixInBound " ++ which_text which
refusal_text (TooLong what have limit) = codes "TooLong " ++ what_text what ++ codes " " ++ decimal have ++ codes " " ++ decimal limit
refusal_text (BadBatch at) = []

-- the reply to a writer whose batch refuses an operation
abbrev pub refused_text : List ℕ → BatchError → List ℕ
refused_text name error = name ++ codes " refused " ++ refusal_text error ++ line_end ∷ []

-- words and a number, and words and two numbers
abbrev pub number_text : List ℕ → ℕ → List ℕ
number_text words n = words ++ decimal n

abbrev pub two_text : List ℕ → ℕ → ℕ → List ℕ
two_text words m n = words ++ decimal m ++ codes " " ++ decimal n

-- why a commit is refused, where that is a reply
abbrev pub uncommitted_text : StoreError → Option (List ℕ)
uncommitted_text EmptyBatch = Some (codes "EmptyBatch")
uncommitted_text (SequenceEnd last ops) = Some (two_text (codes "SequenceEnd ") last ops)
uncommitted_text (MemFull active batch) = Some (two_text (codes "MemFull ") active batch)
uncommitted_text other = None

-- the reply that goes to a writer, a snapshot or an iterator of this name; none for what ends a run
abbrev pub reply_text : List ℕ → Reply → Option (List ℕ)
reply_text name (Committed first last) = Some (name ++ codes " committed " ++ decimal first ++ codes " to " ++ decimal last ++ line_end ∷ [])
reply_text name (Refused error) = option_map (λ why. name ++ codes " refused " ++ why ++ line_end ∷ []) (uncommitted_text error)
reply_text name (Number number) = Some (name ++ codes " at " ++ decimal number ++ line_end ∷ [])
reply_text name Released = Some (name ++ codes " released" ++ line_end ∷ [])
reply_text name (Opened number) = Some (name ++ codes " open at " ++ decimal number ++ line_end ∷ [])
reply_text name (Stands at) = Some (stands_text name at.view)
reply_text name Closed = Some (name ++ codes " closed" ++ line_end ∷ [])
reply_text name other = None

-- the number of the tables of a level
abbrev pub level_text : List ℕ → ℕ → List ℕ
level_text tables level = codes " l" ++ decimal level ++ codes " " ++ decimal (get_or tables level 0)

abbrev pub levels_text : Shape → List ℕ
levels_text s = flat_map (level_text s.tables) (0 ∷ 1 ∷ 2 ∷ 3 ∷ [])

abbrev pub memtables_text : Shape → List ℕ
memtables_text s = number_text (codes "shape active ") s.active ++ number_text (codes " frozen ") s.frozen

-- the sizes of the store
abbrev pub shape_text : Shape → List ℕ
shape_text s = memtables_text s ++ levels_text s ++ line_end ∷ []

-- what an iterator lends, as it is told: where it stands, and the point, the span and the change there
abbrev pub lent_place : Iterating → List ℕ
lent_place it = option_map_or (λ key. report_text (record { key = key; value = it.value; span = it.span })) (key_at it.cursor) (off_text it.cursor)

abbrev pub lent_text : List ℕ → Iterating → List ℕ
lent_text name it = name ++ lent_place it ++ (if it.changed then codes " changed" else []) ++ line_end ∷ []

-- the text of a reply was added, and there is one
abbrev pub Tells : List ℕ → List ℕ → List ℕ → Reply → Type 0
Tells before now name reply = (text : List ℕ) × (reply_text name reply ≡ Some text) × (now ≡ before ++ text)
