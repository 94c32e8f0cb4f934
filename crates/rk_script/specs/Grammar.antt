-- What the words of a line ask for, whatever names are live.
use Rattle.std.specs.Prelude.{ℕ, List, [], ◌∷◌, if◌then◌else◌, Option, Some, None, Result, Ok, Err, codes}
use Rattle.std.specs.Option.{option_map_or, ok_or}
use Rattle.rk_model.specs.Named.{named}
use Rattle.rk_model.specs.Spans.{same_bytes}
use Rattle.rk_key.specs.KeyTests.{is_key}
use Rattle.rk_script.specs.Words.{is_mask, is_name, unescaped}
use Rattle.rk_script.specs.declared.line.Event.{Event}
use Rattle.rk_script.specs.declared.line.Event.TheVariants as event
use Rattle.rk_script.specs.declared.line.Why.{Why}
use Rattle.rk_script.specs.declared.line.Why.TheVariants.{Word, Count, Name, Escape, Key, Suffix}
use Rattle.rk_script.specs.declared.verb.Verb.{Verb}
use Rattle.rk_script.specs.declared.verb.Verb.TheVariants as verb

-- the first words of lines that have to do with iterators
abbrev pub iterator_verbs : List (List ℕ × Verb)
iterator_verbs =
    (codes "iter", verb.Iter) ∷ (codes "first", verb.First) ∷ (codes "last", verb.Last) ∷ (codes "next", verb.Next)
    ∷ (codes "prev", verb.Prev) ∷ (codes "seekge", verb.SeekGe) ∷ (codes "seeklt", verb.SeekLt) ∷ (codes "close", verb.Close) ∷ []

-- the first words of all lines
abbrev pub verbs : List (List ℕ × Verb)
verbs =
    (codes "put", verb.Put) ∷ (codes "del", verb.Del) ∷ (codes "rset", verb.RangeSet) ∷ (codes "runset", verb.RangeUnset)
    ∷ (codes "rdel", verb.RangeDel) ∷ (codes "commit", verb.Commit) ∷ (codes "snap", verb.Snap) ∷ (codes "release", verb.Release)
    ∷ (codes "shape", verb.Shape) ∷ iterator_verbs

abbrev pub and_then : {A B : Type 0} → (A → Result B Why) → Result A Why → Result B Why
and_then f (Ok a) = f a
and_then f (Err why) = Err why

-- one step of reading, and then the next: the first step that refuses says why
infixl 10 ◌>>=◌
abbrev pub ◌>>=◌ : {A B : Type 0} → Result A Why → (A → Result B Why) → Result B Why
read >>= f = and_then f read

-- ---- what a word stands for

abbrev pub name_of : List ℕ → Result (List ℕ) Why
name_of word = if is_name word then Ok word else Err Name

abbrev pub bytes_of : List ℕ → Result (List ℕ) Why
bytes_of word = ok_or (unescaped word) Escape

abbrev pub key_of : List ℕ → Result (List ℕ) Why
key_of bytes = if is_key bytes then Ok bytes else Err Key

abbrev pub mask_of : List ℕ → Result (List ℕ) Why
mask_of bytes = if is_mask bytes then Ok bytes else Err Suffix

-- what may be missing
abbrev pub if_there : (List ℕ → Result (List ℕ) Why) → Option (List ℕ) → Result (Option (List ℕ)) Why
if_there read None = Ok None
if_there read (Some word) = do
  value ← read word
  Ok (Some value)

-- ---- lines with a fixed number of words behind the first

abbrev pub none : {A : Type 0} → A → List (List ℕ) → Result A Why
none a [] = Ok a
none a _ = Err Count

abbrev pub one : {A : Type 0} → (List ℕ → Result A Why) → List (List ℕ) → Result A Why
one f (a ∷ []) = f a
one f _ = Err Count

abbrev pub two : {A : Type 0} → (List ℕ → List ℕ → Result A Why) → List (List ℕ) → Result A Why
two f (a ∷ b ∷ []) = f a b
two f _ = Err Count

abbrev pub three : {A : Type 0} → (List ℕ → List ℕ → List ℕ → Result A Why) → List (List ℕ) → Result A Why
three f (a ∷ b ∷ c ∷ []) = f a b c
three f _ = Err Count

abbrev pub four : {A : Type 0} → (List ℕ → List ℕ → List ℕ → List ℕ → Result A Why) → List (List ℕ) → Result A Why
four f (a ∷ b ∷ c ∷ d ∷ []) = f a b c d
four f _ = Err Count

abbrev pub five : {A : Type 0} → (List ℕ → List ℕ → List ℕ → List ℕ → List ℕ → Result A Why) → List (List ℕ) → Result A Why
five f (a ∷ b ∷ c ∷ d ∷ e ∷ []) = f a b c d e
five f _ = Err Count

abbrev pub one_name : List (List ℕ) → Result (List ℕ) Why
one_name = one name_of

abbrev pub put : List ℕ → List ℕ → List ℕ → Result Event Why
put w k v = do
  writer ← name_of w
  key ← bytes_of k
  value ← bytes_of v
  Ok (event.Put writer key value)

abbrev pub del : List ℕ → List ℕ → Result Event Why
del w k = do
  writer ← name_of w
  key ← bytes_of k
  Ok (event.Del writer key)

abbrev pub range_set : List ℕ → List ℕ → List ℕ → List ℕ → List ℕ → Result Event Why
range_set w s e x v = do
  writer ← name_of w
  start ← bytes_of s
  end ← bytes_of e
  suffix ← bytes_of x
  value ← bytes_of v
  Ok (event.RangeSet writer start end suffix value)

abbrev pub range_unset : List ℕ → List ℕ → List ℕ → List ℕ → Result Event Why
range_unset w s e x = do
  writer ← name_of w
  start ← bytes_of s
  end ← bytes_of e
  suffix ← bytes_of x
  Ok (event.RangeUnset writer start end suffix)

abbrev pub range_del : List ℕ → List ℕ → List ℕ → Result Event Why
range_del w s e = do
  writer ← name_of w
  start ← bytes_of s
  end ← bytes_of e
  Ok (event.RangeDel writer start end)

-- an iterator, and a key to seek
abbrev pub name_and_key : List ℕ → List ℕ → Result (List ℕ × List ℕ) Why
name_and_key i k = do
  iter ← name_of i
  bytes ← bytes_of k
  key ← key_of bytes
  Ok (iter, key)

-- a word behind the name would have to be a fixed one
abbrev pub commit : List (List ℕ) → Result Event Why
commit [] = Err Count
commit (w ∷ []) = do
  writer ← name_of w
  Ok (event.Commit writer)
commit (w ∷ word ∷ words) = Err Word

-- ---- the options of an iterator

-- The words behind the options
pub record OptionWords : Type 0 where
  pub at : Option (List ℕ)
  pub lower : Option (List ℕ)
  pub upper : Option (List ℕ)
  pub mask : Option (List ℕ)

-- the word behind this option, if the words begin with it, and the words that follow
abbrev pub option_of : List ℕ → List (List ℕ) → Result (Option (List ℕ) × List (List ℕ)) Why
option_of option [] = Ok (None, [])
option_of option (word ∷ []) = if same_bytes word option then Err Count else Ok (None, word ∷ [])
option_of option (word ∷ value ∷ words) = if same_bytes word option then Ok (Some value, words) else Ok (None, word ∷ value ∷ words)

-- the options, where no word is left over
abbrev pub all_read : OptionWords → List (List ℕ) → Result OptionWords Why
all_read options [] = Ok options
all_read options (word ∷ words) = Err Word

-- each option at most once, in this order, and no word left over
abbrev pub options_of : List (List ℕ) → Result OptionWords Why
options_of words = do
  at ← option_of (codes "at") words
  lower ← option_of (codes "lower") at.1
  upper ← option_of (codes "upper") lower.1
  mask ← option_of (codes "mask") upper.1
  all_read (record { at = at.0; lower = lower.0; upper = upper.0; mask = mask.0 }) mask.1

-- an iterator with these bounds and this mask
abbrev pub with_bounds : List ℕ → Option (List ℕ) → Option (List ℕ) → Option (List ℕ) → Option (List ℕ) → Result Event Why
with_bounds name at l u m = do
  lower ← if_there key_of l
  upper ← if_there key_of u
  mask ← if_there mask_of m
  Ok (event.Iter name at lower upper mask)

-- an iterator with these options
abbrev pub opened : List ℕ → OptionWords → Result Event Why
opened word options = do
  name ← name_of word
  at ← if_there name_of options.at
  lower ← if_there bytes_of options.lower
  upper ← if_there bytes_of options.upper
  mask ← if_there bytes_of options.mask
  with_bounds name at lower upper mask

abbrev pub iter : List (List ℕ) → Result Event Why
iter [] = Err Count
iter (name ∷ words) = do
  options ← options_of words
  opened name options

-- ---- all lines

-- a line that makes this of a name
abbrev pub of_name : (List ℕ → Event) → List (List ℕ) → Result Event Why
of_name make words = do
  name ← one_name words
  Ok (make name)

-- a line that makes this of an iterator and a key
abbrev pub of_seek : (List ℕ → List ℕ → Event) → List (List ℕ) → Result Event Why
of_seek make words = do
  sought ← two name_and_key words
  Ok (make sought.0 sought.1)

abbrev pub line_of : Verb → List (List ℕ) → Result Event Why
line_of verb.Put words = three put words
line_of verb.Del words = two del words
line_of verb.RangeSet words = five range_set words
line_of verb.RangeUnset words = four range_unset words
line_of verb.RangeDel words = three range_del words
line_of verb.Commit words = commit words
line_of verb.Snap words = of_name event.Snap words
line_of verb.Release words = of_name event.Release words
line_of verb.Shape words = none event.Shape words
line_of verb.Iter words = iter words
line_of verb.First words = of_name event.First words
line_of verb.Last words = of_name event.Last words
line_of verb.Next words = of_name event.Next words
line_of verb.Prev words = of_name event.Prev words
line_of verb.SeekGe words = of_seek event.SeekGe words
line_of verb.SeekLt words = of_seek event.SeekLt words
line_of verb.Close words = of_name event.Close words

-- what the words of a line ask for
abbrev pub event_of : List (List ℕ) → Result Event Why
event_of [] = Err Word
event_of (word ∷ words) = option_map_or (λ v. line_of v words) (named word verbs) (Err Word)
