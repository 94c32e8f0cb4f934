-- Worked examples of the grammar, computed.
use Rattle.std.proofs.Common.{◌≡◌, [], ◌∷◌, Some, None, refl}
use Rattle.std.specs.Prelude.{Ok, Err, codes}
use Rattle.rk_script.specs.Words.{escaped, unescaped}
use Rattle.rk_script.specs.Script.{script}
use Rattle.rk_script.specs.declared.line.Event.TheVariants.{Put, RangeSet, Commit, Snap, Shape, Iter, SeekLt}
use Rattle.rk_script.specs.declared.line.Why.TheVariants.{Word, Count, Name, NoName}

lines_are_read : script (codes "rset w a d %- foo\n\n# x\n  commit  w\nsnap s\niter i at s upper c@5 mask @9\nseeklt i b")
    ≡ Ok (record { number = 1; event = RangeSet (codes "w") (codes "a") (codes "d") [] (codes "foo") }
    ∷ record { number = 4; event = Commit (codes "w") }
    ∷ record { number = 5; event = Snap (codes "s") }
    ∷ record { number = 6; event = Iter (codes "i") (Some (codes "s")) None (Some (codes "c@5")) (Some (codes "@9")) }
    ∷ record { number = 7; event = SeekLt (codes "i") (codes "b") }
    ∷ [])
lines_are_read = refl

escapes_of_a_line_are_read : script (codes "put w a%20b x%00") ≡ Ok (record { number = 1; event = Put (codes "w") (97 ∷ 32 ∷ 98 ∷ []) (120 ∷ 0 ∷ []) } ∷ [])
escapes_of_a_line_are_read = refl

sizes_are_asked_for : script (codes " shape \nshape") ≡ Ok (record { number = 1; event = Shape } ∷ record { number = 2; event = Shape } ∷ [])
sizes_are_asked_for = refl

a_word_behind_shape_is_named : script (codes "shape w") ≡ Err (record { line = 1; why = Count })
a_word_behind_shape_is_named = refl

an_unknown_word_is_named : script (codes "rset w a d %- foo\nshapes") ≡ Err (record { line = 2; why = Word })
an_unknown_word_is_named = refl

a_third_word_of_a_commit_is_named : script (codes "commit w sync") ≡ Err (record { line = 1; why = Word })
a_third_word_of_a_commit_is_named = refl

a_repeated_option_is_named : script (codes "iter i lower a lower") ≡ Err (record { line = 1; why = Word })
a_repeated_option_is_named = refl

an_option_without_a_key_is_named : script (codes "iter i lower") ≡ Err (record { line = 1; why = Count })
an_option_without_a_key_is_named = refl

a_name_is_tested_before_an_escape : script (codes "put W% a %") ≡ Err (record { line = 1; why = Name })
a_name_is_tested_before_an_escape = refl

an_unknown_iterator_is_named : script (codes "# x\nnext i") ≡ Err (record { line = 2; why = NoName })
an_unknown_iterator_is_named = refl

a_closed_iterator_is_unknown : script (codes "iter i\nclose i\nclose i") ≡ Err (record { line = 3; why = NoName })
a_closed_iterator_is_unknown = refl

bytes_are_escaped : escaped (97 ∷ 32 ∷ 37 ∷ 0 ∷ 255 ∷ []) ≡ codes "a%20%25%00%ff"
bytes_are_escaped = refl

escapes_are_read : unescaped (codes "a%20%25%00%ff") ≡ Some (97 ∷ 32 ∷ 37 ∷ 0 ∷ 255 ∷ [])
escapes_are_read = refl

an_upper_case_escape_is_refused : unescaped (codes "%FF") ≡ None
an_upper_case_escape_is_refused = refl

no_bytes : escaped [] ≡ codes "%-"
no_bytes = refl
