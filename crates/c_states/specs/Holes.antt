-- Kinds of frames.
use Rattle.std.specs.Prelude.{Bool, true, false}
use Rattle.c_reading.specs.Frames.{Frame, parentheses_frame, index_frame, argument_frame, middle_frame, length_frame, enumerator_frame, case_frame, initializer_frame, list_frame, star_frame}

-- an expression is wanted that is no whole part of a statement
abbrev pub is_in_expression : Frame → Bool
is_in_expression (parentheses_frame p) = true
is_in_expression (index_frame e p) = true
is_in_expression (argument_frame e p xs) = true
is_in_expression (middle_frame e p) = true
is_in_expression (length_frame x) = true
is_in_expression (enumerator_frame es p x) = true
is_in_expression (case_frame p) = true
is_in_expression (initializer_frame s ds d) = true
is_in_expression (list_frame p xs) = true
is_in_expression _ = false

-- a `*` with its qualifiers
abbrev pub is_star : Frame → Bool
is_star (star_frame qs) = true
is_star _ = false
