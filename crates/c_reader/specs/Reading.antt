-- What `read_file` promises of a file's bytes, and what one token more may answer.
use Rattle.std.specs.Prelude.{◌≡◌, ℕ, ◌<◌, ◌≤◌, true, false, List, Some, None, Result, Ok, Err}
use Rattle.c_grammar.specs.Nesting.{limit}
use Rattle.c_grammar.specs.Tokens.{Token}
use Rattle.c_reading.specs.Answers.{tree, syntax_fault, too_deep}
use Rattle.c_reading.specs.Code as code
use Rattle.c_reading.specs.FileAnswers.{IsFileAnswer}
use Rattle.c_tree.specs.FileShape.{file_of}
use Rattle.c_tree.specs.declared.file.File.{File}
use Rattle.c_frames.specs.Readers.{reader_of}
use Rattle.c_frames.specs.declared.mode.Context.{Context}
use Rattle.c_frames.specs.declared.mode.Mode.{Mode}
use Rattle.c_reader.specs.declared.file.ReadFileRefusal.{ReadFileRefusal}
use Rattle.c_reader.specs.declared.file.ReadFileRefusal.TheVariants.{Syntax, TooDeep, NoMemory}

-- the tree of the file, or the place of the fault that comes first, unless there was no memory
abbrev pub Reads : List ℕ → Result File ReadFileRefusal → Type 0
Reads bytes (Ok file) = IsFileAnswer bytes (tree (file_of file))
Reads bytes (Err (Syntax at)) = IsFileAnswer bytes (syntax_fault at)
Reads bytes (Err (TooDeep at)) = IsFileAnswer bytes (too_deep at)
Reads bytes (Err NoMemory) = Unit {0}

-- one token more: the reader goes on in the next mode over what was read then, or the token is the place of a fault
abbrev pub GoesOn : code.Reader → Token → Context → Result Mode ReadFileRefusal → Type 0
GoesOn r t context (Ok next) = (code.feed_code r t ≡ Some (reader_of next context)) × (code.deepest (reader_of next context) ≤ limit)
GoesOn r t context (Err (Syntax at)) = (code.feed_code r t ≡ None) × (at ≡ code.place_of t)
GoesOn r t context (Err (TooDeep at)) = (next : code.Reader) × (code.feed_code r t ≡ Some next) × (limit < code.deepest next) × (at ≡ code.place_of t)
GoesOn r t context (Err NoMemory) = Unit {0}

-- the end of the tokens: the file's trees, or a syntax fault
abbrev pub Ends : code.Reader → ℕ → Result File ReadFileRefusal → Type 0
Ends r size (Ok file) = (code.is_in_file r.mode ≡ true) × (file_of file ≡ code.file_trees r)
Ends r size (Err (Syntax at)) = (code.is_in_file r.mode ≡ false) × (at ≡ size)
Ends r size (Err (TooDeep at)) = ⊥
Ends r size (Err NoMemory) = ⊥
