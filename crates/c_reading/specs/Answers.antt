-- What the reader answers for the tokens of a file: the tree, the byte of the syntax fault, or the byte of the token that nests too deep, whichever comes first.
use Rattle.std.specs.Prelude.{◌≡◌, ℕ, ◌≤◌, cond, nat_lt, List, [], ◌∷◌, Option, Some, None, length, take}
use Rattle.c_grammar.specs.Tokens.{Place, Token}
use Rattle.c_grammar.specs.Derivations.{File}
use Rattle.c_grammar.specs.Spelling.{Spells}
use Rattle.c_grammar.specs.Nesting.{limit, TooDeep, TooDeepAt}
use Rattle.c_grammar.specs.Reading.{SyntaxAt}
use Rattle.c_reading.specs.Code.{Reader, place_of, feed_code, start_code, is_in_file, file_trees, deepest}
use Rattle.c_reading.specs.Words.{place_at}
use Rattle.c_tree.specs.Reading.{file_tree}
use Rattle.c_tree.specs.Trees.{FileTree}

pub data Answer : Type 0 where
  tree : FileTree → Answer
  syntax_fault : Place → Answer
  too_deep : Place → Answer

-- no tokens of the first n are too deep
abbrev pub IsShallow : List Token → ℕ → Type 0
IsShallow ts n = (m : ℕ) → m ≤ n → ¬ TooDeep (take m ts)

-- the answer for the tokens of a file of so many bytes
abbrev pub IsAnswer : List Token → ℕ → Answer → Type 0
IsAnswer ts size (tree x) = (f : File) × Spells f ts × (x ≡ file_tree f) × IsShallow ts (length ts)
IsAnswer ts size (syntax_fault p) = (n : ℕ) × SyntaxAt ts n × (p ≡ place_at size ts n) × IsShallow ts n
IsAnswer ts size (too_deep p) = (n : ℕ) × TooDeepAt ts n × (p ≡ place_at size ts n)

-- at the end of the tokens
abbrev pub end_answer : Reader → ℕ → Answer
end_answer r size = cond (is_in_file r.mode) (tree (file_trees r)) (syntax_fault size)

-- behind one more token, a reader goes on unless it is too deep
abbrev pub next_answer : Option Reader → Place → (Reader → Answer) → Answer
next_answer None p on = syntax_fault p
next_answer (Some r) p on = cond (nat_lt limit (deepest r)) (too_deep p) (on r)

abbrev pub read_from : List Token → Reader → ℕ → Answer
read_from [] r size = end_answer r size
read_from (t ∷ ts) r size = next_answer (feed_code r t) (place_of t) (λ x. read_from ts x size)

-- what the reader answers
abbrev pub answer : List Token → ℕ → Answer
answer ts size = read_from ts start_code size
