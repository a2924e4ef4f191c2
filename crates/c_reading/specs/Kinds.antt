-- The tokens of the grammar by the names of the code.
use Rattle.std.specs.Prelude.{ℕ, List, [], ◌∷◌, Option, Some, None, cond, bytes_eq, codes}
use Rattle.c_grammar.specs.Tokens as k
use Rattle.c_tree.specs.Shape.{number_of, assignment_of, step_of, access_of, word_of, qualifier_of, storage_of, composite_of}
use Rattle.c_tree.specs.declared.word.AssignmentOperator.TheVariants as assign
use Rattle.c_tree.specs.declared.word.Increment.TheVariants as step
use Rattle.c_tree.specs.declared.word.Access.TheVariants as access
use Rattle.c_tree.specs.declared.word.TypeWord.TheVariants as type
use Rattle.c_tree.specs.declared.word.Qualifier.TheVariants as qualifier
use Rattle.c_tree.specs.declared.word.StorageClass.TheVariants as storage
use Rattle.c_tree.specs.declared.word.CompositeWord.TheVariants as composite
use Rattle.c_reading.specs.declared.token.Operator.{Operator}
use Rattle.c_reading.specs.declared.token.Operator.TheVariants as operator
use Rattle.c_reading.specs.declared.token.JumpWord.{JumpWord}
use Rattle.c_reading.specs.declared.token.JumpWord.TheVariants as jump
use Rattle.c_reading.specs.declared.token.Kind.{Kind}
use Rattle.c_reading.specs.declared.token.Kind.TheVariants as kind

abbrev pub operator_of : Operator → k.Operator
operator_of operator.LogicalOr = k.LogicalOr
operator_of operator.LogicalAnd = k.LogicalAnd
operator_of operator.BitOr = k.BitOr
operator_of operator.BitXor = k.BitXor
operator_of operator.Ampersand = k.Ampersand
operator_of operator.Equal = k.Equal
operator_of operator.NotEqual = k.NotEqual
operator_of operator.Less = k.Less
operator_of operator.Greater = k.Greater
operator_of operator.LessEqual = k.LessEqual
operator_of operator.GreaterEqual = k.GreaterEqual
operator_of operator.ShiftLeft = k.ShiftLeft
operator_of operator.ShiftRight = k.ShiftRight
operator_of operator.Plus = k.Plus
operator_of operator.Minus = k.Minus
operator_of operator.Star = k.Star
operator_of operator.Slash = k.Slash
operator_of operator.Percent = k.Percent
operator_of operator.Complement = k.Complement
operator_of operator.Not = k.Not

abbrev pub jump_of : JumpWord → k.Jump
jump_of jump.Break = k.Break
jump_of jump.Continue = k.Continue

-- the token of a kind whose bytes are these
abbrev pub kind_of : List ℕ → Kind → k.Kind
kind_of word kind.Name = k.Name word
kind_of word (kind.Constant n) = k.Constant (number_of n)
kind_of word (kind.Operator o) = k.Op (operator_of o)
kind_of word (kind.Assignment o) = k.Assignment (assignment_of o)
kind_of word (kind.Step o) = k.Step (step_of o)
kind_of word (kind.Member o) = k.Member (access_of o)
kind_of word (kind.TypeWord w) = k.TypeKeyword (word_of w)
kind_of word (kind.Qualifier q) = k.Qualify (qualifier_of q)
kind_of word (kind.Storage w) = k.Storage (storage_of w)
kind_of word (kind.Composite w) = k.Composite (composite_of w)
kind_of word (kind.Jump j) = k.JumpWord (jump_of j)
kind_of word kind.Inline = k.Inline
kind_of word kind.Enum = k.Enum
kind_of word kind.Sizeof = k.Sizeof
kind_of word kind.If = k.If
kind_of word kind.Else = k.Else
kind_of word kind.While = k.While
kind_of word kind.Do = k.Do
kind_of word kind.For = k.For
kind_of word kind.Switch = k.Switch
kind_of word kind.Case = k.Case
kind_of word kind.Default = k.Default
kind_of word kind.Return = k.Return
kind_of word kind.LeftBrace = k.LeftBrace
kind_of word kind.RightBrace = k.RightBrace
kind_of word kind.LeftParen = k.LeftParen
kind_of word kind.RightParen = k.RightParen
kind_of word kind.LeftBracket = k.LeftBracket
kind_of word kind.RightBracket = k.RightBracket
kind_of word kind.Semicolon = k.Semicolon
kind_of word kind.Comma = k.Comma
kind_of word kind.Question = k.Question
kind_of word kind.Colon = k.Colon
kind_of word kind.Refused = k.Refused

-- a word and its kind
pub record Entry : Type 0 where
  pub text : List ℕ
  pub kind : Kind

abbrev pub look_up : List Entry → List ℕ → Option Kind
look_up [] word = None
look_up (e ∷ es) word = cond (bytes_eq e.text word) (Some e.kind) (look_up es word)

abbrev pub entry : List ℕ → Kind → Entry
entry text kind = record { text = text; kind = kind }

-- the words that stand for one token each
abbrev pub fixed_words : List Entry
fixed_words = entry (codes "void") (kind.TypeWord type.Void) ∷ entry (codes "char") (kind.TypeWord type.Char) ∷ entry (codes "short") (kind.TypeWord type.Short) ∷ entry (codes "int") (kind.TypeWord type.Int) ∷ entry (codes "long") (kind.TypeWord type.Long) ∷ entry (codes "float") (kind.TypeWord type.Float) ∷ entry (codes "double") (kind.TypeWord type.Double) ∷ entry (codes "signed") (kind.TypeWord type.Signed) ∷ entry (codes "unsigned") (kind.TypeWord type.Unsigned) ∷ entry (codes "const") (kind.Qualifier qualifier.Const) ∷ entry (codes "volatile") (kind.Qualifier qualifier.Volatile) ∷ entry (codes "restrict") (kind.Qualifier qualifier.Restrict) ∷ entry (codes "extern") (kind.Storage storage.Extern) ∷ entry (codes "static") (kind.Storage storage.Static) ∷ entry (codes "typedef") (kind.Storage storage.Typedef) ∷ entry (codes "struct") (kind.Composite composite.Struct) ∷ entry (codes "union") (kind.Composite composite.Union) ∷ entry (codes "break") (kind.Jump jump.Break) ∷ entry (codes "continue") (kind.Jump jump.Continue) ∷ entry (codes "inline") kind.Inline ∷ entry (codes "enum") kind.Enum ∷ entry (codes "sizeof") kind.Sizeof ∷ entry (codes "if") kind.If ∷ entry (codes "else") kind.Else ∷ entry (codes "while") kind.While ∷ entry (codes "do") kind.Do ∷ entry (codes "for") kind.For ∷ entry (codes "switch") kind.Switch ∷ entry (codes "case") kind.Case ∷ entry (codes "default") kind.Default ∷ entry (codes "return") kind.Return ∷ entry (codes "auto") kind.Refused ∷ entry (codes "goto") kind.Refused ∷ entry (codes "register") kind.Refused ∷ entry (codes "_Bool") kind.Refused ∷ entry (codes "_Complex") kind.Refused ∷ entry (codes "_Imaginary") kind.Refused ∷ entry (codes "{") kind.LeftBrace ∷ entry (codes "}") kind.RightBrace ∷ entry (codes "(") kind.LeftParen ∷ entry (codes ")") kind.RightParen ∷ entry (codes "[") kind.LeftBracket ∷ entry (codes "]") kind.RightBracket ∷ entry (codes ";") kind.Semicolon ∷ entry (codes ",") kind.Comma ∷ entry (codes "?") kind.Question ∷ entry (codes ":") kind.Colon ∷ entry (codes ".") (kind.Member access.Dot) ∷ entry (codes "->") (kind.Member access.Arrow) ∷ entry (codes "++") (kind.Step step.Increase) ∷ entry (codes "--") (kind.Step step.Decrease) ∷ entry (codes "||") (kind.Operator operator.LogicalOr) ∷ entry (codes "&&") (kind.Operator operator.LogicalAnd) ∷ entry (codes "|") (kind.Operator operator.BitOr) ∷ entry (codes "^") (kind.Operator operator.BitXor) ∷ entry (codes "&") (kind.Operator operator.Ampersand) ∷ entry (codes "==") (kind.Operator operator.Equal) ∷ entry (codes "!=") (kind.Operator operator.NotEqual) ∷ entry (codes "<") (kind.Operator operator.Less) ∷ entry (codes ">") (kind.Operator operator.Greater) ∷ entry (codes "<=") (kind.Operator operator.LessEqual) ∷ entry (codes ">=") (kind.Operator operator.GreaterEqual) ∷ entry (codes "<<") (kind.Operator operator.ShiftLeft) ∷ entry (codes ">>") (kind.Operator operator.ShiftRight) ∷ entry (codes "+") (kind.Operator operator.Plus) ∷ entry (codes "-") (kind.Operator operator.Minus) ∷ entry (codes "*") (kind.Operator operator.Star) ∷ entry (codes "/") (kind.Operator operator.Slash) ∷ entry (codes "%") (kind.Operator operator.Percent) ∷ entry (codes "~") (kind.Operator operator.Complement) ∷ entry (codes "!") (kind.Operator operator.Not) ∷ entry (codes "=") (kind.Assignment assign.Assign) ∷ entry (codes "*=") (kind.Assignment assign.Times) ∷ entry (codes "/=") (kind.Assignment assign.Divide) ∷ entry (codes "%=") (kind.Assignment assign.Remainder) ∷ entry (codes "+=") (kind.Assignment assign.Plus) ∷ entry (codes "-=") (kind.Assignment assign.Minus) ∷ entry (codes "<<=") (kind.Assignment assign.ShiftLeft) ∷ entry (codes ">>=") (kind.Assignment assign.ShiftRight) ∷ entry (codes "&=") (kind.Assignment assign.BitAnd) ∷ entry (codes "^=") (kind.Assignment assign.BitXor) ∷ entry (codes "|=") (kind.Assignment assign.BitOr) ∷ []
