-- The tokens of the grammar that a file's tokens are (ISO C99 6.4): each with the byte at which it begins; the bad token, and a keyword that no rule of the grammar has, as `Refused`.
use Rattle.std.specs.Prelude.{ℕ, zero, suc, Bool, true, false, List, [], ◌∷◌, Option, Some, None, codes, slice_range}
use Rattle.c_tokens.specs.declared.token.TokenKind.{TokenKind}
use Rattle.c_tokens.specs.declared.token.TokenKind.TheVariants as lexeme
use Rattle.c_tokens.specs.declared.token.Token as scanned
use Rattle.c_tokens.specs.declared.constant.IntegerConstant.{IntegerConstant}
use Rattle.c_tokens.specs.Constants.{IsIntegerOf, IsCharacterIn}
use Rattle.c_grammar.specs.Tokens as k

-- the words that stand for one token each, with that token
pub data IsFixed : List ℕ → k.Kind → Type 0 where
  Void : IsFixed (codes "void") (k.TypeKeyword k.Void)
  Char : IsFixed (codes "char") (k.TypeKeyword k.Char)
  Short : IsFixed (codes "short") (k.TypeKeyword k.Short)
  Int : IsFixed (codes "int") (k.TypeKeyword k.Int)
  Long : IsFixed (codes "long") (k.TypeKeyword k.Long)
  Float : IsFixed (codes "float") (k.TypeKeyword k.Float)
  Double : IsFixed (codes "double") (k.TypeKeyword k.Double)
  Signed : IsFixed (codes "signed") (k.TypeKeyword k.Signed)
  Unsigned : IsFixed (codes "unsigned") (k.TypeKeyword k.Unsigned)
  Const : IsFixed (codes "const") (k.Qualify k.Const)
  Volatile : IsFixed (codes "volatile") (k.Qualify k.Volatile)
  Restrict : IsFixed (codes "restrict") (k.Qualify k.Restrict)
  Extern : IsFixed (codes "extern") (k.Storage k.Extern)
  Static : IsFixed (codes "static") (k.Storage k.Static)
  Typedef : IsFixed (codes "typedef") (k.Storage k.Typedef)
  Struct : IsFixed (codes "struct") (k.Composite k.Struct)
  Union : IsFixed (codes "union") (k.Composite k.Union)
  Break : IsFixed (codes "break") (k.JumpWord k.Break)
  Continue : IsFixed (codes "continue") (k.JumpWord k.Continue)
  Inline : IsFixed (codes "inline") k.Inline
  Enum : IsFixed (codes "enum") k.Enum
  Sizeof : IsFixed (codes "sizeof") k.Sizeof
  If : IsFixed (codes "if") k.If
  Else : IsFixed (codes "else") k.Else
  While : IsFixed (codes "while") k.While
  Do : IsFixed (codes "do") k.Do
  For : IsFixed (codes "for") k.For
  Switch : IsFixed (codes "switch") k.Switch
  Case : IsFixed (codes "case") k.Case
  Default : IsFixed (codes "default") k.Default
  Return : IsFixed (codes "return") k.Return
  -- the keywords that no rule has
  Auto : IsFixed (codes "auto") k.Refused
  Goto : IsFixed (codes "goto") k.Refused
  Register : IsFixed (codes "register") k.Refused
  Bool' : IsFixed (codes "_Bool") k.Refused
  Complex : IsFixed (codes "_Complex") k.Refused
  Imaginary : IsFixed (codes "_Imaginary") k.Refused
  LeftBrace : IsFixed (codes "{") k.LeftBrace
  RightBrace : IsFixed (codes "}") k.RightBrace
  LeftParen : IsFixed (codes "(") k.LeftParen
  RightParen : IsFixed (codes ")") k.RightParen
  LeftBracket : IsFixed (codes "[") k.LeftBracket
  RightBracket : IsFixed (codes "]") k.RightBracket
  Semicolon : IsFixed (codes ";") k.Semicolon
  Comma : IsFixed (codes ",") k.Comma
  Question : IsFixed (codes "?") k.Question
  Colon : IsFixed (codes ":") k.Colon
  Dot : IsFixed (codes ".") (k.Member k.Dot)
  Arrow : IsFixed (codes "->") (k.Member k.Arrow)
  Increase : IsFixed (codes "++") (k.Step k.Increase)
  Decrease : IsFixed (codes "--") (k.Step k.Decrease)
  LogicalOr : IsFixed (codes "||") (k.Op k.LogicalOr)
  LogicalAnd : IsFixed (codes "&&") (k.Op k.LogicalAnd)
  BitOr : IsFixed (codes "|") (k.Op k.BitOr)
  BitXor : IsFixed (codes "^") (k.Op k.BitXor)
  Ampersand : IsFixed (codes "&") (k.Op k.Ampersand)
  Equal : IsFixed (codes "==") (k.Op k.Equal)
  NotEqual : IsFixed (codes "!=") (k.Op k.NotEqual)
  Less : IsFixed (codes "<") (k.Op k.Less)
  Greater : IsFixed (codes ">") (k.Op k.Greater)
  LessEqual : IsFixed (codes "<=") (k.Op k.LessEqual)
  GreaterEqual : IsFixed (codes ">=") (k.Op k.GreaterEqual)
  ShiftLeft : IsFixed (codes "<<") (k.Op k.ShiftLeft)
  ShiftRight : IsFixed (codes ">>") (k.Op k.ShiftRight)
  Plus : IsFixed (codes "+") (k.Op k.Plus)
  Minus : IsFixed (codes "-") (k.Op k.Minus)
  Star : IsFixed (codes "*") (k.Op k.Star)
  Slash : IsFixed (codes "/") (k.Op k.Slash)
  Percent : IsFixed (codes "%") (k.Op k.Percent)
  Complement : IsFixed (codes "~") (k.Op k.Complement)
  Not : IsFixed (codes "!") (k.Op k.Not)
  Equals : IsFixed (codes "=") (k.Assignment k.Equals)
  StarEquals : IsFixed (codes "*=") (k.Assignment k.StarEquals)
  SlashEquals : IsFixed (codes "/=") (k.Assignment k.SlashEquals)
  PercentEquals : IsFixed (codes "%=") (k.Assignment k.PercentEquals)
  PlusEquals : IsFixed (codes "+=") (k.Assignment k.PlusEquals)
  MinusEquals : IsFixed (codes "-=") (k.Assignment k.MinusEquals)
  ShiftLeftEquals : IsFixed (codes "<<=") (k.Assignment k.ShiftLeftEquals)
  ShiftRightEquals : IsFixed (codes ">>=") (k.Assignment k.ShiftRightEquals)
  AndEquals : IsFixed (codes "&=") (k.Assignment k.AndEquals)
  XorEquals : IsFixed (codes "^=") (k.Assignment k.XorEquals)
  OrEquals : IsFixed (codes "|=") (k.Assignment k.OrEquals)

-- how an integer constant is written, as far as its type hangs on it (6.4.4.1)
abbrev pub number_by : Bool → Bool → ℕ → k.Number
number_by true true n = k.Decimal_unsigned n
number_by true false n = k.Decimal n
number_by false true n = k.Other_unsigned n
number_by false false n = k.Octal_or_hexadecimal n

abbrev pub number_of : IntegerConstant → k.Number
number_of c = number_by c.is_decimal c.is_unsigned c.value

-- the token of the grammar that a word of a kind is
pub data IsKindOf : TokenKind → List ℕ → k.Kind → Type 0 where
  IsName : (word : List ℕ) → IsKindOf lexeme.Identifier word (k.Name word)
  IsKeyword : (word : List ℕ) (kind : k.Kind) → IsFixed word kind → IsKindOf lexeme.Keyword word kind
  IsPunctuator : (word : List ℕ) (kind : k.Kind) → IsFixed word kind → IsKindOf lexeme.Punctuator word kind
  IsInteger : (word : List ℕ) (constant : IntegerConstant) → IsIntegerOf word constant → IsKindOf lexeme.Integer word (k.Constant (number_of constant))
  IsCharacter : (word : List ℕ) (n : ℕ) → IsCharacterIn word n → IsKindOf lexeme.Character word (k.Constant (k.Character n))

-- behind the last token: the bad one, if there is one
abbrev pub bad_token : Option ℕ → List k.Token
bad_token None = []
bad_token (Some place) = k.token k.Refused place ∷ []

-- the tokens of the grammar of a file's bytes, its tokens and the place of its bad token
pub data AreTokensOf (bytes : List ℕ) (bad : Option ℕ) : List scanned.Token → List k.Token → Type 0 where
  NoMore : AreTokensOf bytes bad [] (bad_token bad)
  OneMore : (t : scanned.Token) (ts : List scanned.Token) (kind : k.Kind) (ks : List k.Token) → IsKindOf t.kind (slice_range bytes t.from t.to) kind → AreTokensOf bytes bad ts ks
      → AreTokensOf bytes bad (t ∷ ts) (k.token kind t.from ∷ ks)

-- the byte of the file at which so many tokens end: that of the next token, or the file's length
abbrev pub place_at : ℕ → List k.Token → ℕ → ℕ
place_at size [] n = size
place_at size (k.token kind place ∷ ts) zero = place
place_at size (k.token kind place ∷ ts) (suc n) = place_at size ts n
