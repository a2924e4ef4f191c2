-- The strings that are words of C: identifiers, keywords, constants and punctuators (ISO C99 6.4.1 to 6.4.6, a profile: no floating constants, no string literals, no universal names, no multi-character constants). Sets of strings here; the code scans byte by byte.
use Rattle.std.specs.Prelude.{◌≡◌, ◌≢◌, ◌⊎◌, ℕ, ◌+◌, ◌-◌, ◌*◌, ◌≤◌, Bool, List, [], ◌∷◌, ◌++◌, length, codes, ◌&&◌, ◌||◌, nat_le, ◌==◌, if◌then◌else◌, IsTrue}
use Rattle.c_tokens.specs.declared.token.TokenKind.{TokenKind}
use Rattle.c_tokens.specs.declared.token.TokenKind.TheVariants.{Identifier, Keyword, Integer, Character, Punctuator}

-- a set of bytes
abbrev pub Bytes : Type 0
Bytes = ℕ → Bool

abbrev pub is_between : ℕ → ℕ → Bytes
is_between low high b = nat_le low b && nat_le b high

abbrev pub is_decimal : Bytes
is_decimal = is_between 48 57

abbrev pub is_octal : Bytes
is_octal = is_between 48 55

abbrev pub is_hexadecimal : Bytes
is_hexadecimal b = is_decimal b || is_between 65 70 b || is_between 97 102 b

-- a letter or '_'
abbrev pub is_letter : Bytes
is_letter b = is_between 65 90 b || is_between 97 122 b || b == 95

abbrev pub is_letter_or_digit : Bytes
is_letter_or_digit b = is_letter b || is_decimal b

-- every byte is of the set
abbrev pub AllOf : Bytes → List ℕ → Type 0
AllOf set [] = Unit {0}
AllOf set (b ∷ bs) = IsTrue (set b) × AllOf set bs

-- the list stands among the lists
abbrev pub IsAmong : List ℕ → List (List ℕ) → Type 0
IsAmong s [] = ⊥
IsAmong s (w ∷ ws) = (s ≡ w) ⊎ IsAmong s ws

-- the keywords
abbrev pub keywords : List (List ℕ)
keywords = codes "auto" ∷ codes "break" ∷ codes "case" ∷ codes "char" ∷ codes "const" ∷ codes "continue" ∷ codes "default" ∷ codes "do" ∷ codes "double" ∷ codes "else" ∷ codes "enum" ∷ codes "extern" ∷ codes "float" ∷ codes "for" ∷ codes "goto" ∷ codes "if" ∷ codes "inline" ∷ codes "int" ∷ codes "long" ∷ codes "register" ∷ codes "restrict" ∷ codes "return" ∷ codes "short" ∷ codes "signed" ∷ codes "sizeof" ∷ codes "static" ∷ codes "struct" ∷ codes "switch" ∷ codes "typedef" ∷ codes "union" ∷ codes "unsigned" ∷ codes "void" ∷ codes "volatile" ∷ codes "while" ∷ codes "_Bool" ∷ codes "_Complex" ∷ codes "_Imaginary" ∷ []

-- the punctuators
abbrev pub punctuators : List (List ℕ)
punctuators = codes "{" ∷ codes "}" ∷ codes "(" ∷ codes ")" ∷ codes "[" ∷ codes "]" ∷ codes ";" ∷ codes "," ∷ codes "." ∷ codes "->" ∷ codes "++" ∷ codes "--" ∷ codes "&" ∷ codes "*" ∷ codes "+" ∷ codes "-" ∷ codes "~" ∷ codes "!" ∷ codes "/" ∷ codes "%" ∷ codes "<<" ∷ codes ">>" ∷ codes "<" ∷ codes ">" ∷ codes "<=" ∷ codes ">=" ∷ codes "==" ∷ codes "!=" ∷ codes "^" ∷ codes "|" ∷ codes "&&" ∷ codes "||" ∷ codes "?" ∷ codes ":" ∷ codes "=" ∷ codes "*=" ∷ codes "/=" ∷ codes "%=" ∷ codes "+=" ∷ codes "-=" ∷ codes "<<=" ∷ codes ">>=" ∷ codes "&=" ∷ codes "^=" ∷ codes "|=" ∷ []

-- the number that digits write in a base, the first digit the highest
abbrev pub digit_value : ℕ → ℕ
digit_value b = if is_decimal b then b - 48 else if is_between 65 70 b then b - 55 else b - 87

abbrev pub digits_from : ℕ → ℕ → List ℕ → ℕ
digits_from base n [] = n
digits_from base n (b ∷ bs) = digits_from base (base * n + digit_value b) bs

-- the digits of an integer constant and its value: decimal, octal or hexadecimal
pub data IsNumeral : List ℕ → ℕ → Type 0 where
  Decimal : (first : ℕ) (rest : List ℕ) → IsTrue (is_between 49 57 first) → AllOf is_decimal rest → IsNumeral (first ∷ rest) (digits_from 10 0 (first ∷ rest))
  Octal : (rest : List ℕ) → AllOf is_octal rest → IsNumeral (48 ∷ rest) (digits_from 8 0 rest)
  Hexadecimal : (x first : ℕ) (rest : List ℕ) → (x ≡ 120) ⊎ (x ≡ 88) → AllOf is_hexadecimal (first ∷ rest) → IsNumeral (48 ∷ x ∷ first ∷ rest) (digits_from 16 0 (first ∷ rest))

-- at most one 'u' and at most one 'l', of either case, in either order
abbrev pub suffixes : List (List ℕ)
suffixes = [] ∷ codes "u" ∷ codes "U" ∷ codes "l" ∷ codes "L" ∷ codes "ul" ∷ codes "uL" ∷ codes "Ul" ∷ codes "UL" ∷ codes "lu" ∷ codes "lU" ∷ codes "Lu" ∷ codes "LU" ∷ []

-- a simple escape: the byte behind the backslash and the number that it stands for
pub data IsSimpleEscape : ℕ → ℕ → Type 0 where
  NewLine : IsSimpleEscape 110 10
  Tab : IsSimpleEscape 116 9
  Return : IsSimpleEscape 114 13
  Alert : IsSimpleEscape 97 7
  Backspace : IsSimpleEscape 98 8
  FormFeed : IsSimpleEscape 102 12
  VerticalTab : IsSimpleEscape 118 11
  Backslash : IsSimpleEscape 92 92
  Quote : IsSimpleEscape 39 39
  DoubleQuote : IsSimpleEscape 34 34
  Question : IsSimpleEscape 63 63

-- what stands between the quotes of a character constant, and its number
pub data IsCharacterOf : List ℕ → ℕ → Type 0 where
  Plain : (b : ℕ) → IsTrue (is_between 32 126 b) → b ≢ 39 → b ≢ 92 → IsCharacterOf (b ∷ []) b
  Simple : (b n : ℕ) → IsSimpleEscape b n → IsCharacterOf (92 ∷ b ∷ []) n
  OctalEscape : (first : ℕ) (rest : List ℕ) → AllOf is_octal (first ∷ rest) → length rest ≤ 2 → IsCharacterOf (92 ∷ first ∷ rest) (digits_from 8 0 (first ∷ rest))
  HexadecimalEscape : (first : ℕ) (rest : List ℕ) → AllOf is_hexadecimal (first ∷ rest) → IsCharacterOf (92 ∷ 120 ∷ first ∷ rest) (digits_from 16 0 (first ∷ rest))

-- the strings of each kind, whatever their length or value
pub data IsLexeme : TokenKind → List ℕ → Type 0 where
  IsIdentifier : (first : ℕ) (rest : List ℕ) → IsTrue (is_letter first) → AllOf is_letter_or_digit rest → ¬ IsAmong (first ∷ rest) keywords → IsLexeme Identifier (first ∷ rest)
  IsKeyword : (s : List ℕ) → IsAmong s keywords → IsLexeme Keyword s
  IsInteger : (digits suffix : List ℕ) (n : ℕ) → IsNumeral digits n → IsAmong suffix suffixes → IsLexeme Integer (digits ++ suffix)
  IsCharacter : (inside : List ℕ) (n : ℕ) → IsCharacterOf inside n → IsLexeme Character (39 ∷ inside ++ 39 ∷ [])
  IsPunctuator : (s : List ℕ) → IsAmong s punctuators → IsLexeme Punctuator s
