-- What the words of a file stand for (ISO C99 6.4.4.1, 6.4.4.4, a profile): the constant that a word writes. Sets of words; the code reads a word once, from its front.
use Rattle.std.specs.Prelude.{◌≡◌, ℕ, Bool, true, false, not, List, [], ◌∷◌, ◌++◌, slice_range, ◌||◌, ◌==◌}
use Rattle.std.specs.List.{list_any}
use Rattle.c_tokens.specs.declared.token.TokenKind.{TokenKind}
use Rattle.c_tokens.specs.declared.token.Token.{Token}
use Rattle.c_tokens.specs.declared.constant.IntegerConstant.{IntegerConstant}
use Rattle.c_tokens.specs.Lexemes.{Bytes, IsLexeme, IsNumeral, IsCharacterOf, IsAmong, suffixes}
use Rattle.c_tokens.specs.Tokens.{IsToken}

-- a word that is a token of the kind, where some bytes follow it
abbrev pub IsWord : TokenKind → List ℕ → Type 0
IsWord kind word = IsLexeme kind word × ((after : List ℕ) × IsToken kind word after)

-- the bytes of a token are a word of its kind
abbrev pub IsWordOf : List ℕ → Token → Type 0
IsWordOf bytes t = IsWord t.kind (slice_range bytes t.from t.to)

-- 'u' or 'U'
abbrev pub is_unsigned_mark : Bytes
is_unsigned_mark b = b == 117 || b == 85

-- digits that are decimal: '0' alone, or none in front
abbrev pub are_decimal : List ℕ → Bool
are_decimal [] = false
are_decimal (b ∷ []) = true
are_decimal (b ∷ c ∷ cs) = not (b == 48)

-- the integer constant that a word writes: the value of its digits, whether they are decimal, and whether a 'u' stands in its suffix
pub record IsIntegerOf (word : List ℕ) (constant : IntegerConstant) : Type 0 where
  pub digits : List ℕ
  pub suffix : List ℕ
  pub parts : word ≡ digits ++ suffix
  pub numeral : IsNumeral digits constant.value
  pub ending : IsAmong suffix suffixes
  pub decimal : constant.is_decimal ≡ are_decimal digits
  pub unsigned : constant.is_unsigned ≡ list_any is_unsigned_mark suffix

-- the number that a character constant stands for
pub record IsCharacterIn (word : List ℕ) (number : ℕ) : Type 0 where
  pub inside : List ℕ
  pub parts : word ≡ 39 ∷ inside ++ 39 ∷ []
  pub character : IsCharacterOf inside number
