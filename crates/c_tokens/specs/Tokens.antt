-- The tokens of a file (ISO C99 6.4, 6.4.9, a profile): the longest matches in order, with blanks, comments and line markers between them, up to the first place that begins no token. A relation between whole lists of bytes and tokens; the code goes from byte to byte.
use Rattle.std.specs.Prelude.{◌≡◌, ◌≢◌, ℕ, ◌-◌, ◌^◌, ◌<◌, ◌≤◌, Bool, true, false, List, [], ◌∷◌, ◌++◌, length, Option, Some, None, IsTrue, ◌||◌, ◌==◌}
use Rattle.c_tokens.specs.declared.token.TokenKind.{TokenKind}
use Rattle.c_tokens.specs.declared.token.TokenKind.TheVariants.{Identifier, Keyword, Integer, Character, Punctuator}
use Rattle.c_tokens.specs.declared.token.Token.{Token}
use Rattle.c_tokens.specs.Lexemes.{AllOf, Bytes, is_decimal, is_letter_or_digit, IsLexeme, IsNumeral, IsCharacterOf, IsAmong, suffixes}

-- a blank that ends no line: space, tab, carriage return, form feed or vertical tab
abbrev pub is_space : Bytes
is_space b = b == 32 || b == 9 || b == 13 || b == 12 || b == 11

-- no line feed
abbrev pub IsInLine : List ℕ → Type 0
IsInLine [] = Unit {0}
IsInLine (b ∷ bs) = (b ≢ 10) × IsInLine bs

-- the line, or the file, ends here
abbrev pub IsLineEnd : List ℕ → Type 0
IsLineEnd [] = Unit {0}
IsLineEnd (b ∷ bs) = b ≡ 10

-- no '*/' in the text of a comment
abbrev pub HasNoClose : List ℕ → Type 0
HasNoClose text = (before after : List ℕ) → text ≢ before ++ 42 ∷ 47 ∷ after

-- what may stand between tokens. The first flag says that on this line only blanks stand before: there a line marker may begin; the second is that flag behind the gap. The lists are what is left before and behind
pub data Gap : Bool → List ℕ → Bool → List ℕ → Type 0 where
  NoMore : (fresh : Bool) (rest : List ℕ) → Gap fresh rest fresh rest
  Space : (fresh now : Bool) (b : ℕ) (rest end : List ℕ) → IsTrue (is_space b) → Gap fresh rest now end → Gap fresh (b ∷ rest) now end
  LineFeed : (fresh now : Bool) (rest end : List ℕ) → Gap true rest now end → Gap fresh (10 ∷ rest) now end
  -- '//' up to the line's end
  LineComment : (fresh now : Bool) (text rest end : List ℕ) → IsInLine text → IsLineEnd rest → Gap false rest now end → Gap fresh (47 ∷ 47 ∷ text ++ rest) now end
  -- '/*' up to the next '*/'
  BlockComment : (fresh now : Bool) (text rest end : List ℕ) → HasNoClose text → Gap false rest now end → Gap fresh (47 ∷ 42 ∷ text ++ 42 ∷ 47 ∷ rest) now end
  -- '#', blanks and a digit, at the front of a line, up to the line's end
  LineMarker : (now : Bool) (spaces : List ℕ) (digit : ℕ) (text rest end : List ℕ) → AllOf is_space spaces → IsTrue (is_decimal digit) → IsInLine text → IsLineEnd rest → Gap false rest now end → Gap true (35 ∷ spaces ++ digit ∷ text ++ rest) now end

-- no gap goes on here
abbrev pub IsPast : Bool → List ℕ → Type 0
IsPast fresh here = (now : Bool) (end : List ℕ) → Gap fresh here now end → end ≡ here

-- the longest lexeme at the front of the bytes
pub record IsLongest (here : List ℕ) (kind : TokenKind) (word after : List ℕ) : Type 0 where
  pub parts : here ≡ word ++ after
  pub lexeme : IsLexeme kind word
  pub longest : (other : TokenKind) (longer end : List ℕ) → here ≡ longer ++ end → IsLexeme other longer → length longer ≤ length word

-- no such byte stands next
abbrev pub IsNotNext : Bytes → List ℕ → Type 0
IsNotNext set [] = Unit {0}
IsNotNext set (b ∷ bs) = set b ≡ false

-- a letter, digit, '_' or '.'
abbrev pub goes_on : Bytes
goes_on b = is_letter_or_digit b || b == 46

-- a lexeme that is a token where such bytes follow: identifiers of at most 127 bytes, integer constants below 2^32 with no letter, digit, '_' or '.' behind them, character constants up to 255, a '.' with no digit behind it, a '/' that opens no comment
abbrev pub IsToken : TokenKind → List ℕ → List ℕ → Type 0
IsToken Identifier word after = length word ≤ 127
IsToken Keyword word after = Unit {0}
IsToken Integer word after = IsNotNext goes_on after × ((digits suffix : List ℕ) (n : ℕ) → word ≡ digits ++ suffix → IsNumeral digits n → IsAmong suffix suffixes → n < 2 ^ 32)
IsToken Character word after = (inside : List ℕ) (n : ℕ) → word ≡ 39 ∷ inside ++ 39 ∷ [] → IsCharacterOf inside n → n ≤ 255
IsToken Punctuator word after = (word ≡ 46 ∷ [] → IsNotNext is_decimal after) × (word ≡ 47 ∷ [] → IsNotNext (λ b. b == 42) after)

-- the tokens of what is left of a file of so many bytes, and the place of the bad token that ends them
pub data TokensFrom (size : ℕ) : Bool → List ℕ → List Token → Option ℕ → Type 0 where
  AtEnd : (fresh now : Bool) (rest : List ℕ) → Gap fresh rest now [] → TokensFrom size fresh rest [] None
  AtToken : (fresh now : Bool) (rest here : List ℕ) (kind : TokenKind) (word after : List ℕ) (tokens : List Token) (bad : Option ℕ) → Gap fresh rest now here → IsPast now here → IsLongest here kind word after → IsToken kind word after → TokensFrom size false after tokens bad → TokensFrom size fresh rest (record { kind = kind; from = size - length here; to = size - length after } ∷ tokens) bad
  AtBad : (fresh now : Bool) (rest here : List ℕ) → Gap fresh rest now here → IsPast now here → here ≢ [] → ((kind : TokenKind) (word after : List ℕ) → IsLongest here kind word after → ¬ IsToken kind word after) → TokensFrom size fresh rest [] (Some (size - length here))

-- the tokens of a file
abbrev pub Tokens : List ℕ → List Token → Option ℕ → Type 0
Tokens bytes = TokensFrom (length bytes) true bytes

-- the tokens lie behind this place of a file of so many bytes, in order
abbrev pub AreInOrder : ℕ → ℕ → List Token → Type 0
AreInOrder size place [] = Unit {0}
AreInOrder size place (t ∷ ts) = (place ≤ t.from) × (t.from < t.to) × (t.to ≤ size) × AreInOrder size t.to ts
