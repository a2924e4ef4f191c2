-- What the private functions of the scanner compute, as functions of lists of bytes: only their contracts cite this file. That it tells the lexemes, gaps and tokens of `Lexemes` and `Tokens` is proved in proofs/; no claim of the crate's public calls rests on it.
use Rattle.std.specs.Prelude.{◌≡◌, ℕ, ◌+◌, ◌-◌, ◌*◌, ◌<◌, Bool, true, false, not, List, [], ◌∷◌, length, take, drop, Option, Some, None, bytes_eq, if◌then◌else◌, ◌==◌, ◌||◌, ◌&&◌, nat_le}
use Rattle.c_tokens.specs.declared.token.TokenKind.{TokenKind}
use Rattle.c_tokens.specs.declared.token.TokenKind.TheVariants.{Identifier, Keyword, Integer, Character, Punctuator}
use Rattle.c_tokens.specs.declared.class.Class.{Class}
use Rattle.c_tokens.specs.declared.class.Class.TheVariants.{Space, Decimal, Octal, Hexadecimal, HexadecimalMark, Letter, LetterOrDigit, GoesOn, InLine, UnsignedMark, LongMark, Escape, Plain}
use Rattle.c_tokens.specs.Lexemes.{Bytes, is_between, is_decimal, is_octal, is_hexadecimal, is_letter, is_letter_or_digit, digit_value, keywords}
use Rattle.c_tokens.specs.declared.token.Token.{Token}
use Rattle.c_tokens.specs.Tokens.{is_space, goes_on, IsLongest, IsToken}

-- the letters behind a backslash that stand for one number
abbrev pub is_escape : Bytes
is_escape b = b == 110 || b == 116 || b == 114 || b == 97 || b == 98 || b == 102 || b == 118 || b == 92 || b == 39 || b == 34 || b == 63

-- the bytes that stand for themselves between quotes
abbrev pub is_plain : Bytes
is_plain b = is_between 32 126 b && not (b == 39) && not (b == 92)

-- the bytes of a class
abbrev pub members : Class → Bytes
members Space b = is_space b
members Decimal b = is_decimal b
members Octal b = is_octal b
members Hexadecimal b = is_hexadecimal b
members HexadecimalMark b = b == 120 || b == 88
members Letter b = is_letter b
members LetterOrDigit b = is_letter_or_digit b
members GoesOn b = goes_on b
members InLine b = not (b == 10)
members UnsignedMark b = b == 117 || b == 85
members LongMark b = b == 108 || b == 76
members Escape b = is_escape b
members Plain b = is_plain b

-- whether a byte of the set stands at the front
abbrev pub begins : Bytes → List ℕ → Bool
begins set [] = false
begins set (b ∷ bs) = set b

-- what is behind the longest run of bytes of the set
abbrev pub behind : Bytes → List ℕ → List ℕ
behind set [] = []
behind set (b ∷ bs) = if set b then behind set bs else b ∷ bs

-- what is behind at most one byte of the set
abbrev pub behind_one : Bytes → List ℕ → List ℕ
behind_one set [] = []
behind_one set (b ∷ bs) = if set b then bs else b ∷ bs

-- what is behind this byte
abbrev pub behind_byte : ℕ → List ℕ → Option (List ℕ)
behind_byte byte [] = None
behind_byte byte (b ∷ bs) = if b == byte then Some bs else None

abbrev pub chain : {A B : Type 0} → Option A → (A → Option B) → Option B
chain None f = None
chain (Some b) f = f b

-- what is behind the first '*/'
abbrev pub behind_comment : List ℕ → Option (List ℕ)
behind_comment [] = None
behind_comment (b ∷ bs) = if b == 42 && begins (λ c. c == 47) bs then Some (drop 1 bs) else behind_comment bs

-- what is behind a line marker, after its '#'
abbrev pub behind_marker : List ℕ → Option (List ℕ)
behind_marker bs = if begins is_decimal (behind is_space bs) then Some (behind (λ b. not (b == 10)) (behind is_space bs)) else None

-- what is behind a comment, after its first '/'
abbrev pub behind_slash : List ℕ → Option (List ℕ)
behind_slash [] = None
behind_slash (b ∷ bs) = if b == 47 then Some (behind (λ c. not (c == 10)) bs) else (if b == 42 then behind_comment bs else None)

-- what is behind one blank, comment or line marker
abbrev pub behind_piece : Bool → List ℕ → Option (List ℕ)
behind_piece fresh [] = None
behind_piece fresh (b ∷ bs) = if is_space b then Some bs else (if b == 10 then Some bs else (if b == 47 then behind_slash bs else (if b == 35 && fresh then behind_marker bs else None)))

-- whether only blanks stand on the line before what is behind the first piece
abbrev pub stays_fresh : Bool → List ℕ → Bool
stays_fresh fresh [] = fresh
stays_fresh fresh (b ∷ bs) = if is_space b then fresh else b == 10

-- whether the word is one of the list
abbrev pub among : List (List ℕ) → List ℕ → Bool
among [] word = false
among (w ∷ ws) word = if bytes_eq w word then true else among ws word

-- what is behind the word at the front
abbrev pub strip : List ℕ → List ℕ → Option (List ℕ)
strip word bytes = if bytes_eq (take (length word) bytes) word then Some (drop (length word) bytes) else None

abbrev pub first_some : {A : Type 0} → Option A → Option A → Option A
first_some None other = other
first_some (Some a) other = Some a

-- what is behind the first of the words that begins the bytes
abbrev pub behind_first : List (List ℕ) → List ℕ → Option (List ℕ)
behind_first [] bytes = None
behind_first (w ∷ ws) bytes = first_some (strip w bytes) (behind_first ws bytes)

-- the punctuators, the longest first
abbrev pub by_length : List (List ℕ)
by_length = (60 ∷ 60 ∷ 61 ∷ []) ∷ (62 ∷ 62 ∷ 61 ∷ []) ∷ (45 ∷ 62 ∷ []) ∷ (43 ∷ 43 ∷ []) ∷ (45 ∷ 45 ∷ []) ∷ (60 ∷ 60 ∷ []) ∷ (62 ∷ 62 ∷ []) ∷ (60 ∷ 61 ∷ []) ∷ (62 ∷ 61 ∷ []) ∷ (61 ∷ 61 ∷ []) ∷ (33 ∷ 61 ∷ []) ∷ (38 ∷ 38 ∷ []) ∷ (124 ∷ 124 ∷ []) ∷ (42 ∷ 61 ∷ []) ∷ (47 ∷ 61 ∷ []) ∷ (37 ∷ 61 ∷ []) ∷ (43 ∷ 61 ∷ []) ∷ (45 ∷ 61 ∷ []) ∷ (38 ∷ 61 ∷ []) ∷ (94 ∷ 61 ∷ []) ∷ (124 ∷ 61 ∷ []) ∷ (59 ∷ []) ∷ (40 ∷ []) ∷ (41 ∷ []) ∷ (44 ∷ []) ∷ (42 ∷ []) ∷ (61 ∷ []) ∷ (123 ∷ []) ∷ (125 ∷ []) ∷ (91 ∷ []) ∷ (93 ∷ []) ∷ (46 ∷ []) ∷ (38 ∷ []) ∷ (43 ∷ []) ∷ (45 ∷ []) ∷ (126 ∷ []) ∷ (33 ∷ []) ∷ (47 ∷ []) ∷ (37 ∷ []) ∷ (60 ∷ []) ∷ (62 ∷ []) ∷ (94 ∷ []) ∷ (124 ∷ []) ∷ (63 ∷ []) ∷ (58 ∷ []) ∷ []

-- what is behind the digits after a '0'
abbrev pub behind_zero : List ℕ → List ℕ
behind_zero [] = []
behind_zero (b ∷ bs) = if (b == 120 || b == 88) && begins is_hexadecimal bs then behind is_hexadecimal bs else behind is_octal (b ∷ bs)

-- what is behind the digits of an integer constant
abbrev pub behind_digits : List ℕ → List ℕ
behind_digits [] = []
behind_digits (b ∷ bs) = if b == 48 then behind_zero bs else behind is_decimal (b ∷ bs)

-- what is behind the suffix of an integer constant
abbrev pub behind_suffix : List ℕ → List ℕ
behind_suffix [] = []
behind_suffix (b ∷ bs) = if b == 117 || b == 85 then behind_one (λ c. c == 108 || c == 76) bs else (if b == 108 || b == 76 then behind_one (λ c. c == 117 || c == 85) bs else b ∷ bs)

-- what is behind an escape, after its backslash
abbrev pub behind_escape : List ℕ → Option (List ℕ)
behind_escape [] = None
behind_escape (b ∷ bs) = if is_escape b then Some bs else (if b == 120 then (if begins is_hexadecimal bs then Some (behind is_hexadecimal bs) else None) else (if is_octal b then Some (behind_one is_octal (behind_one is_octal bs)) else None))

-- what is behind what stands between the quotes
abbrev pub behind_inside : List ℕ → Option (List ℕ)
behind_inside [] = None
behind_inside (b ∷ bs) = if b == 92 then behind_escape bs else (if is_plain b then Some bs else None)

-- what is behind a character constant, after its first quote
abbrev pub behind_character : List ℕ → Option (List ℕ)
behind_character bs = chain (behind_inside bs) (behind_byte 39)

-- what is behind the longest lexeme
abbrev pub behind_lexeme : List ℕ → Option (List ℕ)
behind_lexeme [] = None
behind_lexeme (b ∷ bs) = if is_letter b then Some (behind is_letter_or_digit (b ∷ bs)) else (if is_decimal b then Some (behind_suffix (behind_digits (b ∷ bs))) else (if b == 39 then behind_character bs else behind_first by_length (b ∷ bs)))

-- the kind of a lexeme
abbrev pub kind_of : List ℕ → TokenKind
kind_of [] = Punctuator
kind_of (b ∷ bs) = if is_letter b then (if among keywords (b ∷ bs) then Keyword else Identifier) else (if is_decimal b then Integer else (if b == 39 then Character else Punctuator))

-- the number that the hexadecimal digits at the front write behind those of n
abbrev pub number_from : ℕ → ℕ → List ℕ → ℕ
number_from base n [] = n
number_from base n (b ∷ bs) = if is_hexadecimal b then number_from base (base * n + digit_value b) bs else n

abbrev pub number_behind_zero : List ℕ → ℕ
number_behind_zero [] = 0
number_behind_zero (b ∷ bs) = if b == 120 || b == 88 then number_from 16 0 bs else number_from 8 0 (b ∷ bs)

-- the value of an integer constant
abbrev pub integer_number : List ℕ → ℕ
integer_number [] = 0
integer_number (b ∷ bs) = if b == 48 then number_behind_zero bs else number_from 10 0 (b ∷ bs)

abbrev pub simple_number : ℕ → ℕ
simple_number b = if b == 110 then 10 else (if b == 116 then 9 else (if b == 114 then 13 else (if b == 97 then 7 else (if b == 98 then 8 else (if b == 102 then 12 else (if b == 118 then 11 else b))))))

abbrev pub escape_number : List ℕ → ℕ
escape_number [] = 0
escape_number (b ∷ bs) = if b == 120 then number_from 16 0 bs else (if is_octal b then number_from 8 0 (b ∷ bs) else simple_number b)

abbrev pub inside_number : List ℕ → ℕ
inside_number [] = 0
inside_number (b ∷ bs) = if b == 92 then escape_number bs else b

-- the number of a character constant
abbrev pub character_number : List ℕ → ℕ
character_number [] = 0
character_number (b ∷ bs) = inside_number bs

-- whether an integer constant is decimal: no 'x' and no octal digit stands behind a '0' in front
abbrev pub is_decimal_word : List ℕ → Bool
is_decimal_word [] = true
is_decimal_word (b ∷ bs) = if b == 48 then not (begins (λ c. c == 120 || c == 88) bs || begins is_octal bs) else true

-- whether the word is this one byte
abbrev pub is_only : ℕ → List ℕ → Bool
is_only byte [] = false
is_only byte (b ∷ []) = b == byte
is_only byte (b ∷ c ∷ cs) = false

-- whether a lexeme is a token where such bytes follow
abbrev pub is_token : TokenKind → List ℕ → List ℕ → Bool
is_token Identifier word after = nat_le (length word) 127
is_token Keyword word after = true
is_token Integer word after = not (begins goes_on after) && nat_le (integer_number word) 4294967295
is_token Character word after = nat_le (character_number word) 255
is_token Punctuator word after = if is_only 46 word then not (begins is_decimal after) else (if is_only 47 word then not (begins (λ b. b == 42) after) else true)

-- no token stands here
abbrev pub HasNoToken : List ℕ → Type 0
HasNoToken here = (kind : TokenKind) (word after : List ℕ) → IsLongest here kind word after → ¬ IsToken kind word after

-- this token of a file of so many bytes stands at the front, and this is behind it
pub record IsTokenAt (size : ℕ) (here : List ℕ) (token : Token) (after : List ℕ) : Type 0 where
  pub word : List ℕ
  pub longest : IsLongest here token.kind word after
  pub is_token : IsToken token.kind word after
  pub starts : token.from ≡ size - length here
  pub ends : token.to ≡ size - length after
  pub shorter : length after < length here
