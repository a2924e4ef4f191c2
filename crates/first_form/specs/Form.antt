-- The first form of file that is compiled, `int main(void) { return N; }`: a relation between a file's bytes and its number. The code compares the words of the file's tokens.
use Rattle.std.specs.Prelude.{◌≡◌, ◌≢◌, ℕ, ◌≤◌, Bool, true, false, List, [], ◌∷◌, ◌++◌, map, codes, decimal, slice_range}
use Rattle.c_tokens.specs.declared.token.Token.{Token}
use Rattle.c_tokens.specs.Tokens.{Gap}

-- a word, and whether it may stand right behind the one before it
pub record Piece : Type 0 where
  pub joins : Bool
  pub word : List ℕ

abbrev pub joined : List ℕ → Piece
joined word = record { joins = true; word = word }

abbrev pub apart : List ℕ → Piece
apart word = record { joins = false; word = word }

-- the words of the form, with the number as its digits: no suffix, and no 0 in front
abbrev pub ten_words : ℕ → List Piece
ten_words n = joined (codes "int") ∷ apart (codes "main") ∷ joined (codes "(") ∷ joined (codes "void") ∷ joined (codes ")") ∷ joined (codes "{") ∷ joined (codes "return") ∷ apart (decimal n) ∷ joined (codes ";") ∷ joined (codes "}") ∷ []

-- these words in order in what is left of a file, with a gap of blanks, comments and line markers before each and behind the last. The flag says that on this line only blanks stand before
abbrev pub Spells : List Piece → Bool → List ℕ → Type 0
Spells [] fresh rest = (now : Bool) × Gap fresh rest now []
Spells (piece ∷ pieces) fresh rest = (now : Bool) × (after : List ℕ) × Gap fresh rest now (piece.word ++ after) × (piece.joins ≡ false → rest ≢ piece.word ++ after) × Spells pieces false after

-- the ten words 'int main ( void ) { return n ; }'
pub record TenTokens (bytes : List ℕ) (n : ℕ) : Type 0 where
  pub small : n ≤ 2147483647
  pub spelled : Spells (ten_words n) true bytes

-- the bytes of a token
abbrev pub word_in : List ℕ → Token → List ℕ
word_in bytes t = slice_range bytes t.from t.to

-- the tokens of a file are the ten words
pub record AreTen (bytes : List ℕ) (tokens : List Token) (n : ℕ) : Type 0 where
  pub small : n ≤ 2147483647
  pub words : map (word_in bytes) tokens ≡ map (λ piece. piece.word) (ten_words n)
