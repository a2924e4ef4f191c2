-- The tokens of a file as the code lists them, and which tokens of the grammar they are.
use Rattle.std.specs.Prelude.{ℕ, ◌≤◌, Option, Some, None, List, [], ◌∷◌, slice_range}
use Rattle.c_tokens.specs.declared.token.Token as scanned
use Rattle.c_tokens.specs.Tokens.{Tokens}
use Rattle.c_grammar.specs.Tokens as k
use Rattle.c_reading.specs.Kinds.{kind_of}
use Rattle.c_reading.specs.Words.{AreTokensOf}
use Rattle.c_reading.specs.declared.listed.FileToken.{FileToken}
use Rattle.c_reading.specs.declared.token.Kind.TheVariants.{Refused}

-- the token of the grammar that a listed token of a file is
abbrev pub token_of : List ℕ → FileToken → k.Token
token_of bytes t = k.token (kind_of (slice_range bytes t.from t.to) t.kind) t.from

abbrev pub tokens_of : List ℕ → List FileToken → List k.Token
tokens_of bytes [] = []
tokens_of bytes (t ∷ ts) = token_of bytes t ∷ tokens_of bytes ts

-- the tokens of the grammar that a file's bytes are
pub record AreFileTokens (bytes : List ℕ) (ks : List k.Token) : Type 0 where
  pub scanned : List scanned.Token
  pub bad : Option ℕ
  pub exact : Tokens bytes scanned bad
  pub each : AreTokensOf bytes bad scanned ks

-- a token lies in a file of so many bytes
abbrev pub IsWithin : ℕ → FileToken → Type 0
IsWithin size t = (t.from ≤ t.to) × (t.to ≤ size)

-- behind the last token: the bad one, if there is one, as a token of no bytes
abbrev pub refused_at : Option ℕ → List FileToken
refused_at None = []
refused_at (Some place) = record { kind = Refused; from = place; to = place } ∷ []
