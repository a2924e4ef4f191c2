-- What the bytes of a file are answered with: the answer for their tokens.
use Rattle.std.specs.Prelude.{ℕ, List, length}
use Rattle.c_grammar.specs.Tokens.{Token}
use Rattle.c_reading.specs.Answers.{Answer, IsAnswer}
use Rattle.c_reading.specs.FileTokens.{AreFileTokens}

-- the answer for the bytes of a file
pub record IsFileAnswer (bytes : List ℕ) (a : Answer) : Type 0 where
  pub tokens : List Token
  pub are : AreFileTokens bytes tokens
  pub answers : IsAnswer tokens (length bytes) a
