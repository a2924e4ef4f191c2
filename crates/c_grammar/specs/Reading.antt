-- The place of a syntax fault in a list of tokens.
use Rattle.std.specs.Prelude.{ℕ, ◌<◌, ◌≤◌, List, length, take, suc}
use Rattle.c_grammar.specs.Tokens.{Token}
use Rattle.c_grammar.specs.Derivations.{File}
use Rattle.c_grammar.specs.Spelling.{Spells, Begins}

-- The place of a syntax fault, as the number of tokens before it: those tokens begin a file, and with the next one they begin none; or they are all tokens, and no file.
pub record SyntaxAt (ts : List Token) (n : ℕ) : Type 0 where
  pub within : n ≤ length ts
  pub begins : Begins (take n ts)
  pub longest : n < length ts → Begins (take (suc n) ts) → ⊥
  pub no_file : (f : File) → Spells f ts → ⊥
