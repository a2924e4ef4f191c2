-- Which trees files have, and what it is to read as a tree, places aside.
use Rattle.std.specs.Prelude.{◌≡◌, ℕ, suc, List, [], ◌∷◌, None}
use Rattle.c_tokens.specs.declared.token.TokenKind.{TokenKind}
use Rattle.c_tokens.specs.declared.token.Token as scanned
use Rattle.c_tokens.specs.Tokens.{Tokens}
use Rattle.c_tokens.specs.Constants.{IsWord}
use Rattle.c_grammar.specs.Tokens as k
use Rattle.c_grammar.specs.Derivations.{File}
use Rattle.c_grammar.specs.Spelling.{Spells}
use Rattle.c_tree.specs.Trees.{FileTree}
use Rattle.c_tree.specs.Reading.{file_tree}
use Rattle.c_reading.specs.Words.{IsKindOf, AreTokensOf}
use Rattle.c_reading.specs.Answers.{Answer, tree}
use Rattle.c_round_trip.specs.Placeless.{placeless}

-- some word is this token
abbrev pub IsWritten : k.Kind → Type 0
IsWritten kind = (lexeme : TokenKind) × (word : List ℕ) × IsWord lexeme word × IsKindOf lexeme word kind

abbrev pub AllWritten : List k.Token → Type 0
AllWritten [] = Unit {0}
AllWritten (k.token kind p ∷ ts) = IsWritten kind × AllWritten ts

-- the tree of some file, places aside: tokens that words are spell it
pub record IsFileTree (x : FileTree) : Type 0 where
  pub file : File
  pub tokens : List k.Token
  pub spelled : Spells file tokens
  pub written : AllWritten tokens
  pub tree : placeless x ≡ placeless (file_tree file)

-- the tokens of the text, none of which is bad, spell the tree, places aside
pub record ReadsAs (text : List ℕ) (x : FileTree) : Type 0 where
  pub scanned : List scanned.Token
  pub exact : Tokens text scanned None
  pub tokens : List k.Token
  pub each : AreTokensOf text None scanned tokens
  pub file : File
  pub spelled : Spells file tokens
  pub same : placeless (file_tree file) ≡ placeless x

-- the answer is the tree, places aside
abbrev pub IsSameTree : FileTree → Answer → Type 0
IsSameTree x a = (y : FileTree) × (a ≡ tree y) × (placeless y ≡ placeless x)

-- how many `(` stand among the tokens
abbrev pub opens_of : k.Kind → ℕ → ℕ
opens_of k.LeftParen n = suc n
opens_of _ n = n

abbrev pub opens : List k.Token → ℕ
opens [] = 0
opens (k.token kind p ∷ ts) = opens_of kind (opens ts)
