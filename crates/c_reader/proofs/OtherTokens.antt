-- Where a statement is wanted, a token that begins no other statement begins an expression.
use Rattle.std.proofs.Common.{◌≡◌, ℕ, List, refl}
use Rattle.c_grammar.specs.Tokens.{Identifier, token}
use Rattle.c_reading.specs.Code as code
use Rattle.c_reading.specs.Frames as marks
use Rattle.c_reading.specs.Kinds.{kind_of}
use Rattle.c_reading.specs.declared.token.JumpWord.{JumpWord}
use Rattle.c_reading.specs.declared.token.Kind.{Kind}
use Rattle.c_reading.specs.declared.token.Kind.TheVariants as kind

pub record BeginsNone (t : Kind) : Type 0 where
  pub not_jump : (word : JumpWord) → t ≡ kind.Jump word → ⊥
  pub not_if : t ≡ kind.If → ⊥
  pub not_while : t ≡ kind.While → ⊥
  pub not_do : t ≡ kind.Do → ⊥
  pub not_for : t ≡ kind.For → ⊥
  pub not_switch : t ≡ kind.Switch → ⊥
  pub not_return : t ≡ kind.Return → ⊥
  pub not_block : t ≡ kind.LeftBrace → ⊥
  pub not_empty : t ≡ kind.Semicolon → ⊥

pub begins_expression : (t : Kind) (word : List ℕ) (at : ℕ) (k : marks.Stack) (ns : List Identifier) → BeginsNone t → code.on_operand (marks.push marks.expression_frame k) ns (token (kind_of word t) at) ≡ code.on_statement k ns (token (kind_of word t) at)
begins_expression (kind.Jump j) word at k ns h = absurd (h.not_jump j refl)
begins_expression kind.If word at k ns h = absurd (h.not_if refl)
begins_expression kind.While word at k ns h = absurd (h.not_while refl)
begins_expression kind.Do word at k ns h = absurd (h.not_do refl)
begins_expression kind.For word at k ns h = absurd (h.not_for refl)
begins_expression kind.Switch word at k ns h = absurd (h.not_switch refl)
begins_expression kind.Return word at k ns h = absurd (h.not_return refl)
begins_expression kind.LeftBrace word at k ns h = absurd (h.not_block refl)
begins_expression kind.Semicolon word at k ns h = absurd (h.not_empty refl)
begins_expression t word at k ns h = refl
