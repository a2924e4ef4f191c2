-- The words of the tokens that are written in one way, a blank or a line feed behind them.
use Rattle.std.proofs.Common.{◌≡◌, ℕ, Bool, true, List, ◌∷◌, ◌++◌, Some, None, codes, refl, sym, subst, inl, inr}
use Rattle.c_tokens.specs.declared.token.TokenKind.{TokenKind}
use Rattle.c_tokens.specs.declared.token.TokenKind.TheVariants.{Keyword, Punctuator}
use Rattle.c_tokens.specs.Scanning.{behind_piece, behind_lexeme, kind_of, is_token}
use Rattle.c_grammar.specs.Tokens as k
use Rattle.c_reading.specs.Words as w
use Rattle.c_tree.specs.Printing.{operator_text, assignment_text, step_text, access_text, type_word_text, qualifier_text, storage_text, composite_text}
use Rattle.c_tree.specs.Statements.{jump_text}
use Rattle.c_reading.specs.Words.{Void, Char, Short, Int, Long, Float, Double, Signed, Unsigned, Const, Volatile, Restrict, Extern, Static, Typedef, Struct, Union, Break, Continue, Inline, Enum, Sizeof, If, Else, While, Do, For, Switch, Case, Default, Return, LeftBrace, RightBrace, LeftParen, RightParen, LeftBracket, RightBracket, Semicolon, Comma, Question, Colon, Dot, Arrow, Increase, Decrease, LogicalOr, LogicalAnd, BitOr, BitXor, Ampersand, Equal, NotEqual, Less, Greater, LessEqual, GreaterEqual, ShiftLeft, ShiftRight, Plus, Minus, Star, Slash, Percent, Complement, Not, Equals, StarEquals, SlashEquals, PercentEquals, PlusEquals, MinusEquals, ShiftLeftEquals, ShiftRightEquals, AndEquals, XorEquals, OrEquals, IsKeyword, IsPunctuator}
use Rattle.c_round_trip.proofs.Written.{IsSeparator, Scans, WordOf}

either : (P : ℕ → Type 0) → P 32 → P 10 → (b : ℕ) → IsSeparator b → P b
either P blank line b (inl e) = subst P (sym e) blank
either P blank line b (inr e) = subst P (sym e) line

pub scans : (lexeme : TokenKind) (word : List ℕ) → ((fresh : Bool) (r : List ℕ) → behind_piece fresh (word ++ 32 ∷ r) ≡ None)
    → ((fresh : Bool) (r : List ℕ) → behind_piece fresh (word ++ 10 ∷ r) ≡ None)
    → ((r : List ℕ) → behind_lexeme (word ++ 32 ∷ r) ≡ Some (32 ∷ r)) → ((r : List ℕ) → behind_lexeme (word ++ 10 ∷ r) ≡ Some (10 ∷ r))
    → kind_of word ≡ lexeme → ((r : List ℕ) → is_token lexeme word (32 ∷ r) ≡ true) → ((r : List ℕ) → is_token lexeme word (10 ∷ r) ≡ true) → Scans lexeme word
scans lexeme word begins begins_line blank line is held held_line = record {
  begins = λ f b r s. either (λ c. behind_piece f (word ++ c ∷ r) ≡ None) (begins f r) (begins_line f r) b s;
  ends = λ b r s. either (λ c. behind_lexeme (word ++ c ∷ r) ≡ Some (c ∷ r)) (blank r) (line r) b s;
  is = is;
  holds = λ b r s. either (λ c. is_token lexeme word (c ∷ r) ≡ true) (held r) (held_line r) b s;
}

pub operator_word : (x : k.Operator) → WordOf (k.Op x) (operator_text x)
operator_word k.LogicalOr = record { lexeme = Punctuator; scans = scans Punctuator _ (λ f r. refl) (λ f r. refl) (λ r. refl) (λ r. refl) refl (λ r. refl) (λ r. refl); is_kind = w.IsPunctuator _ _ w.LogicalOr }
operator_word k.LogicalAnd = record { lexeme = Punctuator; scans = scans Punctuator _ (λ f r. refl) (λ f r. refl) (λ r. refl) (λ r. refl) refl (λ r. refl) (λ r. refl); is_kind = w.IsPunctuator _ _ w.LogicalAnd }
operator_word k.BitOr = record { lexeme = Punctuator; scans = scans Punctuator _ (λ f r. refl) (λ f r. refl) (λ r. refl) (λ r. refl) refl (λ r. refl) (λ r. refl); is_kind = w.IsPunctuator _ _ w.BitOr }
operator_word k.BitXor = record { lexeme = Punctuator; scans = scans Punctuator _ (λ f r. refl) (λ f r. refl) (λ r. refl) (λ r. refl) refl (λ r. refl) (λ r. refl); is_kind = w.IsPunctuator _ _ w.BitXor }
operator_word k.Ampersand = record { lexeme = Punctuator; scans = scans Punctuator _ (λ f r. refl) (λ f r. refl) (λ r. refl) (λ r. refl) refl (λ r. refl) (λ r. refl); is_kind = w.IsPunctuator _ _ w.Ampersand }
operator_word k.Equal = record { lexeme = Punctuator; scans = scans Punctuator _ (λ f r. refl) (λ f r. refl) (λ r. refl) (λ r. refl) refl (λ r. refl) (λ r. refl); is_kind = w.IsPunctuator _ _ w.Equal }
operator_word k.NotEqual = record { lexeme = Punctuator; scans = scans Punctuator _ (λ f r. refl) (λ f r. refl) (λ r. refl) (λ r. refl) refl (λ r. refl) (λ r. refl); is_kind = w.IsPunctuator _ _ w.NotEqual }
operator_word k.Less = record { lexeme = Punctuator; scans = scans Punctuator _ (λ f r. refl) (λ f r. refl) (λ r. refl) (λ r. refl) refl (λ r. refl) (λ r. refl); is_kind = w.IsPunctuator _ _ w.Less }
operator_word k.Greater = record { lexeme = Punctuator; scans = scans Punctuator _ (λ f r. refl) (λ f r. refl) (λ r. refl) (λ r. refl) refl (λ r. refl) (λ r. refl); is_kind = w.IsPunctuator _ _ w.Greater }
operator_word k.LessEqual = record { lexeme = Punctuator; scans = scans Punctuator _ (λ f r. refl) (λ f r. refl) (λ r. refl) (λ r. refl) refl (λ r. refl) (λ r. refl); is_kind = w.IsPunctuator _ _ w.LessEqual }
operator_word k.GreaterEqual = record { lexeme = Punctuator; scans = scans Punctuator _ (λ f r. refl) (λ f r. refl) (λ r. refl) (λ r. refl) refl (λ r. refl) (λ r. refl); is_kind = w.IsPunctuator _ _ w.GreaterEqual }
operator_word k.ShiftLeft = record { lexeme = Punctuator; scans = scans Punctuator _ (λ f r. refl) (λ f r. refl) (λ r. refl) (λ r. refl) refl (λ r. refl) (λ r. refl); is_kind = w.IsPunctuator _ _ w.ShiftLeft }
operator_word k.ShiftRight = record { lexeme = Punctuator; scans = scans Punctuator _ (λ f r. refl) (λ f r. refl) (λ r. refl) (λ r. refl) refl (λ r. refl) (λ r. refl); is_kind = w.IsPunctuator _ _ w.ShiftRight }
operator_word k.Plus = record { lexeme = Punctuator; scans = scans Punctuator _ (λ f r. refl) (λ f r. refl) (λ r. refl) (λ r. refl) refl (λ r. refl) (λ r. refl); is_kind = w.IsPunctuator _ _ w.Plus }
operator_word k.Minus = record { lexeme = Punctuator; scans = scans Punctuator _ (λ f r. refl) (λ f r. refl) (λ r. refl) (λ r. refl) refl (λ r. refl) (λ r. refl); is_kind = w.IsPunctuator _ _ w.Minus }
operator_word k.Star = record { lexeme = Punctuator; scans = scans Punctuator _ (λ f r. refl) (λ f r. refl) (λ r. refl) (λ r. refl) refl (λ r. refl) (λ r. refl); is_kind = w.IsPunctuator _ _ w.Star }
operator_word k.Slash = record { lexeme = Punctuator; scans = scans Punctuator _ (λ f r. refl) (λ f r. refl) (λ r. refl) (λ r. refl) refl (λ r. refl) (λ r. refl); is_kind = w.IsPunctuator _ _ w.Slash }
operator_word k.Percent = record { lexeme = Punctuator; scans = scans Punctuator _ (λ f r. refl) (λ f r. refl) (λ r. refl) (λ r. refl) refl (λ r. refl) (λ r. refl); is_kind = w.IsPunctuator _ _ w.Percent }
operator_word k.Complement = record { lexeme = Punctuator; scans = scans Punctuator _ (λ f r. refl) (λ f r. refl) (λ r. refl) (λ r. refl) refl (λ r. refl) (λ r. refl); is_kind = w.IsPunctuator _ _ w.Complement }
operator_word k.Not = record { lexeme = Punctuator; scans = scans Punctuator _ (λ f r. refl) (λ f r. refl) (λ r. refl) (λ r. refl) refl (λ r. refl) (λ r. refl); is_kind = w.IsPunctuator _ _ w.Not }

pub assignment_word : (x : k.AssignmentOperator) → WordOf (k.Assignment x) (assignment_text x)
assignment_word k.Equals = record { lexeme = Punctuator; scans = scans Punctuator _ (λ f r. refl) (λ f r. refl) (λ r. refl) (λ r. refl) refl (λ r. refl) (λ r. refl); is_kind = w.IsPunctuator _ _ w.Equals }
assignment_word k.StarEquals = record { lexeme = Punctuator; scans = scans Punctuator _ (λ f r. refl) (λ f r. refl) (λ r. refl) (λ r. refl) refl (λ r. refl) (λ r. refl); is_kind = w.IsPunctuator _ _ w.StarEquals }
assignment_word k.SlashEquals = record { lexeme = Punctuator; scans = scans Punctuator _ (λ f r. refl) (λ f r. refl) (λ r. refl) (λ r. refl) refl (λ r. refl) (λ r. refl); is_kind = w.IsPunctuator _ _ w.SlashEquals }
assignment_word k.PercentEquals = record { lexeme = Punctuator; scans = scans Punctuator _ (λ f r. refl) (λ f r. refl) (λ r. refl) (λ r. refl) refl (λ r. refl) (λ r. refl); is_kind = w.IsPunctuator _ _ w.PercentEquals }
assignment_word k.PlusEquals = record { lexeme = Punctuator; scans = scans Punctuator _ (λ f r. refl) (λ f r. refl) (λ r. refl) (λ r. refl) refl (λ r. refl) (λ r. refl); is_kind = w.IsPunctuator _ _ w.PlusEquals }
assignment_word k.MinusEquals = record { lexeme = Punctuator; scans = scans Punctuator _ (λ f r. refl) (λ f r. refl) (λ r. refl) (λ r. refl) refl (λ r. refl) (λ r. refl); is_kind = w.IsPunctuator _ _ w.MinusEquals }
assignment_word k.ShiftLeftEquals = record { lexeme = Punctuator; scans = scans Punctuator _ (λ f r. refl) (λ f r. refl) (λ r. refl) (λ r. refl) refl (λ r. refl) (λ r. refl); is_kind = w.IsPunctuator _ _ w.ShiftLeftEquals }
assignment_word k.ShiftRightEquals = record { lexeme = Punctuator; scans = scans Punctuator _ (λ f r. refl) (λ f r. refl) (λ r. refl) (λ r. refl) refl (λ r. refl) (λ r. refl); is_kind = w.IsPunctuator _ _ w.ShiftRightEquals }
assignment_word k.AndEquals = record { lexeme = Punctuator; scans = scans Punctuator _ (λ f r. refl) (λ f r. refl) (λ r. refl) (λ r. refl) refl (λ r. refl) (λ r. refl); is_kind = w.IsPunctuator _ _ w.AndEquals }
assignment_word k.XorEquals = record { lexeme = Punctuator; scans = scans Punctuator _ (λ f r. refl) (λ f r. refl) (λ r. refl) (λ r. refl) refl (λ r. refl) (λ r. refl); is_kind = w.IsPunctuator _ _ w.XorEquals }
assignment_word k.OrEquals = record { lexeme = Punctuator; scans = scans Punctuator _ (λ f r. refl) (λ f r. refl) (λ r. refl) (λ r. refl) refl (λ r. refl) (λ r. refl); is_kind = w.IsPunctuator _ _ w.OrEquals }

pub step_word : (x : k.Increment) → WordOf (k.Step x) (step_text x)
step_word k.Increase = record { lexeme = Punctuator; scans = scans Punctuator _ (λ f r. refl) (λ f r. refl) (λ r. refl) (λ r. refl) refl (λ r. refl) (λ r. refl); is_kind = w.IsPunctuator _ _ w.Increase }
step_word k.Decrease = record { lexeme = Punctuator; scans = scans Punctuator _ (λ f r. refl) (λ f r. refl) (λ r. refl) (λ r. refl) refl (λ r. refl) (λ r. refl); is_kind = w.IsPunctuator _ _ w.Decrease }

pub access_word : (x : k.Access) → WordOf (k.Member x) (access_text x)
access_word k.Dot = record { lexeme = Punctuator; scans = scans Punctuator _ (λ f r. refl) (λ f r. refl) (λ r. refl) (λ r. refl) refl (λ r. refl) (λ r. refl); is_kind = w.IsPunctuator _ _ w.Dot }
access_word k.Arrow = record { lexeme = Punctuator; scans = scans Punctuator _ (λ f r. refl) (λ f r. refl) (λ r. refl) (λ r. refl) refl (λ r. refl) (λ r. refl); is_kind = w.IsPunctuator _ _ w.Arrow }

pub type_word : (x : k.TypeWord) → WordOf (k.TypeKeyword x) (type_word_text x)
type_word k.Void = record { lexeme = Keyword; scans = scans Keyword _ (λ f r. refl) (λ f r. refl) (λ r. refl) (λ r. refl) refl (λ r. refl) (λ r. refl); is_kind = w.IsKeyword _ _ w.Void }
type_word k.Char = record { lexeme = Keyword; scans = scans Keyword _ (λ f r. refl) (λ f r. refl) (λ r. refl) (λ r. refl) refl (λ r. refl) (λ r. refl); is_kind = w.IsKeyword _ _ w.Char }
type_word k.Short = record { lexeme = Keyword; scans = scans Keyword _ (λ f r. refl) (λ f r. refl) (λ r. refl) (λ r. refl) refl (λ r. refl) (λ r. refl); is_kind = w.IsKeyword _ _ w.Short }
type_word k.Int = record { lexeme = Keyword; scans = scans Keyword _ (λ f r. refl) (λ f r. refl) (λ r. refl) (λ r. refl) refl (λ r. refl) (λ r. refl); is_kind = w.IsKeyword _ _ w.Int }
type_word k.Long = record { lexeme = Keyword; scans = scans Keyword _ (λ f r. refl) (λ f r. refl) (λ r. refl) (λ r. refl) refl (λ r. refl) (λ r. refl); is_kind = w.IsKeyword _ _ w.Long }
type_word k.Float = record { lexeme = Keyword; scans = scans Keyword _ (λ f r. refl) (λ f r. refl) (λ r. refl) (λ r. refl) refl (λ r. refl) (λ r. refl); is_kind = w.IsKeyword _ _ w.Float }
type_word k.Double = record { lexeme = Keyword; scans = scans Keyword _ (λ f r. refl) (λ f r. refl) (λ r. refl) (λ r. refl) refl (λ r. refl) (λ r. refl); is_kind = w.IsKeyword _ _ w.Double }
type_word k.Signed = record { lexeme = Keyword; scans = scans Keyword _ (λ f r. refl) (λ f r. refl) (λ r. refl) (λ r. refl) refl (λ r. refl) (λ r. refl); is_kind = w.IsKeyword _ _ w.Signed }
type_word k.Unsigned = record { lexeme = Keyword; scans = scans Keyword _ (λ f r. refl) (λ f r. refl) (λ r. refl) (λ r. refl) refl (λ r. refl) (λ r. refl); is_kind = w.IsKeyword _ _ w.Unsigned }

pub qualifier_word : (x : k.Qualifier) → WordOf (k.Qualify x) (qualifier_text x)
qualifier_word k.Const = record { lexeme = Keyword; scans = scans Keyword _ (λ f r. refl) (λ f r. refl) (λ r. refl) (λ r. refl) refl (λ r. refl) (λ r. refl); is_kind = w.IsKeyword _ _ w.Const }
qualifier_word k.Volatile = record { lexeme = Keyword; scans = scans Keyword _ (λ f r. refl) (λ f r. refl) (λ r. refl) (λ r. refl) refl (λ r. refl) (λ r. refl); is_kind = w.IsKeyword _ _ w.Volatile }
qualifier_word k.Restrict = record { lexeme = Keyword; scans = scans Keyword _ (λ f r. refl) (λ f r. refl) (λ r. refl) (λ r. refl) refl (λ r. refl) (λ r. refl); is_kind = w.IsKeyword _ _ w.Restrict }

pub storage_word : (x : k.StorageClass) → WordOf (k.Storage x) (storage_text x)
storage_word k.Extern = record { lexeme = Keyword; scans = scans Keyword _ (λ f r. refl) (λ f r. refl) (λ r. refl) (λ r. refl) refl (λ r. refl) (λ r. refl); is_kind = w.IsKeyword _ _ w.Extern }
storage_word k.Static = record { lexeme = Keyword; scans = scans Keyword _ (λ f r. refl) (λ f r. refl) (λ r. refl) (λ r. refl) refl (λ r. refl) (λ r. refl); is_kind = w.IsKeyword _ _ w.Static }
storage_word k.Typedef = record { lexeme = Keyword; scans = scans Keyword _ (λ f r. refl) (λ f r. refl) (λ r. refl) (λ r. refl) refl (λ r. refl) (λ r. refl); is_kind = w.IsKeyword _ _ w.Typedef }

pub composite_word : (x : k.CompositeWord) → WordOf (k.Composite x) (composite_text x)
composite_word k.Struct = record { lexeme = Keyword; scans = scans Keyword _ (λ f r. refl) (λ f r. refl) (λ r. refl) (λ r. refl) refl (λ r. refl) (λ r. refl); is_kind = w.IsKeyword _ _ w.Struct }
composite_word k.Union = record { lexeme = Keyword; scans = scans Keyword _ (λ f r. refl) (λ f r. refl) (λ r. refl) (λ r. refl) refl (λ r. refl) (λ r. refl); is_kind = w.IsKeyword _ _ w.Union }

pub jump_word : (x : k.Jump) → WordOf (k.JumpWord x) (jump_text x)
jump_word k.Break = record { lexeme = Keyword; scans = scans Keyword _ (λ f r. refl) (λ f r. refl) (λ r. refl) (λ r. refl) refl (λ r. refl) (λ r. refl); is_kind = w.IsKeyword _ _ w.Break }
jump_word k.Continue = record { lexeme = Keyword; scans = scans Keyword _ (λ f r. refl) (λ f r. refl) (λ r. refl) (λ r. refl) refl (λ r. refl) (λ r. refl); is_kind = w.IsKeyword _ _ w.Continue }

pub inline_word : WordOf k.Inline (codes "inline")
inline_word = record { lexeme = Keyword; scans = scans Keyword _ (λ f r. refl) (λ f r. refl) (λ r. refl) (λ r. refl) refl (λ r. refl) (λ r. refl); is_kind = w.IsKeyword _ _ w.Inline }

pub enum_word : WordOf k.Enum (codes "enum")
enum_word = record { lexeme = Keyword; scans = scans Keyword _ (λ f r. refl) (λ f r. refl) (λ r. refl) (λ r. refl) refl (λ r. refl) (λ r. refl); is_kind = w.IsKeyword _ _ w.Enum }

pub sizeof_word : WordOf k.Sizeof (codes "sizeof")
sizeof_word = record { lexeme = Keyword; scans = scans Keyword _ (λ f r. refl) (λ f r. refl) (λ r. refl) (λ r. refl) refl (λ r. refl) (λ r. refl); is_kind = w.IsKeyword _ _ w.Sizeof }

pub if_word : WordOf k.If (codes "if")
if_word = record { lexeme = Keyword; scans = scans Keyword _ (λ f r. refl) (λ f r. refl) (λ r. refl) (λ r. refl) refl (λ r. refl) (λ r. refl); is_kind = w.IsKeyword _ _ w.If }

pub else_word : WordOf k.Else (codes "else")
else_word = record { lexeme = Keyword; scans = scans Keyword _ (λ f r. refl) (λ f r. refl) (λ r. refl) (λ r. refl) refl (λ r. refl) (λ r. refl); is_kind = w.IsKeyword _ _ w.Else }

pub while_word : WordOf k.While (codes "while")
while_word = record { lexeme = Keyword; scans = scans Keyword _ (λ f r. refl) (λ f r. refl) (λ r. refl) (λ r. refl) refl (λ r. refl) (λ r. refl); is_kind = w.IsKeyword _ _ w.While }

pub do_word : WordOf k.Do (codes "do")
do_word = record { lexeme = Keyword; scans = scans Keyword _ (λ f r. refl) (λ f r. refl) (λ r. refl) (λ r. refl) refl (λ r. refl) (λ r. refl); is_kind = w.IsKeyword _ _ w.Do }

pub for_word : WordOf k.For (codes "for")
for_word = record { lexeme = Keyword; scans = scans Keyword _ (λ f r. refl) (λ f r. refl) (λ r. refl) (λ r. refl) refl (λ r. refl) (λ r. refl); is_kind = w.IsKeyword _ _ w.For }

pub switch_word : WordOf k.Switch (codes "switch")
switch_word = record { lexeme = Keyword; scans = scans Keyword _ (λ f r. refl) (λ f r. refl) (λ r. refl) (λ r. refl) refl (λ r. refl) (λ r. refl); is_kind = w.IsKeyword _ _ w.Switch }

pub case_word : WordOf k.Case (codes "case")
case_word = record { lexeme = Keyword; scans = scans Keyword _ (λ f r. refl) (λ f r. refl) (λ r. refl) (λ r. refl) refl (λ r. refl) (λ r. refl); is_kind = w.IsKeyword _ _ w.Case }

pub default_word : WordOf k.Default (codes "default")
default_word = record { lexeme = Keyword; scans = scans Keyword _ (λ f r. refl) (λ f r. refl) (λ r. refl) (λ r. refl) refl (λ r. refl) (λ r. refl); is_kind = w.IsKeyword _ _ w.Default }

pub return_word : WordOf k.Return (codes "return")
return_word = record { lexeme = Keyword; scans = scans Keyword _ (λ f r. refl) (λ f r. refl) (λ r. refl) (λ r. refl) refl (λ r. refl) (λ r. refl); is_kind = w.IsKeyword _ _ w.Return }

pub left_brace_word : WordOf k.LeftBrace (codes "{")
left_brace_word = record { lexeme = Punctuator; scans = scans Punctuator _ (λ f r. refl) (λ f r. refl) (λ r. refl) (λ r. refl) refl (λ r. refl) (λ r. refl); is_kind = w.IsPunctuator _ _ w.LeftBrace }

pub right_brace_word : WordOf k.RightBrace (codes "}")
right_brace_word = record { lexeme = Punctuator; scans = scans Punctuator _ (λ f r. refl) (λ f r. refl) (λ r. refl) (λ r. refl) refl (λ r. refl) (λ r. refl); is_kind = w.IsPunctuator _ _ w.RightBrace }

pub left_paren_word : WordOf k.LeftParen (codes "(")
left_paren_word = record { lexeme = Punctuator; scans = scans Punctuator _ (λ f r. refl) (λ f r. refl) (λ r. refl) (λ r. refl) refl (λ r. refl) (λ r. refl); is_kind = w.IsPunctuator _ _ w.LeftParen }

pub right_paren_word : WordOf k.RightParen (codes ")")
right_paren_word = record { lexeme = Punctuator; scans = scans Punctuator _ (λ f r. refl) (λ f r. refl) (λ r. refl) (λ r. refl) refl (λ r. refl) (λ r. refl); is_kind = w.IsPunctuator _ _ w.RightParen }

pub left_bracket_word : WordOf k.LeftBracket (codes "[")
left_bracket_word = record { lexeme = Punctuator; scans = scans Punctuator _ (λ f r. refl) (λ f r. refl) (λ r. refl) (λ r. refl) refl (λ r. refl) (λ r. refl); is_kind = w.IsPunctuator _ _ w.LeftBracket }

pub right_bracket_word : WordOf k.RightBracket (codes "]")
right_bracket_word = record { lexeme = Punctuator; scans = scans Punctuator _ (λ f r. refl) (λ f r. refl) (λ r. refl) (λ r. refl) refl (λ r. refl) (λ r. refl); is_kind = w.IsPunctuator _ _ w.RightBracket }

pub semicolon_word : WordOf k.Semicolon (codes ";")
semicolon_word = record { lexeme = Punctuator; scans = scans Punctuator _ (λ f r. refl) (λ f r. refl) (λ r. refl) (λ r. refl) refl (λ r. refl) (λ r. refl); is_kind = w.IsPunctuator _ _ w.Semicolon }

pub comma_word : WordOf k.Comma (codes ",")
comma_word = record { lexeme = Punctuator; scans = scans Punctuator _ (λ f r. refl) (λ f r. refl) (λ r. refl) (λ r. refl) refl (λ r. refl) (λ r. refl); is_kind = w.IsPunctuator _ _ w.Comma }

pub question_word : WordOf k.Question (codes "?")
question_word = record { lexeme = Punctuator; scans = scans Punctuator _ (λ f r. refl) (λ f r. refl) (λ r. refl) (λ r. refl) refl (λ r. refl) (λ r. refl); is_kind = w.IsPunctuator _ _ w.Question }

pub colon_word : WordOf k.Colon (codes ":")
colon_word = record { lexeme = Punctuator; scans = scans Punctuator _ (λ f r. refl) (λ f r. refl) (λ r. refl) (λ r. refl) refl (λ r. refl) (λ r. refl); is_kind = w.IsPunctuator _ _ w.Colon }
