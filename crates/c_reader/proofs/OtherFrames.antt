-- Behind a frame of another kind than the one that is wanted, no file goes on.
use Rattle.std.proofs.Common.{◌≡◌, ℕ, List, None, refl}
use Rattle.c_grammar.specs.Tokens.{Identifier, Token}
use Rattle.c_reading.specs.Parts as p
use Rattle.c_reading.specs.Frames as marks
use Rattle.c_reading.specs.Code as code
use Rattle.c_frames.specs.Frames.{frame_of}
use Rattle.c_frames.specs.declared.frame.Frame.{Frame}
use Rattle.c_frames.specs.declared.frame.Frame.TheVariants as frame
use Rattle.c_parts.specs.declared.declaration.InitsPart.{InitsPart}
use Rattle.c_parts.specs.declared.declarator.DeclaratorPart.{DeclaratorPart}
use Rattle.c_parts.specs.declared.expr.ArgumentsPart.{ArgumentsPart}
use Rattle.c_parts.specs.declared.expr.ExprPart.{ExprPart}
use Rattle.c_parts.specs.declared.specifiers.SpecifiersPart.{SpecifiersPart}
use Rattle.c_parts.specs.declared.statement.ForFirstPart.{ForFirstPart}
use Rattle.c_parts.specs.declared.statement.GroupsPart.{GroupsPart}
use Rattle.c_parts.specs.declared.statement.ItemsPart.{ItemsPart}
use Rattle.c_parts.specs.declared.statement.LabelsPart.{LabelsPart}
use Rattle.c_parts.specs.declared.statement.OptionalPart.{OptionalPart}
use Rattle.c_parts.specs.declared.statement.StatementPart.{StatementPart}

pub no_case : (at : ℕ) (f : Frame) (n : marks.Nest) (k : marks.Stack) (ns : List Identifier) → ((gs : GroupsPart) (ls : LabelsPart) (is : ItemsPart) → f ≡ frame.Group gs ls is → ⊥) → None ≡ code.on_case at (marks.above (frame_of f) n k) ns
no_case at (frame.Group gs ls is) n k ns not = absurd (not gs ls is refl)
no_case at f n k ns not = refl

pub no_default : (at : ℕ) (f : Frame) (n : marks.Nest) (k : marks.Stack) (ns : List Identifier) → ((gs : GroupsPart) (ls : LabelsPart) (is : ItemsPart) → f ≡ frame.Group gs ls is → ⊥) → None ≡ code.on_default at (marks.above (frame_of f) n k) ns
no_default at (frame.Group gs ls is) n k ns not = absurd (not gs ls is refl)
no_default at f n k ns not = refl

pub no_list : (e : p.ExprPart) (f : Frame) (n : marks.Nest) (k : marks.Stack) (ns : List Identifier) (t : Token) → ((at : ℕ) (xs : ArgumentsPart) → f ≡ frame.List at xs → ⊥) → None ≡ code.on_list_comma e (marks.above (frame_of f) n k) ns t
no_list e (frame.List at xs) n k ns t not = absurd (not at xs refl)
no_list e f n k ns t not = refl

pub no_initializer : (at : ℕ) (xs : p.ArgumentsPart) (f : Frame) (n : marks.Nest) (k : marks.Stack) (ns : List Identifier) (t : Token) → ((s : SpecifiersPart) (ds : InitsPart) (d : DeclaratorPart) → f ≡ frame.Initializer s ds d → ⊥) → None ≡ code.on_after_list at xs (marks.above (frame_of f) n k) ns t
no_initializer at xs (frame.Initializer s ds d) n k ns t not = absurd (not s ds d refl)
no_initializer at xs f n k ns t not = refl

-- the frame takes no statement
pub record TakesNone (f : Frame) : Type 0 where
  pub not_then : (at : ℕ) (e : ExprPart) → f ≡ frame.Then at e → ⊥
  pub not_else : (at : ℕ) (e : ExprPart) (a : StatementPart) → f ≡ frame.Else at e a → ⊥
  pub not_while : (at : ℕ) (e : ExprPart) → f ≡ frame.WhileBody at e → ⊥
  pub not_do : (at : ℕ) → f ≡ frame.DoBody at → ⊥
  pub not_for : (at : ℕ) (x : ForFirstPart) (c : OptionalPart) (u : OptionalPart) → f ≡ frame.ForBody at x c u → ⊥
  pub not_block : (at : ℕ) (is : ItemsPart) → f ≡ frame.Block at is → ⊥
  pub not_function : (s : SpecifiersPart) (d : DeclaratorPart) (at : ℕ) (is : ItemsPart) → f ≡ frame.Function s d at is → ⊥
  pub not_group : (gs : GroupsPart) (ls : LabelsPart) (is : ItemsPart) → f ≡ frame.Group gs ls is → ⊥

pub no_statement : (s : p.StatementPart) (f : Frame) (n : marks.Nest) (k : marks.Stack) (ns : List Identifier) (t : Token) → TakesNone f → None ≡ code.on_after s (marks.above (frame_of f) n k) ns t
no_statement s (frame.Then at e) n k ns t h = absurd (h.not_then at e refl)
no_statement s (frame.Else at e a) n k ns t h = absurd (h.not_else at e a refl)
no_statement s (frame.WhileBody at e) n k ns t h = absurd (h.not_while at e refl)
no_statement s (frame.DoBody at) n k ns t h = absurd (h.not_do at refl)
no_statement s (frame.ForBody at x c u) n k ns t h = absurd (h.not_for at x c u refl)
no_statement s (frame.Block at is) n k ns t h = absurd (h.not_block at is refl)
no_statement s (frame.Function x d at is) n k ns t h = absurd (h.not_function x d at is refl)
no_statement s (frame.Group gs ls is) n k ns t h = absurd (h.not_group gs ls is refl)
no_statement s f n k ns t h = refl
