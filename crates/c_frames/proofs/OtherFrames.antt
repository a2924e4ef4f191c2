-- Behind a frame of another kind than the one that is wanted, no file goes on.
use Rattle.std.proofs.Common.{◌≡◌, ℕ, List, Option, None, refl}
use Rattle.c_grammar.specs.Tokens.{Identifier}
use Rattle.c_reading.specs.Parts as p
use Rattle.c_reading.specs.Frames as marks
use Rattle.c_reading.specs.Code as code
use Rattle.c_frames.specs.Frames.{frame_of}
use Rattle.c_parts.specs.declared.expr.ExprPart.{ExprPart}
use Rattle.c_parts.specs.declared.specifiers.SpecifiersPart.{SpecifiersPart}
use Rattle.c_parts.specs.declared.declarator.DeclaratorPart.{DeclaratorPart}
use Rattle.c_parts.specs.declared.statement.LabelsPart.{LabelsPart}
use Rattle.c_parts.specs.declared.statement.ItemsPart.{ItemsPart}
use Rattle.c_parts.specs.declared.statement.GroupsPart.{GroupsPart}
use Rattle.c_tree.specs.declared.expr.Tag.{Tag}
use Rattle.c_frames.specs.declared.frame.SuffixedPart.{SuffixedPart}
use Rattle.c_frames.specs.declared.frame.Frame.{Frame}
use Rattle.c_frames.specs.declared.frame.Frame.TheVariants as frame

pub no_groups : (gs : p.GroupsPart) (f : Frame) (n : marks.Nest) (k : marks.Stack) (ns : List Identifier) → ((at : ℕ) (e : ExprPart) → f ≡ frame.Groups at e → ⊥) → None ≡ code.groups_end gs (marks.above (frame_of f) n k) ns
no_groups gs (frame.Groups at e) n k ns not = absurd (not at e refl)
no_groups gs f n k ns not = refl

pub no_label : (l : p.LabelPart) (f : Frame) (n : marks.Nest) (k : marks.Stack) (ns : List Identifier) → ((gs : GroupsPart) (ls : LabelsPart) → f ≡ frame.Label gs ls → ⊥) → None ≡ code.labelled l (marks.above (frame_of f) n k) ns
no_label l (frame.Label gs ls) n k ns not = absurd (not gs ls refl)
no_label l f n k ns not = refl

pub no_parameters : (ps : p.ParametersPart) (f : Frame) (n : marks.Nest) (k : marks.Stack) (ns : List Identifier) → ((x : SuffixedPart) → f ≡ frame.Parameters x → ⊥) → None ≡ code.parameters_end ps (marks.above (frame_of f) n k) ns
no_parameters ps (frame.Parameters x) n k ns not = absurd (not x refl)
no_parameters ps f n k ns not = refl

pub no_enum : (es : p.EnumeratorsPart) (f : Frame) (n : marks.Nest) (k : marks.Stack) (ns : List Identifier) → ((s : SpecifiersPart) (at : ℕ) (tag : Option Tag) (body_at : ℕ) → f ≡ frame.Enum s at tag body_at → ⊥) → None ≡ code.enumeration_end es (marks.above (frame_of f) n k) ns
no_enum es (frame.Enum s at tag body_at) n k ns not = absurd (not s at tag body_at refl)
no_enum es f n k ns not = refl

pub no_items : (d : p.DeclarationPart) (f : Frame) (n : marks.Nest) (k : marks.Stack) (ns : List Identifier) → ((at : ℕ) (is : ItemsPart) → f ≡ frame.Block at is → ⊥) → ((s : SpecifiersPart) (x : DeclaratorPart) (at : ℕ) (is : ItemsPart) → f ≡ frame.Function s x at is → ⊥) → ((gs : GroupsPart) (ls : LabelsPart) (is : ItemsPart) → f ≡ frame.Group gs ls is → ⊥) → ((at : ℕ) → f ≡ frame.ForHead at → ⊥) → None ≡ code.declared d (marks.above (frame_of f) n k) ns
no_items d (frame.Block at is) n k ns block function group head = absurd (block at is refl)
no_items d (frame.Function s x at is) n k ns block function group head = absurd (function s x at is refl)
no_items d (frame.Group gs ls is) n k ns block function group head = absurd (group gs ls is refl)
no_items d (frame.ForHead at) n k ns block function group head = absurd (head at refl)
no_items d f n k ns block function group head = refl

pub no_block : (f : Frame) (n : marks.Nest) (k : marks.Stack) (ns : List Identifier) → ((at : ℕ) (is : ItemsPart) → f ≡ frame.Block at is → ⊥) → ((s : SpecifiersPart) (x : DeclaratorPart) (at : ℕ) (is : ItemsPart) → f ≡ frame.Function s x at is → ⊥) → ((gs : GroupsPart) (ls : LabelsPart) (is : ItemsPart) → f ≡ frame.Group gs ls is → ⊥) → None ≡ code.items_end (marks.above (frame_of f) n k) ns
no_block (frame.Block at is) n k ns block function group = absurd (block at is refl)
no_block (frame.Function s x at is) n k ns block function group = absurd (function s x at is refl)
no_block (frame.Group gs ls is) n k ns block function group = absurd (group gs ls is refl)
no_block f n k ns block function group = refl
