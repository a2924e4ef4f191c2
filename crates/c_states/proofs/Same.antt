-- A result that gives one state gives each equal one, and what `join` says of its parts.
use Rattle.std.proofs.Common.{◌≡◌, Option, Some, None, Result, List, sym, ap, ◌∙◌, subst}
use Rattle.std.specs.Prelude.{IfOk}
use Rattle.c_grammar.specs.Tokens.{Identifier, Token}
use Rattle.c_reading.specs.Code as code
use Rattle.c_reading.specs.Frames as marks
use Rattle.c_frames.specs.Frames.{frame_of}
use Rattle.c_frames.specs.Readers.{reached}
use Rattle.c_frames.specs.declared.frame.Frame.{Frame}
use Rattle.c_frames.specs.declared.mode.Mode.{Mode}
use Rattle.c_parts.specs.Views.{expr_part_of}
use Rattle.c_parts.specs.declared.expr.ExprPart.{ExprPart}
use Rattle.c_states.specs.Joining.{whole_behind, JoinedAs}
use Rattle.c_states.specs.declared.expr.Joined.{Joined}
use Rattle.c_states.specs.declared.expr.Joined.TheVariants as joined
use Rattle.tso_words.specs.declared.name.NoMemory.{NoMemory}

pub moves_same : (r : Result (Option Mode) NoMemory) (k : marks.Stack) (ns : List Identifier) (a b : Option code.Reader) → b ≡ a → IfOk r (λ next. reached next k ns ≡ a) → IfOk r (λ next. reached next k ns ≡ b)
moves_same r k ns a b e h = let P : Option code.Reader → Type 0 = λ x. IfOk r (λ next. reached next k ns ≡ x) in subst P (sym e) h

pub joined_whole : (f : Frame) (e whole : ExprPart) (j : Joined) → JoinedAs f e j → j ≡ joined.Whole whole → whole_behind (frame_of f) (expr_part_of e) ≡ Some (expr_part_of whole)
joined_whole f e whole j h is = let P : Joined → Type 0 = λ x. JoinedAs f e x in subst P is h

pub joined_apart : (f same : Frame) (e last : ExprPart) (j : Joined) → JoinedAs f e j → j ≡ joined.Apart same last → (whole_behind (frame_of f) (expr_part_of e) ≡ None) × (same ≡ f) × (last ≡ e)
joined_apart f same e last j h is = let P : Joined → Type 0 = λ x. JoinedAs f e x in subst P is h

pub hole_same : (f same : Frame) (e last : ExprPart) (k : marks.Stack) (ns : List Identifier) (t : Token) → same ≡ f → last ≡ e → code.on_hole (frame_of f) (expr_part_of e) k ns t ≡ code.on_hole (frame_of same) (expr_part_of last) k ns t
hole_same f same e last k ns t p q = ap (λ x. code.on_hole (frame_of x) (expr_part_of e) k ns t) (sym p) ∙ ap (λ x. code.on_hole (frame_of same) (expr_part_of x) k ns t) (sym q)
