-- What an expression behind a frame makes.
use Rattle.std.specs.Prelude.{◌≡◌, Option, Some, None, Result, IfOk}
use Rattle.c_reading.specs.Frames as f
use Rattle.c_reading.specs.Parts as p
use Rattle.c_frames.specs.Frames.{frame_of}
use Rattle.c_frames.specs.declared.frame.Frame.{Frame}
use Rattle.c_parts.specs.Views.{expr_part_of}
use Rattle.c_parts.specs.declared.expr.ExprPart.{ExprPart}
use Rattle.c_states.specs.declared.expr.Joined.{Joined}
use Rattle.c_states.specs.declared.expr.Joined.TheVariants as joined
use Rattle.tso_words.specs.declared.name.NoMemory.{NoMemory}

-- the whole of which an expression is the last operand, behind a frame that takes one
abbrev pub whole_behind : f.Frame → p.ExprPart → Option p.ExprPart
whole_behind (f.step_frame at o) e = Some (p.step_before_part at o e)
whole_behind (f.unary_frame at o) e = Some (p.unary_part at o e)
whole_behind (f.sizeof_frame at) e = Some (p.sizeof_part at e)
whole_behind (f.cast_frame at t) e = Some (p.cast_part at t e)
whole_behind (f.binary_frame a at o) e = Some (p.binary_part a at o e)
whole_behind (f.conditional_frame c at a) e = Some (p.conditional_part c at a e)
whole_behind (f.assignment_frame a at o) e = Some (p.assignment_part a at o e)
whole_behind _ e = None

abbrev pub JoinedAs : Frame → ExprPart → Joined → Type 0
JoinedAs frame e (joined.Whole whole) = whole_behind (frame_of frame) (expr_part_of e) ≡ Some (expr_part_of whole)
JoinedAs frame e (joined.Apart same e') = (whole_behind (frame_of frame) (expr_part_of e) ≡ None) × (same ≡ frame) × (e' ≡ e)

abbrev pub Joins : Frame → ExprPart → Result Joined NoMemory → Type 0
Joins frame e result = IfOk result (JoinedAs frame e)
