use Rattle.std.proofs.Common.{◌≡◌, false}
use Rattle.c_frames.specs.Frames.{frame_of, stack_of}
use Rattle.c_states.specs.Holes.{is_in_expression}
use Rattle.c_states.proofs.OtherFrames.{no_expression}
use Rattle.c_states.proofs.hole.on_hole.Goals as goal

pub in_statement-requires : goal.in_statement-requires
in_statement-requires c =
    let apart : is_in_expression (frame_of c.args.frame) ≡ false = no_expression c.args.frame c.in_default.not-Parentheses c.in_default.not-Index c.in_default.not-Argument c.in_default.not-Middle c.in_default.not-Length c.in_default.not-Enumerator c.in_default.not-Case c.in_default.not-Initializer c.in_default.not-List in
    cc

pub returns-in-Length : goal.returns-in-Length
returns-in-Length c = rw c.in-Length.is (c.on_array_length.ensures (stack_of c.args.context.now.stack) c.args.context.now.names)
