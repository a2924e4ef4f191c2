use Rattle.std.proofs.Common.{◌≡◌, length}
use Rattle.c_reading.specs.Code as code
use Rattle.c_frames.specs.Frames.{stack_of}
use Rattle.c_frames.specs.Readers.{token_of}
use Rattle.c_parts.specs.Views.{declarator_part_of}
use Rattle.c_states.proofs.declarator.climb.Given as goal

-- the stars taken off so far are in the declarator
abbrev pub invariant-climbing : goal.invariant-climbing
invariant-climbing l = code.climb (declarator_part_of l.declarator) (stack_of l.context.stack) l.context.names (token_of l.token) ≡ code.climb (declarator_part_of l.initial.declarator) (stack_of l.initial.context.stack) l.initial.context.names (token_of l.token)

abbrev pub decreases-climbing : goal.decreases-climbing
decreases-climbing l = length l.context.stack.entries
