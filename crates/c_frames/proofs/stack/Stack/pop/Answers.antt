use Rattle.std.proofs.Common.{ap}
use Rattle.c_frames.specs.Frames.{stacked}
use Rattle.c_frames.specs.Nests.{nest_of}
use Rattle.c_parts.specs.Views.{file_part_of}
use Rattle.c_frames.proofs.stack.Stack.pop.Goals as goal

pub returns-clause-taken : goal.returns-clause-taken
returns-clause-taken c = (nest_of c.in_ok-entry.entry.nest, ap (stacked (file_part_of c.args.self.now.file)) c.in_ok-entry.ensures)
