use Rattle.std.proofs.Common.{ap}
use Rattle.c_frames.specs.Frames.{stacked}
use Rattle.c_frames.specs.Nests.{nest_of}
use Rattle.c_parts.specs.Views.{file_part_of}
use Rattle.c_frames.proofs.stack.Stack.top.Goals as goal

pub returns-in-Some : goal.returns-in-Some
returns-in-Some c =
    let file = file_part_of c.args.self.now.file in
    (nest_of c.in-Some.entry.now.nest, stacked file c.in-Some.ensures.0, ap (stacked file) c.in-Some.ensures.1)
