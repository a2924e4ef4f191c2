use Rattle.std.proofs.Common.{rules, ◌≡◌, true}
use Rattle.c_parts.specs.Views.{file_part_of}
use Rattle.c_frames.specs.Readers.{mode_of}
use Rattle.c_reading.specs.Code as code
use Rattle.c_reader.proofs.Bottoms.{below_all}
use Rattle.c_reader.proofs.file.file_end.Goals as goal

pub returns : goal.returns
returns c =
    let stack = c.args.context.stack in
    let between : code.is_in_file (mode_of c.args.mode) ≡ true = search rules in
    (between, below_all (file_part_of stack.file) stack.entries)
