use Rattle.std.proofs.Common.{refl}
use Rattle.x86_lines.specs.Reading.{number_in}
use Rattle.x86_lines.proofs.NumberRead.{told_at}
use Rattle.x86_lines.proofs.number.number_of.Goals as goal

pub returns : goal.returns
returns c = told_at c.args.word.now (number_in c.args.word.now) c.found_number.result refl c.found_number.ensures
