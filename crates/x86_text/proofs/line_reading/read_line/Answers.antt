use Rattle.x86_text.specs.Spoken.{spoken_of}
use Rattle.x86_text.proofs.LineRead.{made_is}
use Rattle.x86_text.proofs.line_reading.read_line.Goals as goal

pub returns : goal.returns
returns c = made_is c.args.bytes.now (spoken_of c.reading.result) c.line_made.result c.reading.ensures c.line_made.ensures
