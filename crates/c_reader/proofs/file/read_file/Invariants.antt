use Rattle.c_frames.specs.Readers.{reader_of}
use Rattle.c_reader.proofs.Answered.{IsLeft}
use Rattle.c_reader.proofs.file.read_file.Given as goal

abbrev pub invariant-loop-listed : goal.invariant-loop-listed
invariant-loop-listed l = IsLeft l.bytes l.listed-items l.listed-index (reader_of l.mode l.context)
