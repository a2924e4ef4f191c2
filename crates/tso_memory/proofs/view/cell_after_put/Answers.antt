use Rattle.std.proofs.Common.{◌-◌, arith}
use Rattle.tso_words.specs.Words.{chunk_size}
use Rattle.tso_memory.proofs.Views.{cell_put_byte}
use Rattle.tso_memory.proofs.view.cell_after_put.Goals as goal

pub returns : goal.returns
returns c = cell_put_byte c.args.chunk c.args.addr c.args.val c.in-Word.a c.args.x c.size_of_chunk.result (4 - chunk_size c.args.chunk) c.bytes_of.result c.args.cell c.in-Word.is (omega arith) (omega arith) c.size_of_chunk.ensures c.bytes_of.ensures
