use Rattle.std.proofs.Common.{ap, ◌∙◌, sym}
use Rattle.tso_memory.specs.Kept.{memory_of, kept_at}
use Rattle.tso_words.specs.Words.{chunk_size}
use Rattle.tso_memory.proofs.ObjectLists.{kept_known, loaded_two, loaded_four, size_two}
use Rattle.tso_memory.proofs.memory.Memory.load.Goals as goal

pub returns-in-I16s : goal.returns-in-I16s
returns-in-I16s c =
    loaded_two (memory_of c.args.self.now) (kept_at c.args.self.now) (kept_known c.args.self.now) c.args.chunk c.args.addr c.val_of-in-I16s.result c.in-Word.x c.cell-in-I16s.result c.cell-in-I16s-2.result c.in-Word.is (sym c.is_right.ensures ∙ c.if-not-is_right.false) (size_two c.args.chunk c.in-I16s.is) c.cell-in-I16s.ensures c.cell-in-I16s-2.ensures c.val_of-in-I16s.ensures

pub returns-in-I32 : goal.returns-in-I32
returns-in-I32 c =
    loaded_four (memory_of c.args.self.now) (kept_at c.args.self.now) (kept_known c.args.self.now) c.args.chunk c.args.addr c.val_of-in-I32.result c.in-Word.x c.cell-in-I32.result c.cell-in-I32-2.result c.cell-in-I32-3.result c.cell-in-I32-4.result c.in-Word.is (sym c.is_right.ensures ∙ c.if-not-is_right.false) (ap chunk_size c.in-I32.is) c.cell-in-I32.ensures c.cell-in-I32-2.ensures c.cell-in-I32-3.ensures c.cell-in-I32-4.ensures c.val_of-in-I32.ensures
