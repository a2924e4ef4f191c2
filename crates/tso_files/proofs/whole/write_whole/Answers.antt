use Rattle.std.proofs.Common.{arith, length}
use Rattle.std.proofs.lemmas.Slice.{between_to_end}
use Rattle.tso_files.proofs.Writing.{wrote_more}
use Rattle.tso_files.proofs.whole.write_whole.Goals as goal

pub loop-taken-preserved : goal.loop-taken-preserved
loop-taken-preserved g c = wrote_more (g.S.Store.view c.args.store.now) (g.S.Store.view c.loop-taken.store) (g.S.Store.view c.append.new.self) c.args.name.now c.args.text.now c.loop-taken.taken c.loop-taken.invariant c.in-Ok.count _ (between_to_end c.args.text.now c.loop-taken.taken (length c.args.text.now) (omega arith)) c.in-Ok.ensures.appends
