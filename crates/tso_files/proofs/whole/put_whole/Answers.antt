use Rattle.std.proofs.Common.{arith, length}
use Rattle.std.proofs.lemmas.Slice.{between_to_end}
use Rattle.tso_files.proofs.Writing.{put_more}
use Rattle.tso_files.proofs.whole.put_whole.Goals as goal

pub loop-taken-preserved : goal.loop-taken-preserved
loop-taken-preserved g c = put_more (g.K.Sink.view c.args.out.now) (g.K.Sink.view c.loop-taken.out) (g.K.Sink.view c.put.new.self) c.args.lines.now c.loop-taken.taken c.loop-taken.invariant (omega arith) c.in-Ok.count _ (between_to_end c.args.lines.now c.loop-taken.taken (length c.args.lines.now) (omega arith)) c.in-Ok.ensures.puts
