use Rattle.clight_globals.proofs.Words.{next_byte}
use Rattle.clight_globals.proofs.bytes.put_word.Goals as goal

pub loop-preserved : goal.loop-preserved
loop-preserved c = next_byte c.loop.bytes.items c.push.new.list.items _ c.loop.left c.args.count c.loop.counter c.loop-test.true c.in_ok-push.ensures c.loop.invariant
