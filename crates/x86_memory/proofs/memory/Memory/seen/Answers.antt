use Rattle.std.proofs.Common.{arith}
use Rattle.x86_memory.specs.Kept.{bytes_in}
use Rattle.x86_memory.proofs.Writes.{view-found, view-passed}
use Rattle.x86_memory.proofs.memory.Memory.seen.Goals as goal

pub returns-in-Some : goal.returns-in-Some
returns-in-Some c = view-found (bytes_in c.args.self.now) c.args.writes.now c.loop-count.count c.args.x _ c.in-Some.byte c.loop-count-test.true c.loop-count.invariant.within c.loop-count.invariant.passed c.in-Some.ensures

pub loop-count-preserved : goal.loop-count-preserved
loop-count-preserved c = record {
  within = omega (arith, c.loop-count.invariant.within);
  passed = view-passed (bytes_in c.args.self.now) c.args.writes.now c.loop-count.count c.args.x _ c.loop-count-test.true c.loop-count.invariant.within c.loop-count.invariant.passed c.in-None.ensures;
}
