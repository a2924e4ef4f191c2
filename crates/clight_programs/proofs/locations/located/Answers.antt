use Rattle.std.proofs.Common.{arith}
use Rattle.clight_programs.proofs.Marking.{located_memory, located_temp, located_end}
use Rattle.clight_programs.proofs.locations.located.Goals as goal
use Rattle.clight_programs.proofs.locations.located.Goals.{then-is_in_memory, else-is_in_memory}

pub loop-is_in_memory-preserved : goal.loop-is_in_memory-preserved
loop-is_in_memory-preserved c =
    elim c.if-is_in_memory.branch [
      | then-is_in_memory w ↦
          record {
            made = located_memory _ _ _ _ _ _ c.args.marks.now c.loop-is_in_memory.is_in_memory-index _ c.loop-is_in_memory-test.true w.if-is_in_memory.true w.temps-is w.memory-is c.in_ok-put_location.ensures c.loop-is_in_memory.invariant.made;
            many = omega arith;
          }
      | else-is_in_memory w ↦
          record {
            made = located_temp _ _ _ _ _ _ c.args.marks.now c.loop-is_in_memory.is_in_memory-index _ c.loop-is_in_memory-test.true w.if-is_in_memory.false w.temps-is w.memory-is c.in_ok-put_location.ensures c.loop-is_in_memory.invariant.made;
            many = omega arith;
          }
    ]

pub returns : goal.returns
returns c = located_end _ _ _ c.args.marks.now c.loop-is_in_memory.is_in_memory-index _ c.loop-is_in_memory-test.false c.loop-is_in_memory.invariant.made
