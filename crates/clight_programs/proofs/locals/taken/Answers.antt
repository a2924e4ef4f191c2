use Rattle.clight_placing.specs.InnerOf.{inner_of}
use Rattle.clight_programs.proofs.Steps.{taken_next}
use Rattle.clight_programs.proofs.locals.taken.Goals as goal

pub loop-argument-preserved : goal.loop-argument-preserved
loop-argument-preserved c = taken_next (inner_of c.args.inner.now) c.loop-argument.argument _ _ _ c.location-location.ensures c.in_ok-put_taken.ensures c.loop-argument.invariant
