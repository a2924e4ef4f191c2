use Rattle.clight_placing.specs.InnerOf.{inner_of}
use Rattle.clight_programs.proofs.Steps.{local_next}
use Rattle.clight_programs.proofs.locals.memory_locals.Goals as goal

pub loop-n-preserved : goal.loop-n-preserved
loop-n-preserved c = local_next (inner_of c.args.inner.now) c.args.locals.now c.loop-n.n _ _ _ _ c.local_type-t.ensures c.location-location.ensures c.in_ok-put_local.ensures c.loop-n.invariant
