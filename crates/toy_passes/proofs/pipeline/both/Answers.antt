-- What the law ensures, at the two passes.
use Rattle.toy_passes.proofs.pipeline.both.Goals as goal

pub returns : goal.returns
returns c = c.refines_compose.ensures 1 2 c.in_ok-two.ensures c.in_ok-three.ensures
