-- What the law ensures.
use Rattle.toy_passes.proofs.pipeline.generic.Goals as goal

pub returns : goal.returns
returns g c = c.refines_compose.ensures 3 4 c.requires.first c.requires.second
