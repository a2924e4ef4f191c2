-- What the law ensures.
use Rattle.toy_passes.proofs.pipeline.second_pass.Goals as goal

pub returns : goal.returns
returns c = c.sim_lifts.ensures
