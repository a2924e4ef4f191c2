-- What the law ensures.
use Rattle.toy_passes.proofs.meeting.one_refines_two.Goals as goal

pub returns : goal.returns
returns c = c.lagging_lifts.ensures
