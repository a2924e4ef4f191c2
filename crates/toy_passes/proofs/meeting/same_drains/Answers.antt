-- What the law ensures.
use Rattle.toy_passes.proofs.meeting.same_drains.Goals as goal

pub returns : goal.returns
returns c = c.drains_are_answered.ensures
