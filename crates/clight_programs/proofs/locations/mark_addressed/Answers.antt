use Rattle.clight_programs.proofs.Marking.{marked_next, marked_end}
use Rattle.clight_programs.proofs.locations.mark_addressed.Goals as goal

pub loop-n-preserved : goal.loop-n-preserved
loop-n-preserved c = marked_next _ _ _ c.args.addressed.now c.loop-n.n-index c.loop-n-test.true c.mark.ensures c.loop-n.invariant

pub returns : goal.returns
returns c = marked_end _ _ c.args.addressed.now c.loop-n.n-index c.loop-n-test.false c.loop-n.invariant
