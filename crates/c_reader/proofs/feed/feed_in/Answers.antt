use Rattle.c_reading.specs.Code.{feed_in}
use Rattle.c_frames.specs.Frames.{stack_of}
use Rattle.c_reader.proofs.feed.feed_in.Goals as goal

pub returns-in-AfterDo : goal.returns-in-AfterDo
unfolding feed_in
returns-in-AfterDo c = rw c.in-AfterDo.is (c.on_after_do.ensures (stack_of c.args.context.now.stack) c.args.context.now.names)

pub returns-in-Access : goal.returns-in-Access
unfolding feed_in
returns-in-Access c = rw c.in-Access.is (c.on_access.ensures (stack_of c.args.context.now.stack) c.args.context.now.names)
