use Rattle.clight_lang.specs.Meaning.{language}
use Rattle.clight_run.proofs.replaying.opened.Goals as goal

pub made-requires : goal.made-requires
unfolding language
made-requires c = c.in_ok-at.ensures.proper
