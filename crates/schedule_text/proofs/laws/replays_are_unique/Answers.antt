use Rattle.schedule_text.proofs.OneReplay.{one_replay}
use Rattle.schedule_text.proofs.laws.replays_are_unique.Goals as goal

pub returns : goal.returns
returns g c = one_replay g.M.Replayed.steps g.M.Replayed.end_of
