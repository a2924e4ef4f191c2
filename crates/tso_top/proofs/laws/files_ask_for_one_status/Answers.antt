use Rattle.tso_top.proofs.OneStatus.{one_status}
use Rattle.tso_top.proofs.laws.files_ask_for_one_status.Goals as goal

pub returns : goal.returns
returns c = one_status
