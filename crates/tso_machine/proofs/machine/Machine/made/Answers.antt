-- A placement that is proper stays so.
use Rattle.tso_machine.proofs.Properly.{IsPlaced-proper}
use Rattle.tso_machine.proofs.machine.Machine.made.Goals as goal

pub invariant_of-result : goal.invariant_of-result
invariant_of-result g c = record { proper = IsPlaced-proper (g.L.ThreadLang.language c.args.program.now).globals c.args.at c.requires }
