-- The placement is proper in every machine.
use Rattle.tso_machine.proofs.Properly.{IsProper-placed}
use Rattle.tso_machine.proofs.machine.Machine.step.Goals as goal

pub take_step-requires : goal.take_step-requires
take_step-requires g c = record { proper = IsProper-placed (g.L.ThreadLang.language c.args.self.now.program.now).globals c.args.self.now.at c.args.self.now.proper }
