use Rattle.std.proofs.Common.{sym, subst}
use Rattle.tso_status.specs.declared.status.Status.{Status}
use Rattle.tso_status.specs.declared.status.Status.TheVariants.{WriteFault}
use Rattle.tso_top.specs.Answers.{CutsOff, ByFault, Stays}
use Rattle.tso_top.proofs.commands.cut_off.Goals as goal

pub returns-in-Done : goal.returns-in-Done
returns-in-Done c = let P : Status → Type 0 = λ s. CutsOff s WriteFault in subst P (sym c.in-Done.is) ByFault

pub returns-in_default : goal.returns-in_default
returns-in_default c = Stays c.args.status c.in_default.not-Done
