-- The placement is proper.
use Rattle.std.proofs.Common.{sym, subst}
use Rattle.tso_core.specs.Runs.{IsProper}
use Rattle.toy_machines.specs.Meaning.{language, x_alone}
use Rattle.toy_machines.proofs.Proper.{x_proper}
use Rattle.toy_machines.proofs.opened.script_machine.Goals as goal

pub made-requires : goal.made-requires
unfolding language
made-requires c = subst (IsProper x_alone) (sym c.in_ok-at.ensures) x_proper
