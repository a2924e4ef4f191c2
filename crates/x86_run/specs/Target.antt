-- Assemblies as replays see them (a rule of this project): what a step of a schedule gives on the machine, and how the machine ends. The steps are those of the x86-TSO machine, of which the compiler theorem speaks.
use Rattle.std.specs.Prelude.{◌≡◌, List, Option, Result}
use Rattle.std.specs.Option.{option_map}
use Rattle.tso_core.specs.declared.Event.{Event}
use Rattle.tso_core.specs.declared.Step.{Step}
use Rattle.schedule_text.specs.declared.played.End.{End}
use Rattle.schedule_text.specs.declared.played.End.TheVariants as E
use Rattle.schedule_text.specs.declared.played.Replay.{Replay}
use Rattle.schedule_text.specs.declared.played.ReplayRefusal.{ReplayRefusal}
use Rattle.schedule_text.specs.declared.schedule.Line.{Line}
use Rattle.schedule_text.specs.Plays.{Outcome, Replays}
use Rattle.x86_lang.specs.Assembly.{Assembly}
use Rattle.x86_machine.specs.declared.now.X86Now.{X86Now}
use Rattle.x86_machine.specs.declared.now.X86Now.TheVariants as now
use Rattle.x86_machine.specs.Target.{State}
use Rattle.x86_machine.specs.X86Tso.{step, opening}
use Rattle.x86_machine.specs.X86Tso as tso
use Rattle.x86_machine.specs.Choices.{IsChosen}

-- an assembly, and a state of the machine that runs it
pub record Target : Type 0 where
  pub assembly : Assembly
  pub machine : State

-- a step of the machine, with the assembly beside the state after it
abbrev pub outcome_of : Target → tso.Outcome → Outcome Target
outcome_of a o = option_map (λ (r : Option Event × State). (r.0, record a { machine = r.1 })) o

-- what a step of a schedule gives: what the machine's step gives, with the default choice where the schedule gives none
pub record TargetGives (a : Target) (x : Step) (o : Outcome Target) : Type 0 where
  pub taken : Step
  pub chosen : IsChosen a.assembly a.machine x taken
  pub gives : o ≡ outcome_of a (step a.assembly a.machine taken)

-- how a machine ends
abbrev pub end_with : X86Now → End
end_with now.Running = E.Running
end_with now.Exited = E.Exited
end_with now.Fault = E.Fault
end_with now.NoStack = E.NoStack
end_with now.NoHeap = E.NoHeap

abbrev pub end_of_target : Target → End
end_of_target a = end_with a.machine.now

-- an assembly as it begins, with its labels at their addresses
abbrev pub opening_of : Assembly → Target
opening_of a = record { assembly = a; machine = opening a a.labels }

-- what a replay of an assembly from its beginning answers, want of memory aside
abbrev pub IsReplayOf : Assembly → List Line → Result Replay ReplayRefusal → Type 0
IsReplayOf a lines result = (end : Target) × Replays TargetGives end_of_target lines (opening_of a) end result
