-- ClightTSO programs as replays see them (a rule of this project): what a step of a schedule gives on the machine, and how the machine ends. The steps are those of the machine over ClightTSO's threads, of which the compiler theorem speaks.
use Rattle.std.specs.Prelude.{◌≡◌, List, Option, Result}
use Rattle.std.specs.Option.{option_map}
use Rattle.tso_core.specs.declared.Event.{Event}
use Rattle.tso_core.specs.declared.Step.{Step}
use Rattle.tso_core.specs.declared.offer.Now.{Now}
use Rattle.tso_core.specs.declared.offer.Now.TheVariants as N
use Rattle.tso_core.specs.Machine.{MachineState, step, open_machine}
use Rattle.tso_machine.specs.Choices.{IsChosen}
use Rattle.schedule_text.specs.declared.played.End.{End}
use Rattle.schedule_text.specs.declared.played.End.TheVariants as E
use Rattle.schedule_text.specs.declared.played.Replay.{Replay}
use Rattle.schedule_text.specs.declared.played.ReplayRefusal.{ReplayRefusal}
use Rattle.schedule_text.specs.declared.schedule.Line.{Line}
use Rattle.schedule_text.specs.Plays.{Outcome, Replays}
use Rattle.clight_lang.specs.State.{State}
use Rattle.clight_lang.specs.Meaning.{ProgramOf, language}
use Rattle.clight_lang.specs.Placed.{default_places}

-- a program, and a state of the machine that runs it
pub record Source : Type 0 where
  pub program : ProgramOf
  pub machine : MachineState State

-- a step of the machine, with the program beside the state after it
abbrev pub outcome_of : Source → Option (Option Event × MachineState State) → Outcome Source
outcome_of a o = option_map (λ r. (r.0, record a { machine = r.1 })) o

-- what a step of a schedule gives: what the machine's step gives, with the default choice where the schedule gives none
pub record SourceGives (a : Source) (x : Step) (o : Outcome Source) : Type 0 where
  pub taken : Step
  pub chosen : IsChosen (language a.program) a.machine x taken
  pub gives : o ≡ outcome_of a (step (language a.program) a.machine taken)

-- how a machine ends
abbrev pub end_with : Now → End
end_with N.Running = E.Running
end_with N.Exited = E.Exited
end_with N.Wrong = E.Wrong
end_with N.NoHeap = E.NoHeap

abbrev pub end_of_source : Source → End
end_of_source a = end_with a.machine.shared.now

-- a program as it begins, with its names at their default places
abbrev pub opening_of : ProgramOf → Source
opening_of p = record { program = p; machine = (open_machine (language p)).opening (default_places p.globals) }

-- what a replay of a program from its beginning answers, want of memory aside
abbrev pub IsReplayOf : ProgramOf → List Line → Result Replay ReplayRefusal → Type 0
IsReplayOf p lines result = (end : Source) × Replays SourceGives end_of_source lines (opening_of p) end result
