-- What holds of replays of programs, for the laws.
use Rattle.std.specs.Prelude.{◌≡◌, min, length, List, Result, Ok, Err}
use Rattle.tso_core.specs.declared.Step.{Step}
use Rattle.tso_core.specs.Systems.{Status, IsRun, shown, after}
use Rattle.tso_core.specs.Systems as S
use Rattle.tso_core.specs.Machine.{machine}
use Rattle.schedule_text.specs.declared.played.End.{End}
use Rattle.schedule_text.specs.declared.played.End.TheVariants as E
use Rattle.schedule_text.specs.declared.played.Replay.{Replay}
use Rattle.schedule_text.specs.declared.played.ReplayRefusal.{ReplayRefusal}
use Rattle.schedule_text.specs.declared.played.ReplayRefusal.TheVariants.{NotARun, NoMemory}
use Rattle.schedule_text.specs.declared.schedule.Line.{Line}
use Rattle.schedule_text.specs.Laws.{SameAnswer}
use Rattle.clight_lang.specs.Meaning.{ProgramOf, language}
use Rattle.clight_lang.specs.Placed.{default_places}
use Rattle.clight_run.specs.Source.{IsReplayOf}

-- two replays of one schedule on one program answer the same
abbrev pub HaveOneReplay : Type 0
HaveOneReplay = (p : ProgramOf) (lines : List Line) (a b : Result Replay ReplayRefusal) → IsReplayOf p lines a → IsReplayOf p lines b → SameAnswer a b

-- how a machine ends that has this status
abbrev pub end_at : Status → End
end_at S.Running = E.Running
end_at S.Exited = E.Exited
end_at S.Wrong = E.Wrong
end_at S.NoHeap = E.NoHeap
end_at S.NoStack = E.NoStack

-- the replay is that of a run of the program's machine, of which the compiler theorem speaks, from its opening at the default placement: its events, its count and its end
pub record IsOfRun (p : ProgramOf) (r : Replay) : Type 0 where
  pub steps : List Step
  pub runs : IsRun (machine (language p)) ((machine (language p)).opening (default_places p.globals)) steps
  pub events : r.events.items ≡ shown (machine (language p)) ((machine (language p)).opening (default_places p.globals)) steps
  pub taken : r.taken ≡ min (length steps) 18446744073709551615
  pub ends : r.end ≡ end_at ((machine (language p)).status (after (machine (language p)) ((machine (language p)).opening (default_places p.globals)) steps))

-- what is answered is a replay of a run, also where a line is not enabled
abbrev pub AnswersOfRun : ProgramOf → Result Replay ReplayRefusal → Type 0
AnswersOfRun p (Ok r) = IsOfRun p r
AnswersOfRun p (Err (NotARun number r)) = IsOfRun p r
AnswersOfRun p (Err NoMemory) = Unit {0}

abbrev pub ReplaysAreRuns : Type 0
ReplaysAreRuns = (p : ProgramOf) (lines : List Line) (a : Result Replay ReplayRefusal) → IsReplayOf p lines a → AnswersOfRun p a
