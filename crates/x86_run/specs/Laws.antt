-- What holds of replays of assemblies, for the laws.
use Rattle.std.specs.Prelude.{◌≡◌, min, length, List, Result, Ok, Err}
use Rattle.tso_core.specs.declared.Step.{Step}
use Rattle.tso_core.specs.Systems.{Status, IsRun, shown, after}
use Rattle.tso_core.specs.Systems as S
use Rattle.schedule_text.specs.declared.played.End.{End}
use Rattle.schedule_text.specs.declared.played.End.TheVariants as E
use Rattle.schedule_text.specs.declared.played.Replay.{Replay}
use Rattle.schedule_text.specs.declared.played.ReplayRefusal.{ReplayRefusal}
use Rattle.schedule_text.specs.declared.played.ReplayRefusal.TheVariants.{NotARun, NoMemory}
use Rattle.schedule_text.specs.declared.schedule.Line.{Line}
use Rattle.schedule_text.specs.Laws.{SameAnswer}
use Rattle.x86_lang.specs.Assembly.{Assembly}
use Rattle.x86_machine.specs.X86Tso.{x86_machine}
use Rattle.x86_run.specs.Target.{IsReplayOf}

-- two replays of one schedule on one assembly answer the same
abbrev pub HaveOneReplay : Type 0
HaveOneReplay = (p : Assembly) (lines : List Line) (a b : Result Replay ReplayRefusal) → IsReplayOf p lines a → IsReplayOf p lines b → SameAnswer a b

-- how a machine ends that has this status; Wrong is a fault
abbrev pub end_at : Status → End
end_at S.Running = E.Running
end_at S.Exited = E.Exited
end_at S.Wrong = E.Fault
end_at S.NoHeap = E.NoHeap
end_at S.NoStack = E.NoStack

-- the replay is that of a run of the assembly's machine, of which the compiler theorem speaks, from its opening at its labels' addresses: its events, its count and its end
pub record IsOfRun (p : Assembly) (r : Replay) : Type 0 where
  pub steps : List Step
  pub runs : IsRun (x86_machine p) ((x86_machine p).opening p.labels) steps
  pub events : r.events.items ≡ shown (x86_machine p) ((x86_machine p).opening p.labels) steps
  pub taken : r.taken ≡ min (length steps) 18446744073709551615
  pub ends : r.end ≡ end_at ((x86_machine p).status (after (x86_machine p) ((x86_machine p).opening p.labels) steps))

-- what is answered is a replay of a run, also where a line is not enabled
abbrev pub AnswersOfRun : Assembly → Result Replay ReplayRefusal → Type 0
AnswersOfRun p (Ok r) = IsOfRun p r
AnswersOfRun p (Err (NotARun number r)) = IsOfRun p r
AnswersOfRun p (Err NoMemory) = Unit {0}

abbrev pub ReplaysAreRuns : Type 0
ReplaysAreRuns = (p : Assembly) (lines : List Line) (a : Result Replay ReplayRefusal) → IsReplayOf p lines a → AnswersOfRun p a
