-- What the text of a schedule and what it plays on lead to, where memory is found: a bad line of the text, else the lines of the replay; and before that, for an assembly text, a bad line of its own. This project's own. Relations between whole texts; the code reads line by line and plays step by step.
use Rattle.std.specs.Prelude.{ℕ, List, Result, Ok, Err}
use Rattle.schedule_text.specs.declared.played.Replay.{Replay}
use Rattle.schedule_text.specs.declared.played.ReplayRefusal.{ReplayRefusal}
use Rattle.schedule_text.specs.declared.played.ReplayRefusal.TheVariants as refusal
use Rattle.schedule_text.specs.declared.schedule.Line.{Line}
use Rattle.schedule_text.specs.Printed.{replay_text, not_a_run_text}
use Rattle.schedule_text.specs.Schedules.{ScheduleOf, IsFirstBad}
use Rattle.x86_lang.specs.declared.assembly.Parts.{Parts}
use Rattle.x86_lang.specs.Assembly.{Assembly, assembly_of}
use Rattle.x86_text.specs.Bad.{IsBadText}
use Rattle.x86_text.specs.Text.{AsmOf}
use Rattle.x86_run.specs.Target.{IsReplayOf}
use Rattle.tso_status.specs.declared.status.Status.{Status}
use Rattle.tso_status.specs.declared.status.Status.TheVariants.{Done, BadText, BadSchedule, NotARun}
use Rattle.tso_status.specs.Statuses.{line_of}

-- the lines of a schedule, played from a beginning: all of them, or the first that is not enabled behind the events before it. What a replay answers there is given
pub data Playing (IsReplay : Result Replay ReplayRefusal → Type 0) : Status → List ℕ → Type 0 where
  Plays : (r : Replay) → IsReplay (Ok r) → Playing IsReplay Done (replay_text r.events.items r.end)
  Stops : (number : ℕ) (before : Replay) → IsReplay (Err (refusal.NotARun number before)) → Playing IsReplay (NotARun number) (not_a_run_text number before.events.items)

-- the text of a schedule: its first bad line, or its lines lead on
pub data Scheduling (next : List Line → Status → List ℕ → Type 0) (bytes : List ℕ) : Status → List ℕ → Type 0 where
  IsNoSchedule : (number : ℕ) → IsFirstBad bytes number → Scheduling next bytes (BadSchedule number) (line_of (BadSchedule number))
  IsSchedule : (lines : List Line) (status : Status) (printed : List ℕ) → ScheduleOf bytes lines → next lines status printed → Scheduling next bytes status printed

-- an assembly text: its first bad line, or its assembly leads on
pub data Assembling (next : Assembly → Status → List ℕ → Type 0) (text : List ℕ) : Status → List ℕ → Type 0 where
  IsNoText : (number : ℕ) → IsBadText text number → Assembling next text (BadText number) (line_of (BadText number))
  IsText : (p : Parts) (status : Status) (printed : List ℕ) → AsmOf text p → next (assembly_of p) status printed → Assembling next text status printed

-- a replay on an assembly text
abbrev pub Targeting : (text schedule : List ℕ) → Status → List ℕ → Type 0
Targeting text schedule status printed = Assembling (λ a s ps. Scheduling (λ lines. Playing (IsReplayOf a lines)) schedule s ps) text status printed
