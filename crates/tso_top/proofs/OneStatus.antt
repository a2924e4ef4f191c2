-- The files ask for one status of a command.
use Rattle.std.proofs.Common.{◌≡◌, ℕ, List, refl, sym, ◌∙◌, ap, subst, Option, Result, Ok, Err, inr, arith}
use Rattle.schedule_text.specs.declared.played.Replay.{Replay}
use Rattle.schedule_text.specs.declared.played.ReplayRefusal.{ReplayRefusal}
use Rattle.schedule_text.specs.declared.played.ReplayRefusal.TheVariants as replaying
use Rattle.schedule_text.specs.declared.schedule.Line.{Line}
use Rattle.schedule_text.specs.Laws.{SameAnswer}
use Rattle.schedule_text.specs.Text.{lines_of}
use Rattle.schedule_text.proofs.OneReplay.{one_replay}
use Rattle.schedule_text.proofs.Progress as schedules
use Rattle.clight_lang.specs.Meaning.{ProgramOf}
use Rattle.clight_front.specs.Fronts as front
use Rattle.clight_front.proofs.OneFront.{one_front}
use Rattle.clight_run.specs.Source as source
use Rattle.clight_run.proofs.OneStep.{one_step as source_step}
use Rattle.x86_lang.specs.Assembly.{Assembly, assembly_of}
use Rattle.x86_text.proofs.OneSaying.{one_asm}
use Rattle.x86_text.proofs.OneBad as texts
use Rattle.x86_text.proofs.Excluded.{asm_has_no_bad}
use Rattle.x86_run.specs.Target as target
use Rattle.x86_run.proofs.OneStep.{one_step as target_step}
use Rattle.tso_outside.specs.Views.{Files, held}
use Rattle.tso_status.specs.declared.status.Status.{Status}
use Rattle.tso_status.specs.declared.status.Status.TheVariants.{Syntax, TooDeep, Types, TooLarge, BadText, BadSchedule, NotARun}
use Rattle.tso_top.specs.Commands.{Command, Compile, Source, Target, Outcome, Reading, Missing, Passes, Within, ReadingBoth, Fronting, IsNoFile, IsTooDeep, IsFaulty, IsTooLarge, IsProgram, Building, IsBuilt, IsNotBuilt, Compiling, Sourcing, source_limit, text_limit}
use Rattle.tso_top.specs.Replays.{Playing, Plays, Stops, Scheduling, IsNoSchedule, IsSchedule, Assembling, IsNoText, IsText, Targeting}
use Rattle.tso_top.specs.Promise.{Exactly}

abbrev IsOne : {A : Type 0} → (A → Status → List ℕ → Type 0) → Type 0
IsOne {A} next = (a : A) (s : Status) (lines : List ℕ) → next a s lines → (t : Status) (others : List ℕ) → next a t others → s ≡ t

reading_one : (limit : ℕ) (next : List ℕ → Status → List ℕ → Type 0) → IsOne next → IsOne (Reading limit next)
reading_one limit next one o s lines Missing t others Missing = refl
reading_one limit next one o s lines (Passes b p) t others (Passes c q) = refl
reading_one limit next one o s lines (Passes b p) t others (Within c status printed within rest) = absurd (omega arith)
reading_one limit next one o s lines (Within b status printed within rest) t others (Passes c q) = absurd (omega arith)
reading_one limit next one o s lines (Within b s1 l1 within rest) t others (Within c t1 m1 within2 rest2) = one b s1 l1 rest t1 m1 rest2

-- ## A C file

-- what the answer of the front end leads to
abbrev Leads : (ProgramOf → Status → List ℕ → Type 0) → front.Answer → Status → List ℕ → Type 0
Leads next (front.Program p) s lines = next p s lines
Leads next (front.Rule rule at) s lines = s ≡ Types rule at
Leads next (front.Count count at) s lines = s ≡ TooLarge count at
Leads next (front.Syntax at) s lines = s ≡ Syntax at
Leads next (front.TooDeep at) s lines = s ≡ TooDeep at

split : (next : ProgramOf → Status → List ℕ → Type 0) (bytes : List ℕ) (s : Status) (lines : List ℕ) → Fronting next bytes s lines → (a : front.Answer) × front.IsFront bytes a × Leads next a s lines
split next bytes s lines (IsNoFile at h) = (front.Syntax at, h, refl)
split next bytes s lines (IsTooDeep at h) = (front.TooDeep at, h, refl)
split next bytes s lines (IsFaulty rule at h) = (front.Rule rule at, h, refl)
split next bytes s lines (IsTooLarge count at h) = (front.Count count at, h, refl)
split next bytes s lines (IsProgram p t ls h rest) = (front.Program p, h, rest)

one_lead : (next : ProgramOf → Status → List ℕ → Type 0) → IsOne next → IsOne (Leads next)
one_lead next one (front.Program p) s lines h t others k = one p s lines h t others k
one_lead next one (front.Rule rule at) s lines h t others k = h ∙ sym k
one_lead next one (front.Count count at) s lines h t others k = h ∙ sym k
one_lead next one (front.Syntax at) s lines h t others k = h ∙ sym k
one_lead next one (front.TooDeep at) s lines h t others k = h ∙ sym k

fronting_one : (next : ProgramOf → Status → List ℕ → Type 0) → IsOne next → IsOne (λ bytes. Fronting next bytes)
fronting_one next one bytes s lines h t others k =
    let x = split next bytes s lines h in
    let y = split next bytes t others k in
    one_lead next one x.0 s lines x.2 t others (subst (λ (a : front.Answer). Leads next a t others) (sym (one_front bytes x.0 y.0 x.1 y.1)) y.2)

building_one : (bytes : List ℕ) → IsOne (Building bytes)
building_one bytes p s lines (IsBuilt n h) t others (IsBuilt m k) = refl
building_one bytes p s lines (IsBuilt n h) t others (IsNotBuilt none) = absurd (none n h)
building_one bytes p s lines (IsNotBuilt none) t others (IsBuilt m k) = absurd (none m k)
building_one bytes p s lines (IsNotBuilt none) t others (IsNotBuilt other) = refl

compiling_one : IsOne Compiling
compiling_one bytes = fronting_one (Building bytes) (building_one bytes) bytes

-- ## Replays

-- two answers are the same, want of memory aside
abbrev IsSingle : (Result Replay ReplayRefusal → Type 0) → Type 0
IsSingle IsReplay = (a b : Result Replay ReplayRefusal) → IsReplay a → IsReplay b → SameAnswer a b

playing_one : (IsReplay : Result Replay ReplayRefusal → Type 0) → IsSingle IsReplay → (s : Status) (ps : List ℕ) → Playing IsReplay s ps → (t : Status) (qs : List ℕ) → Playing IsReplay t qs → s ≡ t
playing_one IsReplay one s ps (Plays r h) t qs (Plays q k) = refl
playing_one IsReplay one s ps (Plays r h) t qs (Stops n q k) = absurd (one (Ok r) (Err (replaying.NotARun n q)) h k)
playing_one IsReplay one s ps (Stops n r h) t qs (Plays q k) = absurd (one (Err (replaying.NotARun n r)) (Ok q) h k)
playing_one IsReplay one s ps (Stops n r h) t qs (Stops m q k) = ap NotARun (one (Err (replaying.NotARun n r)) (Err (replaying.NotARun m q)) h k).0

source_single : (p : ProgramOf) (lines : List Line) → IsSingle (source.IsReplayOf p lines)
source_single p lines a b h k = one_replay source.SourceGives source.end_of_source source_step lines (source.opening_of p) h.0 k.0 a b h.1 k.1

target_single : (a : Assembly) (lines : List Line) → IsSingle (target.IsReplayOf a lines)
target_single a lines x y h k = one_replay target.TargetGives target.end_of_target target_step lines (target.opening_of a) h.0 k.0 x y h.1 k.1

scheduling_one : (next : List Line → Status → List ℕ → Type 0) → IsOne next → IsOne (Scheduling next)
scheduling_one next one bytes s ps (IsNoSchedule n h) t qs (IsNoSchedule m k) = ap BadSchedule (schedules.one_bad bytes n m h k)
scheduling_one next one bytes s ps (IsNoSchedule n h) t qs (IsSchedule lines t1 q1 k rest) = absurd (schedules.not_both bytes lines n k h)
scheduling_one next one bytes s ps (IsSchedule lines s1 p1 h rest) t qs (IsNoSchedule m k) = absurd (schedules.not_both bytes lines m h k)
scheduling_one next one bytes s ps (IsSchedule lines s1 p1 h rest) t qs (IsSchedule others t1 q1 k rest2) =
    let P : List Line → Type 0 = λ x. next x t1 q1 in
    one lines s1 p1 rest t1 q1 (subst P (schedules.one_schedule 1 (lines_of bytes) others lines k h) rest2)

assembling_one : (next : Assembly → Status → List ℕ → Type 0) → IsOne next → IsOne (Assembling next)
assembling_one next one text s ps (IsNoText n h) t qs (IsNoText m k) = ap BadText (texts.one_bad text n m h k)
assembling_one next one text s ps (IsNoText n h) t qs (IsText p t1 q1 k rest) = absurd (asm_has_no_bad text p n k h)
assembling_one next one text s ps (IsText p s1 p1 h rest) t qs (IsNoText m k) = absurd (asm_has_no_bad text p m h k)
assembling_one next one text s ps (IsText p s1 p1 h rest) t qs (IsText q t1 q1 k rest2) =
    let P : Assembly → Type 0 = λ x. next x t1 q1 in
    one (assembly_of p) s1 p1 rest t1 q1 (subst P (ap assembly_of (one_asm text q p k h)) rest2)

sourcing_one : (schedule : List ℕ) → IsOne (λ bytes s ps. Sourcing bytes schedule s ps)
sourcing_one schedule = fronting_one (λ p. Scheduling (λ lines. Playing (source.IsReplayOf p lines)) schedule) (λ p. scheduling_one (λ lines. Playing (source.IsReplayOf p lines)) (λ lines. playing_one (source.IsReplayOf p lines) (source_single p lines)) schedule)

targeting_one : (schedule : List ℕ) → IsOne (λ text s ps. Targeting text schedule s ps)
targeting_one schedule = assembling_one (λ a s ps. Scheduling (λ lines. Playing (target.IsReplayOf a lines)) schedule s ps) (λ a. scheduling_one (λ lines. Playing (target.IsReplayOf a lines)) (λ lines. playing_one (target.IsReplayOf a lines) (target_single a lines)) schedule)

-- ## The commands

both_one : (limit limit_of_second : ℕ) (next : List ℕ → List ℕ → Status → List ℕ → Type 0) → ((b : List ℕ) → IsOne (λ a. next a b)) → (second : Option (List ℕ)) → IsOne (λ first. ReadingBoth limit limit_of_second next first second)
both_one limit limit_of_second next one second = reading_one limit (λ a s ls. Reading limit_of_second (next a) second s ls) (λ a. reading_one limit_of_second (next a) (λ b. one b a) second)

outcome_one : (c : Command) → IsOne (Outcome c)
outcome_one (Compile i o) files = reading_one source_limit Compiling compiling_one (held files i)
outcome_one (Source i j) files = both_one source_limit text_limit Sourcing sourcing_one (held files j) (held files i)
outcome_one (Target i j) files = both_one text_limit text_limit Targeting targeting_one (held files j) (held files i)

-- a status that the files ask for is the only one
pub exactly : (c : Command) (files : Files) (s : Status) (lines : List ℕ) → Outcome c files s lines → Exactly c files s
exactly c files s lines h = record { must = λ asked others other. inr (outcome_one c files s lines h asked others other); only = inr (lines, h) }

pub one_status : (c : Command) (files : Files) (s t : Status) (lines others : List ℕ) → Outcome c files s lines → Outcome c files t others → s ≡ t
one_status c files s t lines others h k = outcome_one c files s lines h t others k
