-- What the commands that replay answer, from how their files were read and what their bytes lead to.
use Rattle.std.proofs.Common.{◌≡◌, ◌≢◌, ℕ, ◌≤◌, List, [], ◌∷◌, ◌++◌, refl, sym, ◌∙◌, ap, subst, length, Option, Some, None, Result, Ok, Err, inl, inr, Vec, Global}
use Rattle.std.specs.Prelude.{IsErrAnd, codes, decimal}
use Rattle.std.proofs.lemmas.List.{append_assoc}
use Rattle.std.specs.Option.{ForSome}
use Rattle.tso_core.specs.declared.Event.{Event}
use Rattle.schedule_text.specs.declared.played.Replay.{Replay}
use Rattle.schedule_text.specs.declared.played.ReplayRefusal.{ReplayRefusal}
use Rattle.schedule_text.specs.declared.played.ReplayRefusal.TheVariants as replaying
use Rattle.schedule_text.specs.declared.schedule.Line.{Line}
use Rattle.schedule_text.specs.declared.schedule.ScheduleRefusal.{ScheduleRefusal}
use Rattle.schedule_text.specs.declared.schedule.ScheduleRefusal.TheVariants as scheduling
use Rattle.schedule_text.specs.Schedules.{ScheduleOf, IsTold}
use Rattle.schedule_text.specs.Printed.{events_text, not_a_run_text}
use Rattle.clight_lang.specs.Meaning.{ProgramOf}
use Rattle.clight_front.specs.Fronts.{HasProgram, Fronts}
use Rattle.clight_front.specs.declared.fronts.FrontRefusal.{FrontRefusal}
use Rattle.clight_front.specs.declared.fronts.FrontRefusal.TheVariants as front
use Rattle.clight_run.specs.Source.{IsReplayOf as IsSourceReplay}
use Rattle.x86_lang.specs.declared.assembly.Parts.{Parts}
use Rattle.x86_lang.specs.Assembly.{assembly_of}
use Rattle.x86_text.specs.declared.reading.ReadAsmRefusal.{ReadAsmRefusal}
use Rattle.x86_text.specs.declared.reading.ReadAsmRefusal.TheVariants as reading
use Rattle.x86_text.specs.Reading.{IsRefused}
use Rattle.x86_text.specs.Text.{AsmOf}
use Rattle.x86_run.specs.Target.{IsReplayOf}
use Rattle.tso_outside.specs.Views.{Files, held, StoreView, Later, ReadCause}
use Rattle.tso_files.specs.declared.whole.ReadRefusal.{ReadRefusal}
use Rattle.tso_files.specs.declared.whole.ReadRefusal.TheVariants as refusal
use Rattle.tso_files.specs.Whole.{IsWhole, ReadsWhole}
use Rattle.tso_files.proofs.Causes.{later_trans, read_cause_from}
use Rattle.tso_status.specs.declared.status.Status.{Status}
use Rattle.tso_status.specs.declared.status.Status.TheVariants.{Done, Usage, ReadFault, WriteFault, TooLong, Syntax, TooDeep, Types, TooLarge, NoMemory, BadText, BadSchedule, NotARun}
use Rattle.tso_status.specs.Statuses.{line_of}
use Rattle.tso_top.specs.declared.replays.Printed.{Printed}
use Rattle.tso_top.specs.Commands.{Command, Source, Target, Outcome, Reading, ReadingBoth, Fronting, IsNoFile, IsTooDeep, IsFaulty, IsTooLarge, IsProgram, Sourcing, source_limit, text_limit}
use Rattle.tso_top.specs.Replays.{Playing, Plays, Stops, Scheduling, IsNoSchedule, IsSchedule, IsNoText, IsText, Targeting}
use Rattle.tso_top.specs.Promise.{IsMissing, ByReadFault, ByNoMemory, ShowsLine, ShowsOutcome}
use Rattle.tso_top.specs.Answers.{LeadsTo, LinesFor, PrintsReplay, ReadsBoth, FirstRefused, SecondRefused, BothRead, printed_status, printed_lines, status_of, front_status, bad_text, bad_schedule}
use Rattle.tso_top.proofs.Outcomes.{only_within, only_too_long, refused_cause, free}
use Rattle.tso_top.proofs.OneStatus.{exactly}

-- ## From texts to what they lead to

-- the status and the lines of another name
named : (next : Status → List ℕ → Type 0) (s t : Status) (ls ms : List ℕ) → s ≡ t → ls ≡ ms → next t ms → next s ls
named next s t ls ms e f h =
    let P : Status → Type 0 = λ x. next x ls in
    let Q : List ℕ → Type 0 = λ y. next t y in
    subst P (sym e) (subst Q (sym f) h)

pub plays : (IsReplay : Result Replay ReplayRefusal → Type 0) (replay : Result Replay ReplayRefusal) (p : Result Printed Status) → IsReplay replay → PrintsReplay replay p → LeadsTo (Playing IsReplay) p
plays IsReplay (Ok r) (Ok p) h prints = named (Playing IsReplay) p.status Done p.lines.items _ prints.0 prints.1 (Plays r h)
plays IsReplay (Ok r) (Err s) h prints = inl prints
plays IsReplay (Err (replaying.NotARun n r)) (Ok p) h prints = named (Playing IsReplay) p.status (NotARun n) p.lines.items _ prints.0 prints.1 (Stops n r h)
plays IsReplay (Err (replaying.NotARun n r)) (Err s) h prints = inl prints
plays IsReplay (Err replaying.NoMemory) (Ok p) h prints = absurd prints
plays IsReplay (Err replaying.NoMemory) (Err s) h prints = inl prints

-- what follows the bytes of a program, and those of none
pub program_leads : (next : ProgramOf → Status → List ℕ → Type 0) (bytes : List ℕ) (p : ProgramOf) (r : Result Printed Status) → HasProgram bytes p → LeadsTo (next p) r → LeadsTo (Fronting next bytes) r
program_leads next bytes p (Ok r) has h = IsProgram p r.status r.lines.items has h
program_leads next bytes p (Err s) has (inl e) = inl e
program_leads next bytes p (Err s) has (inr h) = inr (IsProgram p s (line_of s) has h)

-- what follows an assembly text, and a bad one
pub texts_lead : (text schedule : List ℕ) (a : Parts) (p : Result Printed Status) → AsmOf text a → LeadsTo (λ s ps. Scheduling (λ lines. Playing (IsReplayOf (assembly_of a) lines)) schedule s ps) p → LeadsTo (Targeting text schedule) p
texts_lead text schedule a (Ok p) is h = IsText a p.status p.lines.items is h
texts_lead text schedule a (Err s) is (inl e) = inl e
texts_lead text schedule a (Err s) is (inr h) = inr (IsText a s (line_of s) is h)

pub lines_lead : (next : List Line → Status → List ℕ → Type 0) (schedule : List ℕ) (lines : List Line) (p : Result Printed Status) → ScheduleOf schedule lines → LeadsTo (next lines) p → LeadsTo (Scheduling next schedule) p
lines_lead next schedule lines (Ok p) is h = IsSchedule lines p.status p.lines.items is h
lines_lead next schedule lines (Err s) is (inl e) = inl e
lines_lead next schedule lines (Err s) is (inr h) = inr (IsSchedule lines s (line_of s) is h)

refused_leads : (next : Status → List ℕ → Type 0) (s t : Status) → s ≡ t → LeadsTo next (Err t) → LeadsTo next (Err s)
refused_leads next s t is h = let P : Status → Type 0 = λ x. LeadsTo next (Err x) in subst P (sym is) h

pub bad_schedule_leads : (next : List Line → Status → List ℕ → Type 0) (schedule : List ℕ) (r : ScheduleRefusal) (s : Status) → s ≡ bad_schedule r → IsTold schedule (Err r) → LeadsTo (Scheduling next schedule) (Err s)
bad_schedule_leads next schedule (scheduling.BadSchedule n) s is h = refused_leads (Scheduling next schedule) s (BadSchedule n) is (inr (IsNoSchedule n h))
bad_schedule_leads next schedule scheduling.NoMemory s is h = inl is

pub bad_text_leads : (text schedule : List ℕ) (r : ReadAsmRefusal) (s : Status) → s ≡ bad_text r → IsRefused text r → LeadsTo (Targeting text schedule) (Err s)
bad_text_leads text schedule (reading.BadText n) s is h = refused_leads (Targeting text schedule) s (BadText n) is (inr (IsNoText n h))
bad_text_leads text schedule reading.NoMemory s is h = inl is

pub no_program_leads : (next : ProgramOf → Status → List ℕ → Type 0) (bytes : List ℕ) (r : FrontRefusal) (s : Status) → s ≡ front_status r → Fronts bytes (Err r) → LeadsTo (Fronting next bytes) (Err s)
no_program_leads next bytes (front.Syntax at) s is h = refused_leads (Fronting next bytes) s (Syntax at) is (inr (IsNoFile at h))
no_program_leads next bytes (front.TooDeep at) s is h = refused_leads (Fronting next bytes) s (TooDeep at) is (inr (IsTooDeep at h))
no_program_leads next bytes (front.Types rule at) s is h = refused_leads (Fronting next bytes) s (Types rule at) is (inr (IsFaulty rule at h))
no_program_leads next bytes (front.TooLarge count at) s is h = refused_leads (Fronting next bytes) s (TooLarge count at) is (inr (IsTooLarge count at h))
no_program_leads next bytes front.NoMemory s is h = inl is

-- ## From there to the answer of the command

-- the statuses that the files of a replay lead to
data Ends : Status → List ℕ → Type 0 where
  AtEnd : (ps : List ℕ) → Ends Done ps
  AtLine : (n : ℕ) (events : List Event) → Ends (NotARun n) (not_a_run_text n events)
  AtText : (n : ℕ) → Ends (BadText n) (line_of (BadText n))
  AtSchedule : (n : ℕ) → Ends (BadSchedule n) (line_of (BadSchedule n))
  AtSyntax : (at : ℕ) → Ends (Syntax at) (line_of (Syntax at))
  AtDepth : (at : ℕ) → Ends (TooDeep at) (line_of (TooDeep at))
  AtRule : (rule at : ℕ) → Ends (Types rule at) (line_of (Types rule at))
  AtCount : (count at : ℕ) → Ends (TooLarge count at) (line_of (TooLarge count at))

playing_ends : (IsReplay : Result Replay ReplayRefusal → Type 0) (s : Status) (ps : List ℕ) → Playing IsReplay s ps → Ends s ps
playing_ends IsReplay s ps (Plays r k) = AtEnd _
playing_ends IsReplay s ps (Stops n r k) = AtLine n r.events.items

scheduling_ends : (IsReplay : List Line → Result Replay ReplayRefusal → Type 0) (schedule : List ℕ) (s : Status) (ps : List ℕ) → Scheduling (λ lines. Playing (IsReplay lines)) schedule s ps → Ends s ps
scheduling_ends IsReplay schedule s ps (IsNoSchedule n h) = AtSchedule n
scheduling_ends IsReplay schedule s ps (IsSchedule lines t qs h rest) = playing_ends (IsReplay lines) t qs rest

source_ends : (bytes schedule : List ℕ) (s : Status) (ps : List ℕ) → Sourcing bytes schedule s ps → Ends s ps
source_ends bytes schedule s ps (IsNoFile at h) = AtSyntax at
source_ends bytes schedule s ps (IsTooDeep at h) = AtDepth at
source_ends bytes schedule s ps (IsFaulty rule at h) = AtRule rule at
source_ends bytes schedule s ps (IsTooLarge count at h) = AtCount count at
source_ends bytes schedule s ps (IsProgram p t qs h rest) = scheduling_ends (IsSourceReplay p) schedule t qs rest

target_ends : (text schedule : List ℕ) (s : Status) (ps : List ℕ) → Targeting text schedule s ps → Ends s ps
target_ends text schedule s ps (IsNoText n h) = AtText n
target_ends text schedule s ps (IsText p t qs h rest) = scheduling_ends (IsReplayOf (assembly_of p)) schedule t qs rest

-- the line that names the step stands behind the events
stop_text : (n : ℕ) (events : List Event) → not_a_run_text n events ≡ events_text events ++ line_of (NotARun n)
stop_text n events = append_assoc (events_text events ++ codes "not a run: line ") (decimal n) (10 ∷ []) ∙ append_assoc (events_text events) (codes "not a run: line ") (decimal n ++ 10 ∷ [])

shows : (s : Status) (ps : List ℕ) → Ends s ps → ShowsLine s ps
shows s ps (AtEnd qs) = tt
shows s ps (AtLine n events) = (events, stop_text n events)
shows s ps (AtText n) = refl
shows s ps (AtSchedule n) = refl
shows s ps (AtSyntax at) = refl
shows s ps (AtDepth at) = refl
shows s ps (AtRule rule at) = refl
shows s ps (AtCount count at) = refl

shows_outcome : (outcome : Status → List ℕ → Type 0) (s : Status) (ps : List ℕ) → Ends s ps → outcome s ps → ShowsOutcome outcome s ps
shows_outcome outcome s ps (AtEnd qs) h = h
shows_outcome outcome s ps (AtLine n events) h = h
shows_outcome outcome s ps (AtText n) h = h
shows_outcome outcome s ps (AtSchedule n) h = h
shows_outcome outcome s ps (AtSyntax at) h = h
shows_outcome outcome s ps (AtDepth at) h = h
shows_outcome outcome s ps (AtRule rule at) h = h
shows_outcome outcome s ps (AtCount count at) h = h

-- they are none of the statuses of faults and of words
record IsOwn (s : Status) : Type 0 where
  not_usage : s ≢ Usage
  not_read : s ≢ ReadFault
  not_write : s ≢ WriteFault

is_own : (s : Status) (ps : List ℕ) → Ends s ps → IsOwn s
is_own s ps (AtEnd qs) = record { not_usage = λ e. cc; not_read = λ e. cc; not_write = λ e. cc }
is_own s ps (AtLine n events) = record { not_usage = λ e. cc; not_read = λ e. cc; not_write = λ e. cc }
is_own s ps (AtText n) = record { not_usage = λ e. cc; not_read = λ e. cc; not_write = λ e. cc }
is_own s ps (AtSchedule n) = record { not_usage = λ e. cc; not_read = λ e. cc; not_write = λ e. cc }
is_own s ps (AtSyntax at) = record { not_usage = λ e. cc; not_read = λ e. cc; not_write = λ e. cc }
is_own s ps (AtDepth at) = record { not_usage = λ e. cc; not_read = λ e. cc; not_write = λ e. cc }
is_own s ps (AtRule rule at) = record { not_usage = λ e. cc; not_read = λ e. cc; not_write = λ e. cc }
is_own s ps (AtCount count at) = record { not_usage = λ e. cc; not_read = λ e. cc; not_write = λ e. cc }

-- a command that replays: what its two files lead to is its outcome, it reads both, and each outcome is an end
record IsReplaying (c : Command) (i j : List ℕ) (m n : ℕ) (next : List ℕ → List ℕ → Status → List ℕ → Type 0) : Type 0 where
  outcome : (files : Files) (s : Status) (ps : List ℕ) → ReadingBoth m n next (held files i) (held files j) s ps → Outcome c files s ps
  first_missing : (files : Files) → held files i ≡ None → IsMissing c files
  second_missing : (files : Files) → held files j ≡ None → IsMissing c files
  ends : (a b : List ℕ) (s : Status) (ps : List ℕ) → next a b s ps → Ends s ps

source_replaying : (i j : List ℕ) → IsReplaying (Source i j) i j source_limit text_limit Sourcing
source_replaying i j = record { outcome = λ files s ps h. h; first_missing = λ files none. inl none; second_missing = λ files none. inr (inl none); ends = source_ends }

target_replaying : (i j : List ℕ) → IsReplaying (Target i j) i j text_limit text_limit Targeting
target_replaying i j = record { outcome = λ files s ps h. h; first_missing = λ files none. inl none; second_missing = λ files none. inr (inl none); ends = target_ends }

module _ (c : Command) (u w : StoreView) (later : Later u w) (same : w.files ≡ u.files) where
  lacked : LinesFor c u w NoMemory (line_of NoMemory)
  lacked = record {
    later = later;
    same_files = same;
    told = λ files e. free c files NoMemory ByNoMemory;
    shows = refl;
    outcome = λ files e. tt;
    read_fault = λ e. absurd (cc);
    not_usage = λ e. cc;
    not_write_fault = λ e. cc;
  }

  unread : ReadCause (IsMissing c) u w → LinesFor c u w ReadFault (line_of ReadFault)
  unread cause = record {
    later = later;
    same_files = same;
    told = λ files e. free c files ReadFault ByReadFault;
    shows = refl;
    outcome = λ files e. tt;
    read_fault = λ e. cause;
    not_usage = λ e. cc;
    not_write_fault = λ e. cc;
  }

  too_long : ForSome u.files (λ files. Outcome c files TooLong (line_of TooLong)) → LinesFor c u w TooLong (line_of TooLong)
  too_long h = record {
    later = later;
    same_files = same;
    told = λ files e. exactly c files TooLong (line_of TooLong) (h files e);
    shows = refl;
    outcome = h;
    read_fault = λ e. absurd (cc);
    not_usage = λ e. cc;
    not_write_fault = λ e. cc;
  }

  asked : (s : Status) (ps : List ℕ) → Ends s ps → ForSome u.files (λ files. Outcome c files s ps) → LinesFor c u w s ps
  asked s ps e h =
      let own = is_own s ps e in
      record {
        later = later;
        same_files = same;
        told = λ files f. exactly c files s ps (h files f);
        shows = shows s ps e;
        outcome = λ files f. shows_outcome (Outcome c files) s ps e (h files f);
        read_fault = λ f. absurd (own.not_read f);
        not_usage = own.not_usage;
        not_write_fault = own.not_write;
      }

  answered : (next : Status → List ℕ → Type 0) (p : Result Printed Status) → ((s : Status) (ps : List ℕ) → next s ps → Ends s ps) → LeadsTo next p → ((s : Status) (ps : List ℕ) → next s ps → ForSome u.files (λ files. Outcome c files s ps)) → LinesFor c u w (printed_status p) (printed_lines p)
  answered next (Ok p) ends h step = asked p.status p.lines.items (ends p.status p.lines.items h) (step p.status p.lines.items h)
  answered next (Err s) ends (inl e) step = let P : Status → Type 0 = λ t. LinesFor c u w t (line_of t) in subst P (sym e) lacked
  answered next (Err s) ends (inr h) step = asked s (line_of s) (ends s (line_of s) h) (step s (line_of s) h)

  refused : (r : ReadRefusal) → (r ≡ refusal.ReadFault → ReadCause (IsMissing c) u w) → (r ≡ refusal.TooLong → ForSome u.files (λ files. Outcome c files TooLong (line_of TooLong))) → LinesFor c u w (status_of r) (line_of (status_of r))
  refused refusal.ReadFault cause long = unread (cause refl)
  refused refusal.TooLong cause long = too_long (long refl)
  refused refusal.NoMemory cause long = lacked

whole_of : (o : Option (List ℕ)) (limit : ℕ) (a b : Result (Vec ℕ Global) ReadRefusal) → a ≡ b → IsWhole o limit a → IsWhole o limit b
whole_of o limit a b e h = let P : Result (Vec ℕ Global) ReadRefusal → Type 0 = λ x. IsWhole o limit x in subst P e h

module _ (c : Command) (i j : List ℕ) (m n : ℕ) (next : List ℕ → List ℕ → Status → List ℕ → Type 0) (is : IsReplaying c i j m n next) (u : StoreView) where
  -- what holds before the second file is read leads on to it
  second : Files → List ℕ → Status → List ℕ → Type 0
  second files a s ps = Reading n (next a) (held files j) s ps

  first_refused : (v : StoreView) (r : ReadRefusal) → ReadsWhole u v i m (Err r) → LinesFor c u v (status_of r) (line_of (status_of r))
  first_refused v r a =
      refused c u v a.later a.same_files r
      (λ e. refused_cause c i m u v r is.first_missing a (ap status_of e))
      (λ e files f. is.outcome files TooLong (line_of TooLong) (only_too_long m (λ b s ps. Reading n (next b) (held files j) s ps) (held files i) (whole_of (held files i) m (Err r) (Err refusal.TooLong) (ap Err e) (a.told files f))))

  module _ (v w : StoreView) (text : Vec ℕ Global) (a : ReadsWhole u v i m (Ok text)) where
    -- what the second file leads to is the outcome of both
    leads : (files : Files) (s : Status) (ps : List ℕ) → u.files ≡ Some files → Reading n (next text.items) (held files j) s ps → Outcome c files s ps
    leads files s ps f h = is.outcome files s ps (only_within m (λ b s ps. Reading n (next b) (held files j) s ps) (held files i) text s ps (a.told files f) h)

    second_refused : (r : ReadRefusal) → ReadsWhole v w j n (Err r) → LinesFor c u w (status_of r) (line_of (status_of r))
    second_refused r b =
        refused c u w (later_trans u v w a.later b.later) (b.same_files ∙ a.same_files) r
        (λ e. read_cause_from (IsMissing c) u v w a.later a.same_files (refused_cause c j n v w r is.second_missing b (ap status_of e)))
        (λ e files f. leads files TooLong (line_of TooLong) f (only_too_long n (next text.items) (held files j) (whole_of (held files j) n (Err r) (Err refusal.TooLong) (ap Err e) (b.told files (a.same_files ∙ f)))))

    both_read : (others : Vec ℕ Global) (p : Result Printed Status) → ReadsWhole v w j n (Ok others) → LeadsTo (next text.items others.items) p → LinesFor c u w (printed_status p) (printed_lines p)
    both_read others p b h =
        answered c u w (later_trans u v w a.later b.later) (b.same_files ∙ a.same_files) (next text.items others.items) p (is.ends text.items others.items) h
        (λ s ps k files f. leads files s ps f (only_within n (next text.items) (held files j) others s ps (b.told files (a.same_files ∙ f)) k))

  files_refused : (w : StoreView) (r : ReadRefusal) (s : Status) → s ≡ status_of r → ReadsBoth i j m n u w (Err r) → LinesFor c u w s (line_of s)
  files_refused w r s same h = let P : Status → Type 0 = λ t. LinesFor c u w t (line_of t) in subst P (sym same) (by r h)
    where
      by : (r : ReadRefusal) → ReadsBoth i j m n u w (Err r) → LinesFor c u w (status_of r) (line_of (status_of r))
      by r (FirstRefused q a) = first_refused w q a
      by r (SecondRefused v bytes q a b) = second_refused v w bytes a q b

  files_read : (w : StoreView) (bytes others : Vec ℕ Global) (p : Result Printed Status) → ReadsBoth i j m n u w (Ok (bytes, others)) → LeadsTo (next bytes.items others.items) p → LinesFor c u w (printed_status p) (printed_lines p)
  files_read w bytes others p (BothRead v text steps a b) h = both_read v w text a steps p b h

module _ (i j : List ℕ) (u w : StoreView) where
  pub source_refused : (r : ReadRefusal) (s : Status) → s ≡ status_of r → ReadsBoth i j source_limit text_limit u w (Err r) → LinesFor (Source i j) u w s (line_of s)
  source_refused = files_refused (Source i j) i j source_limit text_limit Sourcing (source_replaying i j) u w

  pub source_read : (bytes others : Vec ℕ Global) (p : Result Printed Status) → ReadsBoth i j source_limit text_limit u w (Ok (bytes, others)) → LeadsTo (Sourcing bytes.items others.items) p → LinesFor (Source i j) u w (printed_status p) (printed_lines p)
  source_read = files_read (Source i j) i j source_limit text_limit Sourcing (source_replaying i j) u w

  pub target_refused : (r : ReadRefusal) (s : Status) → s ≡ status_of r → ReadsBoth i j text_limit text_limit u w (Err r) → LinesFor (Target i j) u w s (line_of s)
  target_refused = files_refused (Target i j) i j text_limit text_limit Targeting (target_replaying i j) u w

  pub target_read : (bytes others : Vec ℕ Global) (p : Result Printed Status) → ReadsBoth i j text_limit text_limit u w (Ok (bytes, others)) → LeadsTo (Targeting bytes.items others.items) p → LinesFor (Target i j) u w (printed_status p) (printed_lines p)
  target_read = files_read (Target i j) i j text_limit text_limit Targeting (target_replaying i j) u w

-- two files that were read are within their limits
pub both_bound : (i j : List ℕ) (m n : ℕ) (u w : StoreView) (bytes others : Vec ℕ Global) → ReadsBoth i j m n u w (Ok (bytes, others)) → (length bytes.items ≤ m) × (length others.items ≤ n)
both_bound i j m n u w bytes others (BothRead v text steps a b) = (a.bound, b.bound)

-- what `?` hands on is the refusal of the one file or the other
module _ (i j : List ℕ) (m n : ℕ) (u : StoreView) where
  pub first_kept : (w : StoreView) (e : ReadRefusal) (r : Result (Vec ℕ Global × Vec ℕ Global) ReadRefusal) → ReadsWhole u w i m (Err e) → IsErrAnd r (λ y. y ≡ e) → ReadsBoth i j m n u w r
  first_kept w e (Ok both) a h = absurd h
  first_kept w e (Err y) a h = let P : ReadRefusal → Type 0 = λ x. ReadsBoth i j m n u w (Err x) in subst P (sym h) (FirstRefused e a)

  pub second_kept : (v w : StoreView) (bytes : Vec ℕ Global) (e : ReadRefusal) (r : Result (Vec ℕ Global × Vec ℕ Global) ReadRefusal) → ReadsWhole u v i m (Ok bytes) → ReadsWhole v w j n (Err e) → IsErrAnd r (λ y. y ≡ e) → ReadsBoth i j m n u w r
  second_kept v w bytes e (Ok both) a b h = absurd h
  second_kept v w bytes e (Err y) a b h = let P : ReadRefusal → Type 0 = λ x. ReadsBoth i j m n u w (Err x) in subst P (sym h) (SecondRefused v bytes e a b)
