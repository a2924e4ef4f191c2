-- Schedules (a format of this project): which lines of a text are which directives, and which line is the first bad one. Relations between whole lists; the code reads line by line and stops.
use Rattle.std.specs.Prelude.{◌≡◌, ℕ, suc, ◌^◌, List, [], ◌∷◌, ◌++◌, length, codes, Option, Some, None, Result, Ok, Err}
use Rattle.tso_core.specs.declared.Step.TheVariants.{Run, Drain}
use Rattle.schedule_text.specs.declared.schedule.Directive.{Directive}
use Rattle.schedule_text.specs.declared.schedule.Directive.TheVariants.{Step, Hold, Lazy, Auto}
use Rattle.schedule_text.specs.declared.schedule.Line.{Line}
use Rattle.schedule_text.specs.declared.schedule.Schedule.{Schedule}
use Rattle.schedule_text.specs.declared.schedule.ScheduleRefusal.{ScheduleRefusal}
use Rattle.schedule_text.specs.declared.schedule.ScheduleRefusal.TheVariants.{BadSchedule, NoMemory}
use Rattle.schedule_text.specs.Text.{lines_of, fields_of, IsNumber, IsChoice}

-- the directive that the fields of a line write
pub data IsDirective : List (List ℕ) → Directive → Type 0 where
  Runs : (t : List ℕ) (thread : ℕ) → IsNumber (2 ^ 32) t thread → IsDirective (codes "run" ∷ t ∷ []) (Step (Run thread None))
  RunsWith : (t c : List ℕ) (thread choice : ℕ) → IsNumber (2 ^ 32) t thread → IsChoice c choice → IsDirective (codes "run" ∷ t ∷ c ∷ []) (Step (Run thread (Some choice)))
  Drains : (t : List ℕ) (thread : ℕ) → IsNumber (2 ^ 32) t thread → IsDirective (codes "drain" ∷ t ∷ []) (Step (Drain thread))
  Holds : (t n : List ℕ) (thread most : ℕ) → IsNumber (2 ^ 32) t thread → IsNumber (2 ^ 64) n most → IsDirective (codes "hold" ∷ t ∷ n ∷ []) (Hold thread most)
  IsLazy : (t n : List ℕ) (thread most : ℕ) → IsNumber (2 ^ 32) t thread → IsNumber (2 ^ 64) n most → IsDirective (codes "lazy" ∷ t ∷ n ∷ []) (Lazy thread most)
  IsAuto : (t n : List ℕ) (thread most : ℕ) → IsNumber (2 ^ 32) t thread → IsNumber (2 ^ 64) n most → IsDirective (codes "auto" ∷ t ∷ n ∷ []) (Auto thread most)

-- what a line with these fields says: nothing where it has none or its first byte but blanks is '#'; else a directive
pub data Says : List (List ℕ) → Option Directive → Type 0 where
  Blank : Says [] None
  Comment : (rest : List ℕ) (fields : List (List ℕ)) → Says ((35 ∷ rest) ∷ fields) None
  Directs : (fields : List (List ℕ)) (what : Directive) → IsDirective fields what → Says fields (Some what)

-- the directives of lines that are counted from a number
pub data LinesFrom : ℕ → List (List ℕ) → List Line → Type 0 where
  NoMore : (number : ℕ) → LinesFrom number [] []
  Skips : (number : ℕ) (text : List ℕ) (texts : List (List ℕ)) (lines : List Line) → Says (fields_of text) None → LinesFrom (suc number) texts lines → LinesFrom number (text ∷ texts) lines
  Reads : (number : ℕ) (text : List ℕ) (texts : List (List ℕ)) (what : Directive) (lines : List Line) → Says (fields_of text) (Some what) → LinesFrom (suc number) texts lines → LinesFrom number (text ∷ texts) (record { number = number; what = what } ∷ lines)

-- the schedule of a text
abbrev pub ScheduleOf : List ℕ → List Line → Type 0
ScheduleOf bytes = LinesFrom 1 (lines_of bytes)

-- the number of the first line that says nothing of this format: each line before it does
pub record IsFirstBad (bytes : List ℕ) (number : ℕ) : Type 0 where
  pub before : List (List ℕ)
  pub text : List ℕ
  pub after : List (List ℕ)
  pub lines : List Line
  pub parts : lines_of bytes ≡ before ++ text ∷ after
  pub good : LinesFrom 1 before lines
  pub bad : (what : Option Directive) → ¬ Says (fields_of text) what
  pub number_is : number ≡ suc (length before)

-- want of memory, or the refusal of this line
abbrev pub IsRefusedAt : ℕ → Result Schedule ScheduleRefusal → Type 0
IsRefusedAt number (Ok schedule) = ⊥
IsRefusedAt number (Err (BadSchedule line)) = line ≡ number
IsRefusedAt number (Err NoMemory) = Unit {0}

-- want of memory, or these lines
abbrev pub IsReadAs : List Line → Result Schedule ScheduleRefusal → Type 0
IsReadAs lines (Ok schedule) = schedule.lines.items ≡ lines
IsReadAs lines (Err (BadSchedule line)) = ⊥
IsReadAs lines (Err NoMemory) = Unit {0}

-- what an answer tells of the text
abbrev pub IsTold : List ℕ → Result Schedule ScheduleRefusal → Type 0
IsTold bytes (Ok schedule) = ScheduleOf bytes schedule.lines.items
IsTold bytes (Err (BadSchedule line)) = IsFirstBad bytes line
IsTold bytes (Err NoMemory) = Unit {0}
