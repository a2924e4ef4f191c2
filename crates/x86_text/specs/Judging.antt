-- What the code keeps of the good lines so far, and how it judges one line more: in the code's order. The texts do not rest on it.
use Rattle.std.specs.Prelude.{◌≡◌, ◌↔◌, ◌⊎◌, ℕ, ◌+◌, ◌≤◌, ◌<◌, Bool, true, false, cond, codes, List, nat_eq, Option, Some, None, IsTrue, MatchOption}
use Rattle.std.specs.Cmp.Lexicographic.{pointwise}
use Rattle.indexmap.specs.IndexSet.{contains}
use Rattle.tso_core.specs.Systems.{Names}
use Rattle.x86_lang.specs.declared.assembly.Parts.{Parts}
use Rattle.x86_lang.specs.Assembly.{code_start, data_start, heap_start, code_end, data_end, size_at}
use Rattle.x86_lang.specs.Whole.{IsPlaced, names_made}
use Rattle.x86_text.specs.declared.line.Line.{Line}
use Rattle.x86_text.specs.declared.line.Line.TheVariants as line
use Rattle.x86_text.specs.declared.assembling.Assembling.{Assembling}
use Rattle.x86_text.specs.declared.assembling.Outcome.{Outcome}
use Rattle.x86_text.specs.declared.assembling.Outcome.TheVariants.{Whole, BadLine}
use Rattle.x86_text.specs.Gathering.{gathered_of}
use Rattle.x86_text.specs.Text.{Says, Gathered, adds, AsmOf}
use Rattle.x86_text.specs.Bad.{MakesTaken, IsTooLong, IsBadText}
use Rattle.x86_text.specs.Naming.{Look, as_code, is_service, line_named}

-- the names that are made so far
abbrev pub Among : Type 0
Among = Names → Bool

abbrev pub among : Assembling → Among
among a name = contains (pointwise nat_eq) a.names name

-- a line that some bytes say
pub record IsSaid (l : Line) : Type 0 where
  pub bytes : List ℕ
  pub says : Says bytes l

-- whether a name was taken, and the names behind it
abbrev pub Takes : Bool → Among → Names → Among → Type 0
Takes true before name behind = (is_service name ≡ false) × (before name ≡ false) × ((q : Names) → behind q ≡ cond (pointwise nat_eq name q) true (before q))
Takes false before name behind = (is_service name ≡ true) ⊎ (before name ≡ true)

abbrev pub made_name : Line → Option Names
made_name (line.Label name) = Some name
made_name (line.Extern name n) = Some name
made_name _ = None

abbrev pub TakesMade : Bool → Among → Option Names → Among → Type 0
TakesMade fresh before None behind = (fresh ≡ true) × ((q : Names) → behind q ≡ before q)
TakesMade fresh before (Some name) behind = Takes fresh before name behind

-- what a line that may stand adds to the code and to the data
abbrev pub op_count : Line → ℕ
op_count (line.Op i) = 1
op_count _ = 0

abbrev pub datum_size : ℕ → Line → ℕ
datum_size at (line.Datum s) = size_at at s
datum_size at _ = 0

-- what is kept fits the parts so far
pub record IsKept (a : Assembling) : Type 0 where
  pub names : (name : Names) → IsTrue (among a name) ↔ IsPlaced name (names_made a.gathering.parts)
  pub code : a.code_end ≡ code_end code_start a.gathering.parts.code
  pub statics : a.data_end ≡ data_end data_start a.gathering.parts.statics
  pub code_fits : a.code_end ≤ data_start
  pub data_fits : a.data_end ≤ heap_start

-- whether a line was added, sizes alone
pub record IsGrown (old : Assembling) (l : Line) (new : Assembling) : Type 0 where
  pub added : adds (gathered_of old.gathering) l ≡ Some (gathered_of new.gathering)
  pub names : new.names ≡ old.names
  pub code : new.code_end ≡ old.code_end + op_count l
  pub statics : new.data_end ≡ old.data_end + datum_size old.data_end l
  pub code_fits : new.code_end ≤ data_start
  pub data_fits : new.data_end ≤ heap_start

abbrev pub Grows : Bool → Assembling → Line → Assembling → Type 0
Grows true old l new = IsGrown old l new
Grows false old l new = MatchOption (adds (gathered_of old.gathering) l) (Unit {0}) (λ h. (data_start < old.code_end + op_count l) ⊎ (heap_start < old.data_end + datum_size old.data_end l))

-- a line is good, or bad, by what the table tells
pub record FineBy (at : Look) (g : Gathered) (l : Line) (h : Gathered) : Type 0 where
  pub added : adds g l ≡ Some h
  pub in_range : IsTooLong h.parts → ⊥
  pub fresh : MakesTaken g.parts l → ⊥
  pub named : line_named at l ≡ true

abbrev pub BadBy : Look → Gathered → Line → Type 0
BadBy at g l = MatchOption (adds g l) (Unit {0}) (λ h. IsTooLong h.parts) ⊎ (MakesTaken g.parts l ⊎ (line_named at l ≡ false))

pub record IsJudged (at : Look) (old : Assembling) (l : Line) (new : Assembling) : Type 0 where
  pub kept : IsKept new
  pub fine : FineBy at (gathered_of old.gathering) l (gathered_of new.gathering)

abbrev pub Judges : Bool → Look → Assembling → Line → Assembling → Type 0
Judges true at old l new = IsJudged at old l new
Judges false at old l new = BadBy at (gathered_of old.gathering) l

-- the same, of the bytes of a line
pub record IsJudgedLine (at : Look) (old : Assembling) (bytes : List ℕ) (new : Assembling) : Type 0 where
  pub said : Line
  pub says : Says bytes said
  pub judged : IsJudged at old said new

pub record IsBadSaid (at : Look) (old : Assembling) (bytes : List ℕ) : Type 0 where
  pub said : Line
  pub says : Says bytes said
  pub bad : BadBy at (gathered_of old.gathering) said

abbrev pub JudgesLine : Bool → Look → Assembling → List ℕ → Assembling → Type 0
JudgesLine true at old bytes new = IsJudgedLine at old bytes new
JudgesLine false at old bytes new = ((l : Line) → ¬ Says bytes l) ⊎ IsBadSaid at old bytes

-- behind the last line
abbrev pub Ends : Look → Parts → ℕ → Outcome → Type 0
Ends at parts count (Whole made) = (made ≡ parts) × (as_code (at (codes "main")) ≡ true)
Ends at parts count (BadLine n) = (n ≡ count + 1) × (as_code (at (codes "main")) ≡ false)

-- the answer of the code
abbrev pub IsOutcomeOf : List ℕ → Outcome → Type 0
IsOutcomeOf text (Whole parts) = AsmOf text parts
IsOutcomeOf text (BadLine n) = IsBadText text n
