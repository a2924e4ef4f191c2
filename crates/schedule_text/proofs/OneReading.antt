-- Each text has a schedule or a first bad line.
use Rattle.std.specs.Prelude.{◌⊎◌}
use Rattle.std.proofs.Common.{◌≡◌, ℕ, suc, List, [], ◌∷◌, ◌++◌, length, Option, Some, None, refl, ap, inl, inr}
use Rattle.schedule_text.specs.declared.schedule.Directive.{Directive}
use Rattle.schedule_text.specs.declared.schedule.Line.{Line}
use Rattle.schedule_text.specs.declared.line.Reading.{Reading}
use Rattle.schedule_text.specs.declared.line.Reading.TheVariants as R
use Rattle.schedule_text.specs.Text.{lines_of, fields_of}
use Rattle.schedule_text.specs.Schedules.{Says, LinesFrom, NoMore, Skips, Reads}
use Rattle.schedule_text.specs.Scanning.{line_reading}
use Rattle.schedule_text.specs.Laws.{IsRead}
use Rattle.schedule_text.proofs.Told.{skipped_line, directs_line, bad_line}

record BadFrom (number : ℕ) (texts : List (List ℕ)) : Type 0 where
  before : List (List ℕ)
  text : List ℕ
  after : List (List ℕ)
  lines : List Line
  parts : texts ≡ before ++ text ∷ after
  good : LinesFrom number before lines
  bad : (what : Option Directive) → ¬ Says (fields_of text) what

abbrev Either : ℕ → List (List ℕ) → Type 0
Either number texts = ((lines : List Line) × LinesFrom number texts lines) ⊎ BadFrom number texts

skipped : (number : ℕ) (text : List ℕ) (texts : List (List ℕ)) → Says (fields_of text) None → Either (suc number) texts → Either number (text ∷ texts)
skipped number text texts says (inl l) = inl (l.0, Skips number text texts l.0 says l.1)
skipped number text texts says (inr b) = inr (record { before = text ∷ b.before; text = b.text; after = b.after; lines = b.lines; parts = ap (λ ts. text ∷ ts) b.parts; good = Skips number text b.before b.lines says b.good; bad = b.bad })

directed : (number : ℕ) (text : List ℕ) (texts : List (List ℕ)) (what : Directive) → Says (fields_of text) (Some what) → Either (suc number) texts → Either number (text ∷ texts)
directed number text texts what says (inl l) = inl (record { number = number; what = what } ∷ l.0, Reads number text texts what l.0 says l.1)
directed number text texts what says (inr b) = inr (record { before = text ∷ b.before; text = b.text; after = b.after; lines = record { number = number; what = what } ∷ b.lines; parts = ap (λ ts. text ∷ ts) b.parts; good = Reads number text b.before what b.lines says b.good; bad = b.bad })

one_line : (number : ℕ) (text : List ℕ) (texts : List (List ℕ)) (r : Reading) → line_reading text ≡ r → Either (suc number) texts → Either number (text ∷ texts)
one_line number text texts R.Skipped e more = skipped number text texts (skipped_line text e) more
one_line number text texts (R.Directs what) e more = directed number text texts what (directs_line text what e) more
one_line number text texts R.Bad e more = inr (record { before = []; text = text; after = texts; lines = []; parts = refl; good = NoMore number; bad = bad_line text e })

each : (number : ℕ) (texts : List (List ℕ)) → Either number texts
each number [] = inl ([], NoMore number)
each number (text ∷ texts) = one_line number text texts (line_reading text) refl (each (suc number) texts)

whole : (bytes : List ℕ) → Either 1 (lines_of bytes) → IsRead bytes
whole bytes (inl l) = inl l
whole bytes (inr b) = inr (suc (length b.before), record { before = b.before; text = b.text; after = b.after; lines = b.lines; parts = b.parts; good = b.good; bad = b.bad; number_is = refl })

pub is_read : (bytes : List ℕ) → IsRead bytes
is_read bytes = whole bytes (each 1 (lines_of bytes))
