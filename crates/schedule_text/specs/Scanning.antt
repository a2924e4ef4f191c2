-- What the private functions of the reader compute, as functions of lists of bytes: only their contracts cite this file. That it tells `Text` and `Schedules` is proved in proofs/; no claim of the crate's public calls rests on it.
use Rattle.std.specs.Prelude.{ℕ, ◌+◌, ◌-◌, ◌*◌, ◌%◌, ◌^◌, Bool, true, false, not, List, [], ◌∷◌, length, codes, Option, Some, None, option_and_then, bytes_eq, if◌then◌else◌, ◌==◌, ◌&&◌, nat_lt, nat_le}
use Rattle.tso_core.specs.declared.Step.TheVariants.{Run, Drain}
use Rattle.schedule_text.specs.declared.schedule.Directive.{Directive}
use Rattle.schedule_text.specs.declared.schedule.Directive.TheVariants.{Step, Hold, Lazy, Auto}
use Rattle.schedule_text.specs.declared.line.Word.{Word}
use Rattle.schedule_text.specs.declared.line.Word.TheVariants as W
use Rattle.schedule_text.specs.declared.line.Reading.{Reading}
use Rattle.schedule_text.specs.declared.line.Reading.TheVariants as R
use Rattle.schedule_text.specs.declared.split.Class.{Class}
use Rattle.schedule_text.specs.declared.split.Class.TheVariants.{Blank, InField, InLine}
use Rattle.schedule_text.specs.Text.{is_blank, digit_value}

-- the bytes of a class
abbrev pub members : Class → ℕ → Bool
members Blank b = is_blank b
members InField b = not (is_blank b)
members InLine b = not (b == 10)

-- the longest run of bytes of the set, and what is behind it
abbrev pub front : (ℕ → Bool) → List ℕ → List ℕ
front set [] = []
front set (b ∷ bs) = if set b then b ∷ front set bs else []

abbrev pub behind : (ℕ → Bool) → List ℕ → List ℕ
behind set [] = []
behind set (b ∷ bs) = if set b then behind set bs else b ∷ bs

-- the first line of a text, and what is behind its line feed
abbrev pub first_line : List ℕ → List ℕ
first_line bytes = front (members InLine) bytes

abbrev pub tail_of : List ℕ → List ℕ
tail_of [] = []
tail_of (b ∷ bs) = bs

abbrev pub behind_line : List ℕ → List ℕ
behind_line bytes = tail_of (behind (members InLine) bytes)

-- the first field of a line, and what is behind it
abbrev pub first_field : List ℕ → List ℕ
first_field line = front (members InField) (behind (members Blank) line)

abbrev pub behind_field : List ℕ → List ℕ
behind_field line = behind (members InField) (behind (members Blank) line)

-- the number that digits write behind those of n, if all are digits and it stays below 2^64
abbrev pub digits_from : (base n : ℕ) → List ℕ → Option ℕ
digits_from base n [] = Some n
digits_from base n (b ∷ bs) = if nat_lt (digit_value b) base then (if nat_lt (base * n + digit_value b) (2 ^ 64) then digits_from base (base * n + digit_value b) bs else None) else None

-- the number of a field of at least one digit and at most so many, if it is at most a limit
abbrev pub number_of : (base most limit : ℕ) → List ℕ → Option ℕ
number_of base most limit field = if nat_le 1 (length field) && nat_le (length field) most then option_and_then (λ n. if nat_le n limit then Some n else None) (digits_from base 0 field) else None

abbrev pub thread_of : List ℕ → Option ℕ
thread_of field = number_of 10 20 4294967295 field

abbrev pub count_of : List ℕ → Option ℕ
count_of field = number_of 10 20 18446744073709551615 field

abbrev pub negative_of : List ℕ → Option ℕ
negative_of field = option_and_then (λ n. Some ((4294967296 - n) % 4294967296)) (number_of 10 20 2147483648 field)

-- a choice behind a first '0': hexadecimal digits behind an 'x', or the whole field as a decimal number
abbrev pub choice_behind_zero : (field : List ℕ) → List ℕ → Option ℕ
choice_behind_zero field [] = thread_of field
choice_behind_zero field (b ∷ bs) = if b == 120 then number_of 16 8 4294967295 bs else thread_of field

abbrev pub choice_of : List ℕ → Option ℕ
choice_of [] = None
choice_of (b ∷ bs) = if b == 45 then negative_of bs else (if b == 48 then choice_behind_zero (b ∷ bs) bs else thread_of (b ∷ bs))

abbrev pub word_of : List ℕ → Option Word
word_of field = if bytes_eq field (codes "run") then Some W.Run else (if bytes_eq field (codes "drain") then Some W.Drain else (if bytes_eq field (codes "hold") then Some W.Hold else (if bytes_eq field (codes "lazy") then Some W.Lazy else (if bytes_eq field (codes "auto") then Some W.Auto else None))))

-- a run of a thread, with the choice of the field behind it where there is one
abbrev pub run_of : ℕ → List ℕ → Option Directive
run_of thread [] = Some (Step (Run thread None))
run_of thread (b ∷ bs) = option_and_then (λ choice. Some (Step (Run thread (Some choice)))) (choice_of (b ∷ bs))

abbrev pub drain_of : ℕ → List ℕ → Option Directive
drain_of thread [] = Some (Step (Drain thread))
drain_of thread (b ∷ bs) = None

-- a directive for a thread, with the field behind the thread's
abbrev pub directive_with : Word → ℕ → List ℕ → Option Directive
directive_with W.Run thread field = run_of thread field
directive_with W.Drain thread field = drain_of thread field
directive_with W.Hold thread field = option_and_then (λ most. Some (Hold thread most)) (count_of field)
directive_with W.Lazy thread field = option_and_then (λ most. Some (Lazy thread most)) (count_of field)
directive_with W.Auto thread field = option_and_then (λ most. Some (Auto thread most)) (count_of field)

abbrev pub directive_of : (word thread field : List ℕ) → Option Directive
directive_of word thread field = option_and_then (λ w. option_and_then (λ t. directive_with w t field) (thread_of thread)) (word_of word)

abbrev pub is_skipped : List ℕ → Bool
is_skipped [] = true
is_skipped (b ∷ bs) = b == 35

abbrev pub has_none : List ℕ → Bool
has_none [] = true
has_none (b ∷ bs) = false

abbrev pub reading_of : Option Directive → Reading
reading_of None = R.Bad
reading_of (Some what) = R.Directs what

-- what a line with these first fields says, which are empty where it has fewer
abbrev pub fields_reading : (word thread field extra : List ℕ) → Reading
fields_reading word thread field extra = if is_skipped word then R.Skipped else (if has_none extra then reading_of (directive_of word thread field) else R.Bad)

abbrev pub line_reading : List ℕ → Reading
line_reading line = fields_reading (first_field line) (first_field (behind_field line)) (first_field (behind_field (behind_field line))) (first_field (behind_field (behind_field (behind_field line))))
