-- The lines that a replay prints: one for each event, and one for its end. Functions of whole lists; the code appends piece by piece.
use Rattle.std.specs.Prelude.{ℕ, List, [], ◌∷◌, ◌++◌, codes, decimal}
use Rattle.std.specs.Fmt.{signed_decimal}
use Rattle.std.specs.Int.{w32, cast_signed}
use Rattle.tso_core.specs.declared.Event.{Event}
use Rattle.tso_core.specs.declared.Event.TheVariants.{Call, Return, Exit}
use Rattle.schedule_text.specs.declared.played.End.{End}
use Rattle.schedule_text.specs.declared.played.End.TheVariants.{Running, Exited, Wrong, Fault, NoStack, NoHeap}

-- a word as a signed decimal number
abbrev pub word_text : ℕ → List ℕ
word_text word = signed_decimal (cast_signed w32 word)

-- words, each behind one space
abbrev pub words_text : List ℕ → List ℕ
words_text [] = []
words_text (word ∷ words) = codes " " ++ word_text word ++ words_text words

abbrev pub event_text : Event → List ℕ
event_text (Call thread name words) = codes "call " ++ decimal thread ++ codes " " ++ name ++ words_text words ++ 10 ∷ []
event_text (Return thread word) = codes "return " ++ decimal thread ++ codes " " ++ word_text word ++ 10 ∷ []
event_text (Exit word) = codes "exit " ++ word_text word ++ 10 ∷ []

abbrev pub events_text : List Event → List ℕ
events_text [] = []
events_text (event ∷ events) = event_text event ++ events_text events

abbrev pub end_text : End → List ℕ
end_text Running = codes "end running"
end_text Exited = codes "end exited"
end_text Wrong = codes "end wrong"
end_text Fault = codes "end fault"
end_text NoStack = codes "end no stack"
end_text NoHeap = codes "end no heap"

-- what a replay prints
abbrev pub replay_text : List Event → End → List ℕ
replay_text events end = events_text events ++ end_text end ++ 10 ∷ []

-- what is printed where a line of the schedule is not enabled
abbrev pub not_a_run_text : (line : ℕ) → List Event → List ℕ
not_a_run_text line events = events_text events ++ codes "not a run: line " ++ decimal line ++ 10 ∷ []
