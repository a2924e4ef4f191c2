-- The machine over a thread language, as a system whose runs refinement speaks of.
use Rattle.std.specs.Prelude.{Option, Some, None}
use Rattle.tso_core.specs.declared.Step.{Step}
use Rattle.tso_core.specs.declared.Event.{Event}
use Rattle.tso_core.specs.declared.offer.Offer.{Offer}
use Rattle.tso_core.specs.declared.offer.Offer.TheVariants as O
use Rattle.tso_core.specs.declared.offer.Answer.{Answer}
use Rattle.tso_core.specs.declared.offer.Answer.TheVariants.{Nothing}
use Rattle.tso_core.specs.Systems.{System}
use Rattle.tso_core.specs.Threads.{Offered, Silent, Fails, Does, Lang, MachineOf, step_of, threaded}
use Rattle.tso_core.specs.Language.{Language}
use Rattle.tso_core.specs.Shared.{Shared, shared_part}
use Rattle.tso_core.specs.Runs.{IsProper, opening}

abbrev pub offered : Offer → Offered Offer
offered O.Silent = Silent
offered O.Wrong = Fails
offered o = Does o

abbrev pub answer_or_nothing : Option Answer → Answer
answer_or_nothing None = Nothing
answer_or_nothing (Some a) = a

-- a program over the shared part
abbrev pub lang_of : {State : Type 0} → Language State → Lang shared_part State
lang_of l =
    record {
      IsProper = IsProper l.globals;
      opening = opening l.globals;
      first = l.first;
      started = λ at g. l.started at g.0 g.1;
      offer = λ at s. offered (l.offer at s);
      resume = λ at s a. l.resumed at s (answer_or_nothing a);
      calls = l.calls;
      globals = Some l.globals;
      stated = l.stated;
    }

-- the state of a machine: the placement, what is shared, and the threads in order of creation
abbrev pub MachineState : Type 0 → Type 0
MachineState State = MachineOf Shared State

-- one step: the event that it shows and the state after it; None where it is not enabled
abbrev pub step : {State : Type 0} → Language State → MachineState State → Step → Option (Option Event × MachineState State)
step l = step_of shared_part (lang_of l)

abbrev pub open_machine : {State : Type 0} → Language State → System
open_machine l = threaded shared_part (lang_of l)

-- the same, shut: contracts name it, and only a proof about its steps opens it
unfoldable pub machine : {State : Type 0} → Language State → System
machine l = open_machine l
