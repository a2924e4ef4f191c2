-- A step of a schedule gives one thing at a state.
use Rattle.std.proofs.Common.{◌≡◌, ℕ, Option, Some, None, refl, sym, ◌∙◌, ap, subst}
use Rattle.std.specs.Prelude.{slice_get}
use Rattle.std.proofs.lemmas.Option.{same_Some}
use Rattle.tso_core.specs.declared.Step.{Step}
use Rattle.tso_core.specs.declared.Step.TheVariants.{Run}
use Rattle.tso_core.specs.Language.{Language}
use Rattle.tso_core.specs.Machine.{MachineState, step}
use Rattle.tso_machine.proofs.Running.{ran_not}
use Rattle.tso_machine.specs.Choices.{IsChosen, IsDefault, IsIdle, Drained, Given, Idle, Default}
use Rattle.schedule_text.specs.Plays.{Outcome}
use Rattle.clight_lang.specs.Meaning.{language}
use Rattle.clight_run.specs.Source.{Source, SourceGives, outcome_of}
use Rattle.clight_run.proofs.Defaults.{default_one}

-- a thread that cannot run has no step, whatever the choice
idle_step : {State : Type 0} (l : Language State) (m : MachineState State) (i : ℕ) (c : Option ℕ) → IsIdle m i → step l m (Run i c) ≡ None
idle_step l m i c h = ran_not l m i c m.shared.now (m.shared.ended i) (slice_get m.threads i) h

one_default : {State : Type 0} (l : Language State) (m : MachineState State) (i : ℕ) (c d : Option ℕ) (s t : State) → slice_get m.threads i ≡ Some s → slice_get m.threads i ≡ Some t → IsDefault m.shared.memory.objects m.shared.buffers i (l.offer m.at s) c → IsDefault m.shared.memory.objects m.shared.buffers i (l.offer m.at t) d → c ≡ d
one_default {State} l m i c d s t e f h k =
    let same = same_Some s t (sym e ∙ f) in
    default_one m.shared.memory.objects m.shared.buffers i (l.offer m.at t) c d (subst (λ (x : State). IsDefault m.shared.memory.objects m.shared.buffers i (l.offer m.at x) c) same h) k

pub one_outcome : {State : Type 0} (l : Language State) (m : MachineState State) (x y z : Step) → IsChosen l m x y → IsChosen l m x z → step l m y ≡ step l m z
one_outcome l m x y z Drained Drained = refl
one_outcome l m x y z Given Given = refl
one_outcome l m x y z (Idle h) (Idle k) = refl
one_outcome l m x y z (Idle {i = i} h) (Default {c = c} e d) = idle_step l m i None h ∙ sym (idle_step l m i c h)
one_outcome l m x y z (Default {i = i} {c = c} e d) (Idle h) = idle_step l m i c h ∙ sym (idle_step l m i None h)
one_outcome l m x y z (Default {i = i} {c = c} {s = s} e h) (Default {c = d} {s = t} f k) = ap (λ (o : Option ℕ). step l m (Run i o)) (one_default l m i c d s t e f h k)

pub one_step : (s : Source) (x : Step) (a b : Outcome Source) → SourceGives s x a → SourceGives s x b → a ≡ b
one_step s x a b h k = h.gives ∙ ap (outcome_of s) (one_outcome (language s.program) s.machine x h.taken k.taken h.chosen k.chosen) ∙ sym k.gives
