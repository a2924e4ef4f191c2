-- A step of a schedule gives one thing at a state.
use Rattle.std.proofs.Common.{◌≡◌, ◌≤◌, ℕ, Bool, true, false, Option, Some, None, refl, sym, ◌∙◌, ap, subst, inl, inr, arith}
use Rattle.std.specs.Prelude.{slice_get}
use Rattle.std.proofs.lemmas.Option.{same_Some, none-some}
use Rattle.tso_core.specs.declared.Step.{Step}
use Rattle.tso_core.specs.declared.Step.TheVariants.{Run}
use Rattle.schedule_text.specs.Plays.{Outcome}
use Rattle.x86_lang.specs.Assembly.{Assembly, heap_start}
use Rattle.x86_machine.specs.declared.choices.Asked.{Asked}
use Rattle.x86_machine.specs.declared.choices.Asked.TheVariants as asked
use Rattle.x86_machine.specs.Target.{Thread, State, stacks_start, is_block_allowed, is_stack_allowed, block_size}
use Rattle.x86_machine.specs.X86Tso.{step}
use Rattle.tso_core.specs.Least.{IsLeast, NonePasses}
use Rattle.x86_machine.specs.Choices.{IsLeastOrZero, IsDefault, IsChosen, Drained, Given, Missing, Default, asked_of}
use Rattle.x86_run.specs.Target.{Target, TargetGives, outcome_of}

no_both : (b : Bool) → b ≡ true → b ≡ false → ⊥
no_both true h k = cc
no_both false h k = cc

least_one : (from : ℕ) (test : ℕ → Bool) (a b : ℕ) → IsLeast from test a → IsLeast from test b → a ≡ b
least_one from test a b h k =
    let below : a ≤ b = h.least b k.high k.multiple k.passes in
    let above : b ≤ a = k.least a h.high h.multiple h.passes in
    omega arith

least_passes : (from : ℕ) (test : ℕ → Bool) (a : ℕ) → IsLeast from test a → NonePasses from test → ⊥
least_passes from test a h none = no_both (test a) h.passes (none a h.high h.multiple)

least_or_zero_one : (from : ℕ) (test : ℕ → Bool) (a b : ℕ) → IsLeastOrZero from test a → IsLeastOrZero from test b → a ≡ b
least_or_zero_one from test a b (inl h) (inl k) = least_one from test a b h k
least_or_zero_one from test a b (inl h) (inr k) = absurd (least_passes from test a h k.1)
least_or_zero_one from test a b (inr h) (inl k) = absurd (least_passes from test b k h.1)
least_or_zero_one from test a b (inr h) (inr k) = h.0 ∙ sym k.0

default_one : (m : State) (q : Asked) (c d : Option ℕ) → IsDefault m q c → IsDefault m q d → c ≡ d
default_one m asked.Nothing c d h k = h ∙ sym k
default_one m asked.Word c d h k = h ∙ sym k
default_one m (asked.Block n) None d h k = absurd h
default_one m (asked.Block n) (Some a) None h k = absurd k
default_one m (asked.Block n) (Some a) (Some b) h k = ap Some (least_or_zero_one heap_start (λ x. is_block_allowed m.heap x (block_size n)) a b h k)
default_one m asked.Stack None d h k = absurd h
default_one m asked.Stack (Some a) None h k = absurd k
default_one m asked.Stack (Some a) (Some b) h k = ap Some (least_or_zero_one stacks_start (is_stack_allowed m.threads) a b h k)

one_default : (a : Assembly) (m : State) (i : ℕ) (c d : Option ℕ) (t u : Thread) → slice_get m.threads i ≡ Some t → slice_get m.threads i ≡ Some u → IsDefault m (asked_of a m t) c → IsDefault m (asked_of a m u) d → c ≡ d
one_default a m i c d t u e f h k =
    let same : t ≡ u = same_Some t u (sym e ∙ f) in
    default_one m (asked_of a m u) c d (subst (λ (v : Thread). IsDefault m (asked_of a m v) c) same h) k

one_outcome : (a : Assembly) (m : State) (x y z : Step) → IsChosen a m x y → IsChosen a m x z → step a m y ≡ step a m z
one_outcome a m x y z Drained Drained = refl
one_outcome a m x y z Given Given = refl
one_outcome a m x y z (Missing h) (Missing k) = refl
one_outcome a m x y z (Missing h) (Default {t = t} e d) = absurd (none-some t (sym h ∙ e))
one_outcome a m x y z (Default {t = t} e d) (Missing h) = absurd (none-some t (sym h ∙ e))
one_outcome a m x y z (Default {i = i} {c = c} {t = t} e h) (Default {c = d} {t = u} f k) = ap (λ (o : Option ℕ). step a m (Run i o)) (one_default a m i c d t u e f h k)

pub one_step : (s : Target) (x : Step) (a b : Outcome Target) → TargetGives s x a → TargetGives s x b → a ≡ b
one_step s x a b h k = h.gives ∙ ap (outcome_of s) (one_outcome s.assembly s.machine x h.taken k.taken h.chosen k.chosen) ∙ sym k.gives
