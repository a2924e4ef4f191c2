-- That the program 'return n' and its two instructions are tied: what the trait of ties asks for. No reader of the compiler theorem needs it.
use Rattle.std.proofs.Common.{◌≡◌, ◌≢◌, ℕ, zero, suc, ◌+◌, ◌<◌, ◌≤◌, List, [], ◌∷◌, refl, sym, ◌∙◌, subst, ap, arith, Some, None, inl, true, false}
use Rattle.std.specs.Prelude.{IsSome, slice_index_or}
use Rattle.tso_core.specs.declared.Step.{Step}
use Rattle.tso_core.specs.declared.Step.TheVariants.{Run, Drain}
use Rattle.tso_core.specs.Systems.{System, Running, Exited, Wrong, NoHeap, NoStack, Names, Places}
use Rattle.tso_core.specs.Matching.{Alike}
use Rattle.tso_core.specs.Ties.{Answers, IsMachineTie}
use Rattle.tso_core.specs.Runs.{IsCodePlace, IsProper}
use Rattle.tso_core.specs.Machine.{MachineState, open_machine}
use Rattle.clight_lang.specs.State.{State}
use Rattle.clight_lang.specs.Rules.{main_name}
use Rattle.clight_lang.specs.Meaning.{ProgramOf, open_language}
use Rattle.clight_lang.specs.MainAlone.{main_alone, returned}
use Rattle.x86_lang.specs.Assembly.{Assembly}
use Rattle.x86_machine.specs.Target as x86
use Rattle.x86_machine.specs.X86Tso.{x86_system}
use Rattle.first_pass.specs.Assembled.{returning}
use Rattle.first_pass.specs.Stages.{Stage, Begun, Moved, Ended, source_at, target_at, Stands, number_of}

abbrev first_run : Step
first_run = Run 0 None

abbrev three : List Step
three = first_run ∷ first_run ∷ first_run ∷ []

running_right : Running ≢ Wrong
running_right e = cc

exited_right : Exited ≢ Wrong
exited_right e = cc

running_heap : Running ≢ NoHeap
running_heap e = cc

exited_heap : Exited ≢ NoHeap
exited_heap e = cc

running_stack : Running ≢ NoStack
running_stack e = cc

exited_stack : Exited ≢ NoStack
exited_stack e = cc

never : false ≡ true → ⊥
never e = cc

three_pay : (x y : ℕ) → y < 1 → x + (x + (x + 0)) ≡ 0 → y + (x + 0) ≤ 0
three_pay x y low none = omega arith

one_pays : (x y : ℕ) → y < 1 → x + 0 ≡ 0 → y + (x + 0) ≤ 0
one_pays x y low none = omega arith

zero_low : 0 < 1
zero_low = omega arith

module _ (n : ℕ) where
  abbrev p : System
  p = open_machine (open_language (returned n))

  abbrev q : System
  q = x86_system (returning n)

  abbrev R : MachineState State → x86.State → (ℕ → ℕ) → Type 0
  R s t f = Stands n s t f

  -- a step of the assembly that is enabled is a run of thread 0, and none is once it has exited
  only_run : (k : Stage) (x : Step) → IsSome (q.step (target_at n k) x) → x ≡ first_run
  only_run Begun (Drain zero) h = absurd (never h)
  only_run Begun (Drain (suc thread)) h = absurd (never h)
  only_run Begun (Run zero (Some choice)) h = absurd (never h)
  only_run Begun (Run zero None) h = refl
  only_run Begun (Run (suc thread) choice) h = absurd (never h)
  only_run Moved (Drain zero) h = absurd (never h)
  only_run Moved (Drain (suc thread)) h = absurd (never h)
  only_run Moved (Run zero (Some choice)) h = absurd (never h)
  only_run Moved (Run zero None) h = refl
  only_run Moved (Run (suc thread) choice) h = absurd (never h)
  only_run Ended (Drain thread) h = absurd (never h)
  only_run Ended (Run thread choice) h = absurd (never h)

  no_put : (at : Places) (k : Stage) (i : ℕ) → p.has_put (source_at n at k) i ≡ false
  no_put at Begun zero = refl
  no_put at Begun (suc i) = refl
  no_put at Moved zero = refl
  no_put at Moved (suc i) = refl
  no_put at Ended zero = refl
  no_put at Ended (suc i) = refl

  none_ended : (k : Stage) (i : ℕ) → false ≡ q.has_ended (target_at n k) i
  none_ended Begun zero = refl
  none_ended Begun (suc i) = refl
  none_ended Moved zero = refl
  none_ended Moved (suc i) = refl
  none_ended Ended zero = refl
  none_ended Ended (suc i) = refl

  none_starts : (k : Stage) (i : ℕ) → q.starts (target_at n k) i ≡ false
  none_starts Begun zero = refl
  none_starts Begun (suc i) = refl
  none_starts Moved zero = refl
  none_starts Moved (suc i) = refl
  none_starts Ended zero = refl
  none_starts Ended (suc i) = refl

  alike_at : (at : Places) (k : Stage) → Alike p q (source_at n at k) (target_at n k)
  alike_at at Begun = record { same_threads = refl; same_ended = none_ended Begun; no_write_buffered = λ i h. no_put at Begun i; not_wrong = running_right; same_exit = (λ e. e, λ e. e); same_no_heap = (λ e. e, λ e. e); same_heap = λ base. refl; same_calls = λ i. tt }
  alike_at at Moved = record { same_threads = refl; same_ended = none_ended Moved; no_write_buffered = λ i h. no_put at Moved i; not_wrong = running_right; same_exit = (λ e. e, λ e. e); same_no_heap = (λ e. e, λ e. e); same_heap = λ base. refl; same_calls = λ i. tt }
  alike_at at Ended = record { same_threads = refl; same_ended = none_ended Ended; no_write_buffered = λ i h. no_put at Ended i; not_wrong = exited_right; same_exit = (λ e. e, λ e. e); same_no_heap = (λ e. e, λ e. e); same_heap = λ base. refl; same_calls = λ i. tt }

  -- three runs for the number, and one for the return
  moves : (at : Places) (f : ℕ → ℕ) → ((i : ℕ) → f i < 1) → Answers p q R (source_at n at Begun) (target_at n Begun) f first_run
  moves at f low =
      record {
        piece = three;
        is_run = (refl, (refl, (refl, tt)));
        leads = inl (record {
          numbers = λ i. 0;
          related = record { at = at; stage = Moved; in_source = refl; in_target = refl; none_owed = λ i. zero_low };
          same_events = refl;
          counted = λ i none. three_pay _ (f i) (low i) none;
          ends = record { same_request = λ e w. absurd (running_heap e); stack_justified = λ e w i l. absurd (running_stack e) };
        });
      }

  returns : (at : Places) (f : ℕ → ℕ) → ((i : ℕ) → f i < 1) → Answers p q R (source_at n at Moved) (target_at n Moved) f first_run
  returns at f low =
      record {
        piece = first_run ∷ [];
        is_run = (refl, tt);
        leads = inl (record {
          numbers = λ i. 0;
          related = record { at = at; stage = Ended; in_source = refl; in_target = refl; none_owed = λ i. zero_low };
          same_events = refl;
          counted = λ i none. one_pays _ (f i) (low i) none;
          ends = record { same_request = λ e w. absurd (exited_heap e); stack_justified = λ e w i l. absurd (exited_stack e) };
        });
      }

  answers_at : (at : Places) (k : Stage) (f : ℕ → ℕ) → ((i : ℕ) → f i < 1) → (x : Step) → IsSome (q.step (target_at n k) x) → Answers p q R (source_at n at k) (target_at n k) f x
  answers_at at Begun f low x h = subst (λ y. Answers p q R (source_at n at Begun) (target_at n Begun) f y) (sym (only_run Begun x h)) (moves at f low)
  answers_at at Moved f low x h = subst (λ y. Answers p q R (source_at n at Moved) (target_at n Moved) f y) (sym (only_run Moved x h)) (returns at f low)
  answers_at at Ended f low (Run thread choice) h = absurd (never h)
  answers_at at Ended f low (Drain thread) h = absurd (never h)

  alike : (s : p.State) (t : q.State) (f : ℕ → ℕ) → Stands n s t f → Alike p q s t
  alike s t f r =
      let S : MachineState State → Type 0 = λ a. Alike p q a t in
      let T : x86.State → Type 0 = λ b. Alike p q (source_at n r.at r.stage) b in
      subst S (sym r.in_source) (subst T (sym r.in_target) (alike_at r.at r.stage))

  answers : (s : p.State) (t : q.State) (f : ℕ → ℕ) → Stands n s t f → (x : Step) → IsSome (q.step t x) → Answers p q R s t f x
  answers s t f r =
      let S : MachineState State → Type 0 = λ a. (x : Step) → IsSome (q.step t x) → Answers p q R a t f x in
      let T : x86.State → Type 0 = λ b. (x : Step) → IsSome (q.step b x) → Answers p q R (source_at n r.at r.stage) b f x in
      subst S (sym r.in_source) (subst T (sym r.in_target) (answers_at r.at r.stage f r.none_owed))

  no_start : (t : q.State) (k : Stage) → t ≡ target_at n k → (i : ℕ) → q.starts t i ≡ true → ⊥
  no_start t k e i h = never (sym (none_starts k i) ∙ (sym (ap (λ u. q.starts u i) e) ∙ h))

  -- main alone, at the first address
  main_placed : (k : ℕ) (d : Names) → k < 1 → IsCodePlace (returning n).labels (slice_index_or (main_name ∷ []) k d)
  main_placed zero d lt = (omega arith, omega arith)
  main_placed (suc k) d lt = absurd (omega arith)

  is_main : (f : Names) (k : ℕ) → k < 1 → slice_index_or (main_name ∷ []) k f ≡ f → f ≡ main_name
  is_main f zero lt e = sym e
  is_main f (suc k) lt e = absurd (omega arith)

  proper : IsProper main_alone (returning n).labels
  proper =
      record {
        functions_placed = main_placed;
        functions_apart = λ f h a b e. is_main f a.0 a.1 a.2 ∙ sym (is_main h b.0 b.1 b.2);
        objects_placed = λ k d lt. absurd (omega arith);
        objects_apart = λ i j d lt le. absurd (omega arith);
      }

  tied : IsMachineTie p q R 1
  tied =
      record {
        same_interface = record { globals = tt; stated = λ f. tt };
        labels_proper = λ at e. subst (λ a. IsProper main_alone a) (sym e) proper;
        opens_running = λ at. refl;
        opens_related = λ at e. (λ i. 0, record { at = at; stage = Begun; in_source = refl; in_target = ap (λ a. q.opening a) e; none_owed = λ i. zero_low });
        below_bound = λ s t f r i. r.none_owed i;
        alike = alike;
        answers = answers;
        start_ready = λ s t f r e i h. absurd (no_start t r.stage r.in_target i h);
      }

-- a program that returns n, and its two instructions
pub record ReturnPair (p : ProgramOf) (a : Assembly) : Type 0 where
  pub number : ℕ
  pub program_is : p ≡ returned number
  pub assembly_is : a ≡ returning number

of_program : (n : ℕ) (p : ProgramOf) (a : Assembly) → p ≡ returned n → a ≡ returning n → IsMachineTie (open_machine (open_language p)) (x86_system a) (λ s t f. Stands n s t f) 1
of_program n p a e g =
    let S : ProgramOf → Type 0 = λ r. IsMachineTie (open_machine (open_language r)) (x86_system a) (λ s t f. Stands n s t f) 1 in
    let T : Assembly → Type 0 = λ b. IsMachineTie (open_machine (open_language (returned n))) (x86_system b) (λ s t f. Stands n s t f) 1 in
    subst S (sym e) (subst T (sym g) (tied n))

pub returned_tied : (p : ProgramOf) (a : Assembly) → ReturnPair p a → IsMachineTie (open_machine (open_language p)) (x86_system a) (λ s t f. Stands (number_of p) s t f) 1
returned_tied p a r =
    let N : ℕ → Type 0 = λ n. IsMachineTie (open_machine (open_language p)) (x86_system a) (λ s t f. Stands n s t f) 1 in
    subst N (sym (ap number_of r.program_is)) (of_program r.number p a r.program_is r.assembly_is)
