-- A replay is that of a run of the assembly's machine.
use Rattle.std.proofs.Common.{◌≡◌, ℕ, suc, min, List, [], ◌∷◌, ◌++◌, length, Option, Some, None, Result, Ok, Err, refl, sym, ◌∙◌, ap, subst}
use Rattle.std.specs.Prelude.{IsSome}
use Rattle.std.proofs.lemmas.Option.{same_Some}
use Rattle.tso_core.specs.declared.Event.{Event}
use Rattle.tso_core.specs.declared.Step.{Step}
use Rattle.tso_core.specs.declared.Step.TheVariants.{Run, Drain}
use Rattle.tso_core.specs.Systems.{System, IsRun, shown, after, events_of}
use Rattle.tso_core.specs.Systems as systems
use Rattle.schedule_text.specs.declared.played.Replay.{Replay}
use Rattle.schedule_text.specs.declared.played.ReplayRefusal.{ReplayRefusal}
use Rattle.schedule_text.specs.declared.played.ReplayRefusal.TheVariants.{NotARun, NoMemory}
use Rattle.schedule_text.specs.declared.schedule.Directive.{Directive}
use Rattle.schedule_text.specs.declared.schedule.Directive.TheVariants as D
use Rattle.schedule_text.specs.declared.schedule.Line.{Line}
use Rattle.schedule_text.specs.Plays.{Outcome, IsPath, IsBurst, Spent, Stuck, Shows, Just, FirstOf, First, Second, PlaysLine, PlaysLines, NoMore, Plays, IsReplay, events_in, quiet}
use Rattle.x86_lang.specs.Assembly.{Assembly}
use Rattle.x86_machine.specs.declared.now.X86Now.{X86Now}
use Rattle.x86_machine.specs.declared.now.X86Now.TheVariants as now
use Rattle.x86_machine.specs.Target.{State}
use Rattle.x86_machine.specs.X86Tso.{x86_machine, x86_system, status_of}
use Rattle.x86_run.specs.Target.{Target, TargetGives, outcome_of, opening_of, end_with, end_of_target, IsReplayOf}
use Rattle.x86_run.specs.Laws.{IsOfRun, AnswersOfRun, end_at}

abbrev system : Target → System
system s = x86_system s.assembly

-- steps of the machine lead from one state to another and show this
record Goes (s end : Target) (shows : List (Option Event)) : Type 0 where
  steps : List Step
  runs : IsRun (system s) s.machine steps
  events : events_in shows ≡ shown (system s) s.machine steps
  ends : end ≡ record s { machine = after (system s) s.machine steps }
  taken : length shows ≡ length steps

is_some : {A : Type 0} (a : A) (o : Option A) → o ≡ Some a → IsSome o
is_some a o e = subst IsSome (sym e) refl

shows_first : {S : Type 0} (e : Option Event) (m : S) (o : Option (Option Event × S)) (shows : List (Option Event)) → o ≡ Some (e, m) → events_in (e ∷ shows) ≡ events_of o ++ events_in shows
shows_first None m o shows h = subst (λ (o : _). events_in shows ≡ events_of o ++ events_in shows) (sym h) refl
shows_first (Some e) m o shows h = subst (λ (o : _). e ∷ events_in shows ≡ events_of o ++ events_in shows) (sym h) refl

goes_on : (s end : Target) (m : State) (x : Step) (e : Option Event) (shows : List (Option Event)) → (system s).step s.machine x ≡ Some (e, m) → Goes (record s { machine = m }) end shows → Goes s end (e ∷ shows)
goes_on s end m x e shows h g =
    let there = ap (systems.state_of s.machine) h in
    record {
      steps = x ∷ g.steps;
      runs = (is_some (e, m) ((system s).step s.machine x) h, subst (λ (z : State). IsRun (system s) z g.steps) (sym there) g.runs);
      events = shows_first e m ((system s).step s.machine x) shows h ∙ ap (λ (z : List Event). events_of ((system s).step s.machine x) ++ z) (g.events ∙ ap (λ (z : State). shown (system s) z g.steps) (sym there));
      ends = g.ends ∙ ap (λ (z : State). record s { machine = after (system s) z g.steps }) (sym there);
      taken = ap suc g.taken;
    }

outcome_is : (s t : Target) (e : Option Event) (o : Option (Option Event × State)) → Some (e, t) ≡ outcome_of s o → (m : State) × (o ≡ Some (e, m)) × (t ≡ record s { machine = m })
outcome_is s t e None h = cc
outcome_is s t e (Some r) h =
    let same = same_Some (e, t) (r.0, record s { machine = r.1 }) h in
    (r.1, ap (λ (z : Option Event). Some (z, r.1)) (sym (ap (λ (z : Option Event × Target). z.0) same)), ap (λ (z : Option Event × Target). z.1) same)

goes_one : (s t end : Target) (x : Step) (e : Option Event) (shows : List (Option Event)) → TargetGives s x (Some (e, t)) → Goes t end shows → Goes s end (e ∷ shows)
goes_one s t end x e shows h g =
    let is = outcome_is s t e ((system s).step s.machine h.taken) h.gives in
    goes_on s end is.0 h.taken e shows is.1 (subst (λ (z : Target). Goes z end shows) is.2 g)

goes_none : (s : Target) → Goes s s []
goes_none s = record { steps = []; runs = tt; events = refl; ends = refl; taken = refl }

-- each try is a step
abbrev AreSteps : (Target → Outcome Target → Type 0) → Type 0
AreSteps tries = (s t : Target) (e : Option Event) → tries s (Some (e, t)) → (x : Step) × TargetGives s x (Some (e, t))

first_steps : (x y : Step) → AreSteps (FirstOf TargetGives x y)
first_steps x y s t e (First gives h) = (x, h)
first_steps x y s t e (Second o none h) = (y, h)

path_goes : (tries : Target → Outcome Target → Type 0) → AreSteps tries → (s mid end : Target) (shows more : List (Option Event)) → IsPath tries s shows mid → Goes mid end more → Goes s end (shows ++ more)
path_goes tries are s mid end [] more p g = subst (λ (z : Target). Goes z end more) (sym p) g
path_goes tries are s mid end (e ∷ shows) more p g =
    let by = are s p.0 e p.1 in
    goes_one s p.0 end by.0 e (shows ++ more) by.1 (path_goes tries are p.0 mid end shows more p.2 g)

burst_goes : (tries : Target → Outcome Target → Type 0) → AreSteps tries → (most : ℕ) (s mid end : Target) (shows more : List (Option Event)) → IsBurst tries most s mid shows → Goes mid end more → Goes s end (shows ++ more)
burst_goes tries are most s mid end shows more (Spent p) g = path_goes tries are s mid end (quiet most) more p g
burst_goes tries are most s mid end shows more (Stuck n lt p none) g = path_goes tries are s mid end (quiet n) more p g
burst_goes tries are most s mid end shows more (Shows n event lt p) g = path_goes tries are s mid end (quiet n ++ Some event ∷ []) more p g

line_goes : (what : Directive) (s mid end : Target) (shows more : List (Option Event)) → PlaysLine TargetGives what s mid shows → Goes mid end more → Goes s end (shows ++ more)
line_goes (D.Step x) s mid end shows more h g = subst (λ (z : List (Option Event)). Goes s end (z ++ more)) (sym h.2) (goes_one s mid end x h.0 more h.1 g)
line_goes (D.Hold thread most) s mid end shows more h g = burst_goes (Just TargetGives (Run thread None)) (λ a b e k. (Run thread None, k)) most s mid end shows more h g
line_goes (D.Lazy thread most) s mid end shows more h g = burst_goes (FirstOf TargetGives (Run thread None) (Drain thread)) (first_steps (Run thread None) (Drain thread)) most s mid end shows more h g
line_goes (D.Auto thread most) s mid end shows more h g = burst_goes (FirstOf TargetGives (Drain thread) (Run thread None)) (first_steps (Drain thread) (Run thread None)) most s mid end shows more h g

lines_go : (lines : List Line) (s end : Target) (shows : List (Option Event)) → PlaysLines TargetGives lines s end shows → Goes s end shows
lines_go lines s end shows (NoMore a) = goes_none a
lines_go lines s end shows (Plays line rest a middle b first more h k) = line_goes line.what a middle b first more h (lines_go rest middle b more k)

end_is : (n : X86Now) → end_with n ≡ end_at (status_of n)
end_is now.Running = refl
end_is now.Exited = refl
end_is now.Fault = refl
end_is now.NoStack = refl
end_is now.NoHeap = refl

of_run : (p : Assembly) (end : Target) (shows : List (Option Event)) (r : Replay) → Goes (opening_of p) end shows → IsReplay TargetGives end_of_target shows end r → IsOfRun p r
unfolding x86_machine
of_run p end shows r g h =
    let last = after (system (opening_of p)) (opening_of p).machine g.steps in
    record {
      steps = g.steps;
      runs = g.runs;
      events = h.events ∙ g.events;
      taken = h.taken ∙ ap (λ (n : ℕ). min n 18446744073709551615) g.taken;
      ends = h.end_is ∙ ap end_of_target g.ends ∙ end_is last.now;
    }

pub answers : (p : Assembly) (lines : List Line) (a : Result Replay ReplayRefusal) → IsReplayOf p lines a → AnswersOfRun p a
answers p lines (Ok r) h = of_run p h.0 h.1.shown r (lines_go lines (opening_of p) h.0 h.1.shown h.1.plays) h.1.replay
answers p lines (Err (NotARun number r)) h = of_run p h.0 h.1.shown r (lines_go h.1.front (opening_of p) h.0 h.1.shown h.1.plays) h.1.replay
answers p lines (Err NoMemory) h = tt
