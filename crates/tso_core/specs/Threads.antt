-- A machine over a thread language (after the thread languages of CompCertTSO). What the threads share is a parameter here, with the effect of each operation on it: memory, buffers, ended threads, and whether the machine runs.
use Rattle.std.specs.Prelude.{◌≡◌, ℕ, zero, suc, Bool, false, List, [], ◌∷◌, ◌++◌, length, Option, Some, None, slice_get, slice_set}
use Rattle.tso_core.specs.declared.Step.{Step}
use Rattle.tso_core.specs.declared.Step.TheVariants.{Run, Drain}
use Rattle.tso_core.specs.declared.Event.{Event}
use Rattle.tso_core.specs.declared.offer.Now.{Now}
use Rattle.tso_core.specs.declared.offer.Now.TheVariants as N
use Rattle.tso_core.specs.Systems.{System, Status, Running, Exited, Wrong, NoHeap, Names, Places, GlobalsOf}

abbrev pub status_of : Now → Status
status_of N.Running = Running
status_of N.Exited = Exited
status_of N.Wrong = Wrong
status_of N.NoHeap = NoHeap

-- what an operation does to what is shared: the thread goes on with an answer, the thread or the machine stops, or a further thread begins; or it may not be done
pub data Effect (Shared Answer Arg : Type 0) : Type 0 where
  Refused : Effect Shared Answer Arg
  Goes : (answer : Answer) (event : Option Event) (shared : Shared) → Effect Shared Answer Arg
  Stops : (event : Option Event) (shared : Shared) → Effect Shared Answer Arg
  Spawns : (arg : Arg) (answer : Answer) (shared : Shared) → Effect Shared Answer Arg

-- the shared part of the machine, the same for all languages
pub record Base : Type 1 where
  pub Shared : Type 0
  pub Op : Type 0
  pub Answer : Type 0
  pub Arg : Type 0
  pub now : Shared → Now
  pub has_ended : Shared → ℕ → Bool
  pub has_put : Shared → ℕ → Bool
  pub heap : Shared → ℕ → Option ℕ
  -- the effect of an operation of a thread at a choice, and of a drain of its buffer
  pub effect : Op → ℕ → Option ℕ → Shared → Effect Shared Answer Arg
  pub drain : ℕ → Shared → Option Shared
  pub fail : Shared → Shared
  pub is_start : Op → Bool
  pub asks : Op → Option ℕ

-- what a thread offers: a step of its own, going wrong, or an operation on what is shared
pub data Offered (Op : Type 0) : Type 0 where
  Silent : Offered Op
  Fails : Offered Op
  Does : (op : Op) → Offered Op

-- one program of a thread language
pub record Lang (b : Base) (Thread : Type 0) : Type 1 where
  pub IsProper : Places → Type 0
  pub opening : Places → b.Shared
  pub first : Places → Thread
  pub started : Places → b.Arg → Option Thread
  pub offer : Places → Thread → Offered b.Op
  -- the thread behind its offer, with an answer where it is an operation
  pub resume : Places → Thread → Option b.Answer → Thread
  pub calls : Thread → List Names
  pub globals : Option GlobalsOf
  pub stated : Names → Option ℕ

pub record MachineOf (Shared Thread : Type 0) : Type 0 where
  pub at : Places
  pub shared : Shared
  pub threads : List Thread

module _ (b : Base) {Thread : Type 0} (l : Lang b Thread) where
  abbrev pub with_thread : MachineOf b.Shared Thread → ℕ → Thread → MachineOf b.Shared Thread
  with_thread m i t = record m { threads = slice_set m.threads i t }

  -- a further thread, or none and the machine is wrong
  abbrev pub begun : MachineOf b.Shared Thread → ℕ → Thread → b.Answer → b.Shared → Option Thread → Option (Option Event × MachineOf b.Shared Thread)
  begun m i t a sh None = Some (None, record m { shared = b.fail m.shared })
  begun m i t a sh (Some u) = Some (None, record { at = m.at; shared = sh; threads = slice_set m.threads i (l.resume m.at t (Some a)) ++ u ∷ [] })

  abbrev pub finished : MachineOf b.Shared Thread → ℕ → Thread → Effect b.Shared b.Answer b.Arg → Option (Option Event × MachineOf b.Shared Thread)
  finished m i t Refused = None
  finished m i t (Goes a e sh) = Some (e, record { at = m.at; shared = sh; threads = slice_set m.threads i (l.resume m.at t (Some a)) })
  finished m i t (Stops e sh) = Some (e, record m { shared = sh })
  finished m i t (Spawns g a sh) = begun m i t a sh (l.started m.at g)

  -- a step of its own and going wrong take no choice
  abbrev pub acted : MachineOf b.Shared Thread → ℕ → Thread → Offered b.Op → Option ℕ → Option (Option Event × MachineOf b.Shared Thread)
  acted m i t Silent None = Some (None, with_thread m i (l.resume m.at t None))
  acted m i t Silent (Some c) = None
  acted m i t Fails None = Some (None, record m { shared = b.fail m.shared })
  acted m i t Fails (Some c) = None
  acted m i t (Does op) c = finished m i t (b.effect op i c m.shared)

  -- a machine that runs, and a thread that is there and has not ended
  abbrev pub ran : MachineOf b.Shared Thread → ℕ → Option ℕ → Now → Bool → Option Thread → Option (Option Event × MachineOf b.Shared Thread)
  ran m i c N.Running false (Some t) = acted m i t (l.offer m.at t) c
  ran m i c _ _ _ = None

  abbrev pub drained : MachineOf b.Shared Thread → Now → Option b.Shared → Option (Option Event × MachineOf b.Shared Thread)
  drained m N.Running (Some sh) = Some (None, record m { shared = sh })
  drained m _ _ = None

  abbrev pub step_of : MachineOf b.Shared Thread → Step → Option (Option Event × MachineOf b.Shared Thread)
  step_of m (Run i c) = ran m i c (b.now m.shared) (b.has_ended m.shared i) (slice_get m.threads i)
  step_of m (Drain i) = drained m (b.now m.shared) (b.drain i m.shared)

  abbrev pub calls_at : Option Thread → Option (List Names)
  calls_at None = None
  calls_at (Some t) = Some (l.calls t)

  abbrev pub start_offered : Offered b.Op → Bool
  start_offered Silent = false
  start_offered Fails = false
  start_offered (Does op) = b.is_start op

  abbrev pub starts_at : Places → Bool → Option Thread → Bool
  starts_at at false (Some t) = start_offered (l.offer at t)
  starts_at at _ _ = false

  abbrev pub asks_offered : Offered b.Op → Option ℕ
  asks_offered Silent = None
  asks_offered Fails = None
  asks_offered (Does op) = b.asks op

  abbrev pub asks_at : Places → Option Thread → Option ℕ
  asks_at at None = None
  asks_at at (Some t) = asks_offered (l.offer at t)

  -- the program on its machine: main alone at the opening
  abbrev pub threaded : System
  threaded =
      record {
        State = MachineOf b.Shared Thread;
        IsProper = l.IsProper;
        opening = λ at. record { at = at; shared = l.opening at; threads = l.first at ∷ [] };
        step = step_of;
        status = λ m. status_of (b.now m.shared);
        threads = λ m. length m.threads;
        has_ended = λ m i. b.has_ended m.shared i;
        has_put = λ m i. b.has_put m.shared i;
        heap = λ m base. b.heap m.shared base;
        calls = λ m i. calls_at (slice_get m.threads i);
        starts = λ m i. starts_at m.at (b.has_ended m.shared i) (slice_get m.threads i);
        asks = λ m i. asks_at m.at (slice_get m.threads i);
        globals = l.globals;
        stated = l.stated;
      }

  -- so many Silent steps of a thread alone
  abbrev pub silents : Places → Thread → ℕ → Thread
  silents at t zero = t
  silents at t (suc n) = silents at (l.resume at t None) n

  abbrev pub AreSilent : Places → Thread → ℕ → Type 0
  AreSilent at t zero = Unit {0}
  AreSilent at t (suc n) = (l.offer at t ≡ Silent) × AreSilent at (l.resume at t None) n

  -- by Silent steps alone the thread comes to Wrong
  pub record ReachesWrong (at : Places) (t : Thread) : Type 0 where
    pub count : ℕ
    pub silent : AreSilent at t count
    pub fails : l.offer at (silents at t count) ≡ Fails
