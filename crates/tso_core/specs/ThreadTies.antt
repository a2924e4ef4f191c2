-- A tie of threads: two programs of two thread languages over one shared part, of which less may be known in the first (after the thread simulations of CompCertTSO; here the second program is answered by the first).
use Rattle.std.specs.Prelude.{◌≡◌, ◌≢◌, ℕ, ◌<◌, ◌≤◌, true, false, Option, Some, None, ◌⊎◌}
use Rattle.tso_core.specs.declared.offer.Now.TheVariants as N
use Rattle.tso_core.specs.Systems.{Names, Places}
use Rattle.tso_core.specs.Matching.{SaysSame}
use Rattle.tso_core.specs.Threads.{Effect, Refused, Goes, Stops, Spawns, Base, Lang, Silent, Fails, Does, silents, AreSilent, ReachesWrong}

-- what of the first may be less known than in the second; of answers to an operation of the second
pub record Orders (b : Base) : Type 1 where
  pub Below : b.Shared → b.Shared → Type 0
  pub OpBelow : b.Op → b.Op → Type 0
  pub AnswerBelow : b.Op → b.Answer → b.Answer → Type 0
  pub ArgBelow : b.Arg → b.Arg → Type 0

module _ (b : Base) (o : Orders b) where
  -- the machine goes on, and no ended thread comes back
  pub record Kept (old new : b.Shared) : Type 0 where
    pub going : b.now new ≡ N.Running
    pub ended : (j : ℕ) → b.has_ended new j ≡ false → b.has_ended old j ≡ false

  -- with some choice the operation makes the machine wrong, and shows nothing
  pub record IsWrongAt (op : b.Op) (i : ℕ) (sh : b.Shared) : Type 0 where
    pub choice : Option ℕ
    pub new : b.Shared
    pub stops : b.effect op i choice sh ≡ Stops None new
    pub wrong : b.now new ≡ N.Wrong

  -- the thread has ended, or the whole machine has stopped; for want of heap only at operations that ask for the same size
  abbrev pub StopsSo : b.Shared → b.Shared → ℕ → Option ℕ → Option ℕ → Type 0
  StopsSo old new i a1 a2 =
      (Kept old new × (b.has_ended new i ≡ true)) ⊎ ((b.now new ≢ N.Running) × (b.now new ≡ N.NoHeap → (size : ℕ) × (a1 ≡ Some size) × (a2 ≡ Some size)))

  -- the effect in the first answers the effect in the second
  abbrev pub EffectBelow : b.Shared → ℕ → b.Op → b.Op → Effect b.Shared b.Answer b.Arg → Effect b.Shared b.Answer b.Arg → Type 0
  EffectBelow old i o1 o2 e Refused = Unit {0}
  EffectBelow old i o1 o2 (Goes r1 e1 s1) (Goes r2 e2 s2) = o.AnswerBelow o2 r1 r2 × (e1 ≡ e2) × o.Below s1 s2 × Kept old s2
  EffectBelow old i o1 o2 (Stops e1 s1) (Stops e2 s2) = (e1 ≡ e2) × o.Below s1 s2 × StopsSo old s2 i (b.asks o1) (b.asks o2)
  EffectBelow old i o1 o2 (Spawns g1 r1 s1) (Spawns g2 r2 s2) = o.ArgBelow g1 g2 × o.AnswerBelow o2 r1 r2 × o.Below s1 s2 × Kept old s2
  EffectBelow old i o1 o2 _ _ = ⊥

  -- what the shared part promises, once for all languages
  pub record IsMonotone : Type 0 where
    pub now_same : (s1 s2 : b.Shared) → o.Below s1 s2 → b.now s1 ≡ b.now s2
    pub not_wrong : (s1 s2 : b.Shared) → o.Below s1 s2 → b.now s2 ≢ N.Wrong
    pub ended_same : (s1 s2 : b.Shared) → o.Below s1 s2 → (i : ℕ) → b.has_ended s1 i ≡ b.has_ended s2 i
    pub put_most : (s1 s2 : b.Shared) → o.Below s1 s2 → (i : ℕ) → b.has_put s2 i ≡ false → b.has_put s1 i ≡ false
    pub heap_same : (s1 s2 : b.Shared) → o.Below s1 s2 → (base : ℕ) → b.heap s1 base ≡ b.heap s2 base
    pub fail_wrong : (s : b.Shared) → b.now (b.fail s) ≡ N.Wrong
    pub effects : (s1 s2 : b.Shared) → o.Below s1 s2 → (o1 o2 : b.Op) → o.OpBelow o1 o2 → b.now s2 ≡ N.Running → (i : ℕ) (c : Option ℕ) → IsWrongAt o1 i s1 ⊎ EffectBelow s2 i o1 o2 (b.effect o1 i c s1) (b.effect o2 i c s2)
    pub drains : (s1 s2 new2 : b.Shared) → o.Below s1 s2 → b.now s2 ≡ N.Running → (i : ℕ) → b.drain i s2 ≡ Some new2 → (new1 : b.Shared) × (b.drain i s1 ≡ Some new1) × ((b.now new1 ≡ N.Wrong) ⊎ (o.Below new1 new2 × Kept s2 new2))
    pub starts_same : (o1 o2 : b.Op) → o.OpBelow o1 o2 → b.is_start o1 ≡ b.is_start o2

  module _ {T U : Type 0} (p : Lang b T) (q : Lang b U) (R : Places → T → U → ℕ → Type 0) where
    -- the first comes by Silent steps to where it offers what the second offers; after answers so related they are related again
    pub record Meets (at : Places) (t : T) (u : U) (op2 : b.Op) : Type 0 where
      pub count : ℕ
      pub silent : AreSilent b p at t count
      pub op : b.Op
      pub offers : p.offer at (silents b p at t count) ≡ Does op
      pub below : o.OpBelow op op2
      pub calls : p.calls (silents b p at t count) ≡ q.calls u
      pub resumes : (a1 a2 : b.Answer) → o.AnswerBelow op2 a1 a2 → (n : ℕ) × R at (p.resume at (silents b p at t count) (Some a1)) (q.resume at u (Some a2)) n

    -- for a Silent step of the second: some of the first, or none and a greater number
    pub record FollowsSilently (at : Places) (t : T) (u : U) (n : ℕ) : Type 0 where
      pub count : ℕ
      pub silent : AreSilent b p at t count
      pub number : ℕ
      pub related : R at (silents b p at t count) (q.resume at u None) number
      pub counted : count ≡ 0 → n < number

    -- the relation ties the threads; its numbers count the Silent steps of the second in a row without one of the first
    pub record IsThreadTie (bound : ℕ) : Type 0 where
      pub globals : SaysSame p.globals q.globals
      pub stated : (f : Names) → SaysSame (p.stated f) (q.stated f)
      pub labels_proper : (at : Places) → q.IsProper at → p.IsProper at
      pub opening : (at : Places) → q.IsProper at → o.Below (p.opening at) (q.opening at)
      pub opens_running : (at : Places) → b.now (q.opening at) ≡ N.Running
      pub first : (at : Places) → q.IsProper at → R at (p.first at) (q.first at) 0
      pub started : (at : Places) → q.IsProper at → (g1 g2 : b.Arg) (t : T) → o.ArgBelow g1 g2 → p.started at g1 ≡ Some t → (u : U) × (q.started at g2 ≡ Some u) × R at t u 0
      pub bounded : (at : Places) (t : T) (u : U) (n : ℕ) → R at t u n → n ≤ bound
      pub calls : (at : Places) (t : T) (u : U) (n : ℕ) → R at t u n → p.calls t ≡ q.calls u
      -- where the first can reach Wrong by Silent steps alone, the second is free
      pub silent : (at : Places) (t : T) (u : U) (n : ℕ) → R at t u n → q.offer at u ≡ Silent → ReachesWrong b p at t ⊎ FollowsSilently at t u n
      pub fails : (at : Places) (t : T) (u : U) (n : ℕ) → R at t u n → q.offer at u ≡ Fails → ReachesWrong b p at t
      pub does : (at : Places) (t : T) (u : U) (n : ℕ) → R at t u n → (op2 : b.Op) → q.offer at u ≡ Does op2 → ReachesWrong b p at t ⊎ Meets at t u op2
