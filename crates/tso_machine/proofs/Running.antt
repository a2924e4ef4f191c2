-- A run of a thread, where it is known whether it can run.
use Rattle.std.proofs.Common.{◌≡◌, ◌≢◌, ◌≤◌, ℕ, Bool, true, false, List, length, Option, Some, None, inl, inr, refl, ap, arith}
use Rattle.std.specs.Prelude.{◌⊎◌, map, slice_get}
use Rattle.std.proofs.lemmas.List.{length-map}
use Rattle.std.proofs.lemmas.Option.{slice_get_past}
use Rattle.tso_core.specs.declared.offer.Now.{Now}
use Rattle.tso_core.specs.declared.offer.Now.TheVariants as N
use Rattle.tso_core.specs.Threads.{acted, ran}
use Rattle.tso_core.specs.Language.{Language}
use Rattle.tso_core.specs.Machine.{MachineState, lang_of, offered}
use Rattle.tso_core.specs.Shared.{shared_part}
use Rattle.tso_machine.specs.State.{flag, CannotRun}

module _ {State : Type 0} (l : Language State) (m : MachineState State) (i : ℕ) (c : Option ℕ) where
  same_some : (t s : State) → Some t ≡ Some s → t ≡ s
  same_some t s e = cc

  pub ran_acts : (n : Now) (b : Bool) (t : Option State) (s : State) → n ≡ N.Running → b ≡ false → t ≡ Some s → ran shared_part (lang_of l) m i c n b t ≡ acted shared_part (lang_of l) m i s (offered (l.offer m.at s)) c
  ran_acts N.Running false (Some t) s e f h = ap (λ z. acted shared_part (lang_of l) m i z (offered (l.offer m.at z)) c) (same_some t s h)
  ran_acts N.Running false None s e f h = cc
  ran_acts N.Running true t s e f h = cc
  ran_acts N.Exited b t s e f h = cc
  ran_acts N.Wrong b t s e f h = cc
  ran_acts N.NoHeap b t s e f h = cc

  pub ran_not : (n : Now) (b : Bool) (t : Option State) → (n ≢ N.Running) ⊎ (b ≡ true) ⊎ (t ≡ None) → ran shared_part (lang_of l) m i c n b t ≡ None
  ran_not N.Running b t (inl e) = absurd (e refl)
  ran_not N.Running true t (inr e) = refl
  ran_not N.Running false None (inr e) = refl
  ran_not N.Running false (Some t) (inr (inl e)) = cc
  ran_not N.Running false (Some t) (inr (inr e)) = cc
  ran_not N.Exited b t e = refl
  ran_not N.Wrong b t e = refl
  ran_not N.NoHeap b t e = refl

  pub cannot : {T : Type 0} (f : T → State) (xs : List T) (ended : List Bool) (n : Now) → length ended ≡ length xs → CannotRun n ended i → ran shared_part (lang_of l) m i c n (flag (slice_get ended i)) (slice_get (map f xs) i) ≡ None
  cannot f xs ended n e (inl h) = ran_not n (flag (slice_get ended i)) (slice_get (map f xs) i) (inl h)
  cannot f xs ended n e (inr (inl h)) = ran_not n (flag (slice_get ended i)) (slice_get (map f xs) i) (inr (inl h))
  cannot f xs ended n e (inr (inr h)) =
      let past : length (map f xs) ≤ i = omega (arith, length-map xs f) in
      ran_not n (flag (slice_get ended i)) (slice_get (map f xs) i) (inr (inr (slice_get_past (map f xs) i past)))
