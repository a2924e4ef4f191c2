-- Drains of one thread's buffer, one after another.
use Rattle.std.proofs.Common.{◌≡◌, ℕ, zero, suc, ◌≤◌, List, [], ◌∷◌, ◌++◌, length, Option, Some, None, refl, sym, ap, subst, ◌∙◌, arith}
use Rattle.std.specs.Prelude.{slice_get, slice_set, IsSome}
use Rattle.tso_memory.specs.declared.buffer.Item.{Item}
use Rattle.tso_memory.specs.Memory.{MemoryMeaning}
use Rattle.tso_memory.specs.Buffer.{applied, and_then, view}
use Rattle.tso_core.specs.declared.Event.{Event}
use Rattle.tso_core.specs.declared.Step.TheVariants.{Drain}
use Rattle.tso_core.specs.declared.offer.Now.TheVariants as N
use Rattle.tso_core.specs.Systems.{after, shown, IsRun, events_of, state_of, runs_of}
use Rattle.tso_core.specs.Threads.{drained}
use Rattle.tso_core.specs.Language.{Language}
use Rattle.tso_core.specs.Machine.{MachineState, open_machine, lang_of, step}
use Rattle.tso_core.specs.Shared.{Shared, shared_part, buffer_of, items_or_none, drained_by, put_on, failed}
use Rattle.tso_pairs.specs.Draining.{drains, Leads, ComesToWrong, drained_to, FrontDrains, WrongFrontDrains}

-- buffers that are put back
set_own : (bs : List (List Item)) (i : ℕ) → slice_set bs i (items_or_none (slice_get bs i)) ≡ bs
set_own [] i = refl
set_own (b ∷ bs) zero = refl
set_own (b ∷ bs) (suc i) = ap (λ l. b ∷ l) (set_own bs i)

set_twice : (bs : List (List Item)) (i : ℕ) (x y : List Item) → slice_set (slice_set bs i x) i y ≡ slice_set bs i y
set_twice [] i x y = refl
set_twice (b ∷ bs) zero x y = refl
set_twice (b ∷ bs) (suc i) x y = ap (λ l. b ∷ l) (set_twice bs i x y)

no_item : (y : Item) (ys : List Item) → [] ≡ y ∷ ys → ⊥
no_item y ys e = cc

found_set : (bs : List (List Item)) (i : ℕ) (item : Item) (old new : List Item) → items_or_none (slice_get bs i) ≡ item ∷ old → items_or_none (slice_get (slice_set bs i new) i) ≡ new
found_set [] i item old new e = absurd (no_item item old e)
found_set (b ∷ bs) zero item old new e = refl
found_set (b ∷ bs) (suc i) item old new e = found_set bs i item old new e

same_memory : (m n : MemoryMeaning) → Some m ≡ Some n → m ≡ n
same_memory m n e = cc

no_memory : (n : MemoryMeaning) → None ≡ Some n → ⊥
no_memory n e = cc

-- no drain is a run
pub no_runs : (i j count : ℕ) → runs_of j (drains i count) ≡ 0
no_runs i j zero = refl
no_runs i j (suc n) = omega (arith, no_runs i j n)

module _ {State : Type 0} (l : Language State) where
  abbrev M : Type 0
  M = MachineState State

  with_shared : M → Shared → M
  with_shared m sh = record { at = m.at; shared = sh; threads = m.threads }

  -- a step that shows nothing, and others behind it
  behind : (m n new : M) (i count : ℕ) → step l m (Drain i) ≡ Some (None, n) → Leads l n i count new → Leads l m i (suc count) new
  behind m n new i count e h = record {
    is_run = subst (λ (o : Option (Option Event × M)). IsSome o × IsRun (open_machine l) (state_of m o) (drains i count)) (sym e) (refl, h.is_run);
    quiet = subst (λ (o : Option (Option Event × M)). events_of o ++ shown (open_machine l) (state_of m o) (drains i count) ≡ []) (sym e) h.quiet;
    leads = subst (λ (o : Option (Option Event × M)). after (open_machine l) (state_of m o) (drains i count) ≡ new) (sym e) h.leads;
  }

  -- one drain
  one_drain : (m : M) (i : ℕ) (item : Item) (rest : List Item) (o : Option MemoryMeaning) → m.shared.now ≡ N.Running → buffer_of m.shared i ≡ item ∷ rest → applied m.shared.memory item ≡ o → step l m (Drain i) ≡ Some (None, (let n : M = record m { shared = put_on m.shared i rest o } in n))
  one_drain m i item rest o run e f =
      ap (λ n. drained shared_part (lang_of l) m n (drained_by m.shared i (buffer_of m.shared i))) run
      ∙ (ap (λ b. drained shared_part (lang_of l) m N.Running (drained_by m.shared i b)) e
      ∙ ap (λ z. drained shared_part (lang_of l) m N.Running (Some (put_on m.shared i rest z))) f)

  pub front_drains : FrontDrains l
  front_drains m i [] rest memory run e v =
      record {
        is_run = tt;
        quiet = refl;
        leads =
            let same : m.shared.memory ≡ memory = same_memory m.shared.memory memory v in
            let back : m.shared.buffers ≡ slice_set m.shared.buffers i rest = sym (set_own m.shared.buffers i) ∙ ap (slice_set m.shared.buffers i) e in
            (λ j. record { at = m.at; shared = record m.shared { memory = same j; buffers = back j }; threads = m.threads });
      }
  front_drains m i (x ∷ xs) rest memory run e v = go (applied m.shared.memory x) (λ n. front_drains n i xs rest memory) refl v
    where
      go : (o : Option MemoryMeaning) → ((n : M) → n.shared.now ≡ N.Running → buffer_of n.shared i ≡ xs ++ rest → view n.shared.memory xs ≡ Some memory → Leads l n i (length xs) (drained_to l n i memory rest)) → applied m.shared.memory x ≡ o → and_then o (λ k. view k xs) ≡ Some memory → Leads l m i (suc (length xs)) (drained_to l m i memory rest)
      go None later f h = absurd (no_memory memory h)
      go (Some k) later f h =
          let n : M = record m { shared = record m.shared { memory = k; buffers = slice_set m.shared.buffers i (xs ++ rest) } } in
          let more = later n run (found_set m.shared.buffers i x (xs ++ rest) (xs ++ rest) e) h in
          let twice : drained_to l n i memory rest ≡ drained_to l m i memory rest = ap (λ bs. let z : M = record { at = m.at; shared = record m.shared { memory = memory; buffers = bs }; threads = m.threads } in z) (set_twice m.shared.buffers i (xs ++ rest) rest) in
          behind m n (drained_to l m i memory rest) i (length xs) (one_drain m i x (xs ++ rest) (Some k) run e f) (subst (Leads l n i (length xs)) twice more)

  pub wrong_front_drains : WrongFrontDrains l
  wrong_front_drains m i [] rest run e v = cc
  wrong_front_drains m i (x ∷ xs) rest run e v = go (applied m.shared.memory x) (λ n. wrong_front_drains n i xs rest) refl v
    where
      go : (o : Option MemoryMeaning) → ((n : M) → n.shared.now ≡ N.Running → buffer_of n.shared i ≡ xs ++ rest → view n.shared.memory xs ≡ None → ComesToWrong l n i) → applied m.shared.memory x ≡ o → and_then o (λ k. view k xs) ≡ None → ComesToWrong l m i
      go None later f h =
          let n : M = record m { shared = failed m.shared } in
          let one : 1 ≤ 1 = omega arith in
          record { count = 1; new = n; some = one; leads = behind m n n i 0 (one_drain m i x (xs ++ rest) None run e f) (record { is_run = tt; quiet = refl; leads = refl }); wrong = refl }
      go (Some k) later f h =
          let n : M = record m { shared = record m.shared { memory = k; buffers = slice_set m.shared.buffers i (xs ++ rest) } } in
          let more = later n run (found_set m.shared.buffers i x (xs ++ rest) (xs ++ rest) e) h in
          let some : 1 ≤ suc more.count = omega arith in
          record { count = suc more.count; new = more.new; some = some; leads = behind m n more.new i more.count (one_drain m i x (xs ++ rest) (Some k) run e f) more.leads; wrong = more.wrong }
