-- A thread more, where there is room for its number and a function that can be called so.
use Rattle.std.proofs.Common.{◌≡◌, ◌<◌, ℕ, zero, suc, Bool, false, List, [], ◌∷◌, ◌++◌, length, Some, None, refl, ap, ◌∙◌}
use Rattle.std.specs.Prelude.{slice_get, slice_set}
use Rattle.std.proofs.lemmas.Bool.{lt-ltb}
use Rattle.tso_words.specs.declared.value.Val.{Val}
use Rattle.tso_words.specs.declared.value.Val.TheVariants.{Word}
use Rattle.tso_memory.specs.declared.buffer.Item.{Item}
use Rattle.tso_memory.specs.Memory.{MemoryMeaning}
use Rattle.tso_core.specs.declared.offer.Answer.TheVariants.{Value}
use Rattle.tso_core.specs.declared.offer.Now.{Now}
use Rattle.tso_core.specs.Systems.{Places}
use Rattle.tso_core.specs.Language.{Language}
use Rattle.tso_core.specs.Machine.{MachineState, lang_of}
use Rattle.tso_core.specs.Shared.{Shared, shared_part, spawned, when}
use Rattle.tso_core.specs.Threads.{Spawns, begun, finished}
use Rattle.tso_machine.specs.State.{flag}

-- the mark of the new thread is that of none
pub flag_more : (ended : List Bool) (j : ℕ) → flag (slice_get (ended ++ false ∷ []) j) ≡ flag (slice_get ended j)
flag_more [] zero = refl
flag_more [] (suc j) = refl
flag_more (b ∷ ended) zero = refl
flag_more (b ∷ ended) (suc j) = flag_more ended j

-- the shared part with a buffer more
with_buffer : Shared → Shared
with_buffer sh = record sh { buffers = sh.buffers ++ [] ∷ [] }

pub spawned_gives : {State : Type 0} (l : Language State) (old : MachineState State) (i : ℕ) (s t : State) (fun arg : Val) → length old.shared.buffers < 4294967295 → l.started old.at fun arg ≡ Some t → finished shared_part (lang_of l) old i s (spawned old.shared fun arg) ≡ Some (None, (let m : MachineState State = record { at = old.at; shared = record old.shared { buffers = old.shared.buffers ++ [] ∷ [] }; threads = slice_set old.threads i (l.resumed old.at s (Value (Word (length old.shared.buffers)))) ++ t ∷ [] } in m))
unfolding with_buffer
spawned_gives l old i s t fun arg lt e =
    ap (λ b. finished shared_part (lang_of l) old i s (when b (Spawns (fun, arg) (Value (Word (length old.shared.buffers))) (with_buffer old.shared)))) (lt-ltb (length old.shared.buffers) 4294967295 lt)
    ∙ ap (begun shared_part (lang_of l) old i s (Value (Word (length old.shared.buffers))) (with_buffer old.shared)) e

pub more_state : {State : Type 0} (at : Places) (m : MemoryMeaning) (now : Now) (bs ns : List (List Item)) (es fs : ℕ → Bool) (ts us : List State) → bs ≡ ns → ((j : ℕ) → es j ≡ fs j) → ts ≡ us → (let x : MachineState State = record { at = at; shared = record { memory = m; buffers = bs; ended = es; now = now }; threads = ts } in x) ≡ (let y : MachineState State = record { at = at; shared = record { memory = m; buffers = ns; ended = fs; now = now }; threads = us } in y)
more_state at m now bs ns es fs ts us e f g = λ i. record { at = at; shared = record { memory = m; buffers = e i; ended = λ j. f j i; now = now }; threads = g i }
