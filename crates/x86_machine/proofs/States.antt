-- The state of the machine after a thread is changed.
use Rattle.std.proofs.Common.{◌≡◌, ℕ, zero, suc, ◌<◌, List, [], ◌∷◌, length, set, get_or, refl, ap, ◌∙◌, sym, arith, Option, Some, None}
use Rattle.std.specs.Prelude.{slice_get}
use Rattle.std.proofs.lemmas.Option.{same_Some}
use Rattle.x86_machine.specs.declared.thread.Thread as code
use Rattle.x86_steps.specs.declared.access.Access.{Access}
use Rattle.x86_steps.specs.declared.access.Kind.{Kind}
use Rattle.x86_steps.specs.declared.access.Kind.TheVariants as kind
use Rattle.x86_steps.specs.declared.execution.After.{After}
use Rattle.x86_memory.specs.declared.buffer.Write.{Write}
use Rattle.x86_memory.specs.Bytes.{Bytes, written}
use Rattle.x86_machine.specs.Kept.{thread_of, threads_of, thread_with, memory_with}
use Rattle.x86_machine.specs.Target.{Thread, State}
use Rattle.x86_machine.specs.X86Tso.{with_thread, thread_after, stored, drained, drained_by}

pub threads-set : (ts : List code.Thread) (i : ℕ) (x : code.Thread) → threads_of (set ts i x) ≡ set (threads_of ts) i (thread_of x)
threads-set [] i x = refl
threads-set (t ∷ ts) zero x = refl
threads-set (t ∷ ts) (suc i) x = ap (λ us. thread_of t ∷ us) (threads-set ts i x)

-- the thread that was read is the one that is there
pub thread_here : (ts : List code.Thread) (i : ℕ) (x : code.Thread) (t : Thread) → i < length ts → x ≡ get_or ts i x → slice_get (threads_of ts) i ≡ Some t → thread_of x ≡ t
thread_here [] i x t h e f = absurd (omega arith)
thread_here (y ∷ ts) zero x t h e f = ap thread_of e ∙ same_Some (thread_of y) t f
thread_here (y ∷ ts) (suc i) x t h e f = thread_here ts i x t (omega arith) e f

pub with_threads : (m : State) (us ws : List Thread) → us ≡ ws → record m { threads = us } ≡ record m { threads = ws }
with_threads m us ws e = ap (λ (ts : List Thread). record m { threads = ts }) e

-- one thread is another now
pub changed : (m : State) (ts : List code.Thread) (i : ℕ) (x y : code.Thread) (t u : Thread) → m.threads ≡ threads_of ts → i < length ts → x ≡ get_or ts i x → slice_get (threads_of ts) i ≡ Some t → (thread_of x ≡ t → thread_of y ≡ u) → record m { threads = threads_of (set ts i y) } ≡ with_thread m i u
changed m ts i x y t u same h e f k = with_threads m _ _ (threads-set ts i y ∙ (ap (λ (v : Thread). set (threads_of ts) i v) (k (thread_here ts i x t h e f)) ∙ ap (λ vs. set vs i u) (sym same)))

-- what is stored is the thread's part and memory's part
stored_kind : (m : State) (i : ℕ) (t : Thread) (x : Access) (k : Kind) (w : Option ℕ) → record m { memory = memory_with m.memory x k w; threads = set m.threads i (thread_with t x k w) } ≡ stored m i t x k w
stored_kind m i t x kind.Load None = refl
stored_kind m i t x kind.Load (Some w) = refl
stored_kind m i t x kind.Store None = refl
stored_kind m i t x kind.Store (Some w) = refl
stored_kind m i t x kind.Locked None = refl
stored_kind m i t x kind.Locked (Some w) = refl

pub stored_from : (m : State) (ts : List code.Thread) (i : ℕ) (x y : code.Thread) (t : Thread) (after : After) (acc : Access) (w : Option ℕ) (b : Bytes) → m.threads ≡ threads_of ts → i < length ts → x ≡ get_or ts i x → slice_get (threads_of ts) i ≡ Some t → b ≡ memory_with m.memory acc acc.kind w → thread_of y ≡ thread_with (thread_after (thread_of x) after) acc acc.kind w → record m { memory = b; threads = threads_of (set ts i y) } ≡ stored m i (thread_after t after) acc acc.kind w
stored_from m ts i x y t after acc w b same h e f g k =
    let here : thread_of x ≡ t = thread_here ts i x t h e f in
    let thread : thread_of y ≡ thread_with (thread_after t after) acc acc.kind w = k ∙ ap (λ (u : Thread). thread_with (thread_after u after) acc acc.kind w) here in
    let threads : threads_of (set ts i y) ≡ set m.threads i (thread_with (thread_after t after) acc acc.kind w) = threads-set ts i y ∙ (ap (λ (v : Thread). set (threads_of ts) i v) thread ∙ ap (λ (vs : List Thread). set vs i (thread_with (thread_after t after) acc acc.kind w)) (sym same)) in
    ap (λ (c : Bytes). record m { memory = c; threads = threads_of (set ts i y) }) g ∙ (ap (λ (us : List Thread). record m { memory = memory_with m.memory acc acc.kind w; threads = us }) threads ∙ stored_kind m i (thread_after t after) acc acc.kind w)

pub thread_is : (ts : List code.Thread) (i : ℕ) (x : code.Thread) → i < length ts → x ≡ get_or ts i x → slice_get (threads_of ts) i ≡ Some (thread_of x)
thread_is [] i x h e = absurd (omega arith)
thread_is (y ∷ ts) zero x h e = ap (λ (z : code.Thread). Some (thread_of z)) (sym e)
thread_is (y ∷ ts) (suc i) x h e = thread_is ts i x (omega arith) e

-- the oldest write of a thread has reached memory
pub drained_from : (m : State) (ts : List code.Thread) (i : ℕ) (x y : code.Thread) (w : Write) (b : Bytes) → m.threads ≡ threads_of ts → i < length ts → x ≡ get_or ts i x → x.buffer.writes ≡ w ∷ y.buffer.writes → thread_of y ≡ record (thread_of x) { buffer = y.buffer.writes } → b ≡ written m.memory w → Some (None, record m { memory = b; threads = threads_of (set ts i y) }) ≡ drained_by m i (slice_get (threads_of ts) i)
drained_from m ts i x y w b same h e f k g =
    let u : Thread = record (thread_of x) { buffer = y.buffer.writes } in
    let threads : threads_of (set ts i y) ≡ set m.threads i u = threads-set ts i y ∙ (ap (λ (v : Thread). set (threads_of ts) i v) k ∙ ap (λ (vs : List Thread). set vs i u) (sym same)) in
    let after : Some (None, record m { memory = b; threads = threads_of (set ts i y) }) ≡ drained m i (thread_of x) (w ∷ y.buffer.writes) = ap (λ (c : Bytes). Some (None, record m { memory = c; threads = threads_of (set ts i y) })) g ∙ ap (λ (us : List Thread). Some (None, record m { memory = written m.memory w; threads = us })) threads in
    after ∙ (ap (λ (ws : List Write). drained m i (thread_of x) ws) (sym f) ∙ ap (λ (o : Option Thread). drained_by m i o) (sym (thread_is ts i x h e)))

-- where the buffer is empty
pub undrained_from : (m : State) (ts : List code.Thread) (i : ℕ) (x : code.Thread) → i < length ts → x ≡ get_or ts i x → x.buffer.writes ≡ [] → drained_by m i (slice_get (threads_of ts) i) ≡ None
undrained_from m ts i x h e f = ap (λ (o : Option Thread). drained_by m i o) (thread_is ts i x h e) ∙ ap (λ (ws : List Write). drained m i (thread_of x) ws) f

-- a thread that stands for the same, at its place
set_same : (ts : List code.Thread) (i : ℕ) (x : code.Thread) → i < length ts → x ≡ get_or ts i x → set (threads_of ts) i (thread_of x) ≡ threads_of ts
set_same [] i x h e = refl
set_same (t ∷ ts) zero x h e = ap (λ (y : code.Thread). thread_of y ∷ threads_of ts) e
set_same (t ∷ ts) (suc i) x h e = ap (λ us. thread_of t ∷ us) (set_same ts i x (omega arith) e)

pub threads_same : (ts : List code.Thread) (i : ℕ) (x y : code.Thread) → i < length ts → x ≡ get_or ts i x → thread_of y ≡ thread_of x → threads_of (set ts i y) ≡ threads_of ts
threads_same ts i x y h e f = threads-set ts i y ∙ (ap (λ (v : Thread). set (threads_of ts) i v) f ∙ set_same ts i x h e)

-- memory lacks for a store, of which nothing is in memory
memory_of_store : (b : Bytes) (acc : Access) (k : Kind) (w : Option ℕ) → k ≡ kind.Store → memory_with b acc k w ≡ b
memory_of_store b acc k None e = rw e refl
memory_of_store b acc k (Some w) e = rw e refl

pub unstored_from : (m : State) (ts : List code.Thread) (i : ℕ) (x y : code.Thread) (acc : Access) (w : Option ℕ) (b : Bytes) → m.threads ≡ threads_of ts → i < length ts → x ≡ get_or ts i x → b ≡ memory_with m.memory acc acc.kind w → thread_of y ≡ thread_of x → acc.kind ≡ kind.Store → record m { memory = b; threads = threads_of (set ts i y) } ≡ m
unstored_from m ts i x y acc w b same h e f g k =
    ap (λ (us : List Thread). record m { memory = b; threads = us }) (threads_same ts i x y h e g ∙ sym same) ∙ ap (λ (c : Bytes). record m { memory = c }) (f ∙ memory_of_store m.memory acc acc.kind w k)

-- where neither memory nor the thread changes
pub unchanged_from : (m : State) (ts : List code.Thread) (i : ℕ) (x y : code.Thread) (b : Bytes) → m.threads ≡ threads_of ts → i < length ts → x ≡ get_or ts i x → thread_of y ≡ thread_of x → b ≡ m.memory → record m { memory = b; threads = threads_of (set ts i y) } ≡ m
unchanged_from m ts i x y b same h e f g =
    ap (λ (us : List Thread). record m { memory = b; threads = us }) (threads_same ts i x y h e f ∙ sym same) ∙ ap (λ (c : Bytes). record m { memory = c }) g

-- a thread within the list is there
pub thread_found : (ts : List code.Thread) (i : ℕ) → i < length ts → (t : Thread) × (slice_get (threads_of ts) i ≡ Some t)
thread_found [] i h = absurd (omega arith)
thread_found (t ∷ ts) zero h = (thread_of t, refl)
thread_found (t ∷ ts) (suc i) h = thread_found ts i (omega arith)
