-- Memories as functions, and what holds after an outcome.
use Rattle.std.proofs.Common.{◌≡◌, ℕ, Ok, Err}
use Rattle.std.specs.Prelude.{Result, OnOk, OnErr}
use Rattle.x86_memory.specs.Bytes.{Bytes}

-- the same byte at each address
pub same_bytes : (m n : Bytes) → ((x : ℕ) → m x ≡ n x) → m ≡ n
same_bytes m n q = λ i. λ x. q x i

pub OnOk-map : {T E : Type 0} {P Q : Type 0} (r : Result T E) → (P → Q) → OnOk r P → OnOk r Q
OnOk-map (Ok x) f h = f h
OnOk-map (Err e) f h = h

pub OnErr-map : {T E : Type 0} {P Q : Type 0} (r : Result T E) → (P → Q) → OnErr r P → OnErr r Q
OnErr-map (Ok x) f h = h
OnErr-map (Err e) f h = f h
