-- A right access ends at or below the last address.
use Rattle.std.proofs.Common.{◌≡◌, ℕ, ◌+◌, ◌-◌, ◌≤◌, ◌^◌, Bool, true, false, List, [], ◌∷◌, refl, arith}
use Rattle.std.specs.Prelude.{◌&&◌, ◌||◌, nat_le}
use Rattle.std.specs.List.{list_any}
use Rattle.std.specs.Bool.{OnTrue}
use Rattle.std.proofs.lemmas.Bool.{leb-true}
use Rattle.x86_steps.specs.declared.access.Size.{Size}
use Rattle.x86_steps.specs.Accesses.{bytes_of}
use Rattle.x86_lang.specs.Assembly.{data_start, heap_start}
use Rattle.x86_machine.specs.declared.thread.Thread as code
use Rattle.x86_machine.specs.Kept.{threads_of}
use Rattle.x86_machine.specs.Target.{lies_in, stack_size, stacks_start, is_mapped, is_right_among}

second : (a b : Bool) → (a && b) ≡ true → b ≡ true
second true b e = e
second false b e = cc

-- a range that lies in another ends at or before its end
lies_below : (base bytes x n end : ℕ) → base + bytes ≤ end → lies_in base bytes x n ≡ true → x + n ≤ end
lies_below base bytes x n end h e = let le : x + n ≤ base + bytes = leb-true (x + n) (base + bytes) (second (nat_le base x) (nat_le (x + n) (base + bytes)) e) in omega arith

pub stacks_below : (ts : List code.Thread) (x n : ℕ) → list_any (λ t. lies_in t.stack stack_size x n) (threads_of ts) ≡ true → x + n ≤ 2 ^ 32
stacks_below [] x n e = cc
stacks_below (t ∷ ts) x n e = at_test t ts x n (stacks_below ts x n) (lies_in t.stack stack_size x n) refl e
  where
    at_test : (t : code.Thread) (ts : List code.Thread) (x n : ℕ) → (list_any (λ u. lies_in u.stack stack_size x n) (threads_of ts) ≡ true → x + n ≤ 2 ^ 32) → (b : Bool) → lies_in t.stack stack_size x n ≡ b → (b || list_any (λ u. lies_in u.stack stack_size x n) (threads_of ts)) ≡ true → x + n ≤ 2 ^ 32
    at_test t ts x n rest true f e = lies_below t.stack stack_size x n (2 ^ 32) t.stack_fits f
    at_test t ts x n rest false f e = rest e

mapped_below : (bytes : ℕ) (ts : List code.Thread) (x n : ℕ) → data_start + bytes ≤ heap_start → (a b : Bool) → lies_in data_start bytes x n ≡ a → lies_in heap_start (stacks_start - heap_start) x n ≡ b → (a || (b || list_any (λ t. lies_in t.stack stack_size x n) (threads_of ts))) ≡ true → x + n ≤ 2 ^ 32
mapped_below bytes ts x n h true b e f g = lies_below data_start bytes x n (2 ^ 32) (omega arith) e
mapped_below bytes ts x n h false true e f g = lies_below heap_start (stacks_start - heap_start) x n (2 ^ 32) (omega arith) f
mapped_below bytes ts x n h false false e f g = stacks_below ts x n g

pub right_below : (bytes : ℕ) (ts : List code.Thread) (s : Size) (x : ℕ) → data_start + bytes ≤ heap_start → is_mapped bytes (threads_of ts) x (bytes_of s) ≡ true → x + bytes_of s ≤ 2 ^ 32
right_below bytes ts s x h e = mapped_below bytes ts x (bytes_of s) h (lies_in data_start bytes x (bytes_of s)) (lies_in heap_start (stacks_start - heap_start) x (bytes_of s)) refl refl e

pub on_true : (b : Bool) (P : Type 0) → (b ≡ true → P) → OnTrue b P
on_true true P h = h refl
on_true false P h = tt
