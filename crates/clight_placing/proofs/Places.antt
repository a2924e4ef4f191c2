-- A local is read as a temporary where it is one, and at its address where it is not.
use Rattle.std.proofs.Common.{◌≡◌, ℕ, Option, Some, None, refl, sym, ap}
use Rattle.tso_words.specs.declared.value.Chunk.{Chunk}
use Rattle.clight_lang.specs.Syntax.{Expression, Const, Temp, LocalAddr, GlobalAddr, Read, Unary, Binary, AndAlso, OrElse, Choose}
use Rattle.clight_placing.specs.Placing.{Location, InTemp, InMemory, Inner, placed, temp_of, temp_at, read_at, address_at}

at_temp : (c : Chunk) (l : Location) (t : ℕ) → temp_at l ≡ Some t → read_at c l ≡ Temp t
at_temp c (InTemp u) t h = cc
at_temp c (InMemory m) t h = cc

in_memory : (c : Chunk) (l : Location) → temp_at l ≡ None → read_at c l ≡ Read c (address_at l)
in_memory c (InTemp u) h = cc
in_memory c (InMemory m) h = refl

pub temp_read : (w : Inner) (c : Chunk) (a : Expression) (t : ℕ) → temp_of w a ≡ Some t → placed w (Read c a) ≡ Temp t
temp_read w c (LocalAddr n) t h = at_temp c (w.location n) t h
temp_read w c (Const n) t h = cc
temp_read w c (Temp i) t h = cc
temp_read w c (GlobalAddr x) t h = cc
temp_read w c (Read d a) t h = cc
temp_read w c (Unary op a) t h = cc
temp_read w c (Binary op a b) t h = cc
temp_read w c (AndAlso a b) t h = cc
temp_read w c (OrElse a b) t h = cc
temp_read w c (Choose d a b) t h = cc

pub memory_read : (w : Inner) (c : Chunk) (a : Expression) → temp_of w a ≡ None → placed w (Read c a) ≡ Read c (placed w a)
memory_read w c (LocalAddr n) h = in_memory c (w.location n) h
memory_read w c (Const n) h = refl
memory_read w c (Temp i) h = refl
memory_read w c (GlobalAddr x) h = refl
memory_read w c (Read d a) h = refl
memory_read w c (Unary op a) h = refl
memory_read w c (Binary op a b) h = refl
memory_read w c (AndAlso a b) h = refl
memory_read w c (OrElse a b) h = refl
memory_read w c (Choose d a b) h = refl
