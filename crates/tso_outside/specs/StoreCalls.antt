-- What a call of the store in memory answers, and which count it raises. This project's own; the code decides these by one test and one search.
use Rattle.std.specs.Prelude.{◌≡◌, ℕ, ◌-◌, min, List, length, Some, None, Result, Ok, Err, Vec, String, true, false}
use Rattle.std.specs.declared.alloc.Global.{Global}
use Rattle.tso_outside.specs.declared.outside.Failed.{Failed}
use Rattle.tso_outside.specs.declared.mem_store.MemStore.{MemStore}
use Rattle.tso_outside.specs.Counting.{one_more, is_due}
use Rattle.tso_outside.specs.Entries.{entries}
use Rattle.tso_outside.specs.Views.{StoreView, held}

-- what it tells: everything
abbrev pub store_view : MemStore → StoreView
store_view s = record { files = Some (entries s.files.items); read_faults = s.read_faults; write_faults = s.write_faults; misses = s.misses }

-- a new store: these files, and nothing counted
pub record Opens (files : List (String Global × Vec ℕ Global)) (grain : ℕ) (failing : List ℕ) (s : MemStore) : Type 0 where
  pub files_are : s.files.items ≡ files
  pub grain_is : s.grain ≡ grain
  pub failing_are : s.failing.items ≡ failing
  pub no_calls : s.calls ≡ 0
  pub no_read_faults : s.read_faults ≡ 0
  pub no_write_faults : s.write_faults ≡ 0
  pub no_misses : s.misses ≡ 0

-- every call is counted, and leaves alone how the store is set
pub record Counts (old new : MemStore) : Type 0 where
  pub one_call : new.calls ≡ one_more old.calls
  pub same_grain : new.grain ≡ old.grain
  pub same_failing : new.failing.items ≡ old.failing.items

-- the next call is to fail
abbrev pub IsDue : MemStore → Type 0
IsDue s = is_due s.failing.items s.calls ≡ true

-- how a read ends: the counts of read faults and of misses after it, and its answer
pub data ReadEnds (s : MemStore) (name : List ℕ) (from size : ℕ) : ℕ → ℕ → Result ℕ Failed → Type 0 where
  -- where it is to fail
  Due : (failed : Failed) → IsDue s → ReadEnds s name from size (one_more s.read_faults) s.misses (Err failed)
  -- else where the file is missing
  Misses : (failed : Failed) → is_due s.failing.items s.calls ≡ false → held (entries s.files.items) name ≡ None → ReadEnds s name from size s.read_faults (one_more s.misses) (Err failed)
  -- else it gives what is left of the file, as much as fits and at most the grain
  Gives : (bytes : List ℕ) → is_due s.failing.items s.calls ≡ false → held (entries s.files.items) name ≡ Some bytes → ReadEnds s name from size s.read_faults s.misses (Ok (min s.grain (min size (length bytes - from))))

-- the count of write faults after a write: a failed one raises it
abbrev pub WriteEnds : {A : Type 0} → MemStore → ℕ → Result A Failed → Type 0
WriteEnds s faults (Ok answer) = (faults ≡ s.write_faults) × (is_due s.failing.items s.calls ≡ false)
WriteEnds s faults (Err failed) = faults ≡ one_more s.write_faults
