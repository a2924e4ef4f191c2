-- Files that are read and written whole, and lines that are put whole. This project's own; the code does so in pieces.
use Rattle.std.specs.Prelude.{◌≡◌, ◌⊎◌, ℕ, ◌<◌, ◌≤◌, List, [], ◌++◌, length, take, Option, Some, None, Result, Ok, Err, IfOk, OnOk, OnErr, IsErrOf, Vec}
use Rattle.std.specs.Option.{ForSome}
use Rattle.std.specs.declared.alloc.Global.{Global}
use Rattle.tso_outside.specs.declared.outside.Failed.{Failed}
use Rattle.tso_outside.specs.Views.{held, StoreView, SinkView, Rose, Later, ReadCause, Turns, Spares}
use Rattle.tso_files.specs.declared.whole.ReadRefusal.{ReadRefusal}
use Rattle.tso_files.specs.declared.whole.ReadRefusal.TheVariants as refusal

-- what a file that is read whole gives
abbrev pub IsWhole : Option (List ℕ) → ℕ → Result (Vec ℕ Global) ReadRefusal → Type 0
IsWhole None limit (Ok bytes) = ⊥
IsWhole (Some bytes) limit (Ok read) = (read.items ≡ bytes) × (length bytes ≤ limit)
IsWhole None limit (Err refusal.TooLong) = ⊥
IsWhole (Some bytes) limit (Err refusal.TooLong) = limit < length bytes
IsWhole _ limit (Err refusal.ReadFault) = Unit {0}
IsWhole _ limit (Err refusal.NoMemory) = Unit {0}

-- a file that was read whole; a refusal by ReadFault has its cause
pub record ReadsWhole (before now : StoreView) (name : List ℕ) (limit : ℕ) (result : Result (Vec ℕ Global) ReadRefusal) : Type 0 where
  pub later : Later before now
  pub same_files : now.files ≡ before.files
  pub same_write_faults : now.write_faults ≡ before.write_faults
  pub bound : IfOk result (λ bytes. length bytes.items ≤ limit)
  pub told : ForSome before.files (λ files. IsWhole (held files name) limit result)
  pub cause : IsErrOf result refusal.ReadFault → ReadCause (λ files. held files name ≡ None) before now

-- what a file that is written whole holds: its text, or after a fault what it held or a prefix
abbrev pub IsWritten : {E : Type 0} → Option (List ℕ) → Option (List ℕ) → List ℕ → Result (Unit {0}) E → Type 0
IsWritten old new text (Ok u) = new ≡ Some text
IsWritten old new text (Err e) = (new ≡ old) ⊎ ((k : ℕ) × (new ≡ Some (take k text)))

-- a file that was made new and then written; no other changes
pub record WritesWhole (before now : StoreView) (name text : List ℕ) (result : Result (Unit {0}) Failed) : Type 0 where
  pub later : Later before now
  pub same_read_faults : now.read_faults ≡ before.read_faults
  pub same_misses : now.misses ≡ before.misses
  pub told : Turns before.files now.files (λ old new. Spares name old new × IsWritten (held old name) (held new name) text result)
  pub cause : OnErr result (Rose before.write_faults now.write_faults)

-- lines that were put on a sink: all of them, or after a fault a prefix; no lines leave it alone
pub record PutsWhole (before now : SinkView) (lines : List ℕ) (result : Result (Unit {0}) Failed) : Type 0 where
  pub later : before.faults ≤ now.faults
  pub prefix : Turns before.bytes now.bytes (λ old new. (k : ℕ) × (new ≡ old ++ take k lines))
  pub whole : OnOk result (Turns before.bytes now.bytes (λ old new. new ≡ old ++ lines))
  pub cause : OnErr result (Rose before.faults now.faults)
  pub nothing : lines ≡ [] → now ≡ before
