-- What a store and a sink tell, and what each call does to that. This project's own: a store means a finite map from names to bytes and three counts, and nothing is said of files and streams themselves.
use Rattle.std.specs.Prelude.{◌≡◌, ◌≢◌, ◌⊎◌, ℕ, ◌+◌, ◌-◌, ◌^◌, ◌<◌, ◌≤◌, min, List, [], ◌∷◌, ◌++◌, length, take, drop, Option, Some, None, Result, Ok, Err, IfOk, OnErr, IsErr, bytes_eq, if◌then◌else◌}
use Rattle.std.specs.Option.{ForSome}
use Rattle.tso_outside.specs.declared.outside.Failed.{Failed}

-- a finite map from names to bytes: where a name stands twice, the first counts
abbrev pub Files : Type 0
Files = List (List ℕ × List ℕ)

-- what the map holds under a name
abbrev pub held : Files → List ℕ → Option (List ℕ)
held [] name = None
held (file ∷ files) name = if bytes_eq file.0 name then Some file.1 else held files name

-- a missing file counts as empty
abbrev pub or_empty : Option (List ℕ) → List ℕ
or_empty None = []
or_empty (Some bytes) = bytes

-- what a store tells
pub record StoreView : Type 0 where
  pub files : Option Files
  pub read_faults : ℕ
  pub write_faults : ℕ
  pub misses : ℕ

-- what a sink tells
pub record SinkView : Type 0 where
  pub bytes : Option (List ℕ)
  pub faults : ℕ

-- the count went up, or stands at the last value of u64
abbrev pub Rose : ℕ → ℕ → Type 0
Rose before now = min (before + 1) (2 ^ 64 - 1) ≤ now

-- no count fell
pub record Later (before now : StoreView) : Type 0 where
  pub read_faults : before.read_faults ≤ now.read_faults
  pub write_faults : before.write_faults ≤ now.write_faults
  pub misses : before.misses ≤ now.misses

-- a read failed: the count of read faults rose, or that of misses did and, where the files are told, one is missing
abbrev pub ReadCause : (Files → Type 0) → StoreView → StoreView → Type 0
ReadCause Missing before now = Rose before.read_faults now.read_faults ⊎ (Rose before.misses now.misses × ForSome before.files Missing)

-- whether it tells stays, and what it told before leads to what it tells now
abbrev pub Turns : {A : Type 0} → Option A → Option A → (A → A → Type 0) → Type 0
Turns None now P = now ≡ None
Turns {A} (Some old) now P = (new : A) × (now ≡ Some new) × P old new

-- no file but this one changed
abbrev pub Spares : List ℕ → Files → Files → Type 0
Spares name old new = (other : List ℕ) → other ≢ name → held new other ≡ held old other

-- what a read from a place of a file puts at the front of a buffer
abbrev pub ReadsFrom : Option (List ℕ) → ℕ → List ℕ → Result ℕ Failed → Type 0
ReadsFrom None from new result = IsErr result
ReadsFrom (Some bytes) from new result = IfOk result (λ n. (drop from bytes ≡ take n new ++ drop (from + n) bytes) × (n ≡ 0 → (length new ≡ 0) ⊎ (length bytes ≤ from)))

-- a read: it changes no file, and what it puts in front of `new` is what stands in the file
pub record ReadsAt (before now : StoreView) (name : List ℕ) (from : ℕ) (new : List ℕ) (result : Result ℕ Failed) : Type 0 where
  pub later : Later before now
  pub same_files : now.files ≡ before.files
  pub same_write_faults : now.write_faults ≡ before.write_faults
  pub bound : IfOk result (λ n. n ≤ length new)
  pub told : ForSome before.files (λ files. ReadsFrom (held files name) from new result)
  pub cause : OnErr result (ReadCause (λ files. held files name ≡ None) before now)

-- after a call that makes a file new: it is empty; after one that failed it may be as it was
abbrev pub IsMade : {E : Type 0} → Option (List ℕ) → Option (List ℕ) → Result (Unit {0}) E → Type 0
IsMade old new (Ok u) = new ≡ Some []
IsMade old new (Err e) = (new ≡ old) ⊎ (new ≡ Some [])

-- a call that makes a file new changes no other
pub record WritesNew (before now : StoreView) (name : List ℕ) (result : Result (Unit {0}) Failed) : Type 0 where
  pub later : Later before now
  pub same_read_faults : now.read_faults ≡ before.read_faults
  pub same_misses : now.misses ≡ before.misses
  pub told : Turns before.files now.files (λ old new. Spares name old new × IsMade (held old name) (held new name) result)
  pub cause : OnErr result (Rose before.write_faults now.write_faults)

-- how much of a piece was taken
pub record Takes (piece : List ℕ) (n : ℕ) : Type 0 where
  pub within : n ≤ length piece
  pub some : 0 < length piece → 0 < n

-- after a call that appends: so many first bytes of the piece came behind; after one that failed nothing did
abbrev pub IsLonger : {E : Type 0} → Option (List ℕ) → Option (List ℕ) → List ℕ → Result ℕ E → Type 0
IsLonger old new piece (Ok n) = new ≡ Some (or_empty old ++ take n piece)
IsLonger old new piece (Err e) = new ≡ old

-- a call that appends to a file changes no other, and takes something of a piece that is not empty
pub record Appends (before now : StoreView) (name : List ℕ) (piece : List ℕ) (result : Result ℕ Failed) : Type 0 where
  pub later : Later before now
  pub same_read_faults : now.read_faults ≡ before.read_faults
  pub same_misses : now.misses ≡ before.misses
  pub takes : IfOk result (λ n. Takes piece n)
  pub told : Turns before.files now.files (λ old new. Spares name old new × IsLonger (held old name) (held new name) piece result)
  pub cause : OnErr result (Rose before.write_faults now.write_faults)

-- a call that puts a piece on a sink takes something of a piece that is not empty
pub record Puts (before now : SinkView) (piece : List ℕ) (result : Result ℕ Failed) : Type 0 where
  pub later : before.faults ≤ now.faults
  pub takes : IfOk result (λ n. Takes piece n)
  pub told : Turns before.bytes now.bytes (λ old new. IsLonger (Some old) (Some new) piece result)
  pub cause : OnErr result (Rose before.faults now.faults)
