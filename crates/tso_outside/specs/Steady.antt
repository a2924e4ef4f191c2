-- The store and the sink that never fail: what they tell, and what the store's files hold. This project's own.
use Rattle.std.specs.Prelude.{ℕ, ◌+◌, ◌-◌, ◌^◌, min, List, None, String, Vec}
use Rattle.std.specs.declared.alloc.Global.{Global}
use Rattle.tso_outside.specs.Entries.{entries}
use Rattle.tso_outside.specs.Views.{StoreView, SinkView, held, or_empty}

-- they tell nothing, and their counts are 0 for ever
abbrev pub silent_store : StoreView
silent_store = record { files = None; read_faults = 0; write_faults = 0; misses = 0 }

abbrev pub silent_sink : SinkView
silent_sink = record { bytes = None; faults = 0 }

-- a missing file reads as an empty one
abbrev pub bytes_in : List (String Global × Vec ℕ Global) → List ℕ → List ℕ
bytes_in files name = or_empty (held (entries files) name)

-- a number of bytes, and some more, up to the last value of u64
abbrev pub plus : ℕ → ℕ → ℕ
plus written more = min (written + more) (2 ^ 64 - 1)
