-- What a call of the sink in memory answers, and which count it raises. This project's own.
use Rattle.std.specs.Prelude.{◌≡◌, ℕ, List, [], Some, Result, Ok, Err, true, false}
use Rattle.tso_outside.specs.declared.outside.Failed.{Failed}
use Rattle.tso_outside.specs.declared.mem_sink.MemSink.{MemSink}
use Rattle.tso_outside.specs.Counting.{one_more, is_due}
use Rattle.tso_outside.specs.Views.{SinkView}

-- what it tells: everything
abbrev pub sink_view : MemSink → SinkView
sink_view s = record { bytes = Some s.bytes.items; faults = s.faults }

-- a new sink: empty, and nothing counted
pub record OpensSink (grain : ℕ) (failing : List ℕ) (s : MemSink) : Type 0 where
  pub is_empty : s.bytes.items ≡ []
  pub grain_is : s.grain ≡ grain
  pub failing_are : s.failing.items ≡ failing
  pub no_calls : s.calls ≡ 0
  pub no_faults : s.faults ≡ 0

-- every call is counted, and leaves alone how the sink is set
pub record CountsPut (old new : MemSink) : Type 0 where
  pub one_call : new.calls ≡ one_more old.calls
  pub same_grain : new.grain ≡ old.grain
  pub same_failing : new.failing.items ≡ old.failing.items

-- the next call is to fail
abbrev pub IsPutDue : MemSink → Type 0
IsPutDue s = is_due s.failing.items s.calls ≡ true

-- the count of faults after a call: a failed one raises it
abbrev pub PutEnds : MemSink → ℕ → Result ℕ Failed → Type 0
PutEnds s faults (Ok n) = (faults ≡ s.faults) × (is_due s.failing.items s.calls ≡ false)
PutEnds s faults (Err failed) = faults ≡ one_more s.faults
