use Rattle.std.proofs.Common.{◌≡◌, ◌-◌, ◌++◌}
use Rattle.clight_globals.specs.Globals.{word_bytes}
use Rattle.clight_globals.proofs.bytes.put_word.Given as goal

abbrev pub invariant-loop : goal.invariant-loop
invariant-loop l = l.bytes.items ++ word_bytes l.left (l.fn.count - l.counter) ≡ l.initial.bytes.items ++ word_bytes l.fn.word l.fn.count
