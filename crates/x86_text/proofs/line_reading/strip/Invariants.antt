use Rattle.std.proofs.Common.{◌≡◌, length}
use Rattle.x86_text.specs.Scanning.{strip}
use Rattle.x86_text.proofs.line_reading.strip.Given as goal

abbrev pub invariant-loop-left : goal.invariant-loop-left
invariant-loop-left l = strip l.left l.rest ≡ strip l.mark l.bytes

abbrev pub decreases-loop-left : goal.decreases-loop-left
decreases-loop-left l = length l.left
