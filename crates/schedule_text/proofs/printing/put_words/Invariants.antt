use Rattle.std.proofs.Common.{◌≡◌, ◌++◌, length}
use Rattle.schedule_text.specs.Printed.{words_text}
use Rattle.schedule_text.proofs.printing.put_words.Given as goal

abbrev pub invariant-loop-rest : goal.invariant-loop-rest
invariant-loop-rest l = l.out.items ++ words_text l.rest ≡ l.initial.out.items ++ words_text l.words

abbrev pub decreases-loop-rest : goal.decreases-loop-rest
decreases-loop-rest l = length l.rest
