use Rattle.std.proofs.Common.{◌≡◌, length, map}
use Rattle.first_form.specs.Telling.{AreWithin, are_words}
use Rattle.first_form.proofs.form.are_words.Given as goal

abbrev pub invariant-loop-tokens : goal.invariant-loop-tokens
invariant-loop-tokens l = AreWithin (length l.bytes) l.tokens × (are_words l.bytes l.tokens (map (λ word. word.now) l.words) ≡ are_words l.fn.bytes l.fn.tokens (map (λ word. word.now) l.fn.words))

abbrev pub decreases-loop-tokens : goal.decreases-loop-tokens
decreases-loop-tokens l = length l.tokens
