use Rattle.std.proofs.Common.{length}
use Rattle.c_parts.proofs.specifiers.+words_count.Given as goal

abbrev pub decreases-words_count : goal.decreases-words_count
decreases-words_count l = length l.words.now
