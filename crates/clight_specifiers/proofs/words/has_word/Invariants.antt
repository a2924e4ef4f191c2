use Rattle.std.proofs.Common.{◌≡◌, drop}
use Rattle.c_tree.specs.Shape.{word_of, words_of}
use Rattle.clight_typing.specs.Typing.{has_word}
use Rattle.clight_specifiers.proofs.words.has_word.Given as goal

abbrev pub invariant-loop-other : goal.invariant-loop-other
invariant-loop-other l = has_word (word_of l.word) (words_of (drop l.other-index l.words)) ≡ has_word (word_of l.word) (words_of l.words)
