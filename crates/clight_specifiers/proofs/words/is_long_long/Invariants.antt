use Rattle.std.proofs.Common.{◌≡◌, drop, cond}
use Rattle.c_grammar.specs.Tokens as k
use Rattle.c_tree.specs.Shape.{words_of}
use Rattle.clight_typing.specs.Typing.{has_word, is_long_long}
use Rattle.clight_specifiers.proofs.words.is_long_long.Given as goal

abbrev pub invariant-loop-word : goal.invariant-loop-word
invariant-loop-word l = cond l.is_long (has_word k.Long (words_of (drop l.word-index l.words))) (is_long_long (words_of (drop l.word-index l.words))) ≡ is_long_long (words_of l.words)
