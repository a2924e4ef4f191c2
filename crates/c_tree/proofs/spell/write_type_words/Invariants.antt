use Rattle.std.proofs.Common.{◌≡◌, drop}
use Rattle.c_tree.specs.Shape.{words_of}
use Rattle.c_tree.specs.Printing.{put_type_words}
use Rattle.c_tree.proofs.spell.write_type_words.Given as goal

abbrev pub invariant-loop-word : goal.invariant-loop-word
invariant-loop-word l = put_type_words (words_of (drop l.word-index l.words)) l.out.items ≡ put_type_words (words_of l.words) l.initial.out.items
