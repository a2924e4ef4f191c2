use Rattle.std.proofs.Common.{◌≡◌, [], take}
use Rattle.c_tree.specs.FileShape.{externals_of}
use Rattle.clight_meaning.specs.Counts.{definitions_of}
use Rattle.clight_counts.specs.First.{firsts}
use Rattle.clight_counts.specs.CountsOf.{texts_in}
use Rattle.clight_counts.proofs.texts.texts_in.Given as goal

abbrev pub invariant-loop-external : goal.invariant-loop-external
invariant-loop-external l = l.texts.entries ≡ firsts [] (texts_in (definitions_of (externals_of (take l.external-index l.list))))
