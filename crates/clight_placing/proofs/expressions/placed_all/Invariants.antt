use Rattle.std.proofs.Common.{◌≡◌, ◌++◌, map, drop}
use Rattle.clight_lang.specs.Syntax.{expression_of}
use Rattle.clight_placing.specs.Placing.{placed}
use Rattle.clight_placing.specs.InnerOf.{inner_of}
use Rattle.clight_placing.proofs.expressions.placed_all.Given as goal

abbrev pub invariant-loop-e : goal.invariant-loop-e
invariant-loop-e l = map expression_of l.made.items ++ map (placed (inner_of l.inner)) (map expression_of (drop l.e-index l.list)) ≡ map (placed (inner_of l.inner)) (map expression_of l.list)
