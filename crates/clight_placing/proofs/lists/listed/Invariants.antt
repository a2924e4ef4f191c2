use Rattle.std.proofs.Common.{◌≡◌, map, vec_len}
use Rattle.clight_lang.specs.Syntax.{statements_of}
use Rattle.clight_placing.specs.Placing.{both}
use Rattle.clight_placing.specs.Listed.{listed, shared_of}
use Rattle.clight_placing.proofs.lists.listed.Given as goal

abbrev pub decreases-loop-last : goal.decreases-loop-last
decreases-loop-last l = vec_len l.rest

abbrev pub invariant-loop-last : goal.invariant-loop-last
invariant-loop-last l = both (listed (map shared_of l.rest.items)) (statements_of l.made.value) ≡ listed (map shared_of l.fn.list.items)
