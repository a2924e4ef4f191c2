use Rattle.std.proofs.Common.{◌≡◌, ◌≤◌, length, nat_eq, take}
use Rattle.std.specs.Cmp.Lexicographic.{pointwise}
use Rattle.indexmap.specs.IndexMap.{get}
use Rattle.tso_core.specs.Systems.{Names}
use Rattle.x86_machine.specs.Target.{words_of}
use Rattle.x86_machine.proofs.Externals.{words_or}
use Rattle.x86_machine.proofs.table.words_by_name.Given as goal

abbrev pub invariant-loop-left : goal.invariant-loop-left
invariant-loop-left l = record {
  within : l.left ≤ length l.externs;
  words_are : (name : Names) → words_or (take l.left l.externs) name (get (pointwise nat_eq) l.words name) ≡ words_of l.externs name;
}

abbrev pub decreases-loop-left : goal.decreases-loop-left
decreases-loop-left l = l.left
