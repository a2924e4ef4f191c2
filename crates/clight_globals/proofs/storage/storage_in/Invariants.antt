use Rattle.std.proofs.Common.{◌≡◌, drop}
use Rattle.c_tree.specs.Shape.{specifiers_of}
use Rattle.clight_globals.specs.Globals.{storage_in}
use Rattle.clight_globals.proofs.storage.storage_in.Given as goal

abbrev pub invariant-loop-specifier : goal.invariant-loop-specifier
invariant-loop-specifier l = storage_in (specifiers_of (drop l.specifier-index l.list)) ≡ storage_in (specifiers_of l.list)
