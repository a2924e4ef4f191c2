use Rattle.std.proofs.Common.{◌≡◌, [], drop}
use Rattle.c_tree.specs.FileShape.{externals_of}
use Rattle.clight_scopes.specs.Scopes.{with_each}
use Rattle.clight_files.specs.Files.{defined_names}
use Rattle.clight_files.proofs.files.defined_names.Given as goal

abbrev pub invariant-loop-external : goal.invariant-loop-external
invariant-loop-external l = with_each l.names.keys (defined_names (externals_of (drop l.external-index l.list))) ≡ with_each [] (defined_names (externals_of l.list))
