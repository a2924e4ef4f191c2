use Rattle.std.proofs.Common.{◌≡◌, drop}
use Rattle.c_tree.specs.FileShape.{externals_of}
use Rattle.c_tree.specs.Statements.{put_externals, file_text}
use Rattle.c_tree.proofs.print.print_file.Given as goal

abbrev pub invariant-loop-external : goal.invariant-loop-external
invariant-loop-external l = put_externals (externals_of (drop l.external-index l.file.externals.items)) l.out.items ≡ file_text (externals_of l.file.externals.items)
