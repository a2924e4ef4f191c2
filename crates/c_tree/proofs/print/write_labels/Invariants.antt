use Rattle.std.proofs.Common.{◌≡◌, drop}
use Rattle.c_tree.specs.FileShape.{labels_of}
use Rattle.c_tree.specs.Statements.{put_labels}
use Rattle.c_tree.proofs.print.write_labels.Given as goal

abbrev pub invariant-loop-label : goal.invariant-loop-label
invariant-loop-label l = put_labels (labels_of (drop l.label-index l.list)) l.out.items ≡ put_labels (labels_of l.list) l.initial.out.items
