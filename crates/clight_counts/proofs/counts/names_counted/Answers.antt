use Rattle.std.proofs.Common.{◌≡◌, ◌∷◌}
use Rattle.std.specs.Map.Iter.{deref_pair}
use Rattle.std.proofs.lemmas.Map.Iter.{rest_more}
use Rattle.c_tree.specs.FileShape.{file_of}
use Rattle.clight_files.specs.FilesOf.{file_made_of}
use Rattle.clight_counts.proofs.Passing.{kept_as, names_next, names_stop, nodes_next, bytes_next}
use Rattle.clight_counts.proofs.counts.names_counted.Goals as goal

pub loop-name-preserved : goal.loop-name-preserved
loop-name-preserved c =
    let front = rest_more deref_pair c.loop-name.name-iterator c.next.new.self c.next.result (c.in-Some.name, c.in-Some.known) c.in-Some.is c.next.ensures.steps in
    record {
      passes = names_next (file_of c.args.file.now) (file_made_of c.args.made.now) c.args.sizes.now c.requires _ c.next.new.self c.in-Some.name.now c.in-Some.known.now front _ c.in_ok-name_counted.ensures.kept c.loop-name.invariant.passes;
      nodes = nodes_next (file_of c.args.file.now) (file_made_of c.args.made.now) c.args.sizes.now c.requires _ c.next.new.self c.in-Some.name.now c.in-Some.known.now front _ _ _ c.in_ok-name_counted.ensures.nodes c.loop-name.invariant.nodes;
      bytes = bytes_next (file_of c.args.file.now) (file_made_of c.args.made.now) c.args.sizes.now c.requires _ c.next.new.self c.in-Some.name.now c.in-Some.known.now front _ _ _ c.in_ok-name_counted.ensures.bytes c.loop-name.invariant.bytes;
    }

pub returns-in_err-name_counted-clause-kept : goal.returns-in_err-name_counted-clause-kept
returns-in_err-name_counted-clause-kept c =
    let front = rest_more deref_pair c.loop-name.name-iterator c.next.new.self c.next.result (c.in-Some.name, c.in-Some.known) c.in-Some.is c.next.ensures.steps in
    kept_as (Unit {0}) _ c.from_residual.result c.in_err-name_counted.field-0.0 c.from_residual.ensures.1
    (names_stop (file_of c.args.file.now) (file_made_of c.args.made.now) c.args.sizes.now c.requires _ c.next.new.self c.in-Some.name.now c.in-Some.known.now front _ _ c.in_err-name_counted.ensures.kept c.loop-name.invariant.passes)
