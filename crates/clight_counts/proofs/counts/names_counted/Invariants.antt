use Rattle.std.proofs.Common.{◌≡◌, ◌+◌, []}
use Rattle.std.specs.Prelude.{sum_by}
use Rattle.c_tree.specs.FileShape.{file_of}
use Rattle.clight_scopes.specs.SceneOf.{file_of as names_of}
use Rattle.clight_files.specs.FilesOf.{file_made_of}
use Rattle.clight_meaning.specs.Counts.{functions_pass, entity_nodes, entity_bytes}
use Rattle.clight_counts.proofs.counts.names_counted.Given as goal

abbrev pub invariant-loop-name : goal.invariant-loop-name
invariant-loop-name l = record {
  passes : functions_pass (file_of l.file) (file_made_of l.made) (names_of l.name-iterator) [] ≡ functions_pass (file_of l.file) (file_made_of l.made) (file_made_of l.made).scene.file [];
  nodes : l.totals.nodes + sum_by (entity_nodes (file_of l.file) (file_made_of l.made)) (names_of l.name-iterator) ≡ l.fn.totals.nodes + sum_by (entity_nodes (file_of l.file) (file_made_of l.made)) (file_made_of l.made).scene.file;
  bytes : l.totals.bytes + sum_by (λ x. entity_bytes (file_made_of l.made).scene.types x.entity) (names_of l.name-iterator) ≡ l.fn.totals.bytes + sum_by (λ x. entity_bytes (file_made_of l.made).scene.types x.entity) (file_made_of l.made).scene.file;
}
