use Rattle.std.proofs.Common.{◌≡◌, ◌+◌, ap, ◌∙◌, rules, arith, length}
use Rattle.std.proofs.lemmas.Grind.{common_steps}
use Rattle.std.specs.Prelude.{sum_by}
use Rattle.c_tree.specs.FileShape.{externals_of, file_of}
use Rattle.clight_files.specs.FilesOf.{file_made_of}
use Rattle.clight_meaning.specs.Counts.{outer_nodes, entity_nodes, file_nodes, global_bytes}
use Rattle.clight_counts.specs.declared.sizes.Sizes.{Sizes}
use Rattle.clight_counts.proofs.Passing.{kept_as, names_first, functions_first, nodes_first, bytes_first}
use Rattle.clight_counts.proofs.counts.counts_kept.Goals as goal

pub returns-in_err-names_counted-clause-kept : goal.returns-in_err-names_counted-clause-kept
returns-in_err-names_counted-clause-kept c =
    kept_as Sizes _ c.from_residual-in_err-names_counted.result c.in_err-names_counted.field-0.0 c.from_residual-in_err-names_counted.ensures.1
    (names_first (file_of c.args.file.now) (file_made_of c.args.made.now) c.in_ok-sizes.sizes c.in_ok-sizes.ensures c.args.length Sizes c.in_err-names_counted.field-0.0 c.in_err-names_counted.ensures.kept)

pub returns-in_err-kept-clause-kept : goal.returns-in_err-kept-clause-kept
returns-in_err-kept-clause-kept c =
    let count : c.len.result ≡ length (file_made_of c.args.made.now).functions = first_of (search rules, grind (arith, common_steps)) in
    kept_as Sizes _ c.from_residual-in_err-kept.result c.in_err-kept.field-0.0 c.from_residual-in_err-kept.ensures.1
    (functions_first (file_of c.args.file.now) (file_made_of c.args.made.now) c.in_ok-sizes.sizes c.in_ok-sizes.ensures c.args.length Sizes c.in_err-kept.field-0.0 c.len.result c.in_ok-names_counted.ensures.kept count c.in_err-kept.ensures)

pub returns-in_err-kept-2-clause-kept : goal.returns-in_err-kept-2-clause-kept
returns-in_err-kept-2-clause-kept c =
    let count : c.len.result ≡ length (file_made_of c.args.made.now).functions = first_of (search rules, grind (arith, common_steps)) in
    let nodes : c.names_counted.new.totals.nodes ≡ file_nodes (file_of c.args.file.now) (file_made_of c.args.made.now) =
    c.in_ok-names_counted.ensures.nodes ∙ ap (λ n. n + sum_by (entity_nodes (file_of c.args.file.now) (file_made_of c.args.made.now)) (file_made_of c.args.made.now).scene.file) (c.in_ok-outer_nodes.ensures ∙ ap (λ xs. sum_by outer_nodes (externals_of xs)) c.deref.ensures.value) in
    kept_as Sizes _ c.from_residual-in_err-kept-2.result c.in_err-kept-2.field-0.0 c.from_residual-in_err-kept-2.ensures.1
    (nodes_first (file_of c.args.file.now) (file_made_of c.args.made.now) c.in_ok-sizes.sizes c.in_ok-sizes.ensures c.args.length Sizes c.in_err-kept-2.field-0.0 c.len.result c.names_counted.new.totals.nodes c.in_ok-names_counted.ensures.kept count c.in_ok-kept.ensures nodes c.in_err-kept-2.ensures)

pub returns-in_err-kept-3-clause-kept : goal.returns-in_err-kept-3-clause-kept
returns-in_err-kept-3-clause-kept c =
    let count : c.len.result ≡ length (file_made_of c.args.made.now).functions = first_of (search rules, grind (arith, common_steps)) in
    let nodes : c.names_counted.new.totals.nodes ≡ file_nodes (file_of c.args.file.now) (file_made_of c.args.made.now) =
    c.in_ok-names_counted.ensures.nodes ∙ ap (λ n. n + sum_by (entity_nodes (file_of c.args.file.now) (file_made_of c.args.made.now)) (file_made_of c.args.made.now).scene.file) (c.in_ok-outer_nodes.ensures ∙ ap (λ xs. sum_by outer_nodes (externals_of xs)) c.deref.ensures.value) in
    let bytes : c.names_counted.new.totals.bytes ≡ global_bytes (file_made_of c.args.made.now) = omega (arith, c.in_ok-names_counted.ensures.bytes) in
    kept_as Sizes _ c.from_residual-in_err-kept-3.result c.in_err-kept-3.field-0.0 c.from_residual-in_err-kept-3.ensures.1
    (bytes_first (file_of c.args.file.now) (file_made_of c.args.made.now) c.in_ok-sizes.sizes c.in_ok-sizes.ensures c.args.length Sizes c.in_err-kept-3.field-0.0 c.len.result c.names_counted.new.totals.nodes c.names_counted.new.totals.bytes c.in_ok-names_counted.ensures.kept count c.in_ok-kept.ensures nodes c.in_ok-kept-2.ensures bytes c.in_err-kept-3.ensures)
