use Rattle.std.proofs.Common.{ap, ◌∙◌}
use Rattle.c_tree.specs.Shape.{declarator_of}
use Rattle.c_tree.specs.FileShape.{initializer_of}
use Rattle.clight_scopes.specs.SceneOf.{scene_of}
use Rattle.clight_expressions.proofs.Stops.{fails_as, fails_short}
use Rattle.clight_typing.specs.Typing.{name_or_empty}
use Rattle.clight_statements.proofs.Chains.{local_stops_first, local_stops_second, local_made}
use Rattle.clight_statements.proofs.locals.local_declared.Goals as goal

pub returns-in_err-parts : goal.returns-in_err-parts
returns-in_err-parts c = fails_as _ _ c.from_residual.result c.in_err-parts.field-0.0 c.from_residual.ensures.1 (local_stops_first (scene_of c.args.scene.now) c.args.first_at c.args.base (declarator_of c.args.item.now.declarator) (initializer_of c.args.item.now.initializer) c.in_err-parts.field-0.0 c.in_err-parts.ensures)

pub returns-in_err-name : goal.returns-in_err-name
returns-in_err-name c = fails_short _ _ c.from_residual-in_err-name.result c.from_residual-in_err-name.ensures.1

pub returns-in_err-local : goal.returns-in_err-local
returns-in_err-local c = fails_as _ _ c.from_residual-in_err-local.result c.in_err-local.field-0.0 c.from_residual-in_err-local.ensures.1 (local_stops_second (scene_of c.args.scene.now) _ c.args.first_at c.args.base (declarator_of c.args.item.now.declarator) (initializer_of c.args.item.now.initializer) _ _ _ c.in_err-local.field-0.0 c.declared_at-at.ensures (c.in_ok-name.ensures ∙ ap name_or_empty c.declared_name.ensures) c.in_ok-parts.ensures c.in_err-local.ensures)

pub returns : goal.returns
returns c = local_made (scene_of c.args.scene.now) _ _ c.args.first_at c.args.base (declarator_of c.args.item.now.declarator) (initializer_of c.args.item.now.initializer) _ _ _ _ _ _ _ c.declared_at-at.ensures (c.in_ok-name.ensures ∙ ap name_or_empty c.declared_name.ensures) c.in_ok-parts.ensures c.in_ok-local.ensures c.local_initialized.ensures
