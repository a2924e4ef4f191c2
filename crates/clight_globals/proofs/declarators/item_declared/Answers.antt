use Rattle.std.proofs.Common.{ap, ◌∙◌}
use Rattle.c_tree.specs.Shape.{declarator_of}
use Rattle.c_tree.specs.FileShape.{initializer_of}
use Rattle.clight_types.specs.BuiltOf.{built_of}
use Rattle.clight_types.specs.Table.{types_of}
use Rattle.clight_scopes.specs.SceneOf.{scene_of}
use Rattle.clight_expressions.proofs.Stops.{fails_as, fails_short}
use Rattle.clight_typing.specs.Typing.{name_or_empty}
use Rattle.clight_globals.specs.GlobalsOf.{storage_given}
use Rattle.clight_globals.proofs.Names.{item_stops, item_judged}
use Rattle.clight_globals.proofs.declarators.item_declared.Goals as goal

pub returns-in_err-parts : goal.returns-in_err-parts
returns-in_err-parts c = fails_as _ _ c.from_residual.result c.in_err-parts.field-0.0 c.from_residual.ensures.1 (item_stops (scene_of c.args.scene.now) (storage_given c.args.storage) c.args.base (declarator_of c.args.item.now.declarator) (initializer_of c.args.item.now.initializer) c.in_err-parts.field-0.0 c.in_err-parts.ensures)

pub returns-in_err-name : goal.returns-in_err-name
returns-in_err-name c = fails_short _ _ c.from_residual-in_err-name.result c.from_residual-in_err-name.ensures.1

pub returns-in_err-built : goal.returns-in_err-built
returns-in_err-built c = fails_short _ _ c.from_residual-in_err-built.result c.from_residual-in_err-built.ensures.1

pub returns : goal.returns
returns c = item_judged (scene_of c.args.scene.now) (scene_of c.declared.new.scene) (scene_of c.built_type_in.new.scene) (types_of c.built_type_in.new.scene.types) (storage_given c.args.storage) c.args.base (declarator_of c.args.item.now.declarator) (initializer_of c.args.item.now.initializer) c.declared_at-at.result c.in_ok-name.name _ (built_of c.built_type_in.new.scene.types c.in_ok-built.built) (λ u. scene_of c.name_declared.new.scene) c.name_declared.result c.declared_at-at.ensures (c.in_ok-name.ensures ∙ ap name_or_empty c.declared_name.ensures) c.in_ok-parts.ensures c.in_ok-built.ensures.built c.in_ok-built.ensures.rest c.name_declared.ensures
