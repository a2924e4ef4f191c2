use Rattle.std.proofs.Common.{sym, ◌∙◌}
use Rattle.c_tree.specs.FileShape.{initializer_of}
use Rattle.clight_types.specs.BuiltOf.{built_of}
use Rattle.clight_scopes.specs.SceneOf.{scene_of}
use Rattle.clight_expressions.proofs.Stops.{fails_as}
use Rattle.clight_globals.specs.GlobalsOf.{storage_given}
use Rattle.clight_globals.proofs.Chosen.{typedef_stops, function_stops}
use Rattle.clight_globals.proofs.declarators.name_declared.Goals as goal

pub returns-in_err-typedef_declared : goal.returns-in_err-typedef_declared
returns-in_err-typedef_declared c = fails_as _ _ c.from_residual.result c.in_err-typedef_declared.field-0.0 c.from_residual.ensures.1 (typedef_stops (scene_of c.args.scene.now) (storage_given c.args.storage) c.args.at c.args.name.now (built_of c.args.scene.now.types c.args.built) (initializer_of c.args.initializer.now) c.in_err-typedef_declared.field-0.0 (sym c.is_typedef.ensures ∙ c.if-is_typedef.true) c.in_err-typedef_declared.ensures)

pub returns-in_err-function_judged : goal.returns-in_err-function_judged
returns-in_err-function_judged c = fails_as _ _ c.from_residual-in_err-function_judged.result c.in_err-function_judged.field-0.0 c.from_residual-in_err-function_judged.ensures.1 (function_stops (scene_of c.args.scene.now) (storage_given c.args.storage) c.args.at c.args.name.now (built_of c.args.scene.now.types c.args.built) (initializer_of c.args.initializer.now) c.type_or-t.result c.is_static.result c.in_err-function_judged.field-0.0 (sym c.is_typedef.ensures ∙ c.if-is_typedef.false) (sym c.is_function_in.ensures ∙ c.if-is_function_in.true) c.type_or-t.ensures c.is_static.ensures c.in_err-function_judged.ensures)
