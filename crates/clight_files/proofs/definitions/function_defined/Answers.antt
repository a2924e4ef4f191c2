use Rattle.std.proofs.Common.{map, refl, sym, ap, ◌∙◌}
use Rattle.c_tree.specs.Shape.{specifiers_of, declarator_of}
use Rattle.c_tree.specs.FileShape.{items_of}
use Rattle.clight_types.specs.BuiltOf.{built_of, parameter_of, part_of}
use Rattle.clight_types.specs.Table.{types_of}
use Rattle.clight_scopes.specs.Scopes.{with_types}
use Rattle.clight_scopes.specs.SceneOf.{scene_of}
use Rattle.clight_specifiers.specs.TypingOf.{parts_of}
use Rattle.clight_expressions.proofs.Same.{same_specified}
use Rattle.clight_expressions.proofs.Stops.{stops_as, fails_as, fails_short}
use Rattle.clight_typing.specs.Typing.{name_or_empty}
use Rattle.clight_globals.specs.Globals.{is_static, storage_in}
use Rattle.clight_files.specs.Files.{own_parameters}
use Rattle.clight_files.specs.FilesOf.{function_made_of}
use Rattle.clight_files.proofs.Fronts.{function_stops_first, function_stops_second, function_judged_so}
use Rattle.clight_files.proofs.definitions.function_defined.Goals as goal

pub returns-in_err-base : goal.returns-in_err-base
returns-in_err-base c = fails_as _ _ c.from_residual.result c.in_err-base.field-0.0 c.from_residual.ensures.1 (function_stops_first (scene_of c.args.scene.now) (specifiers_of c.args.function.now.specifiers.items) (declarator_of c.args.function.now.declarator) (items_of c.args.function.now.body.items) c.in_err-base.field-0.0 (stops_as _ _ _ (same_specified _ _ _ (sym c.deref.ensures.value)) c.in_err-base.ensures))

pub returns-in_err-parts : goal.returns-in_err-parts
returns-in_err-parts c = fails_as _ _ c.from_residual-in_err-parts.result c.in_err-parts.field-0.0 c.from_residual-in_err-parts.ensures.1 (function_stops_second (scene_of c.args.scene.now) (scene_of c.specified.new.scene) (scene_of c.begin_definition.new.scene) (specifiers_of c.args.function.now.specifiers.items) (declarator_of c.args.function.now.declarator) (items_of c.args.function.now.body.items) _ c.in_err-parts.field-0.0 (same_specified _ _ _ (sym c.deref.ensures.value) ∙ c.in_ok-base.ensures) c.begin_definition.ensures c.in_err-parts.ensures)

pub returns-in_err-name : goal.returns-in_err-name
returns-in_err-name c = fails_short _ _ c.from_residual-in_err-name.result c.from_residual-in_err-name.ensures.1

pub returns-in_err-built : goal.returns-in_err-built
returns-in_err-built c = fails_short _ _ c.from_residual-in_err-built.result c.from_residual-in_err-built.ensures.1

pub returns : goal.returns
returns c = function_judged_so (scene_of c.args.scene.now) (scene_of c.specified.new.scene) (scene_of c.begin_definition.new.scene) (scene_of c.declared.new.scene) (with_types (scene_of c.declared.new.scene) (types_of c.built_type.new.types)) (specifiers_of c.args.function.now.specifiers.items) (declarator_of c.args.function.now.declarator) (items_of c.args.function.now.body.items) (items_of c.deref-5.result.now) c.in_ok-base.base c.base_of.result (parts_of c.in_ok-parts.parts.items) (map part_of c.deref-2.result.now) (map parameter_of c.own_parameters-parameters.result.now) (types_of c.built_type.new.types) (built_of c.built_type.new.types c.in_ok-built.built) c.is_static-is_static.result c.declared_at-at.result c.in_ok-name.name (λ f. (scene_of c.definition_judged.new.scene, function_made_of f)) c.definition_judged.result
    (same_specified _ _ _ (sym c.deref.ensures.value) ∙ c.in_ok-base.ensures) c.begin_definition.ensures c.in_ok-parts.ensures
    (c.is_static-is_static.ensures ∙ ap is_static (c.storage_in.ensures ∙ ap (λ xs. storage_in (specifiers_of xs)) c.deref-3.ensures.value))
    c.declared_at-at.ensures (c.in_ok-name.ensures ∙ ap name_or_empty c.declared_name.ensures)
    c.base_of.ensures (ap (map part_of) c.deref-2.ensures.value ∙ c.outermost_first-parts.ensures) c.in_ok-built.ensures refl
    (c.own_parameters-parameters.ensures ∙ ap (λ xs. own_parameters (map part_of xs)) (c.deref-4.ensures.value ∙ sym c.deref-2.ensures.value))
    (ap items_of c.deref-5.ensures.value) c.definition_judged.ensures
