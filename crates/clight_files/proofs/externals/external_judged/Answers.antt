use Rattle.clight_specifiers.proofs.Faults.{judged_as}
use Rattle.clight_expressions.proofs.Stops.{stops_on, fails_as, fails_short}
use Rattle.clight_scopes.specs.SceneOf.{scene_of}
use Rattle.clight_files.specs.FilesOf.{functions_of}
use Rattle.clight_files.proofs.Functions.{decl_front, function_front, judged_with, one_more}
use Rattle.clight_files.proofs.externals.external_judged.Goals as goal

pub returns-in-Decl : goal.returns-in-Decl
returns-in-Decl c = judged_as _ _ _ _ (decl_front (functions_of c.args.functions.now.items) (scene_of c.args.scene.now) c.args.external.now _ c.in-Decl.is) (judged_with (functions_of c.args.functions.now.items) _ _ c.decl_declared.result c.decl_declared.ensures)

pub returns-in_err-made-in-Function : goal.returns-in_err-made-in-Function
returns-in_err-made-in-Function c = fails_as _ _ c.from_residual.result c.in_err-made-in-Function.field-0.0 c.from_residual.ensures.1 (stops_on _ _ _ _ (function_front (functions_of c.args.functions.now.items) (scene_of c.args.scene.now) c.args.external.now _ c.in-Function.is) c.in_err-made-in-Function.ensures)

pub returns-in_err-push-in-Function : goal.returns-in_err-push-in-Function
returns-in_err-push-in-Function c = fails_short _ _ c.from_residual-in_err-push-in-Function.result c.from_residual-in_err-push-in-Function.ensures.1

pub returns-in_ok-push-in-Function : goal.returns-in_ok-push-in-Function
returns-in_ok-push-in-Function c = one_more c.args.functions.now.items _ (scene_of c.args.scene.now) _ c.args.external.now _ _ c.in-Function.is c.in_ok-made-in-Function.ensures c.in_ok-push-in-Function.ensures
