use Rattle.std.proofs.Common.{sym, ◌∙◌}
use Rattle.clight_scopes.specs.SceneOf.{scene_of}
use Rattle.clight_expressions.proofs.Stops.{stops_as, fails_as}
use Rattle.clight_statements.proofs.Same.{same_specified}
use Rattle.clight_statements.proofs.Chains.{decl_stops, decl_made}
use Rattle.clight_statements.proofs.locals.decl_judged.Goals as goal

pub returns-in_err-base : goal.returns-in_err-base
returns-in_err-base c = fails_as _ _ c.from_residual.result c.in_err-base.field-0.0 c.from_residual.ensures.1 (decl_stops (scene_of c.args.scene.now) c.args.decl.now c.in_err-base.field-0.0 (stops_as _ _ _ (same_specified _ _ _ (sym c.deref.ensures.value)) c.in_err-base.ensures))

pub returns : goal.returns
returns c = decl_made (scene_of c.args.scene.now) _ c.args.decl.now _ _ _ _ _ ((same_specified _ _ _ (sym c.deref.ensures.value)) ∙ c.in_ok-base.ensures) c.base_of.ensures c.deref-2.ensures.value c.locals_declared.ensures
