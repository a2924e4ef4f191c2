use Rattle.std.proofs.Common.{◌∙◌, ap}
use Rattle.clight_scopes.specs.SceneOf.{file_of}
use Rattle.clight_meaning.specs.Meaning.{declared_types}
use Rattle.clight_programs.proofs.Numbering.{declared_next, declared_end}
use Rattle.clight_programs.proofs.types.declared_types.Goals as goal

pub loop-known-init : goal.loop-known-init
loop-known-init c = ap (λ l. declared_types c.args.types.now.keys (file_of l)) (c.into_iter-known-iterator.ensures.into_iter_gives ∙ c.iter-known-items.ensures.rest)

pub loop-known-preserved : goal.loop-known-preserved
loop-known-preserved c = declared_next _ _ _ c.loop-known.known-iterator _ _ c.in-Some.ensures.steps c.in_ok-entity_types.ensures c.loop-known.invariant

pub returns : goal.returns
returns c = declared_end _ _ c.loop-known.known-iterator c.in-None.ensures.steps.0 c.loop-known.invariant
