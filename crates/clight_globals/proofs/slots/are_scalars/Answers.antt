use Rattle.std.proofs.Common.{◌∙◌}
use Rattle.clight_types.specs.Table.{types_of}
use Rattle.clight_globals.proofs.Members.{scalars_first, scalars_next}
use Rattle.clight_globals.proofs.slots.are_scalars.Goals as goal

pub loop-member-init : goal.loop-member-init
loop-member-init c = scalars_first (types_of c.args.types.now) _ _ _ c.in-Closed.members _ c.in-Closed.is (c.into_iter-member-iterator.ensures.into_iter_gives ∙ c.values-member-items.ensures.rest)

pub loop-member-preserved : goal.loop-member-preserved
loop-member-preserved c = scalars_next (types_of c.args.types.now) _ _ _ _ c.in-Some.ensures.steps c.if-not-is_scalar.ensures c.loop-member.invariant
