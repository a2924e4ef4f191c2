use Rattle.std.proofs.Common.{◌≡◌, not, [], ◌∷◌, ◌++◌, get_or, rules, arith}
use Rattle.std.proofs.lemmas.Grind.{common_steps}
use Rattle.clight_types.specs.Table.{types_of}
use Rattle.clight_types.specs.Types.{is_scalar}
use Rattle.clight_programs.proofs.Marking.{scalars_next, scalars_end}
use Rattle.clight_programs.proofs.locations.scalar_marks.Goals as goal

pub loop-t-preserved : goal.loop-t-preserved
loop-t-preserved c =
    let grown : c.push.new.self.items ≡ c.loop-t.marks.items ++ not (is_scalar (types_of c.args.types.now) (get_or c.args.locals.now c.loop-t.t-index 0)) ∷ [] = first_of (search rules, grind (arith, common_steps)) in
    scalars_next (types_of c.args.types.now) _ _ c.args.locals.now c.loop-t.t-index c.loop-t-test.true grown c.loop-t.invariant

pub returns : goal.returns
returns c = scalars_end (types_of c.args.types.now) _ c.args.locals.now c.loop-t.t-index c.loop-t-test.false c.loop-t.invariant
