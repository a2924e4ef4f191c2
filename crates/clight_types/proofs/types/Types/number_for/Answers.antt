use Rattle.std.proofs.Common.{arith}
use Rattle.std.proofs.lemmas.Grind.{common_steps}
use Rattle.clight_types.proofs.TableLemmas.{shapes_with-map, number_in-map}
use Rattle.clight_types.proofs.types.Types.number_for.Goals as goal

pub returns-clause-ok : goal.returns-clause-ok
returns-clause-ok c =
    let a = shapes_with-map c.args.self.now.shapes.keys c.args.shape in
    let b = number_in-map c.args.self.now.shapes.keys c.args.shape in
    grind (arith, common_steps, a, b)
