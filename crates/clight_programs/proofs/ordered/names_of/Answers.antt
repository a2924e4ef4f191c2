use Rattle.std.proofs.Common.{◌≡◌, [], ◌∷◌, ◌++◌, rules, arith}
use Rattle.std.proofs.lemmas.Grind.{common_steps}
use Rattle.clight_programs.proofs.Order.{names_next, names_end}
use Rattle.clight_programs.proofs.ordered.names_of.Goals as goal

pub loop-function-preserved : goal.loop-function-preserved
loop-function-preserved c =
    let grown : c.push.new.self.items ≡ c.loop-function.names.items ++ c.in_ok-name.name ∷ [] = first_of (search rules, grind (arith, common_steps)) in
    names_next _ _ c.args.functions.now c.loop-function.function-index c.function-item.result c.in_ok-name.name c.loop-function-test.true c.function-item.is (search rules) grown c.loop-function.invariant

pub returns : goal.returns
returns c = names_end _ c.args.functions.now c.loop-function.function-index c.loop-function-test.false c.loop-function.invariant
