use Rattle.std.proofs.Common.{◌≡◌, [], ◌∷◌, ◌++◌, rules, arith}
use Rattle.std.proofs.lemmas.Grind.{common_steps}
use Rattle.clight_placing.specs.declared.inner.Location.TheVariants as at
use Rattle.clight_programs.proofs.Marking.{memory_put, temp_put}
use Rattle.clight_programs.proofs.locations.put_location.Goals as goal

pub returns-in_ok-map_err : goal.returns-in_ok-map_err
returns-in_ok-map_err c =
    let grown : c.push.new.self.items ≡ c.args.list.now.items ++ at.Memory c.args.memory ∷ [] = first_of (search rules, grind (arith, common_steps)) in
    memory_put _ _ c.args.temps c.args.memory c.args.is_in_memory c.if-is_in_memory.true grown

pub returns-in_ok-map_err-2 : goal.returns-in_ok-map_err-2
returns-in_ok-map_err-2 c =
    let grown : c.push-else-is_in_memory.new.self.items ≡ c.args.list.now.items ++ at.Temp c.args.temps ∷ [] = first_of (search rules, grind (arith, common_steps)) in
    temp_put _ _ c.args.temps c.args.memory c.args.is_in_memory c.if-is_in_memory.false grown
