use Rattle.std.proofs.Common.{arith}
use Rattle.std.proofs.lemmas.Grind.{common_steps}
use Rattle.clight_scopes.proofs.Found.{block_put}
use Rattle.clight_scopes.proofs.scene.Block.with.Goals as goal

pub returns : goal.returns
returns c = let put = block_put c.args.name c.args.known c.args.self.names.entries c.requires in grind (arith, common_steps, put)
