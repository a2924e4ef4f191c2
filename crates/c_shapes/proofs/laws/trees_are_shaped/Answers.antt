use Rattle.c_shapes.proofs.Files.{read_shaped}
use Rattle.c_shapes.proofs.laws.trees_are_shaped.Goals as goal

pub returns : goal.returns
returns c = read_shaped
