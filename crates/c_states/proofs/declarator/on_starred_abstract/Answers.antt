use Rattle.c_frames.specs.Frames.{stack_of}
use Rattle.c_states.proofs.Same.{moves_same}
use Rattle.c_states.proofs.Stars.{no_qualifier}
use Rattle.c_states.proofs.declarator.on_starred_abstract.Goals as goal

pub returns-in_default : goal.returns-in_default
returns-in_default c =
    let same = no_qualifier c.args.token.now.name c.args.token.now.kind c.args.token.now.at (stack_of c.args.context.now.stack) c.args.context.now.names c.in_default.not-Qualifier in
    moves_same c.on_abstract.result _ _ _ _ same c.on_abstract.ensures
