use Rattle.c_states.proofs.declarator.on_named_parameter.Goals as goal

pub returns-in-Some : goal.returns-in-Some
returns-in-Some c = rw c.in-Some.ensures.taken.1 (c.on_named_parameter_in.ensures c.in-Some.ensures.taken.0)
