use Rattle.c_states.proofs.declarator.type_named.Goals as goal

pub returns-in-Some : goal.returns-in-Some
returns-in-Some c = rw c.in-Some.ensures.taken.1 (c.type_named_in.ensures c.in-Some.ensures.taken.0)
