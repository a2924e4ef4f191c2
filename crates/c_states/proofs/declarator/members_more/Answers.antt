use Rattle.c_states.proofs.declarator.members_more.Goals as goal

pub returns-in-Some : goal.returns-in-Some
returns-in-Some c = rw c.in-Some.ensures.taken.1 (c.members_more_in.ensures c.in-Some.ensures.taken.0)
