use Rattle.c_frames.proofs.declarations.declared.Goals as goal

pub returns-in-Some : goal.returns-in-Some
returns-in-Some c = rw c.in-Some.ensures.taken.1 (c.declared_in.ensures c.in-Some.ensures.taken.0)
