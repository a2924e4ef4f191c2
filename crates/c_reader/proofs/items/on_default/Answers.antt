use Rattle.c_reader.proofs.items.on_default.Goals as goal

pub returns-in-Some : goal.returns-in-Some
returns-in-Some c = rw c.in-Some.ensures.taken.1 (c.on_default_in.ensures c.in-Some.ensures.taken.0)
