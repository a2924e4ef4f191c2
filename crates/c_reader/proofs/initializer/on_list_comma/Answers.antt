use Rattle.c_reader.proofs.initializer.on_list_comma.Goals as goal

pub returns-in-Some : goal.returns-in-Some
returns-in-Some c = rw c.in-Some.ensures.taken.1 (c.on_list_comma_in.ensures c.in-Some.ensures.taken.0)
