use Rattle.c_reader.proofs.initializer.on_after_list.Goals as goal

pub returns-in-Some : goal.returns-in-Some
returns-in-Some c = rw c.in-Some.ensures.taken.1 (c.on_after_list_in.ensures c.in-Some.ensures.taken.0)
