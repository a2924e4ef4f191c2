use Rattle.c_frames.proofs.item_ends.items_end.Goals as goal

pub returns-in-Some : goal.returns-in-Some
returns-in-Some c = rw c.in-Some.ensures.taken.1 (c.items_end_in.ensures c.in-Some.ensures.taken.0)
