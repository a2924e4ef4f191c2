-- By the lemma of the same content.
use Rattle.tso_pairs.proofs.laws.rightness_is_kept.Goals as goal
use Rattle.tso_pairs.proofs.Rightly.{more_objects, store_keeps, new_object_keeps, place_keeps, push_keeps, drain_keeps}

pub returns : goal.returns
returns c = record { more_objects = more_objects; stores = store_keeps; new_objects = new_object_keeps; places = place_keeps; pushes = push_keeps; drains = drain_keeps }
