-- Which marks of the reader's definition a value of the code's type is.
use Rattle.c_reading.specs.Frames as f
use Rattle.c_frames.specs.declared.nest.Nest.{Nest}

abbrev pub nest_of : Nest → f.Nest
nest_of n = record { depth = n.depth; inner = n.inner; star_depth = n.star_depth; star_inner = n.star_inner; deepest = n.deepest; may_head = n.may_head; takes_name = n.takes_name }
