use Rattle.c_reading.proofs.Places.{deep_place, shallow_tokens}
use Rattle.c_reading.proofs.laws.nests_too_deep.Goals as goal

pub returns : goal.returns
returns c = record {
  deep = deep_place;
  shallow = shallow_tokens;
}
