use Rattle.c_reading.proofs.Places.{whole_file, refused_place, unfinished_place}
use Rattle.c_reading.proofs.laws.reads_files.Goals as goal

pub returns : goal.returns
returns c = record {
  whole = whole_file;
  refused = refused_place;
  unfinished = unfinished_place;
}
