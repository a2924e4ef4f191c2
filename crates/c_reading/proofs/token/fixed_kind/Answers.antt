use Rattle.std.proofs.Common.{◌≡◌, Some}
use Rattle.c_reading.specs.Kinds.{look_up, fixed_words}
use Rattle.c_reading.proofs.FixedWords.{fixed_sound}
use Rattle.c_reading.proofs.token.fixed_kind.Goals as goal

pub returns : goal.returns
returns c = let e : look_up fixed_words c.args.word.now ≡ Some c.unwrap.result = cc in fixed_sound c.args.word.now c.unwrap.result e
