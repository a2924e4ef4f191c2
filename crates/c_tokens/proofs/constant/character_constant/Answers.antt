use Rattle.std.proofs.Common.{arith}
use Rattle.c_tokens.proofs.Values.{character_some, character_told}
use Rattle.c_tokens.proofs.constant.character_constant.Goals as goal

pub unwrap-number-requires : goal.unwrap-number-requires
unwrap-number-requires c = character_some c.args.word.now c.character_value.result c.requires c.character_value.ensures

pub overflow_cast-result : goal.overflow_cast-result
overflow_cast-result c = let h = (character_told c.args.word.now c.character_value.result c.unwrap-number.result c.requires c.character_value.ensures c.unwrap-number.ensures).1 in omega arith

pub returns : goal.returns
returns c = (character_told c.args.word.now c.character_value.result c.unwrap-number.result c.requires c.character_value.ensures c.unwrap-number.ensures).0
