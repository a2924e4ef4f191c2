use Rattle.c_tokens.proofs.Values.{integer_some, integer_told}
use Rattle.c_tokens.proofs.constant.integer_constant.Goals as goal

pub unwrap-value-requires : goal.unwrap-value-requires
unwrap-value-requires c = integer_some c.args.word.now c.integer_value.result c.requires c.integer_value.ensures

pub returns : goal.returns
returns c = integer_told c.args.word.now c.integer_value.result c.unwrap-value.result c.is_decimal_word-is_decimal.result c.has_unsigned_mark-is_unsigned.result c.requires c.integer_value.ensures c.unwrap-value.ensures c.is_decimal_word-is_decimal.ensures c.has_unsigned_mark-is_unsigned.ensures
