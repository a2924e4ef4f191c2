use Rattle.c_reading.proofs.FixedWords.{keyword_some, punctuator_some, name_is, keyword_is, punctuator_is, integer_is, character_is}
use Rattle.c_reading.proofs.token.kind_at.Goals as goal

pub fixed_kind-requires : goal.fixed_kind-requires
fixed_kind-requires c = keyword_some c.args.lexeme c.args.word.now (cc) c.requires.0

pub fixed_kind-requires-in-Punctuator : goal.fixed_kind-requires-in-Punctuator
fixed_kind-requires-in-Punctuator c = punctuator_some c.args.lexeme c.args.word.now (cc) c.requires.0

pub returns-in-Identifier : goal.returns-in-Identifier
returns-in-Identifier c = name_is c.args.lexeme c.args.word.now (cc)

pub returns-in-Keyword : goal.returns-in-Keyword
returns-in-Keyword c = keyword_is c.args.lexeme c.args.word.now _ (cc) c.fixed_kind.ensures

pub returns-in-Punctuator : goal.returns-in-Punctuator
returns-in-Punctuator c = punctuator_is c.args.lexeme c.args.word.now _ (cc) c.fixed_kind-in-Punctuator.ensures

pub returns-in-Integer : goal.returns-in-Integer
returns-in-Integer c = integer_is c.args.lexeme c.args.word.now c.integer_constant.result _ (cc) c.integer_constant.ensures c.number.ensures

pub returns-in-Character : goal.returns-in-Character
returns-in-Character c = character_is c.args.lexeme c.args.word.now c.character_constant.result (cc) c.character_constant.ensures
