use Rattle.std.proofs.Common.{rules, arith}
use Rattle.c_tokens.proofs.Numbers.{passes_as}
use Rattle.c_tokens.proofs.value.number.Goals as goal

pub returns-then-next-gt4294967295 : goal.returns-then-next-gt4294967295
returns-then-next-gt4294967295 c =
    passes_as c.args.base c.loop-rest.number c.from.result c.from-in-len1-up.result c.from-in-len1-up-2.result c.loop-rest.rest.now c.args.bytes.now c.requires.low c.loop-rest.invariant.0 (omega arith) (search rules) (search rules) (search rules) (search rules) (search rules)
