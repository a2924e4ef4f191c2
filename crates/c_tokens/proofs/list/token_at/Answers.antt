use Rattle.std.proofs.Common.{◌<◌, ◌-◌, length, take, refl, arith}
use Rattle.c_tokens.proofs.Sound.{lexeme_shorter}
use Rattle.c_tokens.proofs.Told.{none_here, told_here, refused_here}
use Rattle.c_tokens.proofs.list.token_at.Goals as goal

pub slice_bounds-word-count : goal.slice_bounds-word-count
slice_bounds-word-count c = let h : length c.in-Some.after.now < length c.args.here.now = lexeme_shorter c.args.here.now c.in-Some.after.now c.in-Some.ensures in omega arith

pub overflow_sub-to : goal.overflow_sub-to
overflow_sub-to c = let h : length c.in-Some.after.now < length c.args.here.now = lexeme_shorter c.args.here.now c.in-Some.after.now c.in-Some.ensures in omega arith

pub returns-in_default : goal.returns-in_default
returns-in_default c = none_here c.args.here.now c.in_default.ensures

pub returns-then-is_token : goal.returns-then-is_token
returns-then-is_token c =
    let here = c.args.here.now in
    let after = c.in-Some.after.now in
    let word = take (length here - length after) here in
    let h = told_here here after word c.kind_of-kind.result c.in-Some.ensures refl c.kind_of-kind.ensures c.if-is_token.ensures in
    record { word = word; longest = h.0; is_token = h.1; starts = refl; ends = refl; shorter = lexeme_shorter here after c.in-Some.ensures }

pub returns-else-is_token : goal.returns-else-is_token
returns-else-is_token c =
    let here = c.args.here.now in
    let after = c.in-Some.after.now in
    refused_here here after (take (length here - length after) here) c.kind_of-kind.result c.in-Some.ensures refl c.kind_of-kind.ensures c.if-is_token.ensures
