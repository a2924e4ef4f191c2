use Rattle.std.proofs.Common.{◌≡◌, ◌<◌, ◌≤◌, ◌++◌, ◌∷◌, [], length, sym, arith}
use Rattle.c_tokens.proofs.Gaps.{gap_shorter}
use Rattle.c_tokens.proofs.Order.{in_order, bad_within}
use Rattle.c_tokens.proofs.Words.{words_of}
use Rattle.c_tokens.proofs.Progress.{start, step, ended, stopped, some_left}
use Rattle.std.proofs.lemmas.Bool.{eqb-true}
use Rattle.c_tokens.proofs.list.tokens.Goals as goal

pub loop-here-init : goal.loop-here-init
loop-here-init c = start c.args.bytes.now c.behind_gap-here.result.now c.new-list.result.items c.new-list.ensures.items c.behind_gap-here.ensures

pub returns-in_default : goal.returns-in_default
returns-in_default c =
    let file = c.args.bytes.now in
    let list = c.loop-here.list.items in
    let whole = stopped c.args.bytes.now c.loop-here.list.items c.loop-here.here.now c.loop-here.invariant (some_left (length c.loop-here.here.now) c.loop-here-test.ensures) c.in_default.ensures in
    record { exact = whole; in_order = in_order file list _ whole; words = words_of file list _ whole; bad_within = bad_within file list _ whole }

pub loop-here-smaller : goal.loop-here-smaller
loop-here-smaller c =
    let g = c.behind_gap-here-in-loop-here.ensures in
    let le : length c.behind_gap-here-in-loop-here.result.now ≤ length c.in-Some.after.now = gap_shorter _ c.in-Some.after.now g.0 c.behind_gap-here-in-loop-here.result.now g.1 in
    let lt : length c.in-Some.after.now < length c.loop-here.here.now = c.in-Some.ensures.shorter in
    omega arith

pub loop-here-preserved : goal.loop-here-preserved
loop-here-preserved c =
    let pushed : c.push.new.self.items ≡ c.loop-here.list.items ++ c.in-Some.token ∷ [] = c.in-Ok.ensures.items in
    step c.args.bytes.now c.loop-here.list.items c.loop-here.here.now c.in-Some.token c.in-Some.after.now c.push.new.self.items c.behind_gap-here-in-loop-here.result.now c.loop-here.invariant c.in-Some.ensures pushed c.behind_gap-here-in-loop-here.ensures

pub returns : goal.returns
returns c =
    let file = c.args.bytes.now in
    let list = c.loop-here.list.items in
    let whole = ended c.args.bytes.now c.loop-here.list.items c.loop-here.here.now c.loop-here.invariant (eqb-true (length c.loop-here.here.now) 0 (sym c.loop-here-test.ensures)) in
    record { exact = whole; in_order = in_order file list _ whole; words = words_of file list _ whole; bad_within = bad_within file list _ whole }
