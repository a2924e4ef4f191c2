use Rattle.std.proofs.Common.{sym, subst, Bool}
use Rattle.c_tokens.specs.Tokens.{Gap, NoMore}
use Rattle.c_tokens.proofs.Gaps.{piece_goes, piece_past}
use Rattle.c_tokens.proofs.gap.behind_gap.Goals as goal

pub loop-after-smaller : goal.loop-after-smaller
loop-after-smaller c = (piece_goes c.loop-after.is_fresh c.loop-after.rest.now c.in-Some.after.now (sym c.in-Some.ensures)).shorter

pub loop-after-preserved : goal.loop-after-preserved
loop-after-preserved c = λ now end g. c.loop-after.invariant now end ((piece_goes c.loop-after.is_fresh c.loop-after.rest.now c.in-Some.after.now (sym c.in-Some.ensures)).goes now end (subst (λ (t : Bool). Gap t c.in-Some.after.now now end) c.stays_fresh-is_fresh.ensures g))

pub returns : goal.returns
returns c =
    let past = piece_past c.loop-after.is_fresh c.loop-after.rest.now (sym c.in_default.ensures) in
    (c.loop-after.is_fresh, c.loop-after.invariant c.loop-after.is_fresh c.loop-after.rest.now (NoMore c.loop-after.is_fresh c.loop-after.rest.now), past)
