use Rattle.std.proofs.Common.{◌≡◌, refl, sym, ◌∙◌, ap, arith, true, false}
use Rattle.std.specs.Prelude.{bytes_eq, string_bytes}
use Rattle.tso_outside.proofs.Held.{none_more, is_place, none_at_all}
use Rattle.tso_outside.proofs.files.place_of.Goals as goal

pub loop-i-init : goal.loop-i-init
loop-i-init c = refl

pub returns-then-eq : goal.returns-then-eq
returns-then-eq c =
    let e : bytes_eq (string_bytes c.index-files-i.result.0) c.args.name.now ≡ true = ap (λ b. bytes_eq b c.args.name.now) (sym c.as_str.ensures.value) ∙ sym c.eq.ensures ∙ c.if-eq.true in
    is_place c.args.files.now c.args.name.now c.loop-i.i c.index-files-i.result (omega arith) c.index-files-i.is e c.loop-i.invariant

pub loop-i-preserved : goal.loop-i-preserved
loop-i-preserved c =
    let e : bytes_eq (string_bytes c.index-files-i.result.0) c.args.name.now ≡ false = ap (λ b. bytes_eq b c.args.name.now) (sym c.as_str.ensures.value) ∙ sym c.eq.ensures ∙ c.if-eq.false in
    none_more c.args.files.now c.args.name.now c.loop-i.i c.index-files-i.result (omega arith) c.index-files-i.is e c.loop-i.invariant

pub returns : goal.returns
returns c = none_at_all c.args.files.now c.args.name.now c.loop-i.i (omega arith) c.loop-i.invariant
