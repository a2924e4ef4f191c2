use Rattle.std.proofs.Common.{rules, ◌≡◌, ◌-◌, ◌<◌, suc, length, take, Some, cond, nat_eq, subst, sym, ap, ◌∙◌, arith, ℕ}
use Rattle.std.specs.Prelude.{slice_index_or}
use Rattle.std.specs.Cmp.Lexicographic.{pointwise}
use Rattle.indexmap.specs.IndexMap.{get, Updates}
use Rattle.tso_core.specs.Systems.{Names}
use Rattle.x86_machine.specs.Target.{words_of}
use Rattle.x86_machine.proofs.Externals.{words_or, opens, goes_on}
use Rattle.x86_machine.proofs.table.words_by_name.Goals as goal

pub loop-left-init : goal.loop-left-init
loop-left-init c = record {
  within = omega arith;
  words_are = opens c.args.externs.now c.new-words.result.entries c.new-words.ensures.empty;
}

pub loop-left-preserved : goal.loop-left-preserved
loop-left-preserved c =
    let es = c.args.externs.now in
    let left : ℕ = c.loop-left.left - 1 in
    let some : suc left ≡ c.loop-left.left = omega (arith, c.loop-left-test.true) in
    let within : left < length es = omega (arith, c.loop-left.invariant.within, c.loop-left-test.true) in
    let e : Names × ℕ = c.index-externs-left.result in
    let is : slice_index_or es left e ≡ e = search rules in
    let updates : Updates (pointwise nat_eq) c.loop-left.words c.insert.new.self c.in_ok-clone.field-0 (Some e.1) = search rules in
    let copy : c.in_ok-clone.field-0 ≡ e.0 = search rules in
    let put : (name : Names) → get (pointwise nat_eq) c.insert.new.self name ≡ cond (pointwise nat_eq e.0 name) (Some e.1) (get (pointwise nat_eq) c.loop-left.words name) = λ name. updates.0 name ∙ ap (λ (key : Names). cond (pointwise nat_eq key name) (Some e.1) (get (pointwise nat_eq) c.loop-left.words name)) copy in
    record {
      within = omega arith;
      words_are = λ name. goes_on es left e within is name (get (pointwise nat_eq) c.loop-left.words name) (get (pointwise nat_eq) c.insert.new.self name) (put name) (subst (λ (n : ℕ). words_or (take n es) name (get (pointwise nat_eq) c.loop-left.words name) ≡ words_of es name) (sym some) (c.loop-left.invariant.words_are name));
    }
