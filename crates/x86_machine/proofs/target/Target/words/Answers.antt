use Rattle.std.proofs.Common.{◌≡◌, ◌+◌, ◌*◌, ◌-◌, ◌≤◌, ◌++◌, [], ◌∷◌, sym, ap, ◌∙◌, arith}
use Rattle.x86_lang.specs.Assembly.{assembly_of}
use Rattle.x86_machine.specs.Kept.{state_of, thread_of}
use Rattle.x86_machine.specs.Target.{are_right, seen, words_from}
use Rattle.x86_machine.proofs.Loads.{words_step, right_step, right_fails}
use Rattle.x86_machine.proofs.target.Target.words.Goals as goal

pub returns-in-None : goal.returns-in-None
returns-in-None c =
    let some : 1 ≤ c.args.count - c.loop-turn._turn = omega (arith, c.loop-turn-test.true) in
    sym c.loop-turn.invariant.right ∙ right_fails (assembly_of c.args.program.now) (state_of c.args.self.now) c.loop-turn.address (c.args.count - c.loop-turn._turn) some c.in-None.ensures

pub loop-turn-preserved : goal.loop-turn-preserved
loop-turn-preserved c =
    let a = assembly_of c.args.program.now in
    let m = state_of c.args.self.now in
    let b = seen m (thread_of c.args.who.now) in
    let at = c.loop-turn.address in
    let some : 1 ≤ c.args.count - c.loop-turn._turn = omega (arith, c.loop-turn-test.true) in
    let fewer : c.args.count - (c.loop-turn._turn + 1) ≡ c.args.count - c.loop-turn._turn - 1 = omega arith in
    record {
      address = omega (arith, c.loop-turn.invariant.address);
      words =
          ap (λ ws. ws ++ words_from b (at + 4) (c.args.count - (c.loop-turn._turn + 1))) c.in_ok-add_word-in-Some.ensures
          ∙ (ap (λ n. (c.loop-turn.words.items ++ c.in-Some.word ∷ []) ++ words_from b (at + 4) n) fewer
          ∙ words_step b c.loop-turn.words.items at (c.args.count - c.loop-turn._turn) c.in-Some.word _ some c.in-Some.ensures.1 c.loop-turn.invariant.words);
      right = ap (λ n. are_right a m (at + 4) n) fewer ∙ (right_step a m at (c.args.count - c.loop-turn._turn) some c.in-Some.ensures.0 ∙ c.loop-turn.invariant.right);
    }
