use Rattle.std.proofs.Common.{◌≡◌, ◌+◌, ◌*◌, ◌-◌, ◌++◌}
use Rattle.x86_lang.specs.Assembly.{assembly_of}
use Rattle.x86_machine.specs.Kept.{state_of, thread_of}
use Rattle.x86_machine.specs.Target.{are_right, seen, words_from}
use Rattle.x86_machine.proofs.target.Target.words.Given as goal

abbrev pub invariant-loop-turn : goal.invariant-loop-turn
invariant-loop-turn l = record {
  address : l.address ≡ l.esp + 4 * l._turn;
  words : l.words.items ++ words_from (seen (state_of l.self) (thread_of l.who)) l.address (l.count - l._turn) ≡ words_from (seen (state_of l.self) (thread_of l.who)) l.esp l.count;
  right : are_right (assembly_of l.program) (state_of l.self) l.address (l.count - l._turn) ≡ are_right (assembly_of l.program) (state_of l.self) l.esp l.count;
}
