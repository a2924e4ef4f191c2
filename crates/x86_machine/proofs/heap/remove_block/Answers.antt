use Rattle.std.proofs.Common.{not, ◌==◌, rules}
use Rattle.std.proofs.lemmas.Fn.{filter_same}
use Rattle.x86_machine.proofs.heap.remove_block.Goals as goal

pub returns : goal.returns
returns c = filter_same _ (λ b. not (b.0 == c.args.base)) _ (λ x b f' k. search rules) _ _ c.retain.ensures.filtered
