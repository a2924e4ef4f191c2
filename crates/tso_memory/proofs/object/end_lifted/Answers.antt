use Rattle.std.proofs.Common.{not, rules}
use Rattle.std.proofs.lemmas.Fn.{filter_same}
use Rattle.tso_memory.specs.Memory.{is_at}
use Rattle.tso_memory.proofs.object.end_lifted.Goals as goal

pub returns : goal.returns
returns c = filter_same _ (λ o. not (is_at c.args.base c.args.size o)) _ (λ x b f' k. search rules) _ _ c.retain.ensures.filtered
