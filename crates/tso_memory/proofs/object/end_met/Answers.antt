use Rattle.std.proofs.Common.{not, rules}
use Rattle.std.proofs.lemmas.Fn.{filter_same}
use Rattle.tso_memory.specs.Memory.{is_met}
use Rattle.tso_memory.proofs.object.end_met.Goals as goal

pub returns-clause-left : goal.returns-clause-left
returns-clause-left c = filter_same _ (λ o. not (is_met c.args.base c.args.size o)) _ (λ x b f' k. search rules) _ _ c.retain.ensures.filtered
