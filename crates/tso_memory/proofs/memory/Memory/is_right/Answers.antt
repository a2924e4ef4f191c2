use Rattle.std.proofs.Common.{ap, ◌∙◌}
use Rattle.tso_memory.specs.Memory.{holds}
use Rattle.std.specs.List.{list_any}
use Rattle.tso_memory.proofs.ObjectLists.{right_from}
use Rattle.tso_memory.proofs.memory.Memory.is_right.Goals as goal

pub returns-then-base-size-eq0 : goal.returns-then-base-size-eq0
returns-then-base-size-eq0 c =
    right_from c.args.self.now.objects c.args.chunk c.args.addr c.in-Word.base c.size_of_chunk-size.result c.is_held.result c.in-Word.is c.size_of_chunk-size.ensures c.if-base-size-eq0.true (c.is_held.ensures ∙ ap (λ l. list_any (λ o. holds o c.in-Word.base c.size_of_chunk-size.result) l) (c.deref.ensures.value ∙ ap (λ k. k.objects) c.self.view_is))
