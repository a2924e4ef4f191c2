use Rattle.std.proofs.Common.{nat_lt, rules, ◌∙◌}
use Rattle.std.proofs.lemmas.List.Sorted.{IsPartitionPoint-from_clause}
use Rattle.tso_memory.proofs.ObjectLists.{parted_below, inserted-searched}
use Rattle.tso_memory.proofs.object.insert_object.Goals as goal

pub returns-clause-ok : goal.returns-clause-ok
returns-clause-ok c =
    let order = rw (← c.deref.ensures.value) at c.requires in
    let point = IsPartitionPoint-from_clause (λ o. nat_lt o.base c.args.o.base) _ _ c.partition_point-at.ensures.partitioned (parted_below 0 c.args.o.base c.deref.result.now order) (λ a r q k. search rules) in
    c.in_ok-insert.ensures.items ∙ rw (← c.deref.ensures.value) (inserted-searched c.deref.result.now c.args.o c.partition_point-at.result c.partition_point-at.ensures.bound point)
