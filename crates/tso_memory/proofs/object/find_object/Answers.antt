use Rattle.std.proofs.Common.{nat_le, rules, arith, sym, ◌∙◌, true, false}
use Rattle.std.proofs.lemmas.List.Sorted.{IsPartitionPoint-from_clause}
use Rattle.tso_memory.specs.declared.object.Kind.TheVariants.{Static}
use Rattle.tso_memory.specs.declared.object.Object.{Object}
use Rattle.tso_memory.proofs.ObjectLists.{parted_at_most, find-searched_none, find-searched_some}
use Rattle.tso_memory.proofs.object.find_object.Goals as goal

nowhere : Object
nowhere = record { base = 0; size = 0; kind = Static }

pub returns-then-after-eq0 : goal.returns-then-after-eq0
returns-then-after-eq0 c =
    let point = IsPartitionPoint-from_clause (λ o. nat_le o.base c.args.base) _ _ c.partition_point-after.ensures.partitioned (parted_at_most 0 c.args.base c.args.objects.now c.requires.objects) (λ a r q k. search rules) in
    find-searched_none c.args.objects.now c.args.base c.args.size c.partition_point-after.result nowhere c.requires.objects c.requires.some c.partition_point-after.ensures.bound point c.if-after-eq0.true

pub returns-then-holds : goal.returns-then-holds
returns-then-holds c =
    let point = IsPartitionPoint-from_clause (λ o. nat_le o.base c.args.base) _ _ c.partition_point-after.ensures.partitioned (parted_at_most 0 c.args.base c.args.objects.now c.requires.objects) (λ a r q k. search rules) in
    find-searched_some c.args.objects.now c.args.base c.args.size c.partition_point-after.result (record { base = 0; size = 0; kind = Static }) c.requires.objects c.requires.some c.partition_point-after.ensures.bound point (omega arith) true (sym c.if-holds.true ∙ c.holds.ensures)

pub returns-else-holds : goal.returns-else-holds
returns-else-holds c =
    let point = IsPartitionPoint-from_clause (λ o. nat_le o.base c.args.base) _ _ c.partition_point-after.ensures.partitioned (parted_at_most 0 c.args.base c.args.objects.now c.requires.objects) (λ a r q k. search rules) in
    find-searched_some c.args.objects.now c.args.base c.args.size c.partition_point-after.result (record { base = 0; size = 0; kind = Static }) c.requires.objects c.requires.some c.partition_point-after.ensures.bound point (omega arith) false (sym c.if-holds.false ∙ c.holds.ensures)
