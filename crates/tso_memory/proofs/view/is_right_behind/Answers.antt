use Rattle.std.proofs.Common.{ap, ◌∙◌, sym, is_some, arith, ◌≤◌, length}
use Rattle.tso_memory.specs.Through.{holder_through}
use Rattle.tso_memory.proofs.Views.{right_behind, holder_end}
use Rattle.tso_memory.proofs.view.is_right_behind.Goals as goal

pub returns-in-Some : goal.returns-in-Some
returns-in-Some c =
    let past : length c.args.items.now ≤ c.loop-item.item-index = omega arith in
    let at_end = holder_end c.args.items.now c.loop-item.item-index c.in-Word.base c.size_of_chunk-size.result c.loop-item.holder _ past c.loop-item.invariant ∙ ap (holder_through c.args.items.now c.in-Word.base c.size_of_chunk-size.result) c.holder-holder.ensures.held in
    sym (ap is_some c.in-Some.is) ∙ right_behind c.args.m.now.objects c.args.items.now c.args.chunk c.args.addr c.in-Word.base c.size_of_chunk-size.result c.loop-item.holder c.holder-holder.ensures.in_order c.requires c.in-Word.is c.size_of_chunk-size.ensures c.if-base-size-ne0.false at_end

pub returns-in-None : goal.returns-in-None
returns-in-None c =
    let past : length c.args.items.now ≤ c.loop-item.item-index = omega arith in
    let at_end = holder_end c.args.items.now c.loop-item.item-index c.in-Word.base c.size_of_chunk-size.result c.loop-item.holder _ past c.loop-item.invariant ∙ ap (holder_through c.args.items.now c.in-Word.base c.size_of_chunk-size.result) c.holder-holder.ensures.held in
    sym (ap is_some c.in-None.is) ∙ right_behind c.args.m.now.objects c.args.items.now c.args.chunk c.args.addr c.in-Word.base c.size_of_chunk-size.result c.loop-item.holder c.holder-holder.ensures.in_order c.requires c.in-Word.is c.size_of_chunk-size.ensures c.if-base-size-ne0.false at_end
