use Rattle.std.proofs.Common.{sym, ◌∙◌, ◌-◌, ◌≤◌, true, false, drop, arith}
use Rattle.tso_memory.proofs.Views.{AreSoundItems-take, AreSoundItems-drop, all_right-known, all_right_step, objects_after-between}
use Rattle.tso_memory.proofs.view.are_right_from.Goals as goal

pub loop-k-init : goal.loop-k-init
loop-k-init c = all_right-known c.args.m.now.objects c.args.items.now c.args.known c.requires.right

pub is_right_item-requires : goal.is_right_item-requires
is_right_item-requires c = AreSoundItems-take (drop c.min.result c.args.items.now) (c.loop-k.k - c.min.result) (AreSoundItems-drop c.args.items.now c.min.result c.requires.sound)

pub returns-then-not-is_right_item : goal.returns-then-not-is_right_item
returns-then-not-is_right_item c =
    let before : c.min.result ≤ c.loop-k.k = omega arith in
    let front : c.min.result ≤ c.count_front_stores-stores.result = omega arith in
    all_right_step c.args.items.now c.loop-k.k c.args.m.now.objects _ _ false c.loop-k-test.true (objects_after-between c.args.items.now c.min.result c.loop-k.k c.count_front_stores-stores.result c.args.m.now.objects before front c.count_front_stores-stores.ensures.stores) (sym c.is_right_item.ensures ∙ c.if-not-is_right_item.true) c.loop-k.invariant

pub loop-k-preserved : goal.loop-k-preserved
loop-k-preserved c =
    let before : c.min.result ≤ c.loop-k.k = omega arith in
    let front : c.min.result ≤ c.count_front_stores-stores.result = omega arith in
    all_right_step c.args.items.now c.loop-k.k c.args.m.now.objects _ _ true c.loop-k-test.true (objects_after-between c.args.items.now c.min.result c.loop-k.k c.count_front_stores-stores.result c.args.m.now.objects before front c.count_front_stores-stores.ensures.stores) (sym c.is_right_item.ensures ∙ c.if-not-is_right_item.false) c.loop-k.invariant
