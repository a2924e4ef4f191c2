use Rattle.std.proofs.Common.{sym, ap, ◌∙◌}
use Rattle.tso_words.specs.Words.{chunk_size}
use Rattle.tso_memory.specs.Memory.{is_right}
use Rattle.tso_memory.specs.Kept.{memory_of}
use Rattle.tso_memory.specs.Through.{objects_after}
use Rattle.tso_memory.proofs.ObjectLists.{size_one, size_two}
use Rattle.tso_memory.proofs.Views.{load_refused, view_one, view_two, view_four}
use Rattle.tso_memory.proofs.view.load_in_view.Goals as goal

pub returns-then-not-is_right_behind : goal.returns-then-not-is_right_behind
returns-then-not-is_right_behind c =
    load_refused c.args.b.now.items (memory_of c.args.m.now) c.args.chunk c.args.addr c.requires (ap (λ l. is_right (objects_after c.args.m.now.objects l) c.args.chunk c.args.addr) (sym c.items-items.ensures.list) ∙ (sym c.is_right_behind.ensures ∙ c.if-not-is_right_behind.true))

pub returns-in-I8s : goal.returns-in-I8s
returns-in-I8s c =
    view_one c.args.b.now.items c.args.m.now c.args.chunk c.args.addr c.val_of.result c.in-Word.x c.in-Word.is c.requires (ap (λ l. is_right (objects_after c.args.m.now.objects l) c.args.chunk c.args.addr) (sym c.items-items.ensures.list) ∙ (sym c.is_right_behind.ensures ∙ c.if-not-is_right_behind.false)) c.cell_behind.result (size_one c.args.chunk c.in-I8s.is) (rw (← c.items-items.ensures.list) c.cell_behind.ensures) c.val_of.ensures

pub returns-in-I16s : goal.returns-in-I16s
returns-in-I16s c =
    view_two c.args.b.now.items c.args.m.now c.args.chunk c.args.addr c.val_of-in-I16s.result c.in-Word.x c.in-Word.is c.requires (ap (λ l. is_right (objects_after c.args.m.now.objects l) c.args.chunk c.args.addr) (sym c.items-items.ensures.list) ∙ (sym c.is_right_behind.ensures ∙ c.if-not-is_right_behind.false)) c.cell_behind-in-I16s.result c.cell_behind-in-I16s-2.result (size_two c.args.chunk c.in-I16s.is) (rw (← c.items-items.ensures.list) c.cell_behind-in-I16s.ensures) (rw (← c.items-items.ensures.list) c.cell_behind-in-I16s-2.ensures) c.val_of-in-I16s.ensures

pub returns-in-I32 : goal.returns-in-I32
returns-in-I32 c =
    view_four c.args.b.now.items c.args.m.now c.args.chunk c.args.addr c.val_of-in-I32.result c.in-Word.x c.in-Word.is c.requires (ap (λ l. is_right (objects_after c.args.m.now.objects l) c.args.chunk c.args.addr) (sym c.items-items.ensures.list) ∙ (sym c.is_right_behind.ensures ∙ c.if-not-is_right_behind.false)) c.cell_behind-in-I32.result c.cell_behind-in-I32-2.result c.cell_behind-in-I32-3.result c.cell_behind-in-I32-4.result (ap chunk_size c.in-I32.is) (rw (← c.items-items.ensures.list) c.cell_behind-in-I32.ensures) (rw (← c.items-items.ensures.list) c.cell_behind-in-I32-2.ensures) (rw (← c.items-items.ensures.list) c.cell_behind-in-I32-3.ensures) (rw (← c.items-items.ensures.list) c.cell_behind-in-I32-4.ensures) c.val_of-in-I32.ensures
