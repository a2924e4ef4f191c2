use Rattle.std.proofs.Common.{arith, ◌∙◌, ◌≡◌, length}
use Rattle.std.proofs.lemmas.List.{with_items_is}
use Rattle.tso_memory.proofs.PageLookups.{cell_within, cell_in-forgotten, entry_read}
use Rattle.tso_memory.proofs.pages.Pages.forget_in.Goals as goal

pub blank-requires : goal.blank-requires
blank-requires c =
    let entry = entry_read c.self.inside.table.items c.args.number c.self.inside.table.len c.in-Some.page c.index.result.now c.self.inside.table.ok.0 (omega arith) c.index.ensures c.in-Some.is in
    let last = cell_within c.self.inside.table.items c.self.inside.cells.items c.self.inside.count c.args.number c.in-Some.page 16383 c.self.invariant entry (omega arith) in
    (omega (arith, c.requires.met), omega (arith, last, c.deref_mut.ensures.value, c.requires.met))

pub returns-in-Some : goal.returns-in-Some
returns-in-Some c =
    let entry = entry_read c.self.inside.table.items c.args.number c.self.inside.table.len c.in-Some.page c.index.result.now c.self.inside.table.ok.0 (omega arith) c.index.ensures c.in-Some.is in
    let same : length c.blank.new.cells ≡ c.self.inside.cells.len = c.blank.auto.cells ∙ c.deref_mut.ensures.len in
    let after = rw c.deref_mut.ensures.value at c.blank.ensures in
    λ y. rw (← c.self.view_is) (rw (with_items_is c.self.inside.cells c.blank.new.cells same) (cell_in-forgotten c.self.inside.table.items c.self.inside.cells.items c.blank.new.cells c.self.inside.count c.args.number c.in-Some.page c.args.base c.args.end c.self.invariant entry c.requires.met.0 c.requires.met.1 (rw (← c.max.ensures, ← c.min.ensures) after) y))
