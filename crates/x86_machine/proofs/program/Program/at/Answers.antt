use Rattle.std.proofs.Common.{sym, ◌∙◌}
use Rattle.x86_lang.specs.Assembly.{labels_of}
use Rattle.x86_machine.proofs.Entries.{entries_at, entry_missing, entry_there, entry_unfound}
use Rattle.x86_machine.proofs.program.Program.at.Goals as goal

pub returns-in-None-clause-there : goal.returns-in-None-clause-there
returns-in-None-clause-there c =
    let a = c.self.inside.asm.now in
    rw (← c.self.view_is) (entry_missing (labels_of a) a.code _ _ (entries_at a _ c.args.place (c.deref.ensures.value ∙ c.self.invariant.table_is)) (sym c.in-None.ensures.entry))

pub returns-in-Some-instr_of_line-clause-there : goal.returns-in-Some-instr_of_line-clause-there
returns-in-Some-instr_of_line-clause-there c =
    let a = c.self.inside.asm.now in
    rw (← c.self.view_is) (entry_there (labels_of a) a.code _ c.in-Some.placed _ (entries_at a _ c.args.place (c.deref.ensures.value ∙ c.self.invariant.table_is)) (sym c.in-Some.ensures.entry) c.in-Some-instr_of_line.instr.now c.in-Some-instr_of_line.ensures).0

pub returns-in-Some-instr_of_line-clause-label : goal.returns-in-Some-instr_of_line-clause-label
returns-in-Some-instr_of_line-clause-label c =
    let a = c.self.inside.asm.now in
    rw (← c.self.view_is) (entry_there (labels_of a) a.code _ c.in-Some.placed _ (entries_at a _ c.args.place (c.deref.ensures.value ∙ c.self.invariant.table_is)) (sym c.in-Some.ensures.entry) c.in-Some-instr_of_line.instr.now c.in-Some-instr_of_line.ensures).1

pub returns-in-None-instr_of_line-clause-there : goal.returns-in-None-instr_of_line-clause-there
returns-in-None-instr_of_line-clause-there c =
    let a = c.self.inside.asm.now in
    rw (← c.self.view_is) (entry_unfound (labels_of a) a.code _ c.in-Some.placed _ (entries_at a _ c.args.place (c.deref.ensures.value ∙ c.self.invariant.table_is)) (sym c.in-Some.ensures.entry) c.in-None-instr_of_line.ensures)
