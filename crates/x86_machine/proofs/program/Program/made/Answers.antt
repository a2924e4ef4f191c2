use Rattle.std.proofs.Common.{◌≡◌, ◌+◌, ◌≤◌, length, arith, ap, ◌∙◌, subst}
use Rattle.tso_core.specs.Systems.{Places}
use Rattle.x86_lang.specs.declared.assembly.Parts.{Parts}
use Rattle.x86_lang.specs.Assembly.{code_start, data_start, heap_start, code_end, labels_of, bytes_from}
use Rattle.x86_machine.specs.Tables.{entries_of, Knows}
use Rattle.x86_machine.proofs.Extents.{entries-length, bytes-length}
use Rattle.x86_machine.proofs.program.Program.made.Goals as goal

pub invariant_of-result : goal.invariant_of-result
invariant_of-result c =
    let a = c.args.asm.now in
    let lines = c.as_slice.ensures ∙ ap (λ (p : Parts). p.code) c.parts.ensures.same in
    let table : c.in_ok-table.table.items ≡ entries_of (labels_of a) 0 a.code = c.in_ok-table.ensures ∙ (ap (λ (at : Places). entries_of at 0 c.as_slice.result.now) c.requires ∙ ap (λ ls. entries_of (labels_of a) 0 ls) lines) in
    let words : Knows c.in_ok-words.words a.externs = subst (λ es. Knows c.in_ok-words.words es) (c.as_slice-2.ensures ∙ ap (λ (p : Parts). p.externs) c.parts-2.ensures.same) c.in_ok-words.ensures in
    let ends : code_end code_start a.code ≤ data_start = subst (λ (p : Parts). code_end code_start p.code ≤ data_start) c.parts.ensures.same c.parts.ensures.whole.code_fits in
    record {
      table_is = table;
      words_are = words;
      bytes_are = omega (arith, c.data_size.ensures.size, bytes-length data_start a.statics);
      code_fits = omega (arith, ends, ap length table, entries-length (labels_of a) 0 code_start a.code);
      data_fits = c.data_size.ensures.fits;
    }
