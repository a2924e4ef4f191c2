use Rattle.std.proofs.Common.{refl, ◌∙◌, get_or}
use Rattle.tso_words.specs.declared.value.Cell.TheVariants.{Blank}
use Rattle.tso_memory.specs.Kept.{written_at}
use Rattle.tso_memory.proofs.PageLookups.{set_more}
use Rattle.tso_memory.proofs.pages.Pages.set_all.Goals as goal

pub loop-k-preserved : goal.loop-k-preserved
loop-k-preserved c = record {
  written = λ y. set_more c.args.cells.now c.args.x c.loop-k.k y (get_or c.args.cells.now c.loop-k.k Blank) (written_at c.set.new.self y) (written_at c.loop-k.self y) (written_at c.args.self.now y) refl (c.set.ensures.written y) (c.loop-k.invariant.written y);
  table = c.set.ensures.table ∙ c.loop-k.invariant.table;
}
