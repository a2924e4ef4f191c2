use Rattle.std.proofs.Common.{ap, ◌∙◌, sym, true, false}
use Rattle.tso_memory.specs.Memory.{is_live}
use Rattle.tso_memory.specs.Kept.{written_at}
use Rattle.tso_memory.proofs.ObjectLists.{kept_at-unwritten}
use Rattle.tso_memory.proofs.memory.Memory.cell.Goals as goal

pub returns-in-None : goal.returns-in-None
returns-in-None c =
    kept_at-unwritten c.args.self.now c.args.x c.at.result true c.in-None.is (c.at.ensures ∙ ap (λ k. written_at k.pages c.args.x) c.self.view_is) (sym c.if-is_live_at.true ∙ (c.is_live_at.ensures ∙ ap (λ l. is_live l c.args.x) (c.deref.ensures.value ∙ ap (λ k. k.zeroed) c.self.view_is)))

pub returns-in-None-2 : goal.returns-in-None-2
returns-in-None-2 c =
    kept_at-unwritten c.args.self.now c.args.x c.at.result false c.in-None.is (c.at.ensures ∙ ap (λ k. written_at k.pages c.args.x) c.self.view_is) (sym c.if-is_live_at.false ∙ (c.is_live_at.ensures ∙ ap (λ l. is_live l c.args.x) (c.deref.ensures.value ∙ ap (λ k. k.zeroed) c.self.view_is)))
