use Rattle.std.proofs.Common.{◌≡◌, ℕ, List, sym, ◌∙◌, ap, subst}
use Rattle.x86_lang.specs.Whole.{IsWhole}
use Rattle.x86_text.specs.Printed.{printed}
use Rattle.x86_text.specs.Text.{AsmOf}
use Rattle.x86_text.proofs.Joined.{printed_is}
use Rattle.x86_text.proofs.Assembled.{printed_is_text}
use Rattle.x86_text.proofs.printing.print_asm.Goals as goal

pub returns : goal.returns
returns c =
    let same : c.parts-parts.result.now ≡ c.args.a.now = c.parts-parts.ensures.same in
    let form : c.put_sections.new.out.items ≡ printed c.args.a.now = printed_is c.parts-parts.result.now c.new-out.result.items c.put_head.new.out.items c.put_sections.new.out.items c.new-out.ensures.items c.in_ok-put_head.ensures c.in_ok-put_sections.ensures ∙ ap printed same in
    let whole : IsWhole c.args.a.now = subst IsWhole same c.parts-parts.ensures.whole in
    record { form = form; text = subst (λ (t : List ℕ). AsmOf t c.args.a.now) (sym form) (printed_is_text c.args.a.now whole) }
