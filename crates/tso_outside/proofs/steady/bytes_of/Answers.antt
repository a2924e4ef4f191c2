use Rattle.std.proofs.Common.{◌∙◌, sym, ap, ℕ, String, Vec, Global}
use Rattle.tso_outside.specs.Views.{or_empty}
use Rattle.tso_outside.proofs.Held.{found_at}
use Rattle.tso_outside.proofs.steady.bytes_of.Goals as goal

pub returns-in-Some : goal.returns-in-Some
returns-in-Some c =
    c.deref.ensures.value
    ∙ ap (λ (file : String Global × Vec ℕ Global). file.1.items) (sym c.index-files-place.is)
    ∙ sym (ap or_empty (found_at c.args.files.now c.args.name.now c.in-Some.place c.index-files-place.result c.in-Some.ensures c.index-files-place.is))
