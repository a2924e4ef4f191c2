use Rattle.std.proofs.Common.{sym, subst}
use Rattle.tso_core.specs.Placing.{NamesDiffer}
use Rattle.x86_lang.specs.Assembly.{labels_of}
use Rattle.x86_lang.proofs.Differ.{front_differs}
use Rattle.x86_lang.proofs.placing.placement_of.Goals as goal

pub made-requires : goal.made-requires
made-requires c =
    let differ : NamesDiffer (labels_of c.parts.result.now) = front_differs _ _ c.parts.ensures.whole.names_differ in
    subst NamesDiffer (sym c.in_ok-places.ensures) differ
