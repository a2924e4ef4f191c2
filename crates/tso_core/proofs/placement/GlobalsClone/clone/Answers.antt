-- A copy of the lists is a copy of what they mean.
use Rattle.std.proofs.Common.{ap, ◌∙◌}
use Rattle.std.specs.Prelude.{map}
use Rattle.tso_core.specs.Systems.{GlobalsOf}
use Rattle.tso_core.specs.Stated.{object_of}
use Rattle.tso_core.proofs.Copies.{map_same, all_same}
use Rattle.tso_core.proofs.placement.GlobalsClone.clone.Goals as goal

pub returns : goal.returns
returns c =
    let f = all_same c.args.self.now.functions.items c.in_ok-functions.functions.items c.in_ok-functions.ensures.cases.0 in
    let o = map_same object_of c.args.self.now.objects.items c.in_ok-objects.objects.items c.in_ok-objects.ensures.cases.0 in
    record { cases = ap (λ l. let g : GlobalsOf = record { functions = l; objects = map object_of c.in_ok-objects.objects.items } in g) f ∙ ap (λ l. let g : GlobalsOf = record { functions = c.args.self.now.functions.items; objects = l } in g) o }
