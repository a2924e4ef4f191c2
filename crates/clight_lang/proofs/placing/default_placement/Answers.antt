use Rattle.std.proofs.Common.{rules, ◌≡◌, ℕ, ◌<◌, ◌≤◌, List, length, map, slice_index_or, sym, subst, arith}
use Rattle.std.proofs.Math.ListN.{get_or-map, length-map}
use Rattle.std.proofs.lemmas.Grind.{common_steps}
use Rattle.std.specs.Prelude.{All}
use Rattle.tso_core.specs.declared.placement.Global.{Global}
use Rattle.tso_core.specs.Placing.{NamesDiffer}
use Rattle.tso_core.specs.Stated.{globals_of, object_of}
use Rattle.tso_core.specs.Systems.{Names}
use Rattle.clight_lang.specs.Placed.{default_places, IsAlignment}
use Rattle.clight_lang.proofs.Placements.{differ, made_proper}
use Rattle.clight_lang.proofs.placing.default_placement.Goals as goal

abbrev ObjectOf : Type 0
ObjectOf = Names × ℕ × ℕ × List ℕ

alignments : (gs : List Global) → All (λ o. (1 ≤ o.1) × IsAlignment o.2) (map object_of gs) → (k : ℕ) (d : Global) → k < length gs → IsAlignment (slice_index_or gs k d).align
alignments gs s k d lt =
    let h = s k (object_of d) (omega (arith, length-map gs object_of)) in
    subst (λ (o : ObjectOf). IsAlignment o.2) (get_or-map object_of gs k d) h.1

pub with_objects-requires-clause-sizes : goal.with_objects-requires-clause-sizes
with_objects-requires-clause-sizes c =
    let P : List Global → Type 0 = λ l. (k : ℕ) (d : Global) → k < length l → IsAlignment (slice_index_or l k d).align in
    subst P (sym c.deref-2.ensures.value) (alignments c.args.p.now.globals.objects.items c.requires.sizes)

pub made-requires : goal.made-requires
made-requires c =
    let g = globals_of c.args.p.now.globals in
    let e : c.in_ok-list-2.list.items ≡ default_places g = grind (arith, common_steps) in
    subst NamesDiffer (sym e) (differ g c.requires)

pub returns-clause-proper : goal.returns-clause-proper
returns-clause-proper c =
    let g = globals_of c.args.p.now.globals in
    let e : c.in_ok-list-2.list.items ≡ default_places g = grind (arith, common_steps) in
    made_proper g c.in_ok-list-2.list.items c.made.result e c.made.ensures c.requires
