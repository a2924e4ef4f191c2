use Rattle.std.proofs.Common.{rules, ◌≡◌, ◌∙◌, ap, sym, subst, nat_eq, ◌∷◌, ◌++◌, [], None, append_assoc, arith}
use Rattle.std.proofs.lemmas.Grind.{common_steps}
use Rattle.std.specs.Cmp.Lexicographic.{pointwise}
use Rattle.std.specs.Map.{lookup}
use Rattle.indexmap.specs.IndexMap.{insert_entry}
use Rattle.indexmap.proofs.CallerLemmas.{insert_entry-new}
use Rattle.tso_core.specs.Systems.{Places}
use Rattle.tso_core.specs.Placing.{NamesDiffer}
use Rattle.tso_core.proofs.Looking.{is_new}
use Rattle.tso_core.proofs.placement.Placement.made.Goals as goal

pub loop-name-preserved : goal.loop-name-preserved
loop-name-preserved c =
    let done = c.loop-name.addresses.entries in
    let rest = c.next.new.self.rest.items in
    let name = c.in-Some.name in
    let address = c.in-Some.address in
    let all : done ++ (name, address) ∷ rest ≡ c.args.list.items = grind (arith, common_steps) in
    let put : c.insert.new.self.entries ≡ insert_entry (pointwise nat_eq) done name address = search rules in
    let new : lookup (pointwise nat_eq name) done ≡ None = is_new done name address rest (subst NamesDiffer (sym all) c.requires) in
    let behind : c.insert.new.self.entries ≡ done ++ (name, address) ∷ [] = put ∙ insert_entry-new (pointwise nat_eq) c.loop-name.addresses name address new in
    ap (λ (es : Places). es ++ rest) behind ∙ append_assoc done ((name, address) ∷ []) rest ∙ all
