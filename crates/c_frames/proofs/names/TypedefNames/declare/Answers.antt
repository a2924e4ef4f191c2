use Rattle.std.proofs.Common.{◌≡◌, rules, ℕ, Bool, true, cond, nat_eq, List, [], ◌∷◌, ◌++◌, sym, ap, ◌∙◌, reverse}
use Rattle.std.specs.Prelude.{bytes_eq}
use Rattle.std.specs.Cmp.Lexicographic.{pointwise}
use Rattle.std.specs.HashSet.{Updates, contains}
use Rattle.std.proofs.lemmas.List.{reverse-append}
use Rattle.c_grammar.specs.Spelling.{is_typedef}
use Rattle.c_frames.proofs.MoreNames.{more_names}
use Rattle.c_frames.proofs.names.TypedefNames.declare.Goals as goal

pub invariant_of-result : goal.invariant_of-result
invariant_of-result c =
    let name = c.args.name in
    let ns = reverse c.self.inside.declared.items in
    let old : List ℕ → Bool = contains (pointwise nat_eq) c.self.inside.known in
    let new : List ℕ → Bool = contains (pointwise nat_eq) c.insert.new.self in
    let put : Updates (pointwise nat_eq) c.self.inside.known c.insert.new.self c.in_ok-copy.copy true = search rules in
    let longer : c.push.new.self.items ≡ c.self.inside.declared.items ++ name ∷ [] = search rules in
    let same : c.in_ok-copy.copy ≡ name = search rules in
    λ x.
    more_names old new ns name c.self.invariant (λ q. put.0 q ∙ ap (λ n. cond (bytes_eq n q) true (old q)) same) x
    ∙ ap (λ all. is_typedef all x) (sym (ap reverse longer ∙ reverse-append c.self.inside.declared.items (name ∷ [])))
