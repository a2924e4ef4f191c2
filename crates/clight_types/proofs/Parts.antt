-- The parts of a declarator, one by one, and the members of a struct.
use Rattle.std.proofs.Common.{◌≡◌, Bool, false, List, [], ◌∷◌, ◌++◌, Option, Some, None, is_some, refl, ap, ◌∙◌, nat_eq}
use Rattle.std.specs.Cmp.Lexicographic.{pointwise}
use Rattle.std.specs.Map.{lookup}
use Rattle.indexmap.specs.IndexMap.{insert_entry}
use Rattle.clight_types.specs.declared.laid.Member.{Member}
use Rattle.clight_types.specs.Types.{Spelling, named_member}
use Rattle.clight_types.specs.Table.{member_of, members_of, member_named}
use Rattle.clight_types.specs.Declarators.{Built, Part, part_onto, built_of}
use Rattle.clight_types.proofs.Entries.{find_lookup, put_new}

pub built_last : (parameter : Bool) (b : Built) (p : Part) → built_of parameter b (p ∷ []) ≡ part_onto b b.type parameter p
built_last parameter b p = refl

pub built_more : (parameter : Bool) (b : Built) (p q : Part) (ps : List Part) → built_of parameter b (p ∷ q ∷ ps) ≡ built_of parameter (part_onto b b.type false p) (q ∷ ps)
built_more parameter b p q ps = refl

pub member_found : (name : Spelling) (ms : List (Spelling × Member)) → named_member name (members_of ms) ≡ member_named name (lookup (pointwise nat_eq name) ms)
member_found name ms = find_lookup (λ m. member_of m.0 m.1) (λ m. m.name) (λ e. refl) name ms

pub member_put : (name : Spelling) (m : Member) (ms : List (Spelling × Member)) → named_member name (members_of ms) ≡ None → members_of (insert_entry (pointwise nat_eq) ms name m) ≡ members_of ms ++ member_of name m ∷ []
member_put name m ms h = put_new (λ m. member_of m.0 m.1) (λ m. m.name) (λ e. refl) name m ms h

some_member : (name : Spelling) (o : Option Member) → is_some (member_named name o) ≡ is_some o
some_member name None = refl
some_member name (Some m) = refl

pub member_told : (name : Spelling) (ms : List (Spelling × Member)) → is_some (named_member name (members_of ms)) ≡ is_some (lookup (pointwise nat_eq name) ms)
member_told name ms = ap is_some (member_found name ms) ∙ some_member name (lookup (pointwise nat_eq name) ms)
