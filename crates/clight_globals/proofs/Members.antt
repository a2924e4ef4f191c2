-- The members of a struct by their numbers, and whether all are scalars.
use Rattle.std.proofs.Common.{◌≡◌, ℕ, Bool, true, List, [], ◌∷◌, ◌&&◌, refl, sym, ap, ◌∙◌}
use Rattle.std.specs.Prelude.{slice_get}
use Rattle.std.specs.List.{list_all}
use Rattle.std.specs.Map.{values_of}
use Rattle.std.specs.Option.{option_map}
use Rattle.std.proofs.lemmas.Option.{slice_get-map}
use Rattle.clight_types.specs.declared.kind.Alignment.{Alignment}
use Rattle.clight_types.specs.declared.laid.Member.{Member}
use Rattle.clight_types.specs.declared.types.Body.{Body}
use Rattle.clight_types.specs.declared.types.Body.TheVariants as body
use Rattle.clight_types.specs.Types.{Spelling, Types, is_scalar, body_members}
use Rattle.clight_types.specs.Table.{member_of, members_of, body_of}

pub member_at : (ms : List (Spelling × Member)) (i : ℕ) → slice_get (members_of ms) i ≡ option_map (λ m. member_of m.0 m.1) (slice_get ms i)
member_at ms i = slice_get-map (λ m. member_of m.0 m.1) ms i

-- whether all of these members are scalars
abbrev pub all_scalars : Types → List Member → Bool
all_scalars types ms = list_all (λ m. is_scalar types m.type_number) ms

pub scalars_by_values : (types : Types) (ms : List (Spelling × Member)) → list_all (λ m. is_scalar types m.type) (members_of ms) ≡ all_scalars types (values_of ms)
scalars_by_values types [] = refl
scalars_by_values types (m ∷ ms) = ap (λ b. is_scalar types m.1.type_number && b) (scalars_by_values types ms)

-- before the first member, and behind one that is a scalar
pub scalars_first : (types : Types) (x : Body) (size : ℕ) (align : Alignment) (members : _) (left : List Member) → x ≡ body.Closed size align members → left ≡ values_of members.entries → all_scalars types left ≡ list_all (λ m. is_scalar types m.type) (body_members (body_of x))
scalars_first types x size align members left is all =
    ap (all_scalars types) all
    ∙ sym (scalars_by_values types members.entries)
    ∙ sym (ap (λ b. list_all (λ m. is_scalar types m.type) (body_members (body_of b))) is)

pub scalars_next : (types : Types) (left rest : List Member) (m : Member) (all : Bool) → left ≡ m ∷ rest → true ≡ is_scalar types m.type_number → all_scalars types left ≡ all → all_scalars types rest ≡ all
scalars_next types left rest m all step scalar known =
    ap (λ b. b && all_scalars types rest) scalar
    ∙ sym (ap (all_scalars types) step)
    ∙ known
