-- The parameters of a function that is defined, by its declarator's parts, and the block that they make.
use Rattle.std.proofs.Common.{◌≡◌, ℕ, suc, ◌+◌, ◌-◌, ◌<◌, ◌≤◌, true, List, [], ◌∷◌, ◌++◌, length, map, get_or, drop, Option, Some, None, refl, sym, ap, ◌∙◌, append_assoc, arith}
use Rattle.std.specs.Prelude.{slice_get}
use Rattle.std.proofs.lemmas.List.{append-nil}
use Rattle.clight_types.specs.declared.declarators.Part as P
use Rattle.clight_types.specs.declared.declarators.Part.TheVariants as part
use Rattle.clight_types.specs.declared.declarators.Parameter as Q
use Rattle.clight_types.specs.BuiltOf.{parameter_of, part_of}
use Rattle.clight_types.specs.Declarators.{ParameterOf}
use Rattle.clight_scopes.specs.Scopes.{BlockName, Scene, with_block_name}
use Rattle.clight_typing.specs.Typing.{name_or_empty}
use Rattle.clight_expressions.proofs.Rest.{at_front}
use Rattle.clight_globals.proofs.Items.{past_end}
use Rattle.clight_files.specs.Files.{own_parameters, block_from, in_body_of}
use Rattle.clight_files.specs.FilesOf.{named_from}

-- the parameters in a part, if it is there and has any
abbrev pub taken_by : Option P.Part → List ParameterOf
taken_by None = []
taken_by (Some part.Pointer) = []
taken_by (Some (part.Array n)) = []
taken_by (Some (part.Function ps)) = map parameter_of ps.items

last_more : (p : P.Part) (q : P.Part) (ps : List P.Part) → own_parameters (map part_of (p ∷ q ∷ ps)) ≡ own_parameters (map part_of (q ∷ ps))
last_more part.Pointer q ps = refl
last_more (part.Array n) q ps = refl
last_more (part.Function qs) q ps = refl

pub own_last : (ps : List P.Part) → own_parameters (map part_of ps) ≡ taken_by (slice_get ps (length ps - 1))
own_last [] = refl
own_last (part.Pointer ∷ []) = refl
own_last (part.Array n ∷ []) = refl
own_last (part.Function qs ∷ []) = refl
own_last (p ∷ q ∷ ps) =
    let one : length (p ∷ q ∷ ps) - 1 ≡ suc (length (q ∷ ps) - 1) = omega arith in
    last_more p q ps ∙ own_last (q ∷ ps) ∙ sym (ap (λ n. taken_by (slice_get (p ∷ q ∷ ps) n)) one)

-- a body whose block has these names
abbrev pub body_with : Scene → List BlockName → Scene
body_with s b = record s { blocks = b ∷ []; in_body = true }

named_into : (s : Scene) (n : ℕ) (ps : List ParameterOf) (b : List BlockName) → named_from n ps (body_with s b) ≡ body_with s (b ++ block_from n ps)
named_into s n [] b = ap (body_with s) (sym (append-nil b))
named_into s n (p ∷ ps) b =
    named_into s (n + 1) ps (b ++ (record { name = name_or_empty p.name; type = p.type; local = Some n }) ∷ [])
    ∙ ap (body_with s) (append_assoc b ((record { name = name_or_empty p.name; type = p.type; local = Some n }) ∷ []) (block_from (n + 1) ps))

-- before the first parameter
pub parameters_first : (s t : Scene) (list : List Q.Parameter) → t ≡ body_with s [] → named_from 0 (map parameter_of list) t ≡ in_body_of s (map parameter_of list)
parameters_first s t list begun = ap (named_from 0 (map parameter_of list)) begun ∙ named_into s 0 (map parameter_of list) []

pub parameters_next : (s t all : Scene) (list : List Q.Parameter) (i : ℕ) (x : Q.Parameter) → i < length list → x ≡ get_or list i x → t ≡ with_block_name s (name_or_empty (parameter_of x).name) x.type_number (Some i) → named_from i (map parameter_of (drop i list)) s ≡ all → named_from (i + 1) (map parameter_of (drop (i + 1) list)) t ≡ all
parameters_next s t all list i x within is step known =
    ap (named_from (i + 1) (map parameter_of (drop (i + 1) list))) step
    ∙ sym (ap (λ (xs : List Q.Parameter). named_from i (map parameter_of xs) s) (at_front list i x within is))
    ∙ known

pub parameters_end : (s all : Scene) (list : List Q.Parameter) (i : ℕ) → length list ≤ i → named_from i (map parameter_of (drop i list)) s ≡ all → s ≡ all
parameters_end s all list i past known = sym (ap (λ (xs : List Q.Parameter). named_from i (map parameter_of xs) s) (past_end list i past)) ∙ known
