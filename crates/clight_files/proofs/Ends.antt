-- The begin and the end of a file.
use Rattle.std.proofs.Common.{◌≡◌, ℕ, ◌+◌, ◌<◌, ◌≤◌, Bool, true, false, cond, List, [], ◌∷◌, ◌++◌, length, get_or, drop, refl, sym, ap, ◌∙◌}
use Rattle.std.specs.List.{list_any}
use Rattle.std.specs.Map.{values_of}
use Rattle.c_tree.specs.Trees.{FileTree}
use Rattle.c_tree.specs.FileShape.{external_of, externals_of}
use Rattle.c_tree.specs.declared.file.External.{External}
use Rattle.clight_types.specs.declared.rule.Rule.{Rule}
use Rattle.clight_types.specs.declared.rule.Rule.TheVariants as rule
use Rattle.clight_types.specs.declared.rule.Refusal.{Refusal}
use Rattle.clight_types.specs.Judged.{Judged, value, and_then, unless, IsOwed}
use Rattle.clight_types.specs.Types.{Spelling, same_name}
use Rattle.clight_scopes.specs.declared.scene.FileName as F
use Rattle.clight_scopes.specs.declared.scene.Scene as S
use Rattle.clight_scopes.specs.Scopes.{Scene, FileName, with_each, first_scene}
use Rattle.clight_scopes.specs.SceneOf.{scene_of, file_of, entity_of as entity_value}
use Rattle.clight_typing.specs.Typing.{entity_of}
use Rattle.clight_expressions.proofs.Rest.{at_front, then_same, then_on}
use Rattle.clight_expressions.proofs.Stops.{Stops, stops_on, stops_as, stops_unless}
use Rattle.clight_globals.specs.Globals.{main_name}
use Rattle.clight_globals.proofs.Items.{past_end}
use Rattle.clight_files.specs.Files.{FunctionMade, FileMade, defined_name, defined_names, is_settled, all_settled, is_defined_entity, externals_judged, ended, file_judged}
use Rattle.clight_files.specs.FilesOf.{with_defined, settled, values_settled}

-- ## The functions that a file defines

with_each_more : (known a b : List Spelling) → with_each known (a ++ b) ≡ with_each (with_each known a) b
with_each_more known [] b = refl
with_each_more known (x ∷ a) b = with_each_more (cond (list_any (same_name x) known) known (known ++ x ∷ [])) a b

pub defined_next : (known new all : List Spelling) (list : List External) (i : ℕ) (x : External) → i < length list → x ≡ get_or list i x → new ≡ with_each known (defined_name (external_of x)) → with_each known (defined_names (externals_of (drop i list))) ≡ all → with_each new (defined_names (externals_of (drop (i + 1) list))) ≡ all
defined_next known new all list i x within is step h =
    ap (λ ns. with_each ns (defined_names (externals_of (drop (i + 1) list)))) step
    ∙ sym (with_each_more known (defined_name (external_of x)) (defined_names (externals_of (drop (i + 1) list))))
    ∙ sym (ap (λ xs. with_each known (defined_names (externals_of xs))) (at_front list i x within is))
    ∙ h

pub defined_end : (known all : List Spelling) (list : List External) (i : ℕ) → length list ≤ i → with_each known (defined_names (externals_of (drop i list))) ≡ all → known ≡ all
defined_end known all list i past h = sym (ap (λ xs. with_each known (defined_names (externals_of xs))) (past_end list i past)) ∙ h

-- ## Names that are never defined

pub settled_by_values : (xs : List (Spelling × F.FileName)) → all_settled (file_of xs) (value tt) ≡ values_settled (values_of xs)
settled_by_values [] = refl
settled_by_values (x ∷ xs) = ap (unless (is_settled (entity_value x.1.entity)) rule.NeverDefined x.1.at) (settled_by_values xs)

-- before the first name, behind one that is settled, and behind the last one
pub values_first : (s : S.Scene) (left : List F.FileName) → left ≡ values_of s.file.entries → values_settled left ≡ settled (scene_of s)
values_first s left all = ap values_settled all ∙ sym (settled_by_values s.file.entries)

pub values_stop : (left rest : List F.FileName) (x : F.FileName) (ok : Bool) (e : Refusal) (all : Judged (Unit {0})) → left ≡ x ∷ rest → ok ≡ is_settled (entity_value x.entity) → IsOwed ok rule.NeverDefined x.at e → values_settled left ≡ all → Stops all e
values_stop left rest x ok e all step tested p known =
    stops_as all (unless ok rule.NeverDefined x.at (values_settled rest)) e
    (sym known ∙ ap values_settled step ∙ ap (λ b. unless b rule.NeverDefined x.at (values_settled rest)) (sym tested))
    (stops_unless ok rule.NeverDefined x.at (values_settled rest) e p)

pub values_next : (left rest : List F.FileName) (x : F.FileName) (ok : Bool) (all : Judged (Unit {0})) → left ≡ x ∷ rest → ok ≡ is_settled (entity_value x.entity) → ok ≡ true → values_settled left ≡ all → values_settled rest ≡ all
values_next left rest x ok all step tested holds known =
    sym (ap values_settled step ∙ ap (λ b. unless b rule.NeverDefined x.at (values_settled rest)) (sym tested ∙ holds))
    ∙ known

pub values_end : (left : List F.FileName) (all : Judged (Unit {0})) → left ≡ [] → values_settled left ≡ all → all ≡ value tt
values_end left all none known = sym known ∙ ap values_settled none

unless_then : {A B : Type 0} (ok : Bool) (r : Rule) (at : ℕ) (j : Judged A) (next : A → Judged B) → and_then (unless ok r at j) next ≡ unless ok r at (and_then j next)
unless_then true r at j next = refl
unless_then false r at j next = refl

settled_then : {A : Type 0} (xs : List FileName) (j : Judged A) → all_settled xs j ≡ and_then {A = Unit {0}} (all_settled xs (value tt)) (λ u. j)
settled_then [] j = refl
settled_then {A} (x ∷ xs) j =
    ap (unless (is_settled x.entity) rule.NeverDefined x.at) (settled_then xs j)
    ∙ sym (unless_then {A = Unit {0}} {B = A} (is_settled x.entity) rule.NeverDefined x.at (all_settled xs (value tt)) (λ u. j))

-- ## Whole files

pub ended_front : (length : ℕ) (s : Scene) (fs : List FunctionMade) → ended length s fs ≡ and_then (settled s) (λ u. unless (is_defined_entity (entity_of s main_name)) rule.Main length (value (record { scene = s; functions = fs })))
ended_front length s fs = settled_then s.file (unless (is_defined_entity (entity_of s main_name)) rule.Main length (value (record { scene = s; functions = fs })))

pub file_front : (length : ℕ) (t : Scene) (f : FileTree) → t ≡ first_scene (defined_names f) → file_judged length f ≡ and_then (externals_judged t f) (λ r. and_then (settled r.0) (λ u. unless (is_defined_entity (entity_of r.0 main_name)) rule.Main length (value (record { scene = r.0; functions = r.1 }))))
file_front length t f begun =
    ap (λ (z : Scene). and_then {B = FileMade} (externals_judged z f) (λ r. ended length r.0 r.1)) (sym begun)
    ∙ then_same {B = FileMade} (externals_judged t f) _ _ (λ r. ended_front length r.0 r.1)

-- the scene at the begin of a file
pub begun_scene : (t : Scene) (keys names : List Spelling) → t ≡ with_defined (first_scene []) keys → keys ≡ with_each [] names → t ≡ first_scene names
begun_scene t keys names is defined = is ∙ ap (with_defined (first_scene [])) defined

-- what is asked for behind the last declaration
abbrev pub main_owed : ℕ → Scene → List FunctionMade → Judged FileMade
main_owed length s fs = unless (is_defined_entity (entity_of s main_name)) rule.Main length (value (record { scene = s; functions = fs }))

pub file_ends : (length : ℕ) (t : Scene) (f : FileTree) (s : Scene) (fs : List FunctionMade) → t ≡ first_scene (defined_names f) → externals_judged t f ≡ value (s, fs) → file_judged length f ≡ and_then (settled s) (λ u. main_owed length s fs)
file_ends length t f s fs begun made = file_front length t f begun ∙ then_on (externals_judged t f) (s, fs) (λ r. and_then {B = FileMade} (settled r.0) (λ u. main_owed length r.0 r.1)) made

pub file_asks : (length : ℕ) (t : Scene) (f : FileTree) (s : Scene) (fs : List FunctionMade) (ok : Bool) → t ≡ first_scene (defined_names f) → externals_judged t f ≡ value (s, fs) → settled s ≡ value tt → ok ≡ is_defined_entity (entity_of s main_name) → file_judged length f ≡ unless ok rule.Main length (value (record { scene = s; functions = fs }))
file_asks length t f s fs ok begun made all tested =
    file_ends length t f s fs begun made
    ∙ then_on (settled s) tt (λ u. main_owed length s fs) all
    ∙ ap (λ b. unless b rule.Main length (value (record { scene = s; functions = fs }))) (sym tested)

pub main_stops : (length : ℕ) (t : Scene) (f : FileTree) (s : Scene) (fs : List FunctionMade) (ok : Bool) (e : Refusal) → t ≡ first_scene (defined_names f) → externals_judged t f ≡ value (s, fs) → settled s ≡ value tt → ok ≡ is_defined_entity (entity_of s main_name) → IsOwed ok rule.Main length e → Stops (file_judged length f) e
main_stops length t f s fs ok e begun made all tested p =
    stops_as (file_judged length f) (unless ok rule.Main length (value (record { scene = s; functions = fs }))) e
    (file_asks length t f s fs ok begun made all tested)
    (stops_unless ok rule.Main length (value (record { scene = s; functions = fs })) e p)

pub file_made : (length : ℕ) (t : Scene) (f : FileTree) (s : Scene) (fs : List FunctionMade) (ok : Bool) → t ≡ first_scene (defined_names f) → externals_judged t f ≡ value (s, fs) → settled s ≡ value tt → ok ≡ is_defined_entity (entity_of s main_name) → ok ≡ true → file_judged length f ≡ value (record { scene = s; functions = fs })
file_made length t f s fs ok begun made all tested holds =
    file_asks length t f s fs ok begun made all tested
    ∙ ap (λ b. unless b rule.Main length (value (record { scene = s; functions = fs }))) holds

pub file_stops : (length : ℕ) (t : Scene) (f : FileTree) (e : Refusal) → t ≡ first_scene (defined_names f) → Stops (externals_judged t f) e → Stops (file_judged length f) e
file_stops length t f e begun h = stops_on (file_judged length f) (externals_judged t f) (λ r. and_then {B = FileMade} (settled r.0) (λ u. main_owed length r.0 r.1)) e (file_front length t f begun) h

pub settled_stops : (length : ℕ) (t : Scene) (f : FileTree) (s : Scene) (fs : List FunctionMade) (e : Refusal) → t ≡ first_scene (defined_names f) → externals_judged t f ≡ value (s, fs) → Stops (settled s) e → Stops (file_judged length f) e
settled_stops length t f s fs e begun made h = stops_on (file_judged length f) (settled s) (λ u. main_owed length s fs) e (file_ends length t f s fs begun made) h

-- the same list of what stands in a file
pub same_externals : (s : Scene) (x y : List External) → x ≡ y → externals_judged s (externals_of x) ≡ externals_judged s (externals_of y)
same_externals s x y is = ap (λ z. externals_judged s (externals_of z)) is

pub same_names : (x y : List External) → x ≡ y → with_each [] (defined_names (externals_of x)) ≡ with_each [] (defined_names (externals_of y))
same_names x y is = ap (λ z. with_each [] (defined_names (externals_of z))) is
