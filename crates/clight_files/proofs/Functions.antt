-- What stands in a file, one thing behind another.
use Rattle.std.proofs.Common.{◌≡◌, ℕ, ◌+◌, ◌<◌, ◌≤◌, List, [], ◌∷◌, ◌++◌, None, length, map, get_or, drop, refl, sym, ap, ◌∙◌, append_assoc}
use Rattle.std.proofs.lemmas.List.{append-nil}
use Rattle.std.specs.Prelude.{Result, Ok, Err}
use Rattle.c_tree.specs.Trees.{DeclTree, decl_tree, decl_external}
use Rattle.c_tree.specs.Shape.{specifiers_of, declarator_of}
use Rattle.c_tree.specs.FileShape.{decl_of, items_of, external_of, externals_of}
use Rattle.c_tree.specs.declared.file.Decl.{Decl}
use Rattle.c_tree.specs.declared.file.FunctionDefinition.{FunctionDefinition}
use Rattle.c_tree.specs.declared.file.External.{External}
use Rattle.c_tree.specs.declared.file.External.TheVariants as external
use Rattle.clight_types.specs.declared.rule.Refusal.{Refusal}
use Rattle.clight_types.specs.Judged.{Judged, value, fault, and_then, Judges}
use Rattle.clight_scopes.specs.Scopes.{Scene}
use Rattle.clight_typing.specs.Typing.{specified, base_of}
use Rattle.clight_specifiers.proofs.Faults.{stopped}
use Rattle.clight_expressions.proofs.Rest.{at_front, then_assoc, then_same, then_on, then_value}
use Rattle.clight_expressions.proofs.Stops.{Stops, stops_on}
use Rattle.clight_globals.specs.Globals.{storage_in, names_declared}
use Rattle.clight_globals.proofs.Items.{past_end}
use Rattle.clight_files.specs.Files.{FunctionMade, function_defined, external_judged, externals_judged}
use Rattle.clight_files.specs.declared.made.FunctionMade as M
use Rattle.clight_files.specs.FilesOf.{function_made_of, functions_of, functions_behind, decl_declared}

behind_twice : (made more : List FunctionMade) (j : Judged (Scene × List FunctionMade)) → functions_behind made (functions_behind more j) ≡ functions_behind (made ++ more) j
behind_twice made more (value q) = ap (λ (l : List FunctionMade). value (q.0, l)) (sym (append_assoc made more q.1))
behind_twice made more (fault r at j) = ap (fault r at) (behind_twice made more j)

behind_next : (made : List FunctionMade) (j : Judged (Scene × List FunctionMade)) (rest : Scene → Judged (Scene × List FunctionMade)) → functions_behind made (and_then j (λ r. functions_behind r.1 (rest r.0))) ≡ and_then (functions_behind made j) (λ r. functions_behind r.1 (rest r.0))
behind_next made (value r) rest = behind_twice made r.1 (rest r.0)
behind_next made (fault r at j) rest = ap (fault r at) (behind_next made j rest)

pub behind_none : (made : List FunctionMade) (j : Judged (Scene × List FunctionMade)) → made ≡ [] → functions_behind made j ≡ j
behind_none made j none = ap (λ l. functions_behind l j) none ∙ then_value j

-- one thing and then the others
pub externals_at : (s : Scene) (made : List FunctionMade) (list : List External) (i : ℕ) (x : External) → i < length list → x ≡ get_or list i x
    → functions_behind made (externals_judged s (externals_of (drop i list))) ≡ and_then (functions_behind made (external_judged s (external_of x))) (λ r. functions_behind r.1 (externals_judged r.0 (externals_of (drop (i + 1) list))))
externals_at s made list i x within is =
    ap (λ xs. functions_behind made (externals_judged s (externals_of xs))) (at_front list i x within is)
    ∙ behind_next made (external_judged s (external_of x)) (λ q. externals_judged q (externals_of (drop (i + 1) list)))

pub externals_stop : (s : Scene) (made : List FunctionMade) (list : List External) (i : ℕ) (x : External) (e : Refusal) (all : Judged (Scene × List FunctionMade)) → i < length list → x ≡ get_or list i x → Stops (functions_behind made (external_judged s (external_of x))) e → functions_behind made (externals_judged s (externals_of (drop i list))) ≡ all → Stops all e
externals_stop s made list i x e all within is h known =
    stops_on all (functions_behind made (external_judged s (external_of x))) (λ r. functions_behind r.1 (externals_judged r.0 (externals_of (drop (i + 1) list)))) e (sym known ∙ externals_at s made list i x within is) h

pub externals_next : (s t : Scene) (made new : List FunctionMade) (list : List External) (i : ℕ) (x : External) (all : Judged (Scene × List FunctionMade)) → i < length list → x ≡ get_or list i x → functions_behind made (external_judged s (external_of x)) ≡ value (t, new) → functions_behind made (externals_judged s (externals_of (drop i list))) ≡ all → functions_behind new (externals_judged t (externals_of (drop (i + 1) list))) ≡ all
externals_next s t made new list i x all within is step known =
    sym (externals_at s made list i x within is ∙ then_on (functions_behind made (external_judged s (external_of x))) (t, new) (λ r. functions_behind r.1 (externals_judged r.0 (externals_of (drop (i + 1) list)))) step)
    ∙ known

pub externals_end : (s : Scene) (made : List FunctionMade) (list : List External) (i : ℕ) (all : Judged (Scene × List FunctionMade)) → length list ≤ i → functions_behind made (externals_judged s (externals_of (drop i list))) ≡ all → all ≡ value (s, made)
externals_end s made list i all past known =
    sym known
    ∙ ap (λ xs. functions_behind made (externals_judged s (externals_of xs))) (past_end list i past)
    ∙ ap (λ (l : List FunctionMade). value (s, l)) (append-nil made)

-- a declaration makes no function
decl_parts : (made : List FunctionMade) (s : Scene) (d : DeclTree) → functions_behind made (external_judged s (decl_external d)) ≡ and_then (decl_declared s d) (λ q. value (q, made))
decl_parts made s (decl_tree at ss ds) =
    then_assoc {B = Scene × List FunctionMade} {C = Scene × List FunctionMade} (specified s None ss) (λ r. and_then {B = Scene × List FunctionMade} (names_declared r.0 (storage_in ss) (base_of r.1) ds) (λ q. value (q, []))) (λ q. value (q.0, made ++ q.1))
    ∙ then_same {B = Scene × List FunctionMade} (specified s None ss) _ _ (λ r.
    then_assoc {B = Scene × List FunctionMade} {C = Scene × List FunctionMade} (names_declared r.0 (storage_in ss) (base_of r.1) ds) (λ q. value (q, [])) (λ q. value (q.0, made ++ q.1))
    ∙ then_same {B = Scene × List FunctionMade} (names_declared r.0 (storage_in ss) (base_of r.1) ds) _ _ (λ q. ap (λ (l : List FunctionMade). value (q, l)) (append-nil made)))
    ∙ sym (then_assoc {B = Scene} {C = Scene × List FunctionMade} (specified s None ss) (λ r. names_declared r.0 (storage_in ss) (base_of r.1) ds) (λ q. value (q, made)))

pub decl_front : (made : List FunctionMade) (s : Scene) (x : External) (d : Decl) → x ≡ external.Decl d → functions_behind made (external_judged s (external_of x)) ≡ and_then (decl_declared s (decl_of d)) (λ q. value (q, made))
decl_front made s x d is = ap (λ y. functions_behind made (external_judged s (external_of y))) is ∙ decl_parts made s (decl_of d)

pub function_front : (made : List FunctionMade) (s : Scene) (x : External) (f : FunctionDefinition) → x ≡ external.Function f → functions_behind made (external_judged s (external_of x)) ≡ and_then (function_defined s (specifiers_of f.specifiers.items) (declarator_of f.declarator) (items_of f.body.items)) (λ r. value (r.0, made ++ r.1 ∷ []))
function_front made s x f is =
    ap (λ y. functions_behind made (external_judged s (external_of y))) is
    ∙ then_assoc {B = Scene × List FunctionMade} {C = Scene × List FunctionMade} (function_defined s (specifiers_of f.specifiers.items) (declarator_of f.declarator) (items_of f.body.items)) (λ r. value (r.0, r.1 ∷ [])) (λ q. value (q.0, made ++ q.1))

-- what is judged without new functions, beside those before it
pub judged_with : {B : Type 0} (made : List FunctionMade) (j : Judged Scene) (view : B → Scene) (r : Result B Refusal) → Judges j view r → Judges (and_then {B = Scene × List FunctionMade} j (λ q. value (q, made))) (λ b. (view b, made)) r
judged_with made j view (Ok b) h = then_on j (view b) (λ q. value (q, made)) h
judged_with {B} made j view (Err e) h = stopped {B = Scene × List FunctionMade} {D = B} j view (λ q. value (q, made)) (λ b. (view b, made)) e h

-- one element more of a list that is seen part by part
pub map_push : {A B : Type 0} (f : A → B) (xs : List A) (x : A) → map f (xs ++ x ∷ []) ≡ map f xs ++ f x ∷ []
map_push f [] x = refl
map_push f (y ∷ ys) x = ap (λ r. f y ∷ r) (map_push f ys x)

-- a function that is defined goes behind those before it
pub one_more : (made new : List M.FunctionMade) (s t : Scene) (x : External) (f : FunctionDefinition) (m : M.FunctionMade) → x ≡ external.Function f → function_defined s (specifiers_of f.specifiers.items) (declarator_of f.declarator) (items_of f.body.items) ≡ value (t, function_made_of m) → new ≡ made ++ m ∷ [] → functions_behind (functions_of made) (external_judged s (external_of x)) ≡ value (t, functions_of new)
one_more made new s t x f m is defined grown =
    function_front (functions_of made) s x f is
    ∙ then_on (function_defined s (specifiers_of f.specifiers.items) (declarator_of f.declarator) (items_of f.body.items)) (t, function_made_of m) (λ r. value (r.0, functions_of made ++ r.1 ∷ [])) defined
    ∙ ap (λ (l : List FunctionMade). value (t, l)) (sym (ap functions_of grown ∙ map_push function_made_of made m))
