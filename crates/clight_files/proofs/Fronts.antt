-- Which parts of a definition are judged one behind another, by what the code sees of it.
use Rattle.std.proofs.Common.{◌≡◌, ℕ, Bool, true, false, not, List, length, Option, Some, None, true≢false, refl, sym, ap, ◌∙◌, subst, is_ok}
use Rattle.std.specs.Prelude.{Result, Ok, Err}
use Rattle.c_tree.specs.Trees.{DeclaratorTree, SpecifierTrees, ItemTrees}
use Rattle.clight_types.specs.declared.rule.Rule.{Rule}
use Rattle.clight_types.specs.declared.rule.Rule.TheVariants as rule
use Rattle.clight_types.specs.declared.rule.Refusal.{Refusal}
use Rattle.clight_types.specs.declared.rule.Refusal.TheVariants as refusal
use Rattle.clight_types.specs.Judged.{Judged, value, fault, and_then, unless, first_of, Judges}
use Rattle.clight_types.specs.Types.{Types, Spelling, main_type}
use Rattle.clight_types.specs.Declarators.{Built, ParameterOf, Part, built_type}
use Rattle.clight_scopes.specs.Scopes.{Scene, with_types}
use Rattle.clight_specifiers.proofs.Faults.{judged_as}
use Rattle.clight_expressions.proofs.Rest.{then_on}
use Rattle.clight_expressions.proofs.Stops.{Stops, stops_on}
use Rattle.clight_typing.specs.Typing.{specified, declared, declared_at, declared_name, name_or_empty, base_of}
use Rattle.clight_typing.specs.Statements.{Around, MadeList, items_judged}
use Rattle.clight_globals.specs.Globals.{function_clash, function_judged, storage_in, is_static}
use Rattle.clight_files.specs.Files.{FunctionMade, around_body, in_definition, in_body_of, behind_body, made_function, body_judged, definition_judged, function_defined, own_parameters}

-- what stands behind a fault makes no difference to the first one
later : {A B : Type 0} (ok : Bool) (r q : Rule) (at : ℕ) (j k : Judged A) (view : B → A) (res : Result B Refusal) → Judges (unless ok r at (fault q at j)) view res → Judges (unless ok r at (fault q at k)) view res
later true r q at j k view (Ok b) h = absurd (true≢false (sym (ap is_ok (ap first_of h))))
later false r q at j k view (Ok b) h = absurd (true≢false (sym (ap is_ok (ap first_of h))))
later true r q at j k view (Err (refusal.Faulty f)) h = h
later false r q at j k view (Err (refusal.Faulty f)) h = h
later ok r q at j k view (Err refusal.NoMemory) h = tt

grown : {A : Type 0} (s : Scene) (types : Types) (static : Bool) (at : ℕ) (name : Spelling) (c : Built) (ps : List ParameterOf) (is : ItemTrees) (o : Option ℕ) (view : A → Scene × FunctionMade) (res : Result A Refusal) → Judges (definition_judged (with_types s types) static at name c ps is o) view res → Judges (definition_judged s static at name c ps is o) view res
grown s types static at name c ps is (Some t) view res h = h
grown s types static at name c ps is None view res h = later (not (function_clash s name 0 true).twice) rule.DefinedTwice rule.ArrayOrFunction at (body_judged (with_types s types) name main_type ps is) (body_judged s name main_type ps is) view res h

-- a definition is judged in the scene in which its type has been built
pub definition_built : {A : Type 0} (s r : Scene) (types : Types) (static : Bool) (at : ℕ) (name : Spelling) (b c : Built) (ps qs : List ParameterOf) (is : ItemTrees) (view : A → Scene × FunctionMade) (res : Result A Refusal) → b ≡ c → r ≡ with_types s types → qs ≡ ps → Judges (definition_judged r static at name c qs is c.type) view res → Judges (definition_judged s static at name b ps is b.type) view res
definition_built s r types static at name b c ps qs is view res same wider own h =
    subst (λ x. Judges (definition_judged s static at name x ps is x.type) view res) (sym same)
    (subst (λ x. Judges (definition_judged s static at name c x is c.type) view res) own
    (grown s types static at name c qs is c.type view res
    (subst (λ x. Judges (definition_judged x static at name c qs is c.type) view res) wider h)))

pub function_front : (s : Scene) (ss : SpecifierTrees) (d : DeclaratorTree) (is : ItemTrees) (static : Bool) (at : ℕ) (name : Spelling) → static ≡ is_static (storage_in ss) → at ≡ declared_at d 0 → name ≡ name_or_empty (declared_name d)
    → function_defined s ss d is ≡ and_then (specified s None ss) (λ r. and_then (declared (in_definition r.0) true d) (λ q. definition_judged q.0 static at name (built_type q.0.types (base_of r.1) q.1) (own_parameters q.1) is (built_type q.0.types (base_of r.1) q.1).type))
function_front s ss d is static at name fixed place named =
    ap (λ (b : Bool). and_then {B = Scene × FunctionMade} (specified s None ss) (λ r. and_then {B = Scene × FunctionMade} (declared (in_definition r.0) true d) (λ q. definition_judged q.0 b (declared_at d 0) (name_or_empty (declared_name d)) (built_type q.0.types (base_of r.1) q.1) (own_parameters q.1) is (built_type q.0.types (base_of r.1) q.1).type))) (sym fixed)
    ∙ ap (λ (p : ℕ). and_then {B = Scene × FunctionMade} (specified s None ss) (λ r. and_then {B = Scene × FunctionMade} (declared (in_definition r.0) true d) (λ q. definition_judged q.0 static p (name_or_empty (declared_name d)) (built_type q.0.types (base_of r.1) q.1) (own_parameters q.1) is (built_type q.0.types (base_of r.1) q.1).type))) (sym place)
    ∙ ap (λ (n : Spelling). and_then {B = Scene × FunctionMade} (specified s None ss) (λ r. and_then {B = Scene × FunctionMade} (declared (in_definition r.0) true d) (λ q. definition_judged q.0 static at n (built_type q.0.types (base_of r.1) q.1) (own_parameters q.1) is (built_type q.0.types (base_of r.1) q.1).type))) (sym named)

-- what is judged behind the specifiers, and behind the declarator
abbrev behind_specifiers : DeclaratorTree → ItemTrees → Bool → ℕ → Spelling → Scene × Option ℕ → Judged (Scene × FunctionMade)
behind_specifiers d is static at name r = and_then (declared (in_definition r.0) true d) (λ q. definition_judged q.0 static at name (built_type q.0.types (base_of r.1) q.1) (own_parameters q.1) is (built_type q.0.types (base_of r.1) q.1).type)

abbrev behind_declarator : ItemTrees → Bool → ℕ → Spelling → ℕ → Scene × List Part → Judged (Scene × FunctionMade)
behind_declarator is static at name base q = definition_judged q.0 static at name (built_type q.0.types base q.1) (own_parameters q.1) is (built_type q.0.types base q.1).type

declarator_front : (s t u : Scene) (ss : SpecifierTrees) (d : DeclaratorTree) (is : ItemTrees) (given : Option ℕ) (static : Bool) (at : ℕ) (name : Spelling) → specified s None ss ≡ value (t, given) → u ≡ in_definition t → static ≡ is_static (storage_in ss) → at ≡ declared_at d 0 → name ≡ name_or_empty (declared_name d)
    → function_defined s ss d is ≡ and_then (declared u true d) (behind_declarator is static at name (base_of given))
declarator_front s t u ss d is given static at name first begun fixed place named =
    function_front s ss d is static at name fixed place named
    ∙ then_on (specified s None ss) (t, given) (behind_specifiers d is static at name) first
    ∙ ap (λ (z : Scene). and_then {B = Scene × FunctionMade} (declared z true d) (behind_declarator is static at name (base_of given))) (sym begun)

pub function_stops_first : (s : Scene) (ss : SpecifierTrees) (d : DeclaratorTree) (is : ItemTrees) (e : Refusal) → Stops (specified s None ss) e → Stops (function_defined s ss d is) e
function_stops_first s ss d is e h = stops_on (function_defined s ss d is) (specified s None ss) (behind_specifiers d is (is_static (storage_in ss)) (declared_at d 0) (name_or_empty (declared_name d))) e (function_front s ss d is _ _ _ refl refl refl) h

pub function_stops_second : (s t u : Scene) (ss : SpecifierTrees) (d : DeclaratorTree) (is : ItemTrees) (given : Option ℕ) (e : Refusal) → specified s None ss ≡ value (t, given) → u ≡ in_definition t → Stops (declared u true d) e → Stops (function_defined s ss d is) e
function_stops_second s t u ss d is given e first begun h = stops_on (function_defined s ss d is) (declared u true d) (behind_declarator is (is_static (storage_in ss)) (declared_at d 0) (name_or_empty (declared_name d)) (base_of given)) e (declarator_front s t u ss d is given _ _ _ first begun refl refl refl) h

pub function_judged_so : {A : Type 0} (s t u w x : Scene) (ss : SpecifierTrees) (d : DeclaratorTree) (is js : ItemTrees) (given : Option ℕ) (base : ℕ) (ps qs : List Part) (os : List ParameterOf) (types : Types) (c : Built) (static : Bool) (at : ℕ) (name : Spelling) (view : A → Scene × FunctionMade) (res : Result A Refusal)
    → specified s None ss ≡ value (t, given) → u ≡ in_definition t → declared u true d ≡ value (w, ps) → static ≡ is_static (storage_in ss) → at ≡ declared_at d 0 → name ≡ name_or_empty (declared_name d)
    → base ≡ base_of given → qs ≡ ps → built_type w.types base qs ≡ c → x ≡ with_types w types → os ≡ own_parameters qs → js ≡ is
    → Judges (definition_judged x static at name c os js c.type) view res → Judges (function_defined s ss d is) view res
function_judged_so s t u w x ss d is js given base ps qs os types c static at name view res first begun second fixed place named based outer built wider own same h =
    judged_as (function_defined s ss d is) (behind_declarator is static at name (base_of given) (w, ps)) view res
    (declarator_front s t u ss d is given static at name first begun fixed place named ∙ then_on (declared u true d) (w, ps) (behind_declarator is static at name (base_of given)) second)
    (definition_built w x types static at name (built_type w.types (base_of given) ps) c (own_parameters ps) os is view res
    (ap (λ b. built_type w.types b ps) (sym based) ∙ ap (built_type w.types base) (sym outer) ∙ built)
    wider
    (own ∙ ap own_parameters outer)
    (subst (λ y. Judges (definition_judged x static at name c os y c.type) view res) same h))

-- the body of a function in its scene
pub body_front : (s t : Scene) (a : Around) (name : Spelling) (u : ℕ) (ps : List ParameterOf) (is : ItemTrees) → t ≡ in_body_of s ps → a ≡ around_body s.types u → body_judged s name u ps is ≡ and_then (items_judged a t is) (λ r. value (behind_body r.0, made_function r.0 name u ps r.1))
body_front s t a name u ps is begun around =
    ap (λ (b : Around). and_then {B = Scene × FunctionMade} (items_judged b (in_body_of s ps) is) (λ r. value (behind_body r.0, made_function r.0 name u ps r.1))) (sym around)
    ∙ ap (λ (z : Scene). and_then {B = Scene × FunctionMade} (items_judged a z is) (λ r. value (behind_body r.0, made_function r.0 name u ps r.1))) (sym begun)

abbrev function_with : Spelling → ℕ → MadeList → List ℕ → List ℕ → ℕ → FunctionMade
function_with name n ms locals addressed count = record { name = name; type = n; locals = locals; addressed = addressed; parameters = count; body = ms }

abbrev body_value : Scene → FunctionMade → Judged (Scene × FunctionMade)
body_value s f = value (s, f)

-- what is made of a body, by copies of the locals that it leaves
pub body_made : (s t u e : Scene) (a : Around) (name : Spelling) (n : ℕ) (ps : List ParameterOf) (is : ItemTrees) (ms : MadeList) (locals addressed : List ℕ) (count : ℕ) (known : Spelling) → t ≡ in_body_of s ps → a ≡ around_body s.types n → items_judged a t is ≡ value (u, ms) → e ≡ behind_body u → locals ≡ e.locals → addressed ≡ e.addressed → count ≡ length ps → known ≡ name
    → body_judged s name n ps is ≡ value (e, record { name = known; type = n; locals = locals; addressed = addressed; parameters = count; body = ms })
body_made s t u e a name n ps is ms locals addressed count known begun around made ended kept noted counted called =
    body_front s t a name n ps is begun around
    ∙ then_on (items_judged a t is) (u, ms) (λ r. body_value (behind_body r.0) (made_function r.0 name n ps r.1)) made
    ∙ ap (λ z. body_value z (function_with name n ms u.locals u.addressed (length ps))) (sym ended)
    ∙ ap (λ l. body_value e (function_with name n ms l u.addressed (length ps))) (sym (kept ∙ ap (λ z. z.locals) ended))
    ∙ ap (λ l. body_value e (function_with name n ms locals l (length ps))) (sym (noted ∙ ap (λ z. z.addressed) ended))
    ∙ ap (λ k. body_value e (function_with name n ms locals addressed k)) (sym counted)
    ∙ ap (λ m. body_value e (function_with m n ms locals addressed count)) (sym called)

pub body_stops : (s t : Scene) (a : Around) (name : Spelling) (n : ℕ) (ps : List ParameterOf) (is : ItemTrees) (e : Refusal) → t ≡ in_body_of s ps → a ≡ around_body s.types n → Stops (items_judged a t is) e → Stops (body_judged s name n ps is) e
body_stops s t a name n ps is e begun around h = stops_on (body_judged s name n ps is) (items_judged a t is) (λ r. body_value (behind_body r.0) (made_function r.0 name n ps r.1)) e (body_front s t a name n ps is begun around) h

-- a definition whose declarator makes a type
pub typed_stops : (s : Scene) (static : Bool) (at : ℕ) (name : Spelling) (b : Built) (ps : List ParameterOf) (is : ItemTrees) (o : Option ℕ) (t : ℕ) (e : Refusal) → o ≡ Some t → Stops (function_judged s at name b t static true) e → Stops (definition_judged s static at name b ps is o) e
typed_stops s static at name b ps is o t e is_typed h =
    stops_on (definition_judged s static at name b ps is o) (function_judged s at name b t static true) (λ q. body_judged q name t ps is) e
    (ap (definition_judged s static at name b ps is) is_typed) h
