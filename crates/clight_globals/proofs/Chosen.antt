-- What a declarator declares, by its storage word and its type.
use Rattle.std.proofs.Common.{◌≡◌, ℕ, Bool, true, false, cond, not, Option, sym, ap, ◌∙◌}
use Rattle.std.specs.Prelude.{Result}
use Rattle.c_grammar.specs.Tokens as k
use Rattle.c_tree.specs.Trees.{InitializerTree}
use Rattle.clight_types.specs.declared.rule.Refusal.{Refusal}
use Rattle.clight_types.specs.Judged.{Judged, value, and_then, Judges}
use Rattle.clight_types.specs.Types.{Spelling}
use Rattle.clight_types.specs.Declarators.{Built, type_or}
use Rattle.clight_scopes.specs.Scopes.{Scene}
use Rattle.clight_specifiers.proofs.Faults.{judged_as}
use Rattle.clight_expressions.proofs.Rest.{then_on}
use Rattle.clight_expressions.proofs.Stops.{Stops, stops_on}
use Rattle.clight_globals.specs.Globals.{is_static, is_extern, is_typedef, function_in, typedef_declared, function_judged, object_judged, refused_initializer, object_initialized, object_declared, name_declared}

-- ## Typedefs and functions

abbrev typedef_first : Scene → ℕ → Spelling → Built → InitializerTree → Judged Scene
typedef_first s at name b x = and_then (typedef_declared s at name b) (λ r. refused_initializer r x)

abbrev function_first : Scene → Option k.StorageClass → ℕ → Spelling → Built → InitializerTree → Judged Scene
function_first s w at name b x = and_then (function_judged s at name b (type_or b.type 0) (is_static w) false) (λ r. refused_initializer r x)

abbrev no_typedef : Scene → Option k.StorageClass → ℕ → Spelling → Built → InitializerTree → Judged Scene
no_typedef s w at name b x = cond (function_in b.types b.type) (function_first s w at name b x) (object_declared s w at name b x)

pub typedef_stops : (s : Scene) (w : Option k.StorageClass) (at : ℕ) (name : Spelling) (b : Built) (x : InitializerTree) (e : Refusal) → is_typedef w ≡ true → Stops (typedef_declared s at name b) e → Stops (name_declared s w at name b x) e
typedef_stops s w at name b x e is h =
    stops_on (name_declared s w at name b x) (typedef_declared s at name b) (λ r. refused_initializer r x) e
    (ap (λ t. cond t (typedef_first s at name b x) (no_typedef s w at name b x)) is) h

pub function_stops : (s : Scene) (w : Option k.StorageClass) (at : ℕ) (name : Spelling) (b : Built) (x : InitializerTree) (t : ℕ) (static : Bool) (e : Refusal) → is_typedef w ≡ false → function_in b.types b.type ≡ true → t ≡ type_or b.type 0 → static ≡ is_static w → Stops (function_judged s at name b t static false) e → Stops (name_declared s w at name b x) e
function_stops s w at name b x t static e other is typed fixed h =
    stops_on (name_declared s w at name b x) (function_judged s at name b t static false) (λ r. refused_initializer r x) e
    (ap (λ y. cond y (typedef_first s at name b x) (no_typedef s w at name b x)) other
    ∙ ap (λ y. cond y (function_first s w at name b x) (object_declared s w at name b x)) is
    ∙ ap (λ n. and_then {B = Scene} (function_judged s at name b n (is_static w) false) (λ r. refused_initializer r x)) (sym typed)
    ∙ ap (λ y. and_then {B = Scene} (function_judged s at name b t y false) (λ r. refused_initializer r x)) (sym fixed)) h

-- ## Objects

abbrev initialized : Bool → Scene → Spelling → ℕ → InitializerTree → Judged Scene
initialized extern s name t x = cond extern (refused_initializer s x) (object_initialized s name t x)

object_front : (s : Scene) (w : Option k.StorageClass) (at : ℕ) (name : Spelling) (b : Built) (x : InitializerTree) (extern : Bool) → extern ≡ is_extern w → object_declared s w at name b x ≡ and_then (object_judged s at name b (not extern)) (λ r. initialized extern r name (type_or b.type 5) x)
object_front s w at name b x extern tested = ap (λ y. and_then {B = Scene} (object_judged s at name b (not y)) (λ r. initialized y r name (type_or b.type 5) x)) (sym tested)

pub object_stops : (s : Scene) (w : Option k.StorageClass) (at : ℕ) (name : Spelling) (b : Built) (x : InitializerTree) (extern : Bool) (e : Refusal) → extern ≡ is_extern w → Stops (object_judged s at name b (not extern)) e → Stops (object_declared s w at name b x) e
object_stops s w at name b x extern e tested h = stops_on (object_declared s w at name b x) (object_judged s at name b (not extern)) (λ r. initialized extern r name (type_or b.type 5) x) e (object_front s w at name b x extern tested) h

pub extern_judged : {A : Type 0} (s t : Scene) (w : Option k.StorageClass) (at : ℕ) (name : Spelling) (b : Built) (x : InitializerTree) (extern : Bool) (view : A → Scene) (r : Result A Refusal) → extern ≡ is_extern w → extern ≡ true → object_judged s at name b (not extern) ≡ value t → Judges (refused_initializer t x) view r → Judges (object_declared s w at name b x) view r
extern_judged s t w at name b x extern view r tested is first h =
    judged_as (object_declared s w at name b x) (refused_initializer t x) view r
    (object_front s w at name b x extern tested
    ∙ then_on (object_judged s at name b (not extern)) t (λ q. initialized extern q name (type_or b.type 5) x) first
    ∙ ap (λ y. initialized y t name (type_or b.type 5) x) is) h

pub plain_judged : {A : Type 0} (s t : Scene) (w : Option k.StorageClass) (at : ℕ) (name : Spelling) (b : Built) (x : InitializerTree) (extern : Bool) (u : ℕ) (view : A → Scene) (r : Result A Refusal) → extern ≡ is_extern w → extern ≡ false → object_judged s at name b (not extern) ≡ value t → u ≡ type_or b.type 5 → Judges (object_initialized t name u x) view r → Judges (object_declared s w at name b x) view r
plain_judged s t w at name b x extern u view r tested is first typed h =
    judged_as (object_declared s w at name b x) (object_initialized t name u x) view r
    (object_front s w at name b x extern tested
    ∙ then_on (object_judged s at name b (not extern)) t (λ q. initialized extern q name (type_or b.type 5) x) first
    ∙ ap (λ y. initialized y t name (type_or b.type 5) x) is
    ∙ ap (λ n. object_initialized t name n x) (sym typed)) h
