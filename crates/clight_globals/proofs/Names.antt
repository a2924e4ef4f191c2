-- A declarator of a file and then the others.
use Rattle.std.proofs.Common.{◌≡◌, ℕ, ◌+◌, ◌<◌, ◌≤◌, false, List, Option, length, get_or, drop, refl, sym, ap, ◌∙◌}
use Rattle.std.specs.Prelude.{Result}
use Rattle.c_grammar.specs.Tokens as k
use Rattle.c_tree.specs.Trees.{DeclaratorTree, InitializerTree}
use Rattle.c_tree.specs.Shape.{declarator_of}
use Rattle.c_tree.specs.FileShape.{initializer_of, init_declarators_of}
use Rattle.c_tree.specs.declared.file.InitDeclarator.{InitDeclarator}
use Rattle.clight_types.specs.declared.rule.Refusal.{Refusal}
use Rattle.clight_types.specs.Judged.{Judged, value, and_then, Judges}
use Rattle.clight_types.specs.Types.{Types, Spelling}
use Rattle.clight_types.specs.Declarators.{Part, Built, built_type}
use Rattle.clight_scopes.specs.Scopes.{Scene, with_types}
use Rattle.clight_typing.specs.Typing.{declared, declared_at, declared_name, name_or_empty}
use Rattle.clight_specifiers.proofs.Faults.{judged_as}
use Rattle.clight_expressions.proofs.Rest.{at_front, then_assoc, then_on}
use Rattle.clight_expressions.proofs.Stops.{Stops, stops_on}
use Rattle.clight_globals.specs.Globals.{name_declared, names_declared}
use Rattle.clight_globals.specs.GlobalsOf.{item_declared}
use Rattle.clight_globals.proofs.Items.{past_end}

-- a name is declared in the scene in which its type has been built
name_built : (s r : Scene) (types : Types) (w : Option k.StorageClass) (at : ℕ) (name : Spelling) (b c : Built) (x : InitializerTree) → b ≡ c → r ≡ with_types s types → name_declared s w at name b x ≡ name_declared r w at name c x
name_built s r types w at name b c x same grown = ap (λ z. name_declared s w at name z x) same ∙ sym (ap (λ z. name_declared z w at name c x) grown)

item_front : (s : Scene) (w : Option k.StorageClass) (base : ℕ) (d : DeclaratorTree) (x : InitializerTree) (at : ℕ) (name : Spelling) → at ≡ declared_at d 0 → name ≡ name_or_empty (declared_name d) → item_declared s w base d x ≡ and_then (declared s false d) (λ r. name_declared r.0 w at name (built_type r.0.types base r.1) x)
item_front s w base d x at name place named =
    ap (λ (p : ℕ). and_then {B = Scene} (declared s false d) (λ r. name_declared r.0 w p (name_or_empty (declared_name d)) (built_type r.0.types base r.1) x)) (sym place)
    ∙ ap (λ (n : Spelling). and_then {B = Scene} (declared s false d) (λ r. name_declared r.0 w at n (built_type r.0.types base r.1) x)) (sym named)

pub item_stops : (s : Scene) (w : Option k.StorageClass) (base : ℕ) (d : DeclaratorTree) (x : InitializerTree) (e : Refusal) → Stops (declared s false d) e → Stops (item_declared s w base d x) e
item_stops s w base d x e h = stops_on (item_declared s w base d x) (declared s false d) (λ r. name_declared r.0 w (declared_at d 0) (name_or_empty (declared_name d)) (built_type r.0.types base r.1) x) e refl h

pub item_judged : {A : Type 0} (s t r : Scene) (types : Types) (w : Option k.StorageClass) (base : ℕ) (d : DeclaratorTree) (x : InitializerTree) (at : ℕ) (name : Spelling) (parts : List Part) (c : Built) (view : A → Scene) (res : Result A Refusal) → at ≡ declared_at d 0 → name ≡ name_or_empty (declared_name d) → declared s false d ≡ value (t, parts) → built_type t.types base parts ≡ c → r ≡ with_types t types → Judges (name_declared r w at name c x) view res → Judges (item_declared s w base d x) view res
item_judged s t r types w base d x at name parts c view res place named first built grown h =
    judged_as (item_declared s w base d x) (name_declared r w at name c x) view res
    (item_front s w base d x at name place named
    ∙ then_on (declared s false d) (t, parts) (λ q. name_declared q.0 w at name (built_type q.0.types base q.1) x) first
    ∙ name_built t r types w at name (built_type t.types base parts) c x built grown) h

pub names_at : (s : Scene) (w : Option k.StorageClass) (base : ℕ) (list : List InitDeclarator) (i : ℕ) (x : InitDeclarator) → i < length list → x ≡ get_or list i x
    → names_declared s w base (init_declarators_of (drop i list)) ≡ and_then (item_declared s w base (declarator_of x.declarator) (initializer_of x.initializer)) (λ q. names_declared q w base (init_declarators_of (drop (i + 1) list)))
names_at s w base list i x within is =
    ap (λ xs. names_declared s w base (init_declarators_of xs)) (at_front list i x within is)
    ∙ sym (then_assoc {B = Scene} {C = Scene} (declared s false (declarator_of x.declarator)) (λ r. name_declared r.0 w (declared_at (declarator_of x.declarator) 0) (name_or_empty (declared_name (declarator_of x.declarator))) (built_type r.0.types base r.1) (initializer_of x.initializer)) (λ q. names_declared q w base (init_declarators_of (drop (i + 1) list))))

pub names_stop : (s : Scene) (w : Option k.StorageClass) (base : ℕ) (list : List InitDeclarator) (i : ℕ) (x : InitDeclarator) (e : Refusal) (all : Judged Scene) → i < length list → x ≡ get_or list i x → Stops (item_declared s w base (declarator_of x.declarator) (initializer_of x.initializer)) e → names_declared s w base (init_declarators_of (drop i list)) ≡ all → Stops all e
names_stop s w base list i x e all within is h known =
    stops_on all (item_declared s w base (declarator_of x.declarator) (initializer_of x.initializer)) (λ q. names_declared q w base (init_declarators_of (drop (i + 1) list))) e (sym known ∙ names_at s w base list i x within is) h

pub names_next : (s t : Scene) (w : Option k.StorageClass) (base : ℕ) (list : List InitDeclarator) (i : ℕ) (x : InitDeclarator) (all : Judged Scene) → i < length list → x ≡ get_or list i x → item_declared s w base (declarator_of x.declarator) (initializer_of x.initializer) ≡ value t → names_declared s w base (init_declarators_of (drop i list)) ≡ all → names_declared t w base (init_declarators_of (drop (i + 1) list)) ≡ all
names_next s t w base list i x all within is step known =
    sym (names_at s w base list i x within is ∙ then_on (item_declared s w base (declarator_of x.declarator) (initializer_of x.initializer)) t (λ q. names_declared q w base (init_declarators_of (drop (i + 1) list))) step)
    ∙ known

pub names_end : (s : Scene) (w : Option k.StorageClass) (base : ℕ) (list : List InitDeclarator) (i : ℕ) (all : Judged Scene) → length list ≤ i → names_declared s w base (init_declarators_of (drop i list)) ≡ all → all ≡ value s
names_end s w base list i all past known = sym known ∙ ap (λ xs. names_declared s w base (init_declarators_of xs)) (past_end list i past)
