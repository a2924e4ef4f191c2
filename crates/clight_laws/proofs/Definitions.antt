-- The functions that a file defines: what is made of each is made well, in the scene behind it and in each later one.
use Rattle.std.proofs.Common.{◌≡◌, ℕ, ◌+◌, ◌≤◌, Bool, true, false, not, List, [], ◌∷◌, length, Option, Some, None, refl, ap, ◌∙◌, subst, arith}
use Rattle.std.specs.List.{list_any}
use Rattle.c_tree.specs.Trees.{SpecifierTrees, DeclaratorTree, ItemTrees}
use Rattle.clight_types.specs.Types.{Types, Spelling, same_name, is_function_shape, main_type}
use Rattle.clight_types.specs.Declarators.{ParameterOf, Built, built_type}
use Rattle.clight_scopes.specs.Scopes.{Scene, find_file}
use Rattle.clight_calls.specs.Calls.{parameters_at}
use Rattle.clight_typing.specs.Typing.{declared_name, declared_at, name_or_empty, base_of, specified, declared}
use Rattle.clight_typing.specs.Statements.{items_judged}
use Rattle.clight_nodes.specs.Nodes.{items_nodes}
use Rattle.clight_files.specs.Files.{FunctionMade, own_parameters, block_from, in_definition, in_body_of, behind_body, around_body, body_judged, definition_judged, function_defined}
use Rattle.clight_globals.specs.Globals.{function_judged, function_clash, storage_in, is_static, is_main}
use Rattle.c_shapes.specs.Shaped.{AreSpecifiers, IsDefinition, AreItems, IsShort}
use Rattle.clight_laws.proofs.Holding.{Holds, of_value, of_fault, of_then, of_unless, holds_more}
use Rattle.clight_laws.proofs.TypeTables.{Grows, grows_none, grows_twice, function_stays}
use Rattle.clight_laws.proofs.BuiltTypes.{HasParameters, IsFunctionType, IsNext, type_next, defined_parameters, defined_function}
use Rattle.clight_laws.proofs.Scenes.{IsScene, IsGood, IsLater, AreNames, AreBlocks, AreComplete, complete_grow, IsObject, IsFunctionOf, IsDefinitionOf}
use Rattle.clight_laws.proofs.Deeds.{Takes}
use Rattle.clight_laws.proofs.Declared.{Keeps}
use Rattle.clight_laws.proofs.TypedTrees.{specified_good}
use Rattle.clight_laws.proofs.Made.{AreMade, list_later}
use Rattle.clight_laws.proofs.StatementTrees.{MakesList}
use Rattle.clight_laws.proofs.Statements.{items_good}
use Rattle.clight_laws.proofs.FileDeclared.{short_name}
use Rattle.clight_laws.proofs.OwnParameters.{MakesOwn, own_declared}
use Rattle.clight_laws.proofs.Defining.{Defines, definition_good}

-- ## Scenes between the declarations of a file

-- what stays from one to a later one, whatever the locals
pub record IsLaterFile (s t : Scene) : Type 0 where
  pub types : Grows s.types t.types
  pub objects : (name : Spelling) → IsObject (find_file name s.file) → IsObject (find_file name t.file)
  pub functions : (name : Spelling) (u : ℕ) → IsFunctionOf u (find_file name s.file) → IsFunctionOf u (find_file name t.file)
  pub definitions : (name : Spelling) (u : ℕ) → IsDefinitionOf u (find_file name s.file) → IsDefinitionOf u (find_file name t.file)
  pub defined : t.defined ≡ s.defined

-- no name of a block is there
pub record IsFile (s : Scene) : Type 0 where
  pub scene : IsScene s
  pub closed : AreBlocks 0 s.blocks

pub record IsGoodFile (s t : Scene) : Type 0 where
  pub file : IsFile t
  pub later : IsLaterFile s t

later_file : (n : ℕ) (s t : Scene) → IsLater n s t → IsLaterFile s t
later_file n s t l = record { types = l.types; objects = l.objects; functions = l.functions; definitions = l.definitions; defined = l.defined }

pub later_file_none : (s : Scene) → IsLaterFile s s
later_file_none s = record { types = grows_none s.types; objects = λ name h. h; functions = λ name u h. h; definitions = λ name u h. h; defined = refl }

pub later_file_twice : (a b c : Scene) → IsLaterFile a b → IsLaterFile b c → IsLaterFile a c
later_file_twice a b c g h =
    record {
      types = grows_twice a.types b.types c.types g.types h.types;
      objects = λ name o. h.objects name (g.objects name o);
      functions = λ name u o. h.functions name u (g.functions name u o);
      definitions = λ name u o. h.definitions name u (g.definitions name u o);
      defined = h.defined ∙ g.defined;
    }

pub good_file : (s t : Scene) → IsFile s → IsGood 0 s t → IsGoodFile s t
good_file s t h g = record { file = record { scene = g.scene; closed = g.later.blocks refl 0 h.closed }; later = later_file 0 s t g.later }

-- ## What is made of a function

-- a scene with other locals, and no blocks
abbrev pub inside : Scene → List ℕ → Scene
inside s ls = record s { blocks = []; locals = ls }

-- a function whose body has so many nodes
pub record IsDone (s : Scene) (n : ℕ) (f : FunctionMade) : Type 0 where
  pub body : AreMade (inside s f.locals) false false n f.body
  pub locals : AreComplete s.types f.locals
  pub few : length f.locals ≤ f.parameters + n
  pub enough : f.parameters ≤ length f.locals
  pub takes : Takes s.types f.type f.parameters
  pub definition : IsDefinitionOf f.type (find_file f.name s.file)
  pub main : is_main f.name ≡ true → f.type ≡ main_type

inside_later : (s t : Scene) (ls : List ℕ) → IsLaterFile s t → IsLater 0 (inside s ls) (inside t ls)
inside_later s t ls l = record { types = l.types; objects = l.objects; functions = l.functions; definitions = l.definitions; blocks = λ e m o. tt; defined = l.defined; more = omega arith; few = omega arith }

pub takes_grow : (types new : Types) → Grows types new → (t n : ℕ) → Takes types t n → Takes new t n
takes_grow types new g t n h =
    let e = function_stays types new g t h.function in
    record { function = ap is_function_shape e ∙ h.function; parameters = ap (λ x. length (parameters_at x)) e ∙ h.parameters }

pub done_later : (s t : Scene) → IsLaterFile s t → (n : ℕ) (f : FunctionMade) → IsDone s n f → IsDone t n f
done_later s t l n f h =
    record {
      body = list_later 0 (inside s f.locals) (inside t f.locals) (inside_later s t f.locals l) false false n f.body h.body;
      locals = complete_grow s.types t.types l.types f.locals h.locals;
      few = h.few;
      enough = h.enough;
      takes = takes_grow s.types t.types l.types f.type f.parameters h.takes;
      definition = l.definitions f.name f.type h.definition;
      main = h.main;
    }

-- ## Bodies

block_below : (n m : ℕ) (ps : List ParameterOf) → n + length ps ≤ m → AreNames m (block_from n ps)
block_below n m [] l = tt
block_below n m (p ∷ ps) l = (omega arith, block_below (n + 1) m ps (omega arith))

body_scene : (s : Scene) (ps : List ParameterOf) → IsScene s → length s.locals ≡ length ps → IsScene (in_body_of s ps)
body_scene s ps h e = record { types = h.types; blocks = (block_below 0 (length s.locals) ps (omega arith), tt); locals = h.locals; names = h.names; apart = h.apart }

behind_file : (s : Scene) → IsScene s → IsFile (behind_body s)
behind_file s h = record { scene = record { types = h.types; blocks = tt; locals = h.locals; names = h.names; apart = h.apart }; closed = tt }

-- the same names and types
same_file : (s : Scene) (ps : List ParameterOf) → IsLaterFile s (in_body_of s ps)
same_file s ps = record { types = grows_none s.types; objects = λ name h. h; functions = λ name u h. h; definitions = λ name u h. h; defined = refl }

behind_later : (s : Scene) → IsLaterFile s (behind_body s)
behind_later s = record { types = grows_none s.types; objects = λ name h. h; functions = λ name u h. h; definitions = λ name u h. h; defined = refl }

in_later : (s : Scene) → IsLaterFile s (in_definition s)
in_later s = record { types = grows_none s.types; objects = λ name h. h; functions = λ name u h. h; definitions = λ name u h. h; defined = refl }

in_scene : (s : Scene) → IsFile s → IsScene (in_definition s)
in_scene s h = record { types = h.scene.types; blocks = h.closed; locals = tt; names = h.scene.names; apart = h.scene.apart }

behind_inside : (s : Scene) → IsLater 0 s (inside (behind_body s) s.locals)
behind_inside s = record { types = grows_none s.types; objects = λ name h. h; functions = λ name u h. h; definitions = λ name u h. h; blocks = λ e m o. tt; defined = refl; more = omega arith; few = omega arith }

-- a function of a name, made of a body of so many nodes
record MakesBody (s : Scene) (n : ℕ) (name : Spelling) (r : Scene × FunctionMade) : Type 0 where
  good : IsGoodFile s r.0
  named : r.1.name ≡ name
  done : IsDone r.0 n r.1

-- the same behind a scene where the name is not defined yet
pub record MakesFunction (s : Scene) (n : ℕ) (name : Spelling) (r : Scene × FunctionMade) : Type 0 where
  pub good : IsGoodFile s r.0
  pub named : r.1.name ≡ name
  pub done : IsDone r.0 n r.1
  pub new : (u : ℕ) → IsDefinitionOf u (find_file r.1.name s.file) → ⊥

module _ (s : Scene) (name : Spelling) (t : ℕ) (ps : List ParameterOf) (is : ItemTrees) where
  body_good : AreItems is → IsScene s → length s.locals ≡ length ps → Takes s.types t (length ps) → IsDefinitionOf t (find_file name s.file) → (is_main name ≡ true → t ≡ main_type) → Holds (body_judged s name t ps is) (MakesBody s (items_nodes is) name)
  body_good w h e k d m =
      of_then (items_judged (around_body s.types t) (in_body_of s ps) is) _ (MakesList (in_body_of s ps) false false (items_nodes is) (items_nodes is)) _ (items_good (around_body s.types t) (in_body_of s ps) is w (body_scene s ps h e)) (λ r g.
      (let l = later_file_twice s (in_body_of s ps) (behind_body r.0) (same_file s ps) (later_file_twice (in_body_of s ps) r.0 (behind_body r.0) (later_file (items_nodes is) (in_body_of s ps) r.0 g.good.later) (behind_later r.0)) in
      let more : length s.locals ≤ length r.0.locals = g.good.later.more in
      let few : length r.0.locals ≤ length s.locals + items_nodes is = g.good.later.few in
      of_value _ _ (record {
        good = record { file = behind_file r.0 g.good.scene; later = l };
        named = refl;
        done = record {
          body = list_later 0 r.0 (inside (behind_body r.0) r.0.locals) (behind_inside r.0) false false (items_nodes is) r.1 g.made;
          locals = g.good.scene.locals;
          few = omega arith;
          enough = omega arith;
          takes = takes_grow s.types r.0.types l.types t (length ps) k;
          definition = l.definitions name t d;
          main = m;
        };
      })))

-- ## Definitions

module _ (s : Scene) (d : DeclaratorTree) (is : ItemTrees) (static : Bool) where
  abbrev name : Spelling
  name = name_or_empty (declared_name d)

  -- behind the declarator
  typed_definition : (q : Scene) (ps : List ParameterOf) (b : Built) (t : ℕ) → AreItems is → IsScene q → IsLaterFile s q → length q.locals ≡ length ps → IsNext q.types b.types → Takes b.types t (length ps) → length name ≤ 127 → list_any (same_name name) s.defined ≡ true
      → Holds (definition_judged q static (declared_at d 0) name b ps is (Some t)) (MakesFunction s (items_nodes is) name)
  typed_definition q ps b t w h l e n k short known =
      of_then (function_judged q (declared_at d 0) name b t static true) _ (Defines q name b.types t) _ (definition_good q (declared_at d 0) name b t static h n short (ap (list_any (same_name name)) l.defined ∙ known)) (λ r g.
      (let many : length r.locals ≡ length ps = same_locals r g e in
      holds_more (body_judged r name t ps is) (MakesBody r (items_nodes is) name) (MakesFunction s (items_nodes is) name) (λ o f.
      record {
        good = record { file = f.good.file; later = later_file_twice s q o.0 l (later_file_twice q r o.0 (later_file 0 q r g.good.later) f.good.later) };
        named = f.named;
        done = f.done;
        new = λ u z. g.new u (l.definitions name u (subst (λ x. IsDefinitionOf u (find_file x s.file)) f.named z));
      }) (body_good r name t ps is w g.good.scene many (takes_grow b.types r.types g.grows t (length ps) k) g.definition g.main)))
    where
      same_locals : (r : Scene) → Defines q name b.types t r → length q.locals ≡ length ps → length r.locals ≡ length ps
      same_locals r g e =
          let a : length q.locals ≤ length r.locals = g.good.later.more in
          let c : length r.locals ≤ length q.locals + 0 = g.good.later.few in
          omega arith

  judged_definition : (q : Scene) (ps : List ParameterOf) (b : Built) → AreItems is → IsScene q → IsLaterFile s q → length q.locals ≡ length ps → IsNext q.types b.types → HasParameters b.types b.type (length ps) → IsFunctionType b.types b.type → length name ≤ 127 → list_any (same_name name) s.defined ≡ true
      → Holds (definition_judged q static (declared_at d 0) name b ps is b.type) (MakesFunction s (items_nodes is) name)
  judged_definition q ps b w h l e n many made short known = by b.type many made
    where
      by : (o : Option ℕ) → HasParameters b.types o (length ps) → IsFunctionType b.types o → Holds (definition_judged q static (declared_at d 0) name b ps is o) (MakesFunction s (items_nodes is) name)
      by None many made = of_unless (not (function_clash q name 0 true).twice) _ _ _ _ (λ e1. of_fault _ _ _ _)
      by (Some t) many made = typed_definition q ps b t w h l e n (record { function = made; parameters = many }) short known

pub defined_good : (s : Scene) (ss : SpecifierTrees) (d : DeclaratorTree) (is : ItemTrees) → AreSpecifiers ss → IsDefinition d → AreItems is → IsShort d → IsFile s → list_any (same_name (name_or_empty (declared_name d))) s.defined ≡ true
    → Holds (function_defined s ss d is) (MakesFunction s (items_nodes is) (name_or_empty (declared_name d)))
defined_good s ss d is ws wd wi short h known =
    of_then (specified s None ss) _ (Keeps s) _ (specified_good s None ss ws h.scene) (λ r g.
    (let f = good_file s r.0 h g in
    of_then (declared (in_definition r.0) true d) _ (MakesOwn (in_definition r.0)) _ (own_declared (in_definition r.0) d wd (in_scene r.0 f.file)) (λ q k.
    (let l = later_file_twice s r.0 q.0 f.later (later_file_twice r.0 (in_definition r.0) q.0 (in_later r.0) (later_file (length (own_parameters q.1)) (in_definition r.0) q.0 k.good.later)) in
    let many : length q.0.locals ≡ 0 + length (own_parameters q.1) = k.many in
    judged_definition s d is (is_static (storage_in ss)) q.0 (own_parameters q.1) (built_type q.0.types (base_of r.1) q.1) wi k.good.scene l (omega arith)
    (type_next q.0.types (base_of r.1) q.1 k.good.scene.types k.parts) (defined_parameters q.0.types (base_of r.1) (own_parameters q.1) q.1 k.ends) (defined_function q.0.types (base_of r.1) (own_parameters q.1) q.1 k.ends) (short_name d short) known))))
