-- Whole files: the scene at the end, and each function that the file defines, of a name of its own.
use Rattle.std.proofs.Common.{◌≡◌, ℕ, zero, suc, Bool, true, false, cond, ◌||◌, true≢false, List, [], ◌∷◌, ◌++◌, length, Some, None, refl, sym, ap, ◌∙◌, subst, inl, inr}
use Rattle.std.specs.Prelude.{◌⊎◌, find, slice_get}
use Rattle.std.specs.List.{list_any}
use Rattle.c_tree.specs.Trees.{decl_tree, ExternalTree, decl_external, function_external, FileTree}
use Rattle.clight_types.specs.Types.{Spelling, same_name, Shape, scalar_shapes, builtin_shapes, first_types}
use Rattle.clight_types.specs.Judged.{Judged, value}
use Rattle.clight_scopes.specs.Scopes.{FileName, Scene, find_file, with_each, first_scene}
use Rattle.clight_typing.specs.Typing.{declared_name, name_or_empty, base_of, specified, entity_of}
use Rattle.clight_nodes.specs.Nodes.{items_nodes}
use Rattle.clight_meaning.specs.Counts.{DefinitionOf, definitions_of, function_named}
use Rattle.clight_files.specs.Files.{FunctionMade, FileMade, function_defined, external_judged, externals_judged, defined_name, defined_names, is_settled, all_settled, file_judged, is_defined_entity}
use Rattle.clight_globals.specs.Globals.{names_declared, storage_in, main_name}
use Rattle.c_shapes.specs.Shaped.{IsExternal, IsShaped}
use Rattle.clight_laws.proofs.Holding.{Holds, of_value, of_then, of_unless, of_made, not_both}
use Rattle.clight_laws.proofs.TypeTables.{AreTypes, IsShape}
use Rattle.clight_laws.proofs.Scenes.{IsScene, IsGood, IsDefinitionOf}
use Rattle.clight_laws.proofs.Declared.{Keeps}
use Rattle.clight_laws.proofs.TypedTrees.{specified_good}
use Rattle.clight_laws.proofs.Lists.{Each, each_append, each_more, Pairs, pairs_append}
use Rattle.clight_laws.proofs.FileDeclared.{names_good}
use Rattle.clight_laws.proofs.Defining.{name_self, same_self, differ}
use Rattle.clight_laws.proofs.Definitions.{IsFile, IsLaterFile, IsGoodFile, later_file_none, later_file_twice, good_file, IsDone, done_later, MakesFunction, defined_good}

-- ## Functions beside the definitions that they are made of

abbrev pub AreDone : Scene → List DefinitionOf → List FunctionMade → Type 0
AreDone s [] [] = Unit {0}
AreDone s [] (f ∷ fs) = ⊥
AreDone s (d ∷ ds) [] = ⊥
AreDone s (d ∷ ds) (f ∷ fs) = ((f.name ≡ d.name) × IsDone s (items_nodes d.body) f) × AreDone s ds fs

-- a name that no function of the file is defined by yet
abbrev pub IsNew : Scene → FunctionMade → Type 0
IsNew s f = (u : ℕ) → IsDefinitionOf u (find_file f.name s.file) → ⊥

abbrev pub HaveOtherNames : FunctionMade → FunctionMade → Type 0
HaveOtherNames f g = f.name ≡ g.name → ⊥

pub record MakesFile (s : Scene) (ds : List DefinitionOf) (r : Scene × List FunctionMade) : Type 0 where
  pub good : IsGoodFile s r.0
  pub done : AreDone r.0 ds r.1
  pub new : Each (IsNew s) r.1
  pub apart : Pairs HaveOtherNames r.1

all_later : (s t : Scene) → IsLaterFile s t → (ds : List DefinitionOf) (fs : List FunctionMade) → AreDone s ds fs → AreDone t ds fs
all_later s t l [] [] h = tt
all_later s t l [] (f ∷ fs) h = absurd h
all_later s t l (d ∷ ds) [] h = absurd h
all_later s t l (d ∷ ds) (f ∷ fs) h = ((h.0.0, done_later s t l (items_nodes d.body) f h.0.1), all_later s t l ds fs h.1)

done_append : (s : Scene) (ds es : List DefinitionOf) (fs gs : List FunctionMade) → AreDone s ds fs → AreDone s es gs → AreDone s (ds ++ es) (fs ++ gs)
done_append s [] es [] gs g h = h
done_append s [] es (f ∷ fs) gs g h = absurd g
done_append s (d ∷ ds) es [] gs g h = absurd g
done_append s (d ∷ ds) es (f ∷ fs) gs g h = (g.0, done_append s ds es fs gs g.1 h)

-- what is done behind one scene is not new there, so its name is no name of what follows
done_apart : (s : Scene) (ds : List DefinitionOf) (fs gs : List FunctionMade) → AreDone s ds fs → Each (IsNew s) gs → Each (λ f. Each (HaveOtherNames f) gs) fs
done_apart s [] [] gs h n = tt
done_apart s [] (f ∷ fs) gs h n = absurd h
done_apart s (d ∷ ds) [] gs h n = absurd h
done_apart s (d ∷ ds) (f ∷ fs) gs h n = (each_more (IsNew s) (HaveOtherNames f) (λ g k e. k f.type (subst (λ x. IsDefinitionOf f.type (find_file x s.file)) e h.0.1.definition)) gs n, done_apart s ds fs gs h.1 n)

new_before : (s t : Scene) → IsLaterFile s t → (fs : List FunctionMade) → Each (IsNew t) fs → Each (IsNew s) fs
new_before s t l fs h = each_more (IsNew t) (IsNew s) (λ f k u d. k u (l.definitions f.name u d)) fs h

pub files_twice : (s t u : Scene) (ds es : List DefinitionOf) (fs gs : List FunctionMade) → MakesFile s ds (t, fs) → MakesFile t es (u, gs) → MakesFile s (ds ++ es) (u, fs ++ gs)
files_twice s t u ds es fs gs g h =
    record {
      good = record { file = h.good.file; later = later_file_twice s t u g.good.later h.good.later };
      done = done_append u ds es fs gs (all_later t u h.good.later ds fs g.done) h.done;
      new = each_append (IsNew s) fs gs g.new (new_before s t g.good.later gs h.new);
      apart = pairs_append HaveOtherNames fs gs g.apart h.apart (done_apart t ds fs gs g.done h.new);
    }

-- ## Declarations and definitions

abbrev definition_of : ExternalTree → List DefinitionOf
definition_of x = definitions_of (x ∷ [])

definitions_more : (x : ExternalTree) (xs : FileTree) → definitions_of (x ∷ xs) ≡ definition_of x ++ definitions_of xs
definitions_more (decl_external d) xs = refl
definitions_more (function_external at ss d body_at is) xs = refl

abbrev pub IsKnown : Scene → Spelling → Type 0
IsKnown s name = list_any (same_name name) s.defined ≡ true

external_good : (s : Scene) (x : ExternalTree) → IsExternal x → IsFile s → Each (IsKnown s) (defined_name x) → Holds (external_judged s x) (MakesFile s (definition_of x))
external_good s (decl_external (decl_tree at ss ds)) w h n =
    of_then (specified s None ss) _ (Keeps s) _ (specified_good s None ss w.1.0 h.scene) (λ r g.
    (let f = good_file s r.0 h g in
    of_then (names_declared r.0 (storage_in ss) (base_of r.1) ds) _ (IsGood 0 r.0) _ (names_good r.0 (storage_in ss) (base_of r.1) ds w.1.1 w.0 g.scene) (λ q k.
    (let l = good_file r.0 q f.file k in
    of_value _ _ (record { good = record { file = l.file; later = later_file_twice s r.0 q f.later l.later }; done = tt; new = tt; apart = tt })))))
external_good s (function_external at ss d body_at is) w h n =
    of_then (function_defined s ss d is) _ (MakesFunction s (items_nodes is) (name_or_empty (declared_name d))) _ (defined_good s ss d is w.1.0 w.1.1.0 w.1.1.1 w.0 h n.0) (λ r g.
    of_value _ _ (record { good = g.good; done = ((g.named, g.done), tt); new = (g.new, tt); apart = (tt, tt) }))

known_later : (s t : Scene) → IsLaterFile s t → (names : List Spelling) → Each (IsKnown s) names → Each (IsKnown t) names
known_later s t l names h = each_more (IsKnown s) (IsKnown t) (λ name k. ap (list_any (same_name name)) l.defined ∙ k) names h

each_front : {A : Type 0} (P : A → Type 0) (xs ys : List A) → Each P (xs ++ ys) → Each P xs
each_front P [] ys h = tt
each_front P (x ∷ xs) ys h = (h.0, each_front P xs ys h.1)

each_back : {A : Type 0} (P : A → Type 0) (xs ys : List A) → Each P (xs ++ ys) → Each P ys
each_back P [] ys h = h
each_back P (x ∷ xs) ys h = each_back P xs ys h.1

externals_good : (s : Scene) (xs : FileTree) → IsShaped xs → IsFile s → Each (IsKnown s) (defined_names xs) → Holds (externals_judged s xs) (MakesFile s (definitions_of xs))
externals_good s [] w h n = of_value _ _ (record { good = record { file = h; later = later_file_none s }; done = tt; new = tt; apart = tt })
externals_good s (x ∷ xs) w h n =
    of_then (external_judged s x) _ (MakesFile s (definition_of x)) _ (external_good s x w.0 h (each_front (IsKnown s) (defined_name x) (defined_names xs) n)) (λ r g.
    of_then (externals_judged r.0 xs) _ (MakesFile r.0 (definitions_of xs)) _
    (externals_good r.0 xs w.1 g.good.file (known_later s r.0 g.good.later (defined_names xs) (each_back (IsKnown s) (defined_name x) (defined_names xs) n))) (λ q f.
    of_value _ _ (subst (λ ds. MakesFile s ds (q.0, r.1 ++ q.1)) (sym (definitions_more x xs)) (files_twice s r.0 q.0 (definition_of x) (definitions_of xs) r.1 q.1 g f))))

-- ## The first scene

known_more : (name : Spelling) (names known : List Spelling) → list_any (same_name name) known ≡ true → list_any (same_name name) (with_each known names) ≡ true
known_more name [] known h = h
known_more name (m ∷ ms) known h = known_more name ms _ (by (list_any (same_name m) known))
  where
    front : (xs : List Spelling) → list_any (same_name name) xs ≡ true → list_any (same_name name) (xs ++ m ∷ []) ≡ true
    front [] e = absurd (true≢false (sym e))
    front (x ∷ xs) e = at (same_name name x) (λ q. front xs q) e
      where
        at : (b : Bool) → (list_any (same_name name) xs ≡ true → list_any (same_name name) (xs ++ m ∷ []) ≡ true) → (b || list_any (same_name name) xs) ≡ true → (b || list_any (same_name name) (xs ++ m ∷ [])) ≡ true
        at true rest e = refl
        at false rest e = rest e

    by : (b : Bool) → list_any (same_name name) (cond b known (known ++ m ∷ [])) ≡ true
    by true = h
    by false = front known h

or_right : (a : Bool) → (a || true) ≡ true
or_right true = refl
or_right false = refl

known_end : (name : Spelling) (known : List Spelling) → list_any (same_name name) (known ++ name ∷ []) ≡ true
known_end name [] = ap (λ b. b || false) (name_self name)
known_end name (x ∷ xs) = ap (λ b. same_name name x || b) (known_end name xs) ∙ or_right (same_name name x)

each_known : (names known : List Spelling) → Each (λ name. list_any (same_name name) (with_each known names) ≡ true) names
each_known [] known = tt
each_known (m ∷ ms) known = (known_more m ms _ (by (list_any (same_name m) known) refl), each_known ms _)
  where
    by : (b : Bool) → list_any (same_name m) known ≡ b → list_any (same_name m) (cond b known (known ++ m ∷ [])) ≡ true
    by true e = e
    by false e = known_end m known

known_only : (name : Spelling) (names known : List Spelling) → list_any (same_name name) (with_each known names) ≡ true → (list_any (same_name name) known ≡ true) ⊎ (list_any (same_name name) names ≡ true)
known_only name [] known h = inl h
known_only name (m ∷ ms) known h = by (known_only name ms _ h)
  where
    in_end : (xs : List Spelling) → list_any (same_name name) (xs ++ m ∷ []) ≡ true → (list_any (same_name name) xs ≡ true) ⊎ (same_name name m ≡ true)
    in_end [] e = at (same_name name m) e
      where
        at : (b : Bool) → (b || false) ≡ true → (false ≡ true) ⊎ (b ≡ true)
        at true e = inr refl
        at false e = inl e
    in_end (x ∷ xs) e = at (same_name name x) (λ q. in_end xs q) e
      where
        at : (b : Bool) → (list_any (same_name name) (xs ++ m ∷ []) ≡ true → (list_any (same_name name) xs ≡ true) ⊎ (same_name name m ≡ true)) → (b || list_any (same_name name) (xs ++ m ∷ [])) ≡ true → ((b || list_any (same_name name) xs) ≡ true) ⊎ (same_name name m ≡ true)
        at true rest e = inl refl
        at false rest e = rest e

    first : (b : Bool) → list_any (same_name name) (cond b known (known ++ m ∷ [])) ≡ true → (list_any (same_name name) known ≡ true) ⊎ (same_name name m ≡ true)
    first true e = inl e
    first false e = in_end known e

    put : (list_any (same_name name) known ≡ true) ⊎ (same_name name m ≡ true) → (list_any (same_name name) known ≡ true) ⊎ ((same_name name m || list_any (same_name name) ms) ≡ true)
    put (inl e) = inl e
    put (inr e) = inr (ap (λ b. b || list_any (same_name name) ms) e)

    by : (list_any (same_name name) (cond (list_any (same_name m) known) known (known ++ m ∷ [])) ≡ true) ⊎ (list_any (same_name name) ms ≡ true) → (list_any (same_name name) known ≡ true) ⊎ ((same_name name m || list_any (same_name name) ms) ≡ true)
    by (inl e) = put (first (list_any (same_name m) known) e)
    by (inr e) = inr (ap (λ c. same_name name m || c) e ∙ or_right (same_name name m))

shapes_at : (xs : List Shape) → Each IsShape xs → (t : ℕ) (s : Shape) → slice_get xs t ≡ Some s → IsShape s
shapes_at [] h t s e = cc
shapes_at (x ∷ xs) h zero s e = subst IsShape (some_same x s e) h.0
  where
    some_same : (a b : Shape) → Some a ≡ Some b → a ≡ b
    some_same a b q = cc
shapes_at (x ∷ xs) h (suc t) s e = shapes_at xs h.1 t s e

first_types_good : AreTypes first_types
first_types_good =
    record {
      first = λ t s e. e;
      shapes = λ t s e. shapes_at (scalar_shapes ++ builtin_shapes) (tt, (tt, (tt, (tt, (tt, (tt, (tt, (tt, (tt, (tt, (tt, (tt, (tt, (tt, (tt, tt))))))))))))))) t s e;
      bodies = λ n b e. cc;
    }

first_file : (names : List Spelling) → IsFile (first_scene names)
first_file names = record { scene = record { types = first_types_good; blocks = tt; locals = tt; names = tt; apart = tt }; closed = tt }

-- ## The end

pub record IsFinished (file : FileTree) (made : FileMade) : Type 0 where
  pub scene : IsScene made.scene
  pub done : AreDone made.scene (definitions_of file) made.functions
  pub apart : Pairs HaveOtherNames made.functions
  pub defined : made.scene.defined ≡ with_each [] (defined_names file)
  pub main : is_defined_entity (entity_of made.scene main_name) ≡ true

of_settled : {A : Type 0} (xs : List FileName) (j : Judged A) (P : A → Type 0) → Holds j P → Holds (all_settled xs j) P
of_settled [] j P h = h
of_settled (x ∷ xs) j P h = of_unless (is_settled x.entity) _ _ _ _ (λ e. of_settled xs j P h)

finished : (length : ℕ) (file : FileTree) → IsShaped file → Holds (file_judged length file) (IsFinished file)
finished length file w =
    of_then (externals_judged (first_scene (defined_names file)) file) _ (MakesFile (first_scene (defined_names file)) (definitions_of file)) _
    (externals_good (first_scene (defined_names file)) file w (first_file (defined_names file)) (each_known (defined_names file) [])) (λ r g.
    of_settled r.0.file _ _ (of_unless (is_defined_entity (entity_of r.0 main_name)) _ _ _ _ (λ e.
    of_value _ _ (record { scene = g.good.file.scene; done = g.done; apart = g.apart; defined = g.good.later.defined; main = e }))))

pub file_finished : (length : ℕ) (file : FileTree) (made : FileMade) → IsShaped file → file_judged length file ≡ value made → IsFinished file made
file_finished length file made w e = of_made (file_judged length file) made (IsFinished file) e (finished length file w)

-- ## Functions by their names

-- a function, with its definition by its name, and itself by its name
pub record IsMatched (s : Scene) (ds : List DefinitionOf) (fs : List FunctionMade) (f : FunctionMade) : Type 0 where
  pub definition : DefinitionOf
  pub found : find (λ (x : DefinitionOf). same_name x.name f.name) ds ≡ Some definition
  pub itself : function_named fs f.name ≡ Some f
  pub done : IsDone s (items_nodes definition.body) f

match_more : (s : Scene) (d : DefinitionOf) (ds : List DefinitionOf) (f : FunctionMade) (fs : List FunctionMade) → f.name ≡ d.name → (g : FunctionMade) → HaveOtherNames f g → IsMatched s ds fs g → IsMatched s (d ∷ ds) (f ∷ fs) g
match_more s d ds f fs e g o h =
    let a : same_name f.name g.name ≡ false = differ f.name g.name o in
    let b : same_name d.name g.name ≡ false = ap (λ x. same_name x g.name) (sym e) ∙ a in
    record {
      definition = h.definition;
      found = ap (λ c. cond c (Some d) (find (λ (x : DefinitionOf). same_name x.name g.name) ds)) b ∙ h.found;
      itself = ap (λ c. cond c (Some f) (function_named fs g.name)) a ∙ h.itself;
      done = h.done;
    }

each_more_match : (s : Scene) (d : DefinitionOf) (ds : List DefinitionOf) (f : FunctionMade) (fs : List FunctionMade) → f.name ≡ d.name → (gs : List FunctionMade) → Each (HaveOtherNames f) gs → Each (IsMatched s ds fs) gs → Each (IsMatched s (d ∷ ds) (f ∷ fs)) gs
each_more_match s d ds f fs e [] o h = tt
each_more_match s d ds f fs e (g ∷ gs) o h = (match_more s d ds f fs e g o.0 h.0, each_more_match s d ds f fs e gs o.1 h.1)

pub all_matched : (s : Scene) (ds : List DefinitionOf) (fs : List FunctionMade) → AreDone s ds fs → Pairs HaveOtherNames fs → Each (IsMatched s ds fs) fs
all_matched s [] [] h o = tt
all_matched s [] (f ∷ fs) h o = absurd h
all_matched s (d ∷ ds) [] h o = absurd h
all_matched s (d ∷ ds) (f ∷ fs) h o = (
  record {
    definition = d;
    found = ap (λ c. cond c (Some d) (find (λ (x : DefinitionOf). same_name x.name f.name) ds)) (same_self d.name f.name (sym h.0.0));
    itself = ap (λ c. cond c (Some f) (function_named fs f.name)) (name_self f.name);
    done = h.0.1;
  },
  each_more_match s d ds f fs h.0.0 fs o.0 (all_matched s ds fs h.1 o.1),
)

-- each name that the file defines is that of a function
named_made : (s : Scene) (name : Spelling) (xs : FileTree) (fs : List FunctionMade) → AreDone s (definitions_of xs) fs → list_any (same_name name) (defined_names xs) ≡ true → (f : FunctionMade) × (function_named fs name ≡ Some f)
named_made s name [] fs h e = absurd (true≢false (sym e))
named_made s name (decl_external d ∷ xs) fs h e = named_made s name xs fs h e
named_made s name (function_external at ss d body_at is ∷ xs) [] h e = absurd h
named_made s name (function_external at ss d body_at is ∷ xs) (f ∷ fs) h e = by (same_name f.name name) refl (λ q. named_made s name xs fs h.1 q)
  where
    other : same_name f.name name ≡ false → same_name name (name_or_empty (declared_name d)) ≡ false
    other q = differ name (name_or_empty (declared_name d)) (λ z. not_both (same_name f.name name) (same_self f.name name (h.0.0 ∙ sym z)) q)

    by : (b : Bool) → same_name f.name name ≡ b → (list_any (same_name name) (defined_names xs) ≡ true → (g : FunctionMade) × (function_named fs name ≡ Some g)) → (g : FunctionMade) × (cond b (Some f) (function_named fs name) ≡ Some g)
    by true q rest = (f, refl)
    by false q rest = rest (sym (ap (λ b. b || list_any (same_name name) (defined_names xs)) (other q)) ∙ e)

pub known_made : (file : FileTree) (made : FileMade) → IsFinished file made → (name : Spelling) → list_any (same_name name) made.scene.defined ≡ true → (f : FunctionMade) × (function_named made.functions name ≡ Some f)
known_made file made h name e = by (known_only name (defined_names file) [] (ap (list_any (same_name name)) (sym h.defined) ∙ e))
  where
    by : (list_any (same_name name) [] ≡ true) ⊎ (list_any (same_name name) (defined_names file) ≡ true) → (f : FunctionMade) × (function_named made.functions name ≡ Some f)
    by (inl q) = absurd (true≢false (sym q))
    by (inr q) = named_made made.scene name file made.functions h.done q
