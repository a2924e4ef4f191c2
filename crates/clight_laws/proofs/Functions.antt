-- A function that a file defines means one that is made well.
use Rattle.std.proofs.Common.{◌≡◌, ℕ, ◌+◌, ◌-◌, ◌*◌, ◌<◌, ◌≤◌, Bool, true, false, cond, not, true≢false, List, ◌++◌, map, length, Some, refl, sym, ap, ◌∙◌, arith}
use Rattle.std.specs.Prelude.{◌≢◌, count_by, sum_by, slice_get, All, AllPairs, Contains}
use Rattle.std.specs.List.{list_any}
use Rattle.c_tree.specs.Trees.{FileTree}
use Rattle.clight_lang.specs.declared.function.Local.{Local}
use Rattle.clight_lang.specs.declared.function.Taken.{Taken}
use Rattle.clight_lang.specs.declared.function.Kept.{Kept}
use Rattle.clight_lang.specs.Syntax.{Statements}
use Rattle.clight_lang.specs.State.{FunctionOf}
use Rattle.clight_lang.specs.Meaning.{ProgramOf}
use Rattle.clight_lang.specs.Placed.{IsAlignment}
use Rattle.clight_lang.specs.WellMade.{IsDefined, IsFunction, statements_weight, statements_height}
use Rattle.clight_types.specs.Types.{Spelling, same_name, shape_at, size_at}
use Rattle.clight_scopes.specs.Scopes.{find_file}
use Rattle.clight_calls.specs.Calls.{parameters_at}
use Rattle.clight_nodes.specs.Nodes.{items_nodes, declarator_nodes}
use Rattle.clight_meaning.specs.Counts.{SizeOf, definitions_of, defined_size, function_size, function_named}
use Rattle.clight_files.specs.Files.{FunctionMade, FileMade}
use Rattle.clight_meaning.specs.Meaning.{below, is_in_memory, memory_locals, taken_from, kept_from, all_types, inner_of, function_meant}
use Rattle.clight_placing.specs.Placing.{InTemp, InMemory, Inner, all_meant, number_of_type}
use Rattle.clight_laws.proofs.Scenes.{IsScene, IsFunctionOf}
use Rattle.clight_laws.proofs.Expressions.{IsNamed}
use Rattle.clight_laws.proofs.Deeds.{Takes}
use Rattle.clight_laws.proofs.Meant.{AreBounded}
use Rattle.clight_laws.proofs.MeantBounds.{all_bounded}
use Rattle.clight_laws.proofs.Listed.{AreMadeListed}
use Rattle.clight_laws.proofs.Valid.{Fits, IsPlaced}
use Rattle.clight_laws.proofs.ValidStatements.{all_of_valid}
use Rattle.clight_laws.proofs.Lists.{Each, each_all, each_more, each_map, pairs_all, pairs_append, pairs_map, pairs_more, Has, has_contains, has_left, has_right}
use Rattle.clight_laws.proofs.Places.{count_both, count_below, count_grows, place, IsTaken, AreTaken, taken_good, taken_temps, taken_apart, IsKept, AreKept, kept_good, memory_few, memory_many, memory_sized}
use Rattle.clight_laws.proofs.CallTypes.{IsIn, number_in}
use Rattle.clight_laws.proofs.Definitions.{inside}
use Rattle.clight_laws.proofs.WholeFiles.{IsMatched}

-- what a program has of what a file makes
pub record Serves (made : FileMade) (p : ProgramOf) : Type 0 where
  pub types : p.types ≡ map (λ t. length (parameters_at (shape_at made.scene.types t))) (all_types made)
  pub named : (name : Spelling) → IsNamed made.scene name → IsDefined p.globals name
  pub externals : (name : Spelling) (t : ℕ) → IsFunctionOf t (find_file name made.scene.file) → list_any (same_name name) made.scene.defined ≡ false → Contains p.externals (record { name = name; function_type = number_of_type (all_types made) t })

-- the number of a function type says how many parameters it has
takes_number : (made : FileMade) (p : ProgramOf) → Serves made p → (t n : ℕ) → IsIn (all_types made) t → Takes made.scene.types t n → slice_get p.types (number_of_type (all_types made) t) ≡ Some n
takes_number made p h t n i k =
    ap (λ ts. slice_get ts (number_of_type (all_types made) t)) h.types
    ∙ number_in (λ u. length (parameters_at (shape_at made.scene.types u))) (all_types made) t i
    ∙ ap Some k.parameters

module _ (file : FileTree) (made : FileMade) (f : FunctionMade) where
  abbrev w : Inner
  w = inner_of made f

  abbrev in_memory : ℕ → Bool
  in_memory = is_in_memory made.scene.types f

  abbrev memory : List Local
  memory = memory_locals made.scene.types f (below (length f.locals))

  abbrev body : Statements × ℕ
  body = all_meant w (length f.locals - length memory) f.body

  located : (n : ℕ) → w.location n ≡ place in_memory n
  located n = refl

  -- the first fresh temporary is behind those of parameters and locals
  start_is : length f.locals - length memory ≡ count_by (λ m. not (in_memory m)) (below (length f.locals))
  start_is =
      let a : length memory ≡ count_by in_memory (below (length f.locals)) = memory_many made.scene.types f (length f.locals) in
      let b : count_by in_memory (below (length f.locals)) + count_by (λ m. not (in_memory m)) (below (length f.locals)) ≡ length f.locals = count_both in_memory (length f.locals) in
      omega arith

  -- ## Parameters

  module _ (n : ℕ) (few : n ≤ length f.locals) (more : length f.locals - length memory ≤ body.1) where
    taken : AreTaken w in_memory located n (taken_from w (below n))
    taken = taken_good w in_memory located n

    kept : AreKept w in_memory located f n (kept_from w f (below n))
    kept = kept_good w in_memory located f n

    -- each argument is taken or kept
    pub has_argument : (k : ℕ) → k < n → Contains (map (λ t. t.argument) (taken_from w (below n)) ++ map (λ k. k.argument) (kept_from w f (below n))) k
    has_argument k l = has_contains k _ (by (in_memory k) refl)
      where
        by : (b : Bool) → in_memory k ≡ b → Has k (map (λ t. t.argument) (taken_from w (below n)) ++ map (λ k. k.argument) (kept_from w f (below n)))
        by true e = has_right k (map (λ t. t.argument) (taken_from w (below n))) (map (λ k. k.argument) (kept_from w f (below n))) (kept.all k l e)
        by false e = has_left k (map (λ t. t.argument) (taken_from w (below n))) (map (λ k. k.argument) (kept_from w f (below n))) (taken.all k l e)

    less_differs : (a b : ℕ) → a < b → a ≡ b → ⊥
    less_differs a b l e = absurd (omega arith)

    -- and only once
    pub arguments_once : AllPairs (λ a b. a ≢ b) (map (λ t. t.argument) (taken_from w (below n)) ++ map (λ k. k.argument) (kept_from w f (below n)))
    arguments_once =
        pairs_all (λ a b. a ≢ b) _ (pairs_append (λ a b. a ≢ b) (map (λ t. t.argument) (taken_from w (below n))) (map (λ k. k.argument) (kept_from w f (below n)))
        (pairs_map (λ t. t.argument) (λ a b. a ≢ b) (taken_from w (below n)) (pairs_more (λ s. Unit {0}) (λ s t. s.argument < t.argument) (λ s t. s.argument ≢ t.argument) (λ s t g h l. less_differs s.argument t.argument l) (taken_from w (below n)) (each_more (IsTaken w in_memory located n) (λ s. Unit {0}) (λ s g. tt) (taken_from w (below n)) taken.each) taken.order))
        (pairs_map (λ k. k.argument) (λ a b. a ≢ b) (kept_from w f (below n)) (pairs_more (λ s. Unit {0}) (λ s t. s.argument < t.argument) (λ s t. s.argument ≢ t.argument) (λ s t g h l. less_differs s.argument t.argument l) (kept_from w f (below n)) (each_more (IsKept w in_memory located n) (λ s. Unit {0}) (λ s g. tt) (kept_from w f (below n)) kept.each) kept.order))
        (each_map (λ t. t.argument) (λ a. Each (λ b. a ≢ b) (map (λ k. k.argument) (kept_from w f (below n)))) (taken_from w (below n))
        (each_more (IsTaken w in_memory located n) (λ t. Each (λ b. t.argument ≢ b) (map (λ k. k.argument) (kept_from w f (below n))))
        (λ t g. each_map (λ k. k.argument) (λ b. t.argument ≢ b) (kept_from w f (below n)) (each_more (IsKept w in_memory located n) (λ k. t.argument ≢ k.argument) (λ k h e. true≢false (sym h.place ∙ ap in_memory (sym e) ∙ g.place)) (kept_from w f (below n)) kept.each))
        (taken_from w (below n)) taken.each)))

    pub as_many : length (taken_from w (below n)) + length (kept_from w f (below n)) ≡ n
    as_many =
        let a : length (taken_from w (below n)) ≡ count_by (λ m. not (in_memory m)) (below n) = taken.many in
        let b : length (kept_from w f (below n)) ≡ count_by in_memory (below n) = kept.many in
        let c : count_by in_memory (below n) + count_by (λ m. not (in_memory m)) (below n) ≡ n = count_both in_memory n in
        omega arith

    pub taken_there : All (λ t. t.temp < body.1) (taken_from w (below n))
    taken_there = each_all (λ t. t.temp < body.1) (taken_from w (below n)) (each_more (IsTaken w in_memory located n) (λ t. t.temp < body.1) (λ t g. there t (taken_temps w in_memory located n (length f.locals) few t g)) (taken_from w (below n)) taken.each)
      where
        there : (t : Taken) → t.temp < count_by (λ m. not (in_memory m)) (below (length f.locals)) → t.temp < body.1
        there t l = (let s : length f.locals - length memory ≡ count_by (λ m. not (in_memory m)) (below (length f.locals)) = start_is in omega arith)

    pub taken_differ : AllPairs (λ s t. s.temp ≢ t.temp) (taken_from w (below n))
    taken_differ = pairs_all (λ s t. s.temp ≢ t.temp) (taken_from w (below n)) (pairs_more (IsTaken w in_memory located n) (λ s t. s.argument < t.argument) (λ s t. s.temp ≢ t.temp) (λ s t g h l. taken_apart w in_memory located n s t g h l) (taken_from w (below n)) taken.each taken.order)

    pub kept_first : (i : ℕ) (k : Kept) → slice_get (kept_from w f (below n)) i ≡ Some k → (k.local ≡ i) × (i < length memory)
    kept_first i k e =
        let g = kept.locals i k e in
        (g.0, many i g.1)
      where
        many : (i : ℕ) → i < count_by in_memory (below n) → i < length memory
        many i l =
            let a : length memory ≡ count_by in_memory (below (length f.locals)) = memory_many made.scene.types f (length f.locals) in
            let b : count_by in_memory (below n) ≤ count_by in_memory (below (length f.locals)) = count_grows in_memory n (length f.locals) few in
            omega arith

  -- ## Places

  placed_there : (g : FunctionOf) → g.temps ≡ body.1 → g.locals ≡ memory → length f.locals - length memory ≤ body.1 → (n : ℕ) → n < length f.locals → IsPlaced g (w.location n)
  placed_there g t m more n l = by (in_memory n) refl
    where
      by : (b : Bool) → in_memory n ≡ b → IsPlaced g (cond b (InMemory (count_by in_memory (below n))) (InTemp (count_by (λ k. not (in_memory k)) (below n))))
      by true e =
          let a : length memory ≡ count_by in_memory (below (length f.locals)) = memory_many made.scene.types f (length f.locals) in
          let b : count_by in_memory (below n) < count_by in_memory (below (length f.locals)) = count_below in_memory n (length f.locals) l e in
          let c : length g.locals ≡ length memory = ap length m in
          omega arith
      by false e =
          let a : length f.locals - length memory ≡ count_by (λ k. not (in_memory k)) (below (length f.locals)) = start_is in
          let b : count_by (λ k. not (in_memory k)) (below n) < count_by (λ k. not (in_memory k)) (below (length f.locals)) = count_below (λ k. not (in_memory k)) n (length f.locals) l (ap not e) in
          let c : g.temps ≡ body.1 = t in
          omega arith

  module _ (p : ProgramOf) (serves : Serves made p) where
    fits : length f.locals - length memory ≤ body.1 → Fits (inside made.scene f.locals) w p (function_meant file made f) (IsIn (all_types made))
    fits more =
        record {
          named = serves.named;
          places = placed_there (function_meant file made f) refl refl more;
          typed = λ t n i k. takes_number made p serves t n i (record { function = k.function; parameters = k.parameters });
          externals = λ name t i h k. serves.externals name t h k;
        }

    module _ (scene : IsScene made.scene) (matched : IsMatched made.scene (definitions_of file) made.functions f) where
      abbrev nodes : ℕ
      nodes = (function_size file made f.name f.type).nodes

      abbrev items : ℕ
      items = items_nodes matched.definition.body

      size_is : function_size file made f.name f.type ≡ defined_size made.scene.types (parameters_at (shape_at made.scene.types f.type)) (Some matched.definition) (Some f)
      size_is =
          ap (λ o. defined_size made.scene.types (parameters_at (shape_at made.scene.types f.type)) o (function_named made.functions f.name)) matched.found
          ∙ ap (defined_size made.scene.types (parameters_at (shape_at made.scene.types f.type)) (Some matched.definition)) matched.itself

      nodes_are : nodes ≡ declarator_nodes matched.definition.declarator + (f.parameters + (1 + items))
      nodes_are = ap (λ (z : SizeOf). z.nodes) size_is ∙ ap (λ k. declarator_nodes matched.definition.declarator + (k + (1 + items))) matched.done.takes.parameters

      bytes_are : (function_size file made f.name f.type).bytes ≡ sum_by (size_at made.scene.types) f.locals
      bytes_are = ap (λ (z : SizeOf). z.bytes) size_is

      bounded : AreBounded items (length f.locals - length memory) body
      bounded = all_bounded (inside made.scene f.locals) w false false items (length f.locals - length memory) f.body matched.done.body

      -- of locals that are no parameters there are at most as many as nodes
      few_places : length f.locals - length memory ≤ f.parameters + items
      few_places = (let a : length f.locals ≤ f.parameters + items = matched.done.few in omega arith)

      few_temps : body.1 ≤ 5 * nodes
      few_temps =
          let a : nodes ≡ declarator_nodes matched.definition.declarator + (f.parameters + (1 + items)) = nodes_are in
          let b : body.1 ≤ (length f.locals - length memory) + 2 * items = bounded.fresh in
          let c : length f.locals - length memory ≤ f.parameters + items = few_places in
          omega arith

      height : statements_height body.0 ≤ nodes
      height =
          let a : nodes ≡ declarator_nodes matched.definition.declarator + (f.parameters + (1 + items)) = nodes_are in
          let b : statements_height body.0 ≤ items + 1 = bounded.height in
          omega arith

      weight : 1 + (statements_weight body.0 + 2 * f.parameters) ≤ 9 * nodes
      weight =
          let a : nodes ≡ declarator_nodes matched.definition.declarator + (f.parameters + (1 + items)) = nodes_are in
          let b : statements_weight body.0 ≤ 9 * items = bounded.weight in
          omega arith

      needed : (sum_by (λ l. l.size) memory + 4 * body.1) + 64 * nodes + 56 ≤ (56 + (function_size file made f.name f.type).bytes + 64 * nodes) + 16 * nodes
      needed =
          let a : nodes ≡ declarator_nodes matched.definition.declarator + (f.parameters + (1 + items)) = nodes_are in
          let b : body.1 ≤ (length f.locals - length memory) + 2 * items = bounded.fresh in
          let c : length f.locals - length memory ≤ f.parameters + items = few_places in
          let d : sum_by (λ l. l.size) memory ≤ sum_by (size_at made.scene.types) f.locals = memory_few made.scene.types f in
          let e : (function_size file made f.name f.type).bytes ≡ sum_by (size_at made.scene.types) f.locals = bytes_are in
          omega arith

      pub function_made : IsIn (all_types made) f.type → AreMadeListed (IsIn (all_types made)) f.body → nodes ≤ 8000 → IsFunction p (function_meant file made f)
      function_made i listed n =
          let few = matched.done.enough in
          record {
            typed = takes_number made p serves f.type f.parameters i matched.done.takes;
            arguments = has_argument f.parameters few bounded.more;
            each_once = arguments_once f.parameters few bounded.more;
            as_many = as_many f.parameters few bounded.more;
            taken = taken_there f.parameters few bounded.more;
            taken_apart = taken_differ f.parameters few bounded.more;
            kept = kept_first f.parameters few bounded.more;
            sizes = each_all (λ l. (1 ≤ l.size) × (IsAlignment l.align)) memory (memory_sized made.scene.types f scene.types matched.done.locals);
            few_temps = few_temps;
            few_nodes = n;
            height = height;
            weight = weight;
            body = all_of_valid (inside made.scene f.locals) w p (function_meant file made f) (IsIn (all_types made)) (fits bounded.more) false false items (length f.locals - length memory) f.body matched.done.body listed
                (let a : nodes ≡ declarator_nodes matched.definition.declarator + (f.parameters + (1 + items)) = nodes_are in omega arith) (omega arith);
            needed = needed;
            holds = omega arith;
          }
