-- The counts that are passed, one part of them behind another.
use Rattle.std.proofs.Common.{◌≡◌, ℕ, Bool, true, false, List, [], ◌∷◌, ◌++◌, ◌+◌, length, Option, Some, None, Result, Ok, Err, refl, sym, ap, subst, ◌∙◌, ◌<◌, append_assoc, arith}
use Rattle.std.specs.Prelude.{nat_lt, sum_by, IsErrAnd}
use Rattle.std.proofs.lemmas.List.Sums.{sum_by-cons}
use Rattle.std.proofs.lemmas.Grind.{common_steps}
use Rattle.c_tree.specs.Trees.{FileTree}
use Rattle.clight_types.specs.Types.{Types, Spelling}
use Rattle.clight_scopes.specs.Scopes.{Entity, ObjectEntity, FunctionEntity, EnumeratorEntity, TypedefEntity, BuiltinEntity, FileName}
use Rattle.clight_scopes.specs.declared.scene.FileName as F
use Rattle.clight_scopes.specs.SceneOf.{entity_of, file_name_of, file_of as names_of}
use Rattle.clight_nodes.specs.Counted.{counted}
use Rattle.clight_files.specs.Files.{FileMade}
use Rattle.clight_counts.specs.declared.limits.Excess.{Excess}
use Rattle.clight_counts.specs.declared.limits.Excess.TheVariants as e
use Rattle.clight_meaning.specs.Counts.{SizeOf, Passed, passed_if, size_passes, entity_passes, functions_pass, entity_nodes, entity_bytes, file_nodes, global_bytes, passed_counts}
use Rattle.clight_counts.specs.declared.sizes.Sizes as T
use Rattle.clight_counts.specs.CountsOf.{AreSizes, size_in}
use Rattle.clight_counts.specs.PassedOf.{Keeps, first_passed, known_passes, known_nodes}
use Rattle.clight_counts.proofs.Tables.{size_is}

-- ## Lists of passed counts

chained : (b : Bool) (n at : ℕ) (x y r : List Passed) → x ≡ y ++ r → passed_if b n at x ≡ passed_if b n at y ++ r
chained true n at x y r h = ap (λ l. record { count = n; at = at } ∷ l) h
chained false n at x y r h = h

pub size_behind : (at : ℕ) (z : SizeOf) (rest : List Passed) → size_passes at z rest ≡ size_passes at z [] ++ rest
size_behind at z rest =
    chained (nat_lt 64 z.parameters) 2 at _ _ rest (chained (nat_lt 65536 z.bytes) 3 at _ _ rest (chained (nat_lt 8000 z.nodes) 4 at _ _ rest (chained (nat_lt 1024 z.labels) 5 at rest [] rest refl)))

-- ## A name of the file

passes_by : (f : FileTree) (m : FileMade) (s : T.Sizes) → AreSizes f m s → (name : Spelling) (at : ℕ) (x : Entity) (rest : List Passed) → entity_passes f m (record { name = name; at = at; entity = x }) rest ≡ known_passes s m.scene.types name at x ++ rest
passes_by f m s h name at (FunctionEntity t static defined) rest = ap (λ z. size_passes at z rest) (sym (size_is f m s h name t)) ∙ size_behind at (size_in s m.scene.types name t) rest
passes_by f m s h name at (ObjectEntity t defined start) rest = refl
passes_by f m s h name at (EnumeratorEntity w) rest = refl
passes_by f m s h name at (TypedefEntity t) rest = refl
passes_by f m s h name at (BuiltinEntity static) rest = refl

pub passes_front : (f : FileTree) (m : FileMade) (s : T.Sizes) → AreSizes f m s → (x : FileName) (rest : List Passed) → entity_passes f m x rest ≡ known_passes s m.scene.types x.name x.at x.entity ++ rest
passes_front f m s h x rest = passes_by f m s h x.name x.at x.entity rest

nodes_by : (f : FileTree) (m : FileMade) (s : T.Sizes) → AreSizes f m s → (name : Spelling) (at : ℕ) (x : Entity) → entity_nodes f m (record { name = name; at = at; entity = x }) ≡ known_nodes s m.scene.types name x
nodes_by f m s h name at (FunctionEntity t static defined) = ap (λ (z : SizeOf). z.nodes) (sym (size_is f m s h name t))
nodes_by f m s h name at (ObjectEntity t defined start) = refl
nodes_by f m s h name at (EnumeratorEntity w) = refl
nodes_by f m s h name at (TypedefEntity t) = refl
nodes_by f m s h name at (BuiltinEntity static) = refl

pub nodes_front : (f : FileTree) (m : FileMade) (s : T.Sizes) → AreSizes f m s → (x : FileName) → entity_nodes f m x ≡ known_nodes s m.scene.types x.name x.entity
nodes_front f m s h x = nodes_by f m s h x.name x.at x.entity

-- all names, and what stands behind
pub all_behind : (f : FileTree) (m : FileMade) (s : T.Sizes) → AreSizes f m s → (xs : List FileName) (rest : List Passed) → functions_pass f m xs rest ≡ functions_pass f m xs [] ++ rest
all_behind f m s h [] rest = refl
all_behind f m s h (x ∷ xs) rest =
    let known = known_passes s m.scene.types x.name x.at x.entity in
    ap (entity_passes f m x) (all_behind f m s h xs rest)
    ∙ passes_front f m s h x (functions_pass f m xs [] ++ rest)
    ∙ sym (append_assoc known (functions_pass f m xs []) rest)
    ∙ sym (ap (λ l. l ++ rest) (passes_front f m s h x (functions_pass f m xs [])))

-- ## What is answered

pub kept_on : {A : Type 0} (ps qs rest : List Passed) (r : Result A Excess) → qs ≡ ps ++ rest → ps ≡ [] → Keeps rest r → Keeps qs r
kept_on ps qs rest r whole none h = subst (λ l. Keeps l r) (sym (whole ∙ ap (λ p. p ++ rest) none)) h

first_stays : (ps rest : List Passed) (x : Passed) → first_passed ps ≡ Some x → first_passed (ps ++ rest) ≡ Some x
first_stays [] rest x h = cc
first_stays (p ∷ ps) rest x h = h

pub kept_stop : (A B : Type 0) (ps qs rest : List Passed) (x : Excess) → qs ≡ ps ++ rest → Keeps {A = A} ps (Err x) → Keeps {A = B} qs (Err x)
kept_stop A B ps qs rest (e.Passed x) whole h = ap first_passed whole ∙ first_stays ps rest _ h
kept_stop A B ps qs rest e.NoMemory whole h = tt

-- what `?` hands on is the excess itself
pub kept_as : (A : Type 0) (ps : List Passed) (r : Result A Excess) (x : Excess) → IsErrAnd r (λ y. y ≡ x) → Keeps {A = A} ps (Err x) → Keeps {A = A} ps r
kept_as A ps (Ok a) x h k = absurd h
kept_as A ps (Err y) x h k = subst (λ z. Keeps {A = A} ps (Err z)) (sym h) k

append_none : (l : List Passed) → l ++ [] ≡ l
append_none [] = refl
append_none (p ∷ l) = ap (λ r. p ∷ r) (append_none l)

moved : (old new part sum rest all : ℕ) → new ≡ old + part → sum ≡ part + rest → old + sum ≡ all → new + rest ≡ all
moved old new part sum rest all step split whole = omega arith

-- ## The loop over the names of a file

module _ (f : FileTree) (m : FileMade) (s : T.Sizes) (h : AreSizes f m s) (t u : List (Spelling × F.FileName)) (name : Spelling) (known : F.FileName) (front : t ≡ (name, known) ∷ u) where
  passes_at : functions_pass f m (names_of t) [] ≡ known_passes s m.scene.types name known.at (entity_of known.entity) ++ functions_pass f m (names_of u) []
  passes_at = ap (λ l. functions_pass f m (names_of l) []) front ∙ passes_front f m s h (file_name_of name known) (functions_pass f m (names_of u) [])

  -- a name that passes no count
  pub names_next : (all : List Passed) → known_passes s m.scene.types name known.at (entity_of known.entity) ≡ [] → functions_pass f m (names_of t) [] ≡ all → functions_pass f m (names_of u) [] ≡ all
  names_next all none whole = sym (ap (λ k. k ++ functions_pass f m (names_of u) []) none) ∙ sym passes_at ∙ whole

  -- the first name that passes one
  pub names_stop : (all : List Passed) (x : Excess) → Keeps {A = Unit {0}} (known_passes s m.scene.types name known.at (entity_of known.entity)) (Err x) → functions_pass f m (names_of t) [] ≡ all → Keeps {A = Unit {0}} all (Err x)
  names_stop all x k whole = kept_stop (Unit {0}) (Unit {0}) _ all (functions_pass f m (names_of u) []) x (sym whole ∙ passes_at) k

  pub nodes_next : (old new all : ℕ) → new ≡ old + known_nodes s m.scene.types name (entity_of known.entity) → old + sum_by (entity_nodes f m) (names_of t) ≡ all → new + sum_by (entity_nodes f m) (names_of u) ≡ all
  nodes_next old new all step whole =
      let split : sum_by (entity_nodes f m) (names_of t) ≡ known_nodes s m.scene.types name (entity_of known.entity) + sum_by (entity_nodes f m) (names_of u) =
      ap (λ l. sum_by (entity_nodes f m) (names_of l)) front
      ∙ sum_by-cons (entity_nodes f m) (file_name_of name known) (names_of u)
      ∙ ap (λ k. k + sum_by (entity_nodes f m) (names_of u)) (nodes_front f m s h (file_name_of name known)) in
      moved _ _ _ _ _ _ step split whole

  pub bytes_next : (old new all : ℕ) → new ≡ old + entity_bytes m.scene.types (entity_of known.entity) → old + sum_by (λ x. entity_bytes m.scene.types x.entity) (names_of t) ≡ all → new + sum_by (λ x. entity_bytes m.scene.types x.entity) (names_of u) ≡ all
  bytes_next old new all step whole =
      let split : sum_by (λ x. entity_bytes m.scene.types x.entity) (names_of t) ≡ entity_bytes m.scene.types (entity_of known.entity) + sum_by (λ x. entity_bytes m.scene.types x.entity) (names_of u) =
      ap (λ l. sum_by (λ x. entity_bytes m.scene.types x.entity) (names_of l)) front
      ∙ sum_by-cons (λ x. entity_bytes m.scene.types x.entity) (file_name_of name known) (names_of u) in
      moved _ _ _ _ _ _ step split whole

-- ## The counts of a file

-- of the whole file, the bytes of objects, and before them the nodes
abbrev last_one : FileMade → ℕ → List Passed
last_one m end = passed_if (nat_lt 16777216 (global_bytes m)) 7 end []

abbrev last_two : FileTree → FileMade → ℕ → List Passed
last_two f m end = passed_if (nat_lt 80000 (file_nodes f m)) 6 end (last_one m end)

module _ (f : FileTree) (m : FileMade) (s : T.Sizes) (h : AreSizes f m s) (end : ℕ) (A : Type 0) (x : Excess) where
  -- the first passed count is one of a function
  pub names_first : Keeps {A = Unit {0}} (functions_pass f m m.scene.file []) (Err x) → Keeps {A = A} (passed_counts end f m) (Err x)
  names_first k = kept_stop (Unit {0}) A (functions_pass f m m.scene.file []) (passed_counts end f m) (passed_if (nat_lt 4096 (length m.functions)) 1 end (last_two f m end)) x (all_behind f m s h m.scene.file (passed_if (nat_lt 4096 (length m.functions)) 1 end (last_two f m end))) k

  -- behind the functions
  behind_names : functions_pass f m m.scene.file [] ≡ [] → passed_counts end f m ≡ passed_if (nat_lt 4096 (length m.functions)) 1 end (last_two f m end)
  behind_names none =
      all_behind f m s h m.scene.file (passed_if (nat_lt 4096 (length m.functions)) 1 end (last_two f m end))
      ∙ ap (λ l. l ++ passed_if (nat_lt 4096 (length m.functions)) 1 end (last_two f m end)) none

  parted : (n : ℕ) → functions_pass f m m.scene.file [] ≡ [] → n ≡ length m.functions → passed_counts end f m ≡ passed_if (nat_lt 4096 n) 1 end [] ++ last_two f m end
  parted n none is = behind_names none ∙ ap (λ i. passed_if (nat_lt 4096 i) 1 end (last_two f m end)) (sym is) ∙ chained (nat_lt 4096 n) 1 end (last_two f m end) [] (last_two f m end) refl

  pub functions_first : (n : ℕ) → functions_pass f m m.scene.file [] ≡ [] → n ≡ length m.functions → Keeps {A = Unit {0}} (passed_if (nat_lt 4096 n) 1 end []) (Err x) → Keeps {A = A} (passed_counts end f m) (Err x)
  functions_first n none is k = kept_stop (Unit {0}) A (passed_if (nat_lt 4096 n) 1 end []) (passed_counts end f m) (last_two f m end) x (parted n none is) k

  parted_again : (n k : ℕ) → functions_pass f m m.scene.file [] ≡ [] → n ≡ length m.functions → passed_if (nat_lt 4096 n) 1 end [] ≡ [] → k ≡ file_nodes f m → passed_counts end f m ≡ passed_if (nat_lt 80000 k) 6 end [] ++ last_one m end
  parted_again n k none is few nodes =
      parted n none is ∙ ap (λ l. l ++ last_two f m end) few
      ∙ ap (λ i. passed_if (nat_lt 80000 i) 6 end (last_one m end)) (sym nodes) ∙ chained (nat_lt 80000 k) 6 end (last_one m end) [] (last_one m end) refl

  pub nodes_first : (n k : ℕ) → functions_pass f m m.scene.file [] ≡ [] → n ≡ length m.functions → passed_if (nat_lt 4096 n) 1 end [] ≡ [] → k ≡ file_nodes f m → Keeps {A = Unit {0}} (passed_if (nat_lt 80000 k) 6 end []) (Err x) → Keeps {A = A} (passed_counts end f m) (Err x)
  nodes_first n k none is few nodes kept = kept_stop (Unit {0}) A (passed_if (nat_lt 80000 k) 6 end []) (passed_counts end f m) (last_one m end) x (parted_again n k none is few nodes) kept

  pub bytes_first : (n k b : ℕ) → functions_pass f m m.scene.file [] ≡ [] → n ≡ length m.functions → passed_if (nat_lt 4096 n) 1 end [] ≡ [] → k ≡ file_nodes f m → passed_if (nat_lt 80000 k) 6 end [] ≡ [] → b ≡ global_bytes m → Keeps {A = Unit {0}} (passed_if (nat_lt 16777216 b) 7 end []) (Err x) → Keeps {A = A} (passed_counts end f m) (Err x)
  bytes_first n k b none is few nodes low bytes kept =
      kept_stop (Unit {0}) A (passed_if (nat_lt 16777216 b) 7 end []) (passed_counts end f m) [] x
      (parted_again n k none is few nodes ∙ ap (λ l. l ++ last_one m end) low
      ∙ ap (λ i. passed_if (nat_lt 16777216 i) 7 end []) (sym bytes) ∙ sym (append_none (passed_if (nat_lt 16777216 b) 7 end []))) kept

-- a count that stands below the greatest value is the number itself
pub exactly : (n m : ℕ) → m ≡ counted 0 n → m < 18446744073709551615 → m ≡ n
exactly n m h less = grind (arith, common_steps)
