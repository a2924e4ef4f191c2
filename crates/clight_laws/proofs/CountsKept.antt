-- A file that passes no count: its functions, their nodes, and the bytes of its globals are few.
use Rattle.std.proofs.Common.{◌≡◌, ℕ, ◌+◌, ◌≤◌, Bool, true, false, cond, List, [], ◌∷◌, ◌++◌, length, Option, Some, None, refl, sym, ap, ◌∙◌, subst, arith}
use Rattle.std.specs.Prelude.{nat_lt, sum_by}
use Rattle.std.proofs.lemmas.Bool.{ltb-false}
use Rattle.c_tree.specs.Trees.{FileTree}
use Rattle.clight_types.specs.Types.{Types, Spelling, same_name, size_at}
use Rattle.clight_scopes.specs.Scopes.{Entity, ObjectEntity, FunctionEntity, EnumeratorEntity, TypedefEntity, BuiltinEntity, FileName}
use Rattle.clight_meaning.specs.Counts.{SizeOf, Passed, passed_if, size_passes, entity_passes, functions_pass, function_size, function_named, file_nodes, entity_bytes, global_bytes, passed_counts}
use Rattle.clight_files.specs.Files.{FunctionMade, FileMade}
use Rattle.clight_meaning.specs.Meaning.{meant_named, functions_meant, object_meant, objects_meant}
use Rattle.clight_laws.proofs.Scenes.{IsApart, AreApart, name_is}
use Rattle.clight_laws.proofs.Lists.{Each, total, sum_total, total_append}

-- ## What the counts say

-- no count is passed, so its test fails
not_passed : (b : Bool) (n at : ℕ) (rest : List Passed) → passed_if b n at rest ≡ [] → (b ≡ false) × (rest ≡ [])
not_passed true n at rest e = cc
not_passed false n at rest e = (refl, e)

size_few : (at : ℕ) (z : SizeOf) (rest : List Passed) → size_passes at z rest ≡ [] → (z.nodes ≤ 8000) × (rest ≡ [])
size_few at z rest e =
    let a = not_passed (nat_lt 64 z.parameters) 2 at _ e in
    let b = not_passed (nat_lt 65536 z.bytes) 3 at _ a.1 in
    let c = not_passed (nat_lt 8000 z.nodes) 4 at _ b.1 in
    let d = not_passed (nat_lt 1024 z.labels) 5 at rest c.1 in
    (ltb-false 8000 z.nodes c.0, d.1)

-- a function by its name in the file
abbrev pub IsSmall : FileTree → FileMade → FileName → Entity → Type 0
IsSmall file made x (FunctionEntity t static d) = (function_size file made x.name t).nodes ≤ 8000
IsSmall file made x _ = Unit {0}

module _ (file : FileTree) (made : FileMade) where
  entity_few : (x : FileName) (rest : List Passed) → entity_passes file made x rest ≡ [] → IsSmall file made x x.entity × (rest ≡ [])
  entity_few x rest e = by x.entity refl
    where
      same : (z : Entity) → x.entity ≡ z → entity_passes file made (record x { entity = z }) rest ≡ []
      same z q = ap (λ y. entity_passes file made (record x { entity = y }) rest) (sym q) ∙ e

      by : (z : Entity) → x.entity ≡ z → IsSmall file made x x.entity × (rest ≡ [])
      by (FunctionEntity t static d) q = (let r = size_few x.at (function_size file made x.name t) rest (same (FunctionEntity t static d) q) in (subst (IsSmall file made x) (sym q) r.0, r.1))
      by (ObjectEntity t d start) q = (subst (IsSmall file made x) (sym q) tt, same (ObjectEntity t d start) q)
      by (EnumeratorEntity w) q = (subst (IsSmall file made x) (sym q) tt, same (EnumeratorEntity w) q)
      by (TypedefEntity t) q = (subst (IsSmall file made x) (sym q) tt, same (TypedefEntity t) q)
      by (BuiltinEntity static) q = (subst (IsSmall file made x) (sym q) tt, same (BuiltinEntity static) q)

  all_few : (xs : List FileName) (rest : List Passed) → functions_pass file made xs rest ≡ [] → Each (λ (x : FileName). IsSmall file made x x.entity) xs × (rest ≡ [])
  all_few [] rest e = (tt, e)
  all_few (x ∷ xs) rest e =
      let a = entity_few x (functions_pass file made xs rest) e in
      let b = all_few xs rest a.1 in
      ((a.0, b.0), b.1)

  pub record IsCounted : Type 0 where
    pub small : Each (λ (x : FileName). IsSmall file made x x.entity) made.scene.file
    pub functions : length made.functions ≤ 4096
    pub bytes : global_bytes made ≤ 16777216

  pub counted : (end : ℕ) → passed_counts end file made ≡ [] → IsCounted
  counted end e =
      let a = all_few made.scene.file _ e in
      let b = not_passed (nat_lt 4096 (length made.functions)) 1 end _ a.1 in
      let c = not_passed (nat_lt 80000 (file_nodes file made)) 6 end _ b.1 in
      let d = not_passed (nat_lt 16777216 (global_bytes made)) 7 end [] c.1 in
      record { small = a.0; functions = ltb-false 4096 (length made.functions) b.0; bytes = ltb-false 16777216 (global_bytes made) d.0 }

-- ## The bytes of objects

module _ (types : Types) where
  bytes_by : (name : Spelling) (e : Entity) → total (λ o. o.1) (object_meant types name e) ≡ entity_bytes types e
  bytes_by name (ObjectEntity t d start) = (let q : size_at types t + 0 ≡ size_at types t = omega arith in q)
  bytes_by name (FunctionEntity t static d) = refl
  bytes_by name (EnumeratorEntity w) = refl
  bytes_by name (TypedefEntity t) = refl
  bytes_by name (BuiltinEntity static) = refl

  all_bytes : (xs : List FileName) → total (λ o. o.1) (objects_meant types xs) ≡ total (λ (x : FileName). entity_bytes types x.entity) xs
  all_bytes [] = refl
  all_bytes (x ∷ xs) =
      let a : total (λ o. o.1) (object_meant types x.name x.entity ++ objects_meant types xs) ≡ total (λ o. o.1) (object_meant types x.name x.entity) + total (λ o. o.1) (objects_meant types xs) = total_append (λ o. o.1) (object_meant types x.name x.entity) (objects_meant types xs) in
      let b : total (λ o. o.1) (object_meant types x.name x.entity) ≡ entity_bytes types x.entity = bytes_by x.name x.entity in
      let c : total (λ o. o.1) (objects_meant types xs) ≡ total (λ (y : FileName). entity_bytes types y.entity) xs = all_bytes xs in
      omega arith

  pub bytes_meant : (xs : List FileName) → sum_by (λ o. o.1) (objects_meant types xs) ≡ sum_by (λ (x : FileName). entity_bytes types x.entity) xs
  bytes_meant xs = sum_total (λ o. o.1) (objects_meant types xs) ∙ all_bytes xs ∙ sym (sum_total (λ (x : FileName). entity_bytes types x.entity) xs)

-- ## No more functions than are made

abbrev one_of : Option FunctionMade → ℕ
one_of None = 0
one_of (Some f) = 1

module _ (file : FileTree) (made : FileMade) where
  meant_many : (xs : List FileName) → length (functions_meant file made xs) ≡ total (λ (x : FileName). one_of (function_named made.functions x.name)) xs
  meant_many [] = refl
  meant_many (x ∷ xs) = by (function_named made.functions x.name) (meant_many xs)
    where
      by : (o : Option FunctionMade) → length (functions_meant file made xs) ≡ total (λ (x : FileName). one_of (function_named made.functions x.name)) xs → length (meant_named file made o ++ functions_meant file made xs) ≡ one_of o + total (λ (x : FileName). one_of (function_named made.functions x.name)) xs
      by None e = (let q : length (functions_meant file made xs) ≡ total (λ (x : FileName). one_of (function_named made.functions x.name)) xs = e in omega arith)
      by (Some f) e = (let q : length (functions_meant file made xs) ≡ total (λ (x : FileName). one_of (function_named made.functions x.name)) xs = e in omega arith)

-- how many names are this one
abbrev is_this : Spelling → FileName → ℕ
is_this name x = cond (same_name name x.name) 1 0

other_none : (name : Spelling) (xs : List FileName) → IsApart name xs → total (is_this name) xs ≡ 0
other_none name [] h = refl
other_none name (x ∷ xs) h = ap (λ b. cond b 1 0 + total (is_this name) xs) h.0 ∙ (let e : 0 + total (is_this name) xs ≡ total (is_this name) xs = omega arith in e) ∙ other_none name xs h.1

one_at_most : (name : Spelling) (xs : List FileName) → AreApart xs → total (is_this name) xs ≤ 1
one_at_most name [] h = omega arith
one_at_most name (x ∷ xs) h = by (same_name name x.name) refl (one_at_most name xs h.1)
  where
    by : (b : Bool) → same_name name x.name ≡ b → total (is_this name) xs ≤ 1 → cond b 1 0 + total (is_this name) xs ≤ 1
    by true e l = (let q : total (is_this name) xs ≡ 0 = subst (λ n. total (is_this n) xs ≡ 0) (sym (name_is name x.name e)) (other_none x.name xs h.0) in omega arith)
    by false e l = omega arith

one_more : (f : FunctionMade) (fs : List FunctionMade) (xs : List FileName) → total (λ (x : FileName). one_of (function_named (f ∷ fs) x.name)) xs ≤ total (is_this f.name) xs + total (λ (x : FileName). one_of (function_named fs x.name)) xs
one_more f fs [] = omega arith
one_more f fs (x ∷ xs) = by (same_name f.name x.name) (one_more f fs xs)
  where
    by : (b : Bool) → total (λ (x : FileName). one_of (function_named (f ∷ fs) x.name)) xs ≤ total (is_this f.name) xs + total (λ (x : FileName). one_of (function_named fs x.name)) xs
        → one_of (cond b (Some f) (function_named fs x.name)) + total (λ (x : FileName). one_of (function_named (f ∷ fs) x.name)) xs ≤ (cond b 1 0 + total (is_this f.name) xs) + (one_of (function_named fs x.name) + total (λ (x : FileName). one_of (function_named fs x.name)) xs)
    by true l = omega arith
    by false l = omega arith

none_named : (xs : List FileName) → total (λ (x : FileName). one_of (function_named [] x.name)) xs ≡ 0
none_named [] = refl
none_named (x ∷ xs) = (let e : total (λ (x : FileName). one_of (function_named [] x.name)) xs ≡ 0 = none_named xs in omega arith)

few_named : (fs : List FunctionMade) (xs : List FileName) → AreApart xs → total (λ (x : FileName). one_of (function_named fs x.name)) xs ≤ length fs
few_named [] xs h = (let e : total (λ (x : FileName). one_of (function_named [] x.name)) xs ≡ 0 = none_named xs in omega arith)
few_named (f ∷ fs) xs h =
    let a : total (λ (x : FileName). one_of (function_named (f ∷ fs) x.name)) xs ≤ total (is_this f.name) xs + total (λ (x : FileName). one_of (function_named fs x.name)) xs = one_more f fs xs in
    let b : total (is_this f.name) xs ≤ 1 = one_at_most f.name xs h in
    let c : total (λ (x : FileName). one_of (function_named fs x.name)) xs ≤ length fs = few_named fs xs h in
    omega arith

pub few_meant : (file : FileTree) (made : FileMade) → AreApart made.scene.file → length (functions_meant file made made.scene.file) ≤ length made.functions
few_meant file made h =
    let a : length (functions_meant file made made.scene.file) ≡ total (λ (x : FileName). one_of (function_named made.functions x.name)) made.scene.file = meant_many file made made.scene.file in
    let b : total (λ (x : FileName). one_of (function_named made.functions x.name)) made.scene.file ≤ length made.functions = few_named made.functions made.scene.file h in
    omega arith
