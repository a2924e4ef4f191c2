-- A call of well typed operands is well typed: as many arguments as its function takes.
use Rattle.std.proofs.Common.{◌≡◌, ℕ, zero, suc, ◌+◌, ◌*◌, ◌≤◌, ◌==◌, Bool, true, false, cond, ◌||◌, not, List, [], ◌∷◌, map, length, Option, Some, None, refl, sym, ap, ◌∙◌, subst, arith}
use Rattle.std.specs.Prelude.{replicate}
use Rattle.std.proofs.lemmas.Bool.Decides.{Decides-eqb}
use Rattle.clight_lang.specs.declared.statement.Builtin.{Builtin}
use Rattle.clight_lang.specs.declared.statement.Builtin.TheVariants as B
use Rattle.clight_lang.specs.Syntax.{Expression}
use Rattle.clight_lang.specs.WellMade.{expression_weight, builtin_arguments}
use Rattle.clight_types.specs.declared.kind.Value.{Value}
use Rattle.clight_types.specs.declared.kind.Value.TheVariants as v
use Rattle.clight_types.specs.declared.kind.Denoted.{Denoted}
use Rattle.clight_types.specs.declared.kind.Denoted.TheVariants as d
use Rattle.clight_types.specs.Judged.{Judged}
use Rattle.clight_types.specs.Types.{Types, Spelling, shape_at, is_function, value_at}
use Rattle.clight_scopes.specs.Scopes.{Scene, find_file}
use Rattle.clight_operands.specs.Operands.{Allowed, Naming, NoName, LocalName, ExternalName, BuiltinName, Callee, Inside, Outside, Provided, Typed, read_in, value_in, denoted_value, is_struct_expression, converts_to, may_stand}
use Rattle.clight_calls.specs.Builtins.{atomic_arguments}
use Rattle.clight_calls.specs.Calls.{called_value, callee_in, parameters_at, results_at, no_structs, all_convert, arguments_of, call_by, typed_call, atomic_target, atomic_by, atomic_typed, builtin_call, call_named, call_typed}
use Rattle.clight_laws.proofs.Holding.{Holds, of_value, of_fault, of_unless}
use Rattle.clight_laws.proofs.Scenes.{IsScene, IsFunctionOf}
use Rattle.clight_laws.proofs.Expressions.{IsMeaning}
use Rattle.clight_laws.proofs.Deeds.{IsCall, IsCallee, AreArguments, IsTyped, IsOperand, IsNaming, IsInner, operand, read_meaning, AreOperands, arguments_good, arguments_many}
use Rattle.clight_laws.proofs.TypeTables.{shape_is}
use Rattle.clight_laws.proofs.Deeds.{callee_weight, callee_height, arguments_put}
use Rattle.clight_types.specs.Types.{Shape, FunctionShape}
use Rattle.clight_laws.proofs.Operators.{IsPlain, deed_plain}

-- faults of arguments stand in front
pub of_structs : {A : Type 0} (types : Types) (xs : List Typed) (j : Judged A) (P : A → Type 0) → Holds j P → Holds (no_structs types xs j) P
of_structs types [] j P h = h
of_structs types (x ∷ xs) j P h = of_unless (not (is_struct_expression types x)) _ _ _ _ (λ e. of_structs types xs j P h)

pub of_convert : {A : Type 0} (types : Types) (xs : List Typed) (ps : List Value) (j : Judged A) (P : A → Type 0) → Holds j P → Holds (all_convert types xs ps j) P
of_convert types [] ps j P h = h
of_convert types (x ∷ xs) [] j P h = h
of_convert types (x ∷ xs) (p ∷ ps) j P h = of_unless (is_struct_expression types x || converts_to types p x) _ _ _ _ (λ e. of_convert types xs ps j P h)

-- a callee of so many nodes, with so many arguments
record IsCalled (s : Scene) (n k : ℕ) (f : Callee) : Type 0 where
  callee : IsCallee s k f
  weight : callee_weight f ≤ 3 * n
  height : callee_height f ≤ n

called_call : (s : Scene) (n m : ℕ) (f : Callee) (args : List Expression) → 1 ≤ n → IsCalled s n (length args) f → AreArguments s m args → IsCall s (1 + (n + m)) f args
called_call s n m f args l h r =
    let w : callee_weight f ≤ 3 * n = h.weight in let g : callee_height f ≤ n = h.height in
    record { nodes = m; callee = h.callee; arguments = r; weight = omega arith; height = omega arith; few = omega arith }

same_count : (a b : ℕ) → (a == b) ≡ true → a ≡ b
same_count a b e = (Decides-eqb a b).0 e

length_mapped : {A B : Type 0} (f : A → B) (xs : List A) → length (map f xs) ≡ length xs
length_mapped f [] = refl
length_mapped f (x ∷ xs) = ap suc (length_mapped f xs)

length_times : (n : ℕ) (x : Value) → length (replicate n x) ≡ n
length_times zero x = refl
length_times (suc n) x = ap suc (length_times n x)

module _ (s : Scene) (good : IsScene s) (allowed : Allowed) (at op_at n m : ℕ) (f : Typed) (args : List Typed) (g : IsTyped s n f) (r : AreOperands s m args) where
  call_by_good : (t : ℕ) (result : Value) (ps : List Value) → ((k : ℕ) → k ≡ length ps → IsCalled s n k (callee_in s.types t f.naming f)) → Holds (call_by s.types allowed at op_at f args t result ps) (IsPlain s (1 + (n + m)))
  call_by_good t result ps c =
      of_structs s.types args _ _ (of_convert s.types args ps _ _
      (of_unless (length args == length ps) _ _ _ _ (λ e.
      of_unless (may_stand allowed true) _ _ _ _ (λ e2.
      of_value _ _ (deed_plain s (1 + (n + m)) at result _ (omega arith)
      (called_call s n m (callee_in s.types t f.naming f) (arguments_of s.types args ps) g.some
      (c (length (arguments_of s.types args ps)) (arguments_many s.types args ps (same_count (length args) (length ps) e)))
      (arguments_good s s.types m args ps r)))))))

  typed_call_good : (o : Option ℕ) → ((t k : ℕ) → o ≡ Some t → k ≡ length (parameters_at (shape_at s.types t)) → IsCalled s n k (callee_in s.types t f.naming f)) → Holds (typed_call s.types allowed at op_at f args o) (IsPlain s (1 + (n + m)))
  typed_call_good None c = of_structs s.types args _ _ (of_fault _ _ _ _)
  typed_call_good (Some t) c = call_by_good t (value_at s.types (results_at (shape_at s.types t))) (map (value_at s.types) (parameters_at (shape_at s.types t))) (λ k e. c t k refl (e ∙ length_mapped (value_at s.types) (parameters_at (shape_at s.types t))))

  -- a function at an address
  function_value : (y : Value) (t : ℕ) → called_value s.types y ≡ Some t → is_function s.types t ≡ true
  function_value (v.Pointer u) t e = by (is_function s.types u) refl e
    where
      by : (b : Bool) → is_function s.types u ≡ b → cond b (Some u) None ≡ Some t → is_function s.types t ≡ true
      by true q e = subst (λ x. is_function s.types x ≡ true) (some_same u t e) q
        where
          some_same : (a b : ℕ) → Some a ≡ Some b → a ≡ b
          some_same a b e = cc
      by false q e = cc
  function_value (v.Integer j) t e = cc
  function_value v.Struct t e = cc
  function_value v.Void t e = cc

  inside_called : IsOperand s n f → (t k : ℕ) → is_function s.types t ≡ true → k ≡ length (parameters_at (shape_at s.types t)) → IsCalled s n k (Inside t (read_in s.types f))
  inside_called h t k e q =
      let m : IsMeaning s 1 n (read_in s.types f) = read_meaning s s.types n f h in
      let w : expression_weight (read_in s.types f) + 1 ≤ 3 * n = m.weight in
      record { callee = (m.valid, record { function = e; parameters = sym q }); weight = omega arith; height = m.height }

  inner_callee : (z : Naming) → IsInner z → f.naming ≡ z → (t : ℕ) → callee_in s.types t f.naming f ≡ Inside t (read_in s.types f)
  inner_callee NoName i e t = ap (λ x. callee_in s.types t x f) e
  inner_callee (LocalName o) i e t = ap (λ x. callee_in s.types t x f) e
  inner_callee (ExternalName name) i e t = absurd i
  inner_callee (BuiltinName b) i e t = absurd i

  inner_call_good : (z : Naming) → IsInner z → f.naming ≡ z → Holds (typed_call s.types allowed at op_at f args (called_value s.types (value_in s.types f))) (IsPlain s (1 + (n + m)))
  inner_call_good z i e =
      typed_call_good (called_value s.types (value_in s.types f)) (λ t k q l.
      subst (IsCalled s n k) (sym (inner_callee z i e t)) (inside_called (operand s n f g (subst IsInner (sym e) i)) t k (function_value (value_in s.types f) t q) l))

  outside_called : (name : Spelling) (x : Denoted) → f.denoted ≡ x → IsNaming s (ExternalName name) x → (t k : ℕ) → called_value s.types (denoted_value s.types x) ≡ Some t → k ≡ length (parameters_at (shape_at s.types t)) → IsCalled s n k (Outside name t)
  outside_called name (d.Function u) e h t k q l = by (is_function s.types u) refl q
    where
      some_same : (a b : ℕ) → Some a ≡ Some b → a ≡ b
      some_same a b e = cc

      by : (b : Bool) → is_function s.types u ≡ b → cond b (Some u) None ≡ Some t → IsCalled s n k (Outside name t)
      by true p q = record { callee = (subst (λ y. IsFunctionOf y (find_file name s.file)) (some_same u t q) h.0, h.1, record { function = subst (λ y. is_function s.types y ≡ true) (some_same u t q) p; parameters = sym l }); weight = omega arith; height = omega arith }
      by false p q = absurd (none_some q)
        where
          none_some : None ≡ Some t → ⊥
          none_some q = cc
  outside_called name (d.Value y) e h t k q l = absurd h
  outside_called name (d.Object u) e h t k q l = absurd h

  external_call_good : (name : Spelling) → f.naming ≡ ExternalName name → Holds (typed_call s.types allowed at op_at f args (called_value s.types (value_in s.types f))) (IsPlain s (1 + (n + m)))
  external_call_good name e =
      typed_call_good (called_value s.types (value_in s.types f)) (λ t k q l.
      subst (IsCalled s n k) (sym (ap (λ x. callee_in s.types t x f) e)) (outside_called name f.denoted refl (subst (λ x. IsNaming s x f.denoted) e g.naming) t k q l))

  -- builtins
  provided_called : (b : Builtin) (k : ℕ) → f.naming ≡ BuiltinName b → k ≡ builtin_arguments b → (t : ℕ) → IsCalled s n k (callee_in s.types t f.naming f)
  provided_called b k e q t = subst (IsCalled s n k) (sym (ap (λ x. callee_in s.types t x f) e)) (record { callee = q; weight = omega arith; height = omega arith })

  first_many : (t u : ℕ) (x : Shape) → Some u ≡ Some t → shape_at s.types u ≡ x → length (parameters_at (shape_at s.types t)) ≡ length (parameters_at x)
  first_many t u x e q = ap (λ y. length (parameters_at (shape_at s.types y))) (sym (some_same e)) ∙ ap (λ y. length (parameters_at y)) q
    where
      some_same : Some u ≡ Some t → u ≡ t
      some_same e = cc

  builtin_good : (b : Builtin) (u : ℕ) (x : Shape) → f.naming ≡ BuiltinName b → shape_at s.types u ≡ x → length (parameters_at x) ≡ builtin_arguments b → Holds (typed_call s.types allowed at op_at f args (Some u)) (IsPlain s (1 + (n + m)))
  builtin_good b u x e p q = typed_call_good (Some u) (λ t k o l. provided_called b k e (l ∙ first_many t u x o p ∙ q) t)

  pub atomic_good : (b : Builtin) (k : ℕ) → f.naming ≡ BuiltinName b → 1 + k ≡ builtin_arguments b → Holds (atomic_typed s.types allowed at op_at f.at b k args) (IsPlain s (1 + (n + m)))
  atomic_good b k e q = by args r
    where
      by : (xs : List Typed) → AreOperands s m xs → Holds (atomic_typed s.types allowed at op_at f.at b k xs) (IsPlain s (1 + (n + m)))
      by [] h = of_fault _ _ _ _
      by (p ∷ xs) h = of_structs s.types (p ∷ xs) _ _ (target (atomic_target s.types b (value_in s.types p)))
        where
          none : (m : ℕ) (x : Expression) → IsMeaning s 1 m x → IsMeaning s 0 m x
          none m x h = (let w : expression_weight x + 1 ≤ 3 * m = h.weight in record { valid = h.valid; weight = omega arith; height = h.height })

          target : (o : Option Value) → Holds (atomic_by s.types allowed at op_at f.at b k p xs o) (IsPlain s (1 + (n + m)))
          target None = of_unless (length xs == k) _ _ _ _ (λ e1. of_unless (may_stand allowed true) _ _ _ _ (λ e2. of_fault _ _ _ _))
          target (Some x) =
              of_convert s.types xs (replicate k x) _ _
              (of_unless (length xs == k) _ _ _ _ (λ e1.
              of_unless (may_stand allowed true) _ _ _ _ (λ e2.
              of_value _ _ (deed_plain s (1 + (n + m)) at x _ (omega arith)
              (called_call s n m (Provided b) (read_in s.types p ∷ arguments_of s.types xs (replicate k x)) g.some
              (record { callee = many x e1; weight = omega arith; height = omega arith })
              (arguments_put s m h.0 h.1 (read_in s.types p) (arguments_of s.types xs (replicate k x)) (none h.0 (read_in s.types p) (read_meaning s s.types h.0 p h.2)) (arguments_good s s.types h.1 xs (replicate k x) h.3) h.2.some h.4))))))
            where
              many : (x : Value) → (length xs == k) ≡ true → suc (length (arguments_of s.types xs (replicate k x))) ≡ builtin_arguments b
              many x e1 =
                  let c : length (arguments_of s.types xs (replicate k x)) ≡ length (replicate k x) = arguments_many s.types xs (replicate k x) (same_count (length xs) k e1 ∙ sym (length_times k x)) in
                  let l : length (replicate k x) ≡ k = length_times k x in
                  omega arith

  builtin_call_good : (b : Builtin) → f.naming ≡ BuiltinName b → Holds (builtin_call s.types allowed at op_at f args b (atomic_arguments b)) (IsPlain s (1 + (n + m)))
  builtin_call_good B.ThreadCreate e = builtin_good B.ThreadCreate 10 (FunctionShape 5 (9 ∷ 7 ∷ [])) e (shape_is s.types 10 (FunctionShape 5 (9 ∷ 7 ∷ [])) (good.types.first 10 (FunctionShape 5 (9 ∷ 7 ∷ [])) refl)) refl
  builtin_call_good B.Fence e = builtin_good B.Fence 11 (FunctionShape 0 []) e (shape_is s.types 11 (FunctionShape 0 []) (good.types.first 11 (FunctionShape 0 []) refl)) refl
  builtin_call_good B.Malloc e = builtin_good B.Malloc 12 (FunctionShape 7 (6 ∷ [])) e (shape_is s.types 12 (FunctionShape 7 (6 ∷ [])) (good.types.first 12 (FunctionShape 7 (6 ∷ [])) refl)) refl
  builtin_call_good B.Free e = builtin_good B.Free 8 (FunctionShape 0 (7 ∷ [])) e (shape_is s.types 8 (FunctionShape 0 (7 ∷ [])) (good.types.first 8 (FunctionShape 0 (7 ∷ [])) refl)) refl
  builtin_call_good B.Exit e = builtin_good B.Exit 13 (FunctionShape 0 (5 ∷ [])) e (shape_is s.types 13 (FunctionShape 0 (5 ∷ [])) (good.types.first 13 (FunctionShape 0 (5 ∷ [])) refl)) refl
  builtin_call_good B.AtomicCas e = atomic_good B.AtomicCas 2 e refl
  builtin_call_good B.AtomicAdd e = atomic_good B.AtomicAdd 1 e refl
  builtin_call_good B.AtomicXchg e = atomic_good B.AtomicXchg 1 e refl

  pub call_good : Holds (call_typed s.types allowed at op_at f args) (IsPlain s (1 + (n + m)))
  call_good = by f.naming refl
    where
      by : (z : Naming) → f.naming ≡ z → Holds (call_named s.types allowed at op_at f args z) (IsPlain s (1 + (n + m)))
      by NoName e = inner_call_good NoName tt e
      by (LocalName o) e = inner_call_good (LocalName o) tt e
      by (ExternalName name) e = external_call_good name e
      by (BuiltinName b) e = builtin_call_good b e
